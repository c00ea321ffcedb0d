-- The tickets of bytes in a row: parted, joined, and never had twice. Assumes `Logic`.
use Rattle.std.proofs.Common.{◌≡◌, ℕ, zero, suc, ◌+◌, ◌-◌, ◌<◌, ◌≤◌, [], ◌∷◌, refl, inl, inr, arith}
use native.Mathlib.Decide.{ℕ_discrete, dec_le}
use seplogic.Ra.Ura.{Ura}
use base.Logic.{SProp, ent, sep, emp, upd, ex, guard, never, never_e, via, guard_i, upd_mono, ex_e, ex_i}
use base.Fml.{GName, ftrue}
use types.Logic.{Logic, sem}
use types.Keyed.{ticket, tickets_from, ticket_once, entries_new, entries_take, token}
use types.Kit.{‵, ◌⊛◌, ◌$◌, ◌∵◌, !, qed, by, move, keep, drop, use1, use2, split, fsplit, fjoin, rewrite, done}
use denote.Steps.{nothing}
use Rattle.mz_ground.specs.Ownership.{tickets}
use Rattle.mz_ground.specs.Views.{AreApart}

module _ {M : Type 1} {𝓤 : Ura M} (𝓛 : Logic 𝓤) where
  abbrev ⟦◌⟧ : base.Fml.Fml → SProp 𝓤
  ⟦ P ⟧ = sem 𝓛 P

  module _ (γ : GName) where
    -- the first n, and the m that follow
    pub tickets_cut : (a n m t b : ℕ) → t ≡ n + m → b ≡ a + n → ent 𝓤 ⟦ tickets γ a t ⟧ (sep 𝓤 ⟦ tickets γ a n ⟧ ⟦ tickets γ b m ⟧)
    tickets_cut a zero m t b e f =
        let same : t ≡ m = omega arith in
        let there : a ≡ b = omega arith in
        qed 𝓛 (‵ (tickets γ a t) ∷ []) ∵ rewrite ! 0 (λ k. ‵ (tickets γ a k)) same refl $ rewrite ! 0 (λ k. ‵ (tickets γ k m)) there refl $ nothing ! $ done !
    tickets_cut a (suc n) m zero b e f = absurd (omega arith)
    tickets_cut a (suc n) m (suc t) b e f =
        qed 𝓛 (‵ (tickets γ a (suc t)) ∷ []) ∵ fsplit ! $ move ! (1 ∷ []) $
        use1 𝓛 (‵ (tickets γ (a + 1) n) ⊛ ‵ (tickets γ b m)) (tickets_cut (a + 1) n m t b (omega arith) (omega arith)) $ split ! $
        move ! (2 ∷ 0 ∷ []) $ fjoin ! $ done !

    pub tickets_glue : (a n m t b : ℕ) → t ≡ n + m → b ≡ a + n → ent 𝓤 (sep 𝓤 ⟦ tickets γ a n ⟧ ⟦ tickets γ b m ⟧) ⟦ tickets γ a t ⟧
    tickets_glue a zero m t b e f =
        let same : m ≡ t = omega arith in
        let there : b ≡ a = omega arith in
        qed 𝓛 (‵ ftrue ∷ ‵ (tickets γ b m) ∷ []) ∵ drop ! $ rewrite ! 0 (λ k. ‵ (tickets γ b k)) same refl $ rewrite ! 0 (λ k. ‵ (tickets γ k t)) there refl $ done !
    tickets_glue a (suc n) m zero b e f = absurd (omega arith)
    tickets_glue a (suc n) m (suc t) b e f =
        qed 𝓛 (‵ (tickets γ a (suc n)) ∷ ‵ (tickets γ b m) ∷ []) ∵ fsplit ! $ move ! (1 ∷ 2 ∷ []) $
        use2 𝓛 (‵ (tickets γ (a + 1) t)) (tickets_glue (a + 1) n m t b (omega arith) (omega arith)) $ move ! (1 ∷ 0 ∷ []) $ fjoin ! $ done !

    -- one of them
    pub one_of : (a n k c : ℕ) → c ≡ a + k → k < n → ent 𝓤 ⟦ tickets γ a n ⟧ ⟦ ticket γ c ⟧
    one_of a zero k c e h = absurd (omega arith)
    one_of a (suc n) zero c e h =
        let there : a ≡ c = omega arith in
        qed 𝓛 (‵ (tickets γ a (suc n)) ∷ []) ∵ fsplit ! $ keep ! (0 ∷ []) $ rewrite ! 0 (λ k. ‵ (ticket γ k)) there refl $ done !
    one_of a (suc n) (suc k) c e h =
        qed 𝓛 (‵ (tickets γ a (suc n)) ∷ []) ∵ fsplit ! $ drop ! $ by ! (one_of (a + 1) n k c (omega arith) (omega arith))

    -- two rows that have an address in common are never there together
    pub clash : (a n b m i j : ℕ) → a + i ≡ b + j → i < n → j < m → ent 𝓤 (sep 𝓤 ⟦ tickets γ a n ⟧ ⟦ tickets γ b m ⟧) (never 𝓤)
    clash a n b m i j e hi hj =
        qed 𝓛 (‵ (tickets γ a n) ∷ ‵ (tickets γ b m) ∷ []) ∵ use1 𝓛 (‵ (ticket γ (a + i))) (one_of a n i (a + i) refl hi) $ move ! (1 ∷ []) $
        use1 𝓛 (‵ (ticket γ (a + i))) (one_of b m j (a + i) e hj) $ by ! (ticket_once 𝓛 γ (a + i))

    module _ (a n b m : ℕ) where
      abbrev Both : SProp 𝓤
      Both = sep 𝓤 ⟦ tickets γ a n ⟧ ⟦ tickets γ b m ⟧

      by_cases : Dec (n ≡ 0) → Dec (m ≡ 0) → Dec (a + n ≤ b) → Dec (b + m ≤ a) → Dec (a ≤ b) → ent 𝓤 Both (guard 𝓤 (AreApart a n b m) Both)
      by_cases (yes h) _ _ _ _ = guard_i 𝓤 (AreApart a n b m) Both (inl h)
      by_cases (no _) (yes h) _ _ _ = guard_i 𝓤 (AreApart a n b m) Both (inr (inl h))
      by_cases (no _) (no _) (yes h) _ _ = guard_i 𝓤 (AreApart a n b m) Both (inr (inr (inl h)))
      by_cases (no _) (no _) (no _) (yes h) _ = guard_i 𝓤 (AreApart a n b m) Both (inr (inr (inr h)))
      by_cases (no _) (no some) (no f) (no g) (yes le) = via 𝓤 (never 𝓤) (clash a n b m (b - a) 0 (omega arith) (omega arith) (omega arith)) (never_e 𝓤 _)
      by_cases (no some) (no _) (no f) (no g) (no gt) = via 𝓤 (never 𝓤) (clash a n b m 0 (a - b) (omega arith) (omega arith) (omega arith)) (never_e 𝓤 _)

      -- two rows have no address in common
      pub are_apart : ent 𝓤 Both (guard 𝓤 (AreApart a n b m) Both)
      are_apart = by_cases (ℕ_discrete n 0) (ℕ_discrete m 0) (dec_le (a + n) b) (dec_le (b + m) a) (dec_le a b)

    taken : (a n : ℕ) → ent 𝓤 ⟦ tickets_from γ a ⟧ ⟦ tickets γ a n ⟧
    taken a zero = qed 𝓛 (‵ (tickets_from γ a) ∷ []) ∵ drop ! $ nothing ! $ done !
    taken a (suc n) =
        let next : suc a ≡ a + 1 = omega arith in
        qed 𝓛 (‵ (tickets_from γ a) ∷ []) ∵ use1 𝓛 (‵ (ticket γ a) ⊛ ‵ (tickets_from γ (suc a))) (entries_take token 𝓛 γ a (λ _. tt)) $ split ! $ move ! (1 ∷ []) $
        rewrite ! 0 (λ k. ‵ (tickets_from γ k)) next refl $ use1 𝓛 (‵ (tickets γ (a + 1) n)) (taken (a + 1) n) $ move ! (1 ∷ 0 ∷ []) $ fjoin ! $ done !

  -- a row of new ones, under a name that no other has
  pub tickets_new : (n : ℕ) → ent 𝓤 (emp 𝓤) (upd 𝓤 (ex 𝓤 (λ (γ : GName). ⟦ tickets γ 0 n ⟧)))
  tickets_new n =
      via 𝓤 (upd 𝓤 (ex 𝓤 (λ (γ : GName). ⟦ tickets_from γ 0 ⟧))) (entries_new token 𝓛 0 (λ _. tt))
      (upd_mono 𝓤 (ex_e 𝓤 (λ (γ : GName). ⟦ tickets_from γ 0 ⟧) (λ γ. via 𝓤 ⟦ tickets γ 0 n ⟧ (taken γ 0 n) (ex_i 𝓤 (λ (γ' : GName). ⟦ tickets γ' 0 n ⟧) γ))))
