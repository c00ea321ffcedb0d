-- What a ground has left: parted, joined, and quanta going out and coming back. Assumes `Logic`.
use Rattle.std.proofs.Common.{◌≡◌, ℕ, zero, suc, ◌+◌, ◌*◌, ◌<◌, ◌≤◌, List, [], ◌∷◌, ◌++◌, Bool, true, false, length, take, drop as drop_l, replicate, refl, sym, ap, ◌∙◌, arith}
use Rattle.std.proofs.lemmas.List.{take-append-drop, length-take-le, take-append-le, drop-append-le, length-drop, length-replicate}
use seplogic.Ra.Ura.{Ura}
use base.Logic.{SProp, ent, sep, emp, never, never_e, guard, guard_i}
use base.Fml.{Fml, ftrue}
use contract.Monad.{fact, fact_i, fact_use}
use types.Logic.{Logic, sem}
use types.Kit.{‵, raw, given, ◌⊛◌, ◌$◌, ◌∵◌, !, qed, by, move, keep, drop, use0, use1, use2, split, fsplit, fjoin, rewrite, learn, check, done}
use denote.Steps.{nothing, heard}
use Rattle.mz_base.specs.Site.{Site}
use Rattle.mz_ground.specs.Ownership.{tickets, plot_owns, kept_owns}
use Rattle.mz_ground.specs.Marks.{AreAll, marked, written}
use Rattle.mz_ground.proofs.Lists.{in_three, part_within, times_within}
use Rattle.mz_ground.proofs.Tickets.{tickets_cut, clash}
use Rattle.mz_ground.proofs.Plots.{plot_cut, plot_glue}

module _ {M : Type 1} {𝓤 : Ura M} (𝓛 : Logic 𝓤) (s : Site) (Q : ℕ) where
  abbrev ⟦◌⟧ : Fml → SProp 𝓤
  ⟦ P ⟧ = sem 𝓛 P

  abbrev K : ℕ → List Bool → List ℕ → Fml
  K a fs xs = kept_owns s a Q fs xs

  abbrev P : ℕ → List ℕ → Fml
  P a xs = plot_owns s a xs

  -- the quanta fs with the bytes xs, and those that follow
  pub kept_split : (fs gs : List Bool) (xs ys : List ℕ) (a b : ℕ) → length xs ≡ Q * length fs → b ≡ a + Q * length fs → ent 𝓤 ⟦ K a (fs ++ gs) (xs ++ ys) ⟧ (sep 𝓤 ⟦ K a fs xs ⟧ ⟦ K b gs ys ⟧)
  kept_split [] gs [] ys a b e f =
      let there : a ≡ b = omega arith in
      qed 𝓛 (‵ (K a gs ys) ∷ []) ∵ rewrite ! 0 (λ k. ‵ (K k gs ys)) there refl $ nothing ! $ done !
  kept_split [] gs (x ∷ xs) ys a b e f = absurd (omega arith)
  kept_split (true ∷ fs) gs xs ys a b e f =
      let fits : Q ≤ length xs = omega arith in
      let rest : length (drop_l Q xs) ≡ Q * length fs = length-drop Q xs ∙ omega arith in
      qed 𝓛 (‵ (K (a + Q) (fs ++ gs) (drop_l Q (xs ++ ys))) ∷ []) ∵ rewrite ! 0 (λ zs. ‵ (K (a + Q) (fs ++ gs) zs)) (drop-append-le Q xs ys fits) refl $
      use1 𝓛 (‵ (K (a + Q) fs (drop_l Q xs)) ⊛ ‵ (K b gs ys)) (kept_split fs gs (drop_l Q xs) ys (a + Q) b rest (omega arith)) $ split ! $ done !
  kept_split (false ∷ fs) gs xs ys a b e f =
      let fits : Q ≤ length xs = omega arith in
      let rest : length (drop_l Q xs) ≡ Q * length fs = length-drop Q xs ∙ omega arith in
      qed 𝓛 (‵ (K a (false ∷ (fs ++ gs)) (xs ++ ys)) ∷ []) ∵ fsplit ! $ rewrite ! 0 (λ zs. ‵ (P a zs)) (take-append-le Q xs ys fits) refl $ move ! (1 ∷ []) $
      rewrite ! 0 (λ zs. ‵ (K (a + Q) (fs ++ gs) zs)) (drop-append-le Q xs ys fits) refl $
      use1 𝓛 (‵ (K (a + Q) fs (drop_l Q xs)) ⊛ ‵ (K b gs ys)) (kept_split fs gs (drop_l Q xs) ys (a + Q) b rest (omega arith)) $ split ! $
      move ! (2 ∷ 0 ∷ []) $ fjoin ! $ done !

  pub kept_glue : (fs gs : List Bool) (xs ys : List ℕ) (a b : ℕ) → length xs ≡ Q * length fs → b ≡ a + Q * length fs → ent 𝓤 (sep 𝓤 ⟦ K a fs xs ⟧ ⟦ K b gs ys ⟧) ⟦ K a (fs ++ gs) (xs ++ ys) ⟧
  kept_glue [] gs [] ys a b e f =
      let there : b ≡ a = omega arith in
      qed 𝓛 (‵ ftrue ∷ ‵ (K b gs ys) ∷ []) ∵ drop ! $ rewrite ! 0 (λ k. ‵ (K k gs ys)) there refl $ done !
  kept_glue [] gs (x ∷ xs) ys a b e f = absurd (omega arith)
  kept_glue (true ∷ fs) gs xs ys a b e f =
      let fits : Q ≤ length xs = omega arith in
      let rest : length (drop_l Q xs) ≡ Q * length fs = length-drop Q xs ∙ omega arith in
      qed 𝓛 (‵ (K (a + Q) fs (drop_l Q xs)) ∷ ‵ (K b gs ys) ∷ []) ∵
      use2 𝓛 (‵ (K (a + Q) (fs ++ gs) (drop_l Q xs ++ ys))) (kept_glue fs gs (drop_l Q xs) ys (a + Q) b rest (omega arith)) $
      rewrite ! 0 (λ zs. ‵ (K (a + Q) (fs ++ gs) zs)) (sym (drop-append-le Q xs ys fits)) refl $ done !
  kept_glue (false ∷ fs) gs xs ys a b e f =
      let fits : Q ≤ length xs = omega arith in
      let rest : length (drop_l Q xs) ≡ Q * length fs = length-drop Q xs ∙ omega arith in
      qed 𝓛 (‵ (K a (false ∷ fs) xs) ∷ ‵ (K b gs ys) ∷ []) ∵ fsplit ! $ rewrite ! 0 (λ zs. ‵ (P a zs)) (sym (take-append-le Q xs ys fits)) refl $ move ! (1 ∷ 2 ∷ []) $
      use2 𝓛 (‵ (K (a + Q) (fs ++ gs) (drop_l Q xs ++ ys))) (kept_glue fs gs (drop_l Q xs) ys (a + Q) b rest (omega arith)) $
      rewrite ! 0 (λ zs. ‵ (K (a + Q) (fs ++ gs) zs)) (sym (drop-append-le Q xs ys fits)) refl $ move ! (1 ∷ 0 ∷ []) $ fjoin ! $ done !

  -- quanta that are all there are one plot
  pub all_in : (n : ℕ) (xs : List ℕ) (a : ℕ) → length xs ≡ Q * n → ent 𝓤 ⟦ K a (replicate n false) xs ⟧ ⟦ P a xs ⟧
  all_in zero [] a e = qed 𝓛 (‵ ftrue ∷ []) ∵ drop ! $ nothing ! $ nothing ! $ fjoin ! $ done !
  all_in zero (x ∷ xs) a e = absurd (omega arith)
  all_in (suc n) xs a e =
      let fits : Q ≤ length xs = omega arith in
      let rest : length (drop_l Q xs) ≡ Q * n = length-drop Q xs ∙ omega arith in
      qed 𝓛 (‵ (K a (false ∷ replicate n false) xs) ∷ []) ∵ fsplit ! $ move ! (1 ∷ []) $ use1 𝓛 (‵ (P (a + Q) (drop_l Q xs))) (all_in n (drop_l Q xs) (a + Q) rest) $ move ! (1 ∷ 0 ∷ []) $
      use2 𝓛 (‵ (P a (take Q xs ++ drop_l Q xs))) (plot_glue 𝓛 s a (a + Q) (take Q xs) (drop_l Q xs) (ap (λ k. a + k) (sym (length-take-le Q xs fits)))) $
      rewrite ! 0 (λ zs. ‵ (P a zs)) (take-append-drop Q xs) refl $ done !

  pub as_quanta : (n : ℕ) (xs : List ℕ) (a : ℕ) → length xs ≡ Q * n → ent 𝓤 ⟦ P a xs ⟧ ⟦ K a (replicate n false) xs ⟧
  as_quanta zero xs a e = qed 𝓛 (‵ (P a xs) ∷ []) ∵ drop ! $ nothing ! $ done !
  as_quanta (suc n) xs a e =
      let fits : Q ≤ length xs = omega arith in
      let rest : length (drop_l Q xs) ≡ Q * n = length-drop Q xs ∙ omega arith in
      qed 𝓛 (‵ (P a xs) ∷ []) ∵ use1 𝓛 (‵ (P a (take Q xs)) ⊛ ‵ (P (a + Q) (drop_l Q xs))) (plot_cut 𝓛 s a Q xs fits) $ split ! $ move ! (1 ∷ []) $
      use1 𝓛 (‵ (K (a + Q) (replicate n false) (drop_l Q xs))) (as_quanta n (drop_l Q xs) (a + Q) rest) $ move ! (1 ∷ 0 ∷ []) $ fjoin ! $ done !

  -- of quanta that are all out nothing is left
  pub all_out : (n : ℕ) (xs : List ℕ) (a : ℕ) → ent 𝓤 (emp 𝓤) ⟦ K a (replicate n true) xs ⟧
  all_out zero xs a = qed 𝓛 [] ∵ nothing ! $ done !
  all_out (suc n) xs a = all_out n (drop_l Q xs) (a + Q)

  -- whoever has the tickets of quanta has them out
  pub were_out : 0 < Q → (fs : List Bool) (xs : List ℕ) (a t : ℕ) → length xs ≡ Q * length fs → t ≡ Q * length fs → ent 𝓤 (sep 𝓤 ⟦ K a fs xs ⟧ ⟦ tickets s.name a t ⟧) (fact 𝓤 (fs ≡ replicate (length fs) true))
  were_out h [] xs a t e f = fact_i 𝓤 _ _ refl
  were_out h (true ∷ fs) xs a t e f =
      let rest : length (drop_l Q xs) ≡ Q * length fs = length-drop Q xs ∙ omega arith in
      let Out = fs ≡ replicate (length fs) true in
      qed 𝓛 (‵ (K (a + Q) fs (drop_l Q xs)) ∷ ‵ (tickets s.name a t) ∷ []) ∵ move ! (1 ∷ []) $
      use1 𝓛 (‵ (tickets s.name a Q) ⊛ ‵ (tickets s.name (a + Q) (Q * length fs))) (tickets_cut 𝓛 s.name a Q (Q * length fs) t (a + Q) (omega arith) refl) $ split ! $ move ! (2 ∷ 1 ∷ []) $
      use2 𝓛 (raw (fact 𝓤 Out)) (were_out h fs (drop_l Q xs) (a + Q) (Q * length fs) rest refl) $ heard ! Out (λ out. by ! (fact_i 𝓤 _ _ (ap (λ l. true ∷ l) out)))
  were_out h (false ∷ fs) xs a t e f =
      let fits : Q ≤ length xs = omega arith in
      let long : length (take Q xs) ≡ Q = length-take-le Q xs fits in
      qed 𝓛 (‵ (K a (false ∷ fs) xs) ∷ ‵ (tickets s.name a t) ∷ []) ∵ fsplit ! $ fsplit ! $ move ! (1 ∷ 3 ∷ []) $
      use2 𝓛 (raw (never 𝓤)) (clash 𝓛 s.name a (length (take Q xs)) a t 0 0 refl (omega arith) (omega arith)) $ keep ! (0 ∷ []) $ by ! (never_e 𝓤 _)

  -- the n quanta from the q-th on go out
  pub goes_out : (fs : List Bool) (xs : List ℕ) (q n a : ℕ) → AreAll fs q n false → length xs ≡ Q * length fs → q + n ≤ length fs
      → ent 𝓤 ⟦ K a fs xs ⟧ (sep 𝓤 ⟦ K a (marked fs q n true) xs ⟧ ⟦ P (a + Q * q) (take (Q * n) (drop_l (Q * q) xs)) ⟧)
  goes_out fs xs q n a here e within =
      let f₁ = take q fs in
      let f₃ = drop_l (q + n) fs in
      let x₁ = take (Q * q) xs in
      let x₂ = take (Q * n) (drop_l (Q * q) xs) in
      let x₃ = drop_l (Q * q + Q * n) xs in
      let b = a + Q * q in
      let c = b + Q * n in
      let low : Q * q + Q * n ≤ length xs = times_within Q q n (length fs) (length xs) within e in
      let l₁ : length x₁ ≡ Q * length f₁ = length-take-le (Q * q) xs (omega arith) ∙ ap (λ k. Q * k) (sym (length-take-le q fs (omega arith))) in
      let r₂ : length x₂ ≡ Q * n = length-take-le (Q * n) (drop_l (Q * q) xs) (part_within xs (Q * q) (Q * n) low) in
      let l₂ = λ (v : Bool). r₂ ∙ ap (λ k. Q * k) (sym (length-replicate n v)) in
      let at_b : b ≡ a + Q * length f₁ = ap (λ k. a + Q * k) (sym (length-take-le q fs (omega arith))) in
      let at_c = λ (v : Bool). ap (λ k. b + Q * k) (sym (length-replicate n v)) in
      let was : fs ≡ f₁ ++ (replicate n false ++ f₃) = sym (in_three fs q n) ∙ ap (λ l. f₁ ++ (l ++ f₃)) here in
      let all : x₁ ++ (x₂ ++ x₃) ≡ xs = in_three xs (Q * q) (Q * n) in
      qed 𝓛 (‵ (K a fs xs) ∷ []) ∵ rewrite ! 0 (λ l. ‵ (K a l xs)) was refl $ rewrite ! 0 (λ l. ‵ (K a (f₁ ++ (replicate n false ++ f₃)) l)) (sym all) refl $
      use1 𝓛 (‵ (K a f₁ x₁) ⊛ ‵ (K b (replicate n false ++ f₃) (x₂ ++ x₃))) (kept_split f₁ (replicate n false ++ f₃) x₁ (x₂ ++ x₃) a b l₁ at_b) $ split ! $ move ! (1 ∷ []) $
      use1 𝓛 (‵ (K b (replicate n false) x₂) ⊛ ‵ (K c f₃ x₃)) (kept_split (replicate n false) f₃ x₂ x₃ b c (l₂ false) (at_c false)) $ split ! $
      use1 𝓛 (‵ (P b x₂)) (all_in n x₂ b r₂) $ move ! (1 ∷ []) $
      -- [the quanta after them; their plot; the quanta before them]
      use0 𝓛 (‵ (K b (replicate n true) x₂)) (all_out n x₂ b) $ use2 𝓛 (‵ (K b (replicate n true ++ f₃) (x₂ ++ x₃))) (kept_glue (replicate n true) f₃ x₂ x₃ b c (l₂ true) (at_c true)) $ move ! (2 ∷ 0 ∷ []) $
      use2 𝓛 (‵ (K a (marked fs q n true) (x₁ ++ (x₂ ++ x₃)))) (kept_glue f₁ (replicate n true ++ f₃) x₁ (x₂ ++ x₃) a b l₁ at_b) $
      rewrite ! 0 (λ l. ‵ (K a (marked fs q n true) l)) all refl $ done !

  -- and come back, which shows that they were out
  pub comes_back : 0 < Q → (fs : List Bool) (xs ps : List ℕ) (q n a : ℕ) → length xs ≡ Q * length fs → q + n ≤ length fs → length ps ≡ Q * n
      → ent 𝓤 (sep 𝓤 ⟦ K a fs xs ⟧ ⟦ P (a + Q * q) ps ⟧) (guard 𝓤 (AreAll fs q n true) ⟦ K a (marked fs q n false) (written xs (Q * q) ps) ⟧)
  comes_back filled fs xs ps q n a e within long =
      let f₁ = take q fs in
      let f₂ = take n (drop_l q fs) in
      let f₃ = drop_l (q + n) fs in
      let x₁ = take (Q * q) xs in
      let x₂ = take (Q * n) (drop_l (Q * q) xs) in
      let x₃ = drop_l (Q * q + Q * n) xs in
      let b = a + Q * q in
      let c = b + Q * n in
      let low : Q * q + Q * n ≤ length xs = times_within Q q n (length fs) (length xs) within e in
      let m₂ : length f₂ ≡ n = length-take-le n (drop_l q fs) (part_within fs q n within) in
      let l₁ : length x₁ ≡ Q * length f₁ = length-take-le (Q * q) xs (omega arith) ∙ ap (λ k. Q * k) (sym (length-take-le q fs (omega arith))) in
      let l₂ : length x₂ ≡ Q * length f₂ = length-take-le (Q * n) (drop_l (Q * q) xs) (part_within xs (Q * q) (Q * n) low) ∙ ap (λ k. Q * k) (sym m₂) in
      let lp : length ps ≡ Q * length (replicate n false) = long ∙ ap (λ k. Q * k) (sym (length-replicate n false)) in
      let at_b : b ≡ a + Q * length f₁ = ap (λ k. a + Q * k) (sym (length-take-le q fs (omega arith))) in
      let at_c : c ≡ b + Q * length f₂ = ap (λ k. b + Q * k) (sym m₂) in
      let at_c' : c ≡ b + Q * length (replicate n false) = ap (λ k. b + Q * k) (sym (length-replicate n false)) in
      let was : fs ≡ f₁ ++ (f₂ ++ f₃) = sym (in_three fs q n) in
      let all : x₁ ++ (x₂ ++ x₃) ≡ xs = in_three xs (Q * q) (Q * n) in
      let Out = f₂ ≡ replicate (length f₂) true in
      let Both = sep 𝓤 ⟦ K b f₂ x₂ ⟧ ⟦ P b ps ⟧ in
      let shown : ent 𝓤 Both (fact 𝓤 Out) =
      qed 𝓛 (‵ (K b f₂ x₂) ∷ ‵ (P b ps) ∷ []) ∵ move ! (1 ∷ []) $ fsplit ! $ drop ! $ move ! (1 ∷ 0 ∷ []) $ by ! (were_out filled f₂ x₂ b (length ps) l₂ (long ∙ ap (λ k. Q * k) (sym m₂))) in
      qed 𝓛 (‵ (K a fs xs) ∷ ‵ (P b ps) ∷ []) ∵ rewrite ! 0 (λ l. ‵ (K a l xs)) was refl $ rewrite ! 0 (λ l. ‵ (K a (f₁ ++ (f₂ ++ f₃)) l)) (sym all) refl $
      use1 𝓛 (‵ (K a f₁ x₁) ⊛ ‵ (K b (f₂ ++ f₃) (x₂ ++ x₃))) (kept_split f₁ (f₂ ++ f₃) x₁ (x₂ ++ x₃) a b l₁ at_b) $ split ! $ move ! (1 ∷ []) $
      use1 𝓛 (‵ (K b f₂ x₂) ⊛ ‵ (K c f₃ x₃)) (kept_split f₂ f₃ x₂ x₃ b c l₂ at_c) $ split ! $ move ! (0 ∷ 3 ∷ []) $
      use2 𝓛 (given Out (‵ (K b f₂ x₂) ⊛ ‵ (P b ps))) (fact_use 𝓤 Out shown (guard_i 𝓤 Out Both)) $ learn ! (λ out. split ! $ drop ! $
      -- [the plot; the quanta after it; the quanta before it]
      use1 𝓛 (‵ (K b (replicate n false) ps)) (as_quanta n ps b long) $
      use2 𝓛 (‵ (K b (replicate n false ++ f₃) (ps ++ x₃))) (kept_glue (replicate n false) f₃ ps x₃ b c lp at_c') $ move ! (1 ∷ 0 ∷ []) $
      use2 𝓛 (‵ (K a (marked fs q n false) (x₁ ++ (ps ++ x₃)))) (kept_glue f₁ (replicate n false ++ f₃) x₁ (ps ++ x₃) a b l₁ at_b) $
      rewrite ! 0 (λ k. ‵ (K a (marked fs q n false) (x₁ ++ (ps ++ drop_l (Q * q + k) xs)))) (sym long) refl $ check ! (out ∙ ap (λ k. replicate k true) m₂) $ done !)
