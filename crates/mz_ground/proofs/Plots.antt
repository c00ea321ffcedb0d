-- Plots parted and joined. Assumes `Logic`.
use Rattle.std.proofs.Common.{◌≡◌, ℕ, ◌+◌, ◌≤◌, List, [], ◌∷◌, ◌++◌, length, take, drop as drop_l, refl, sym, ap, arith, length-append}
use Rattle.std.proofs.lemmas.List.{take-append-drop, length-take-le}
use seplogic.Ra.Ura.{Ura}
use base.Fraction.{full_share}
use base.Logic.{SProp, ent, sep, emp}
use base.Fml.{Fml}
use types.Logic.{Logic, sem}
use types.Kit.{‵, ◌⊛◌, ◌$◌, ◌∵◌, !, qed, move, use1, use2, split, fsplit, fjoin, rewrite, done}
use denote.Steps.{nothing}
use denote.RawPtr.Bytes.{bytes, bytes_cut, bytes_glue}
use Rattle.mz_base.specs.Site.{Site}
use Rattle.mz_ground.specs.Ownership.{tickets, lies_in, plot_owns}
use Rattle.mz_ground.proofs.Tickets.{tickets_cut, tickets_glue}

module _ {M : Type 1} {𝓤 : Ura M} (𝓛 : Logic 𝓤) (s : Site) where
  abbrev ⟦◌⟧ : Fml → SProp 𝓤
  ⟦ P ⟧ = sem 𝓛 P

  pub plot_split : (a b : ℕ) (xs ys : List ℕ) → b ≡ a + length xs → ent 𝓤 ⟦ plot_owns s a (xs ++ ys) ⟧ (sep 𝓤 ⟦ plot_owns s a xs ⟧ ⟦ plot_owns s b ys ⟧)
  plot_split a b xs ys e =
      let there : s.origin + a + length xs ≡ s.origin + b = omega arith in
      qed 𝓛 (‵ (plot_owns s a (xs ++ ys)) ∷ []) ∵ fsplit ! $
      use1 𝓛 (‵ (lies_in s a xs) ⊛ ‵ (bytes full_share ys s.block (s.origin + a + length xs))) (bytes_cut 𝓛 full_share xs ys s.block (s.origin + a)) $ split ! $ move ! (2 ∷ []) $
      use1 𝓛 (‵ (tickets s.name a (length xs)) ⊛ ‵ (tickets s.name b (length ys))) (tickets_cut 𝓛 s.name a (length xs) (length ys) (length (xs ++ ys)) b (length-append xs ys) e) $ split ! $
      move ! (2 ∷ 0 ∷ []) $ fjoin ! $ move ! (2 ∷ []) $ rewrite ! 0 (λ k. ‵ (bytes full_share ys s.block k)) there refl $ move ! (0 ∷ 2 ∷ []) $ fjoin ! $ move ! (1 ∷ 0 ∷ []) $ done !

  pub plot_glue : (a b : ℕ) (xs ys : List ℕ) → b ≡ a + length xs → ent 𝓤 (sep 𝓤 ⟦ plot_owns s a xs ⟧ ⟦ plot_owns s b ys ⟧) ⟦ plot_owns s a (xs ++ ys) ⟧
  plot_glue a b xs ys e =
      let there : s.origin + b ≡ s.origin + a + length xs = omega arith in
      qed 𝓛 (‵ (plot_owns s a xs) ∷ ‵ (plot_owns s b ys) ∷ []) ∵ fsplit ! $ move ! (2 ∷ []) $ fsplit ! $
      -- [bytes of ys; tickets of ys; bytes of xs; tickets of xs]
      rewrite ! 0 (λ k. ‵ (bytes full_share ys s.block k)) there refl $ move ! (2 ∷ 0 ∷ []) $
      use2 𝓛 (‵ (lies_in s a (xs ++ ys))) (bytes_glue 𝓛 full_share xs ys s.block (s.origin + a)) $ move ! (2 ∷ 1 ∷ []) $
      use2 𝓛 (‵ (tickets s.name a (length (xs ++ ys)))) (tickets_glue 𝓛 s.name a (length xs) (length ys) (length (xs ++ ys)) b (length-append xs ys) e) $
      move ! (1 ∷ 0 ∷ []) $ fjoin ! $ done !

  -- the first n bytes of a plot, and the others
  pub plot_cut : (a n : ℕ) (xs : List ℕ) → n ≤ length xs → ent 𝓤 ⟦ plot_owns s a xs ⟧ (sep 𝓤 ⟦ plot_owns s a (take n xs) ⟧ ⟦ plot_owns s (a + n) (drop_l n xs) ⟧)
  plot_cut a n xs h =
      qed 𝓛 (‵ (plot_owns s a xs) ∷ []) ∵ rewrite ! 0 (λ ys. ‵ (plot_owns s a ys)) (sym (take-append-drop n xs)) refl $
      use1 𝓛 (‵ (plot_owns s a (take n xs)) ⊛ ‵ (plot_owns s (a + n) (drop_l n xs))) (plot_split a (a + n) (take n xs) (drop_l n xs) (ap (λ k. a + k) (sym (length-take-le n xs h)))) $ split ! $ done !

  pub plot_none : (a : ℕ) → ent 𝓤 (emp 𝓤) ⟦ plot_owns s a [] ⟧
  plot_none a = qed 𝓛 [] ∵ nothing ! $ nothing ! $ fjoin ! $ done !
