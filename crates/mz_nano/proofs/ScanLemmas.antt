-- A scan of the blocks' words.
use Rattle.std.proofs.Common.{◌≡◌, ◌≢◌, ℕ, suc, ◌+◌, ◌<◌, ◌≤◌, List, ◌∷◌, sym, ap, ◌∙◌, subst, arith, inl, inr, ⊎_elim}
use Rattle.std.proofs.lemmas.Bool.{cases_eq}
use Rattle.mz_nanoword.specs.Words.{word_of}
use Rattle.mz_nano.specs.declared.view.Geometry.{Geometry}
use Rattle.mz_nano.specs.declared.view.Load.{Load}
use Rattle.mz_nano.specs.declared.view.View.{View}
use Rattle.mz_nano.specs.Lists.{In}
use Rattle.mz_nano.specs.Rule.{known}
use Rattle.mz_nano.specs.StepEffects.{Standing, load, word_loaded, IsSound}
use Rattle.mz_nano.specs.CallEffects.{OnlyLoaded, IsUsable, Scan, InOrder, NoneUsable, Skipped}

pub loaded_more : (v v1 v2 : View) (b n : ℕ) (more : List Load) → OnlyLoaded v v1 more → v2 ≡ word_loaded v1 b n → OnlyLoaded v v2 (load b n ∷ more)
loaded_more v v1 v2 b n more l e = record { seen = known b n ∷ l.seen; view = e ∙ ap (λ (u : View). word_loaded u b n) l.view }

pub skipped_more : (geometry : Geometry) (c k first : ℕ) (l : Load) (more : List Load) → Skipped geometry c k first more → Skipped geometry c k first (l ∷ more)
skipped_more geometry c k first l more s = record { later = l ∷ s.later; scan = s.scan; loads = ap (λ (xs : List Load). l ∷ xs) s.loads; order = s.order; each = s.each }

-- a scan that stops at the block k skipped those below
pub none_usable : (geometry : Geometry) (c k first : ℕ) (more : List Load) → NoneUsable geometry c k first more → NoneUsable geometry c k 0 more
none_usable geometry c k first more s b lt = let t = s b lt in (t.0, t.1, t.2, λ z. omega arith)

in_order_more : (b n : ℕ) (scan : List Load) → InOrder b scan → InOrder (b + 1) (load b n ∷ scan)
in_order_more b n scan e = let next : b + 1 ≡ suc b = omega arith in subst (λ (k : ℕ). InOrder k (load b n ∷ scan)) (sym next) (ap (λ (ws : List ℕ). b ∷ ws) e)

pub scan_more : (me me1 me2 : Standing) (c b n fresh fresh' : ℕ) → Scan me me1 c b fresh → me2.0 ≡ word_loaded me1.0 b n → me2.1 ≡ me1.1 → (IsUsable me.0.geometry c n → ⊥) → IsSound me.0.geometry n
    → fresh ≤ me.0.geometry.blocks → b < me.0.geometry.blocks
    → ((word_of n).state ≡ 0 → fresh ≡ me.0.geometry.blocks → fresh' ≡ b) → ((word_of n).state ≢ 0 → fresh' ≡ fresh) → (fresh ≢ me.0.geometry.blocks → fresh' ≡ fresh)
    → Scan me me2 c (b + 1) fresh'
scan_more me me1 me2 c b n fresh fresh' s e1 e2 nu sound most lt here assigned later =
    let P : ℕ = me.0.geometry.blocks in
    record {
      more = load b n ∷ s.more;
      loaded = loaded_more me.0 me1.0 me2.0 b n s.more s.loaded e1;
      carried = e2 ∙ s.carried;
      order = in_order_more b n s.more s.order;
      passed = λ x l. ⊎_elim
          (λ (q : x ≡ b). (
            n,
            inl (ap (λ (y : ℕ). load y n) q),
            nu,
            λ z. ⊎_elim
                (λ (t : fresh ≡ P). let u = here z t in omega arith)
                (λ (t : fresh ≡ P → ⊥). let u = later t in let w = s.early (omega arith) in omega arith)
                (cases_eq fresh P),
          ))
          (λ (q : x ≡ b → ⊥). let t = s.passed x (omega arith) in (t.0, inr t.1, t.2, λ z. let w = t.3 z in let u = later (λ y. omega arith) in omega arith))
          (cases_eq x b);
      first = λ l. ⊎_elim
          (λ (t : fresh ≡ P). ⊎_elim
          (λ (z : (word_of n).state ≡ 0). let u = here z t in inl (ap (λ (y : ℕ). load y 0) u ∙ ap (load b) (sym (sound.zero z))))
          (λ (z : (word_of n).state ≡ 0 → ⊥). let u = assigned z in absurd (omega arith))
          (cases_eq (word_of n).state 0))
          (λ (t : fresh ≡ P → ⊥). let u = later t in inr (subst (λ (y : ℕ). In (load y 0) s.more) (sym u) (s.first (omega arith))))
          (cases_eq fresh P);
      early = λ l. ⊎_elim
          (λ (t : fresh ≡ P). ⊎_elim
          (λ (z : (word_of n).state ≡ 0). let u = here z t in omega arith)
          (λ (z : (word_of n).state ≡ 0 → ⊥). let u = assigned z in absurd (omega arith))
          (cases_eq (word_of n).state 0))
          (λ (t : fresh ≡ P → ⊥). let u = later t in let w = s.early (omega arith) in omega arith)
          (cases_eq fresh P);
    }
