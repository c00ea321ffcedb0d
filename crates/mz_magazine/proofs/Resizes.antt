-- When a block of a row can be resized: its bytes lie in a region, and in no block that begins elsewhere.
use Rattle.std.proofs.Common.{◌≡◌, ℕ, ◌+◌, ◌-◌, ◌*◌, ◌⊎◌, List, [], ◌∷◌, ◌++◌, Bool, true, false, not, map, refl, sym, ap, ◌∙◌, subst, inl, inr, arith}
use Rattle.std.specs.Prelude.{◌&&◌, ◌||◌, ◌==◌}
use Rattle.std.specs.List.{All, list_any, list_all}
use Rattle.std.proofs.lemmas.Bool.{cases_Bool, and_parts, or_cases, eqb-true, eq-eqb, ne_eqb, cond-true, cond-false, not_from_true, not_from_false, and_left, false≢true}
use Rattle.std.proofs.lemmas.List.Elements.{All-cons, All-head, All-tail, All-weaker, All-append}
use Rattle.mz_base.specs.Space.{Block, block_at, block_end, blocks_apart, same_block}
use Rattle.mz_base.specs.Lists.{drop_block, has_block}
use Rattle.mz_base.specs.Room.{lies_within}
use Rattle.mz_region.specs.Views.{RegionView, AreInRow}
use Rattle.mz_magazine.specs.Row.{is_idle_in, lies_in_row}
use Rattle.mz_magazine.specs.Members.{live_of, AreInOrder}
use Rattle.mz_magazine.proofs.Parts.{EndsBefore, BeginsBehind, InRow, each_in_row}
use Rattle.mz_magazine.proofs.Order.{first_of, order_here, blocks_before, blocks_behind, live_parts}
use Rattle.mz_magazine.proofs.Changes.{dropped}

-- d is the block b, or begins elsewhere
abbrev pub OneOrOther : Block → Block → Type 0
OneOrOther b d = (same_block b d ≡ true) ⊎ (d.first ≡ b.first → ⊥)

only_one : (Q s e : ℕ) (L : List Block) (b : Block) → AreInRow Q s e L → has_block L b ≡ true → All (OneOrOther b) L
only_one Q s e [] b row h = absurd (false≢true h)
only_one Q s e (c ∷ cs) b row h =
    let some = row.2 in
    elim (or_cases (same_block b c) (has_block cs b) h) [
      | inl same ↦
          let at = eqb-true b.first c.first (and_parts (b.first == c.first) (b.size == c.size) same).0 in
          All-cons (OneOrOther b) c cs (inl same) (All-weaker (InRow Q (block_end c) e) (OneOrOther b) (λ d k. let from = k.low in inr (λ e. omega arith)) cs (each_in_row Q (block_end c) e cs row.4))
      | inr later ↦
          let from = ((dropped Q (block_end c) e cs b row.4 later).one).low in
          All-cons (OneOrOther b) c cs (inr (λ e. omega arith)) (only_one Q (block_end c) e cs b row.4 later)
    ]

-- a test of the blocks but this one is a test of those that begin elsewhere
all_but : (b : Block) (t : Block → Bool) (L : List Block) → All (OneOrOther b) L → list_all t (drop_block b L) ≡ list_all (λ d. (d.first == b.first) || t d) L
all_but b t [] each = refl
all_but b t (c ∷ cs) each =
    let rest = all_but b t cs (All-tail (OneOrOther b) c cs each) in
    let others : Bool = list_all (λ d. (d.first == b.first) || t d) cs in
    elim (All-head (OneOrOther b) c cs each) [
      | inl same ↦
          let at = eqb-true b.first c.first (and_parts (b.first == c.first) (b.size == c.size) same).0 in
          ap (list_all t) (cond-false (not (same_block b c)) (c ∷ drop_block b cs) (drop_block b cs) (not_from_true (same_block b c) same)) ∙ rest
          ∙ ap (λ x. (x || t c) && others) (sym (eq-eqb c.first b.first (sym at)))
      | inr other ↦
          ap (list_all t) (cond-true (not (same_block b c)) (c ∷ drop_block b cs) (drop_block b cs) (not_from_false (same_block b c) (and_left (b.first == c.first) (b.size == c.size) (ne_eqb b.first c.first (λ e. other (sym e))))))
          ∙ ap (λ x. t c && x) rest ∙ ap (λ x. (x || t c) && others) (sym (ne_eqb c.first b.first other))
    ]

any_and : (p : ℕ → Bool) (t : Bool) (xs : List ℕ) → list_any (λ x. p x && t) xs ≡ (list_any p xs && t)
any_and p t [] = refl
any_and p t (x ∷ xs) =
    let rest = any_and p t xs in
    elim (cases_Bool (p x)) [
      | inl passes ↦ ap (λ b. (b && t) || list_any (λ y. p y && t) xs) passes ∙ ap (λ b. t || b) rest ∙ either t (list_any p xs) ∙ ap (λ b. (b || list_any p xs) && t) (sym passes)
      | inr fails ↦ ap (λ b. (b && t) || list_any (λ y. p y && t) xs) fails ∙ rest ∙ ap (λ b. (b || list_any p xs) && t) (sym fails)
    ]
  where
    either : (s b : Bool) → (s || (b && s)) ≡ s
    either true b = refl
    either false true = refl
    either false false = refl

-- whether the block b of a region can have m bytes
pub resize_fits : (Q N : ℕ) (b : Block) (m : ℕ) (rs front : List RegionView) (r : RegionView) (back : List RegionView) → rs ≡ front ++ r ∷ back → AreInOrder Q N 0 rs → has_block r.live b ≡ true
    → is_idle_in (Q * N) (map first_of rs) (drop_block b (live_of rs)) b.first (b.first + m)
    ≡ (lies_in_row (Q * N) (map first_of rs) b.first (b.first + m) && list_all (λ d. (d.first == b.first) || blocks_apart d (block_at b.first m)) (live_of rs))
resize_fits Q N b m rs front r back e order has =
    let h = subst (AreInOrder Q N 0) e order in
    let here = order_here Q N 0 front r back h in
    let gone = dropped Q r.first (r.first + Q * N) r.live b (here.1).row has in
    let low = (gone.one).low in
    let high = (gone.one).high in
    let filled = (gone.one).some in
    let P : Block → Type 0 = OneOrOther b in
    let each : All P (live_of front ++ (r.live ++ live_of back)) =
    All-append P (live_of front) (r.live ++ live_of back)
    (All-weaker (EndsBefore r.first) P (λ d k. let some = k.0 in let end = k.1 in inr (λ same. omega arith)) (live_of front) (blocks_before Q N 0 front r back h))
    (All-append P r.live (live_of back) (only_one Q r.first (r.first + Q * N) r.live b (here.1).row has)
    (All-weaker (BeginsBehind (r.first + Q * N)) P (λ d k. let from = k.1 in inr (λ same. omega arith)) (live_of back) (blocks_behind Q N (r.first + Q * N) back here.2))) in
    let all : All P (live_of rs) = subst (λ l. All P l) (sym (ap live_of e ∙ live_parts front r back)) each in
    let long : b.first + m - b.first ≡ m = omega arith in
    let test : Block → Bool = λ d. blocks_apart d (block_at b.first m) in
    ap (λ k. list_any (λ a. lies_within a (a + Q * N) b.first (b.first + m) && list_all (λ d. blocks_apart d (block_at b.first k)) (drop_block b (live_of rs))) (map first_of rs)) long
    ∙ any_and (λ a. lies_within a (a + Q * N) b.first (b.first + m)) (list_all test (drop_block b (live_of rs))) (map first_of rs)
    ∙ ap (λ x. lies_in_row (Q * N) (map first_of rs) b.first (b.first + m) && x) (all_but b test (live_of rs) all)
