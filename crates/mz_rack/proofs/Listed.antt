-- What is one of a list, by tests.
use Rattle.std.proofs.Common.{◌≡◌, ℕ, ◌+◌, ◌*◌, ◌==◌, Bool, true, false, not, List, [], ◌∷◌, refl, ap, sym, ◌∙◌, arith, inl, inr, eq-eqb}
use Rattle.std.specs.Prelude.{◌&&◌, ◌||◌, nat_le, if◌then◌else◌}
use Rattle.std.specs.List.{list_any, list_all}
use Rattle.std.proofs.lemmas.Bool.{false≢true, and_parts, and_from, cases_Bool, eqb-true}
use Rattle.std.proofs.lemmas.Bool.Decides.{nat_tests}
use Rattle.mz_base.specs.declared.range.TheConstants.{PAGE}
use Rattle.mz_base.specs.Space.{Block, Run, run_at, block_end, run_end, blocks_apart, runs_apart, bytes_of, same_block, same_run}
use Rattle.mz_base.specs.Lists.{has_run, has_block, drop_run}
use Rattle.mz_base.specs.Room.{lies_in}
use Rattle.mz_events.specs.Changes.{region_at}
use Rattle.mz_rack.proofs.Steps.{or_elim}

pub any_weaker : {A : Type 0} (p q : A → Bool) (xs : List A) → ((x : A) → p x ≡ true → q x ≡ true) → list_any p xs ≡ true → list_any q xs ≡ true
any_weaker p q [] h y = y
any_weaker p q (x ∷ xs) h y = or_elim (p x) (list_any p xs) (λ z. ap (λ b. b || list_any q xs) (h x z)) (λ z. or_true (q x) (list_any q xs) (any_weaker p q xs h z)) y
  where
    or_true : (a b : Bool) → b ≡ true → (a || b) ≡ true
    or_true true b e = refl
    or_true false b e = e

pub same_run_is : (r t : Run) → same_run r t ≡ true → r ≡ t
same_run_is r t h =
    let parts = and_parts (r.first == t.first) (r.pages == t.pages) h in
    ap (λ x. run_at x r.pages) (eqb-true r.first t.first parts.0) ∙ ap (λ x. run_at t.first x) (eqb-true r.pages t.pages parts.1)

pub is_same_run : (r : Run) → same_run r r ≡ true
is_same_run r = and_from (r.first == r.first) (r.pages == r.pages) (eq-eqb r.first r.first refl) (eq-eqb r.pages r.pages refl)

pub same_block_is : (b c : Block) → same_block b c ≡ true → b ≡ c
same_block_is b c h =
    let parts = and_parts (b.first == c.first) (b.size == c.size) h in
    ap (λ x. record { first = x; size = b.size }) (eqb-true b.first c.first parts.0) ∙ ap (λ x. record { first = c.first; size = x }) (eqb-true b.size c.size parts.1)

pub is_same_block : (b : Block) → same_block b b ≡ true
is_same_block b = and_from (b.first == b.first) (b.size == b.size) (eq-eqb b.first b.first refl) (eq-eqb b.size b.size refl)

-- what holds of each run of a list holds of all, and the other way round
pub all_runs : (p : Run → Bool) (rs : List Run) → ((r : Run) → has_run rs r ≡ true → p r ≡ true) → list_all p rs ≡ true
all_runs p [] h = refl
all_runs p (r ∷ rs) h =
    and_from (p r) (list_all p rs) (h r (ap (λ b. b || has_run rs r) (is_same_run r))) (all_runs p rs (λ t y. h t (or_behind (same_run t r) (has_run rs t) y)))
  where
    or_behind : (a b : Bool) → b ≡ true → (a || b) ≡ true
    or_behind true b e = refl
    or_behind false b e = e

pub all_blocks : (p : Block → Bool) (bs : List Block) → ((b : Block) → has_block bs b ≡ true → p b ≡ true) → list_all p bs ≡ true
all_blocks p [] h = refl
all_blocks p (b ∷ bs) h =
    and_from (p b) (list_all p bs) (h b (ap (λ x. x || has_block bs b) (is_same_block b))) (all_blocks p bs (λ c y. h c (or_behind (same_block c b) (has_block bs c) y)))
  where
    or_behind : (a b : Bool) → b ≡ true → (a || b) ≡ true
    or_behind true b e = refl
    or_behind false b e = e

pub run_of_all : (p : Run → Bool) (rs : List Run) (r : Run) → list_all p rs ≡ true → has_run rs r ≡ true → p r ≡ true
run_of_all p [] r h y = absurd (false≢true y)
run_of_all p (t ∷ rs) r h y =
    let parts = and_parts (p t) (list_all p rs) h in
    or_elim (same_run r t) (has_run rs r) (λ z. ap p (same_run_is r t z) ∙ parts.0) (λ z. run_of_all p rs r parts.1 z) y

pub block_of_all : (p : Block → Bool) (bs : List Block) (b : Block) → list_all p bs ≡ true → has_block bs b ≡ true → p b ≡ true
block_of_all p [] b h y = absurd (false≢true y)
block_of_all p (c ∷ bs) b h y =
    let parts = and_parts (p c) (list_all p bs) h in
    or_elim (same_block b c) (has_block bs b) (λ z. ap p (same_block_is b c z) ∙ parts.0) (λ z. block_of_all p bs b parts.1 z) y

-- the region that begins at a page is one of them
pub region_there : (rs : List Run) (f : ℕ) → list_any (λ r. r.first == f) rs ≡ true → has_run rs (region_at rs f) ≡ true
region_there [] f h = absurd (false≢true h)
region_there (r ∷ rs) f h = elim (cases_Bool (r.first == f)) [
  | inl y ↦ ap (λ b. has_run (r ∷ rs) (if b then r else region_at rs f)) y ∙ ap (λ b. b || has_run rs r) (is_same_run r)
  | inr n ↦ ap (λ b. has_run (r ∷ rs) (if b then r else region_at rs f)) n ∙ behind (same_run (region_at rs f) r) (has_run rs (region_at rs f)) (region_there rs f (sym (ap (λ b. b || list_any (λ t. t.first == f) rs) n) ∙ h))
]
  where
    behind : (a b : Bool) → b ≡ true → (a || b) ≡ true
    behind true b e = refl
    behind false b e = e

pub begins_at : (rs : List Run) (f : ℕ) → list_any (λ r. r.first == f) rs ≡ true → (region_at rs f).first ≡ f
begins_at [] f h = refl
begins_at (r ∷ rs) f h = elim (cases_Bool (r.first == f)) [
  | inl y ↦ rw y (eqb-true r.first f y)
  | inr n ↦ rw n (begins_at rs f (sym (ap (λ b. b || list_any (λ t. t.first == f) rs) n) ∙ h))
]

-- a block that lies in a run is apart from the bytes of a run that is apart from it
pub block_apart : (t r : Run) (b : Block) → lies_in t b.first (block_end b) ≡ true → runs_apart t r ≡ true → blocks_apart b (bytes_of r) ≡ true
block_apart t r b l h =
    let within = and_parts (nat_le (t.first * PAGE) b.first) (nat_le (block_end b) (run_end t * PAGE)) l in
    or_elim (nat_le (run_end t) r.first) (nat_le (run_end r) t.first)
    (λ y. before_or (nat_le (block_end b) (r.first * PAGE)) _ (grind (arith, nat_tests, within, y)))
    (λ y. behind_or _ (nat_le (r.first * PAGE + r.pages * PAGE) b.first) (grind (arith, nat_tests, within, y)))
    h
  where
    before_or : (a b : Bool) → a ≡ true → (a || b) ≡ true
    before_or true b e = refl
    before_or false b e = absurd (false≢true e)

    behind_or : (a b : Bool) → b ≡ true → (a || b) ≡ true
    behind_or true b e = refl
    behind_or false b e = e

-- a run that is left is one of them, and another than the one that was dropped
pub left_of_dropped : (r : Run) (rs : List Run) (t : Run) → has_run (drop_run r rs) t ≡ true → (has_run rs t ≡ true) × (same_run r t ≡ false)
left_of_dropped r [] t h = absurd (false≢true h)
left_of_dropped r (x ∷ xs) t h = elim (cases_Bool (same_run r x)) [
  | inl y ↦ let rest = left_of_dropped r xs t (sym (ap (λ b. has_run (if not b then x ∷ drop_run r xs else drop_run r xs) t) y) ∙ h) in (behind (same_run t x) (has_run xs t) rest.0, rest.1)
  | inr n ↦
      let there : (same_run t x || has_run (drop_run r xs) t) ≡ true = sym (ap (λ b. has_run (if not b then x ∷ drop_run r xs else drop_run r xs) t) n) ∙ h in
      or_elim (same_run t x) (has_run (drop_run r xs) t)
      (λ y. (ap (λ b. b || has_run xs t) y, ap (λ z. same_run r z) (same_run_is t x y) ∙ n))
      (λ y. let rest = left_of_dropped r xs t y in (behind (same_run t x) (has_run xs t) rest.0, rest.1))
      there
]
  where
    behind : (a b : Bool) → b ≡ true → (a || b) ≡ true
    behind true b e = refl
    behind false b e = e

-- one of the runs begins at the page and passes the test
pub begins_and : (p : Run → Bool) (f : ℕ) (rs : List Run) → list_any (λ r. (r.first == f) && p r) rs ≡ true → (r : Run) × (has_run rs r ≡ true) × (r.first ≡ f) × (p r ≡ true)
begins_and p f [] h = absurd (false≢true h)
begins_and p f (r ∷ rs) h =
    or_elim ((r.first == f) && p r) (list_any (λ t. (t.first == f) && p t) rs)
    (λ y. let parts = and_parts (r.first == f) (p r) y in (r, ap (λ b. b || has_run rs r) (is_same_run r), eqb-true r.first f parts.0, parts.1))
    (λ y. let rest = begins_and p f rs y in (rest.0, behind (same_run rest.0 r) (has_run rs rest.0) rest.1, rest.2, rest.3))
    h
  where
    behind : (a b : Bool) → b ≡ true → (a || b) ≡ true
    behind true b e = refl
    behind false b e = e
