-- What a region's facts say of its live blocks, and what they are after a call.
use Rattle.std.proofs.Common.{◌≡◌, ℕ, zero, suc, ◌+◌, ◌-◌, ◌*◌, ◌/◌, ◌%◌, ◌^◌, ◌<◌, ◌≤◌, ◌⊎◌, List, [], ◌∷◌, Bool, true, false, length, get_or, set, take, min, refl, sym, ap, ◌∙◌, subst, inl, inr, mul-add, arith}
use Rattle.std.specs.Prelude.{◌==◌}
use Rattle.std.specs.List.{All}
use Rattle.std.specs.Int.{IsPowerOfTwo}
use Rattle.std.proofs.Math.Nat.{mul-le-mul_left, mul-le-mul_right, mul-one, pow-le-pow_right, le_of_mul-le-mul_left, mul-mod_right, mul-div_right, add-mul-mod_self_left, zero-mod}
use Rattle.std.proofs.lemmas.Nat.{pow_pos, pow-add, div-add-mod'}
use Rattle.std.proofs.lemmas.Bool.{cases_Bool, cases_lt, and_parts, eqb-true}
use Rattle.std.proofs.lemmas.List.{take-take}
use Rattle.std.proofs.lemmas.List.Elements.{All-nil, All-cons}
use Rattle.mz_base.specs.Space.{Block, block_at, same_block}
use Rattle.mz_base.specs.Site.{Site}
use Rattle.mz_base.specs.Limits.{IsFrom}
use Rattle.mz_base.specs.Lists.{add_block, drop_block, has_block, size_at, size_sum}
use Rattle.mz_base.specs.Room.{is_idle}
use Rattle.mz_bits.specs.Runs.{with_run, IsRunOf}
use Rattle.mz_ground.specs.Views.{GroundView}
use Rattle.mz_region.specs.Views.{RegionView, AreInRow, IsRegion}
use Rattle.mz_region.specs.Quanta.{rest_of, blocks_of, FitTogether}
use Rattle.mz_region.specs.Held.{IsHeld}
use Rattle.mz_region.proofs.Runs.{Are, run_zero, front_again, set_again, are_run, again_with_more, are_run_and_more, length_run}
use Rattle.mz_region.proofs.Blocks.{two, block_quanta, fit_length, blocks_added, fit_added, fit_cleared, block_used, block_within, idle_apart, apart_idle}
use Rattle.mz_region.proofs.Rows.{length-added, sum-added, drop_added, miss_other, row_sum, row_count, row_each, among, size_of_block, size_here, size_later, size_none, idle_from_miss, miss_from_idle}

-- a power of two isn't 0
pub filled : (Q : ℕ) → IsPowerOfTwo Q → 0 < Q
filled Q p = subst (λ n. 0 < n) (sym p.1) (pow_pos p.0)

-- quanta in bytes
pub same_quanta : (Q i j : ℕ) → 0 < Q → Q * i ≡ Q * j → i ≡ j
same_quanta Q i j some e =
    let up : i ≤ j = le_of_mul-le-mul_left {m = i} {n = j} {k = Q} (omega arith) some in
    let down : j ≤ i = le_of_mul-le-mul_left {m = j} {n = i} {k = Q} (omega arith) some in
    omega arith

-- the blocks are in a row
next_aligned : (Q a : ℕ) → a % Q ≡ 0 → (a + Q) % Q ≡ 0
next_aligned Q a at = let one : a + Q ≡ a + Q * 1 = omega arith in ap (λ n. n % Q) one ∙ add-mul-mod_self_left a Q 1 ∙ at

head_row : (Q a s e m : ℕ) (L : List Block) → 0 < Q → a % Q ≡ 0 → s ≤ a → AreInRow Q (a + Q * (1 + m)) e L → AreInRow Q s e (block_at a (Q * (1 + m)) ∷ L)
head_row Q a s e m L some at low rest = (low, at, omega arith, mul-mod_right Q (1 + m), rest)

blocks_row : (Q a s e : ℕ) (bs us : List Bool) → 0 < Q → a % Q ≡ 0 → s ≤ a + Q * rest_of bs us → e ≡ a + Q * length us → AreInRow Q s e (blocks_of Q a bs us)
unfolding rest_of blocks_of
blocks_row Q a s e [] us some at low end = omega arith
blocks_row Q a s e (b ∷ bs) [] some at low end = omega arith
blocks_row Q a s e (true ∷ bs) (true ∷ us) some at low end =
    head_row Q a s e (rest_of bs us) (blocks_of Q (a + Q) bs us) some at (omega arith) (blocks_row Q (a + Q) (a + Q * (1 + rest_of bs us)) e bs us some (next_aligned Q a at) (omega arith) (omega arith))
blocks_row Q a s e (true ∷ bs) (false ∷ us) some at low end =
    head_row Q a s e (rest_of bs us) (blocks_of Q (a + Q) bs us) some at (omega arith) (blocks_row Q (a + Q) (a + Q * (1 + rest_of bs us)) e bs us some (next_aligned Q a at) (omega arith) (omega arith))
blocks_row Q a s e (false ∷ bs) (true ∷ us) some at low end = blocks_row Q (a + Q) s e bs us some (next_aligned Q a at) (omega arith) (omega arith)
blocks_row Q a s e (false ∷ bs) (false ∷ us) some at low end = blocks_row Q (a + Q) s e bs us some (next_aligned Q a at) (omega arith) (omega arith)

-- a multiple of the region's length is one of the quantum
pub quantum_aligned : (Q N a : ℕ) → a % (Q * N) ≡ 0 → a % Q ≡ 0
quantum_aligned Q N a at =
    let parts = div-add-mod' a (Q * N) in
    let whole : a ≡ 0 + Q * (N * (a / (Q * N))) = omega (arith, parts) in
    ap (λ n. n % Q) whole ∙ add-mul-mod_self_left 0 Q (N * (a / (Q * N))) ∙ none Q
  where
    none : (m : ℕ) → 0 % m ≡ 0
    none m = zero-mod m

-- the size of the block that begins at a quantum, and that none begins there
pub begun_size : (Q a : ℕ) (bs us : List Bool) (q x : ℕ) → x ≡ a + Q * q → 0 < Q → q < length bs → q < length us → get_or bs q false ≡ true → size_at (blocks_of Q a bs us) x ≡ Q * block_quanta bs us q
unfolding blocks_of
begun_size Q a [] us q x at some low within begun = absurd (omega arith)
begun_size Q a (b ∷ bs) [] q x at some low within begun = absurd (omega arith)
begun_size Q a (false ∷ bs) (u ∷ us) zero x at some low within begun = absurd (two (sym begun))
begun_size Q a (true ∷ bs) (u ∷ us) zero x at some low within begun = size_here (block_at a (Q * (1 + rest_of bs us))) (blocks_of Q (a + Q) bs us) x (omega arith)
begun_size Q a (true ∷ bs) (u ∷ us) (suc q) x at some low within begun =
    size_later (block_at a (Q * (1 + rest_of bs us))) (blocks_of Q (a + Q) bs us) x (λ same. omega arith) ∙ begun_size Q (a + Q) bs us q x (omega arith) some (omega arith) (omega arith) begun
begun_size Q a (false ∷ bs) (u ∷ us) (suc q) x at some low within begun = begun_size Q (a + Q) bs us q x (omega arith) some (omega arith) (omega arith) begun

pub none_begun : (Q a : ℕ) (bs us : List Bool) (x : ℕ) → ((q : ℕ) → x ≡ a + Q * q → q < length bs → get_or bs q false ≡ true → ⊥) → All (λ c. c.first ≡ x → ⊥) (blocks_of Q a bs us)
unfolding blocks_of
none_begun Q a [] us x none = All-nil (λ c. c.first ≡ x → ⊥)
none_begun Q a (b ∷ bs) [] x none = All-nil (λ c. c.first ≡ x → ⊥)
none_begun Q a (true ∷ bs) (u ∷ us) x none =
    All-cons (λ c. c.first ≡ x → ⊥) (block_at a (Q * (1 + rest_of bs us))) (blocks_of Q (a + Q) bs us) (λ e. none 0 (omega arith) (omega arith) refl)
    (none_begun Q (a + Q) bs us x (λ q e low begun. none (suc q) (omega arith) (omega arith) begun))
none_begun Q a (false ∷ bs) (u ∷ us) x none = none_begun Q (a + Q) bs us x (λ q e low begun. none (suc q) (omega arith) (omega arith) begun)

-- a block of n quanta begins at the q-th
pub record IsBegun (bs us : List Bool) (q n : ℕ) : Type 0 where
  pub within : q < length bs
  pub begun : get_or bs q false ≡ true
  pub long : block_quanta bs us q ≡ n

pub begun_from_size : (Q a : ℕ) (bs us : List Bool) (q n x : ℕ) → 0 < Q → length bs ≡ length us → x ≡ a + Q * q → 1 ≤ n → size_at (blocks_of Q a bs us) x ≡ Q * n → IsBegun bs us q n
begun_from_size Q a bs us q n x some same at long e =
    let more : 0 < Q * n = let low : Q * 1 ≤ Q * n = mul-le-mul_left Q long in omega arith in
    elim (cases_lt q (length bs)) [
      | inr past ↦
          let none = size_none (blocks_of Q a bs us) x (none_begun Q a bs us x (λ k at' low begun. let here = same_quanta Q k q some (omega arith) in omega arith)) in
          absurd (omega arith)
      | inl within ↦ elim (cases_Bool (get_or bs q false)) [
        | inr not_begun ↦
            let none = size_none (blocks_of Q a bs us) x (none_begun Q a bs us x (λ k at' low begun.
            let here = same_quanta Q k q some (omega arith) in
            two (sym begun ∙ ap (λ i. get_or bs i false) here ∙ not_begun))) in
            absurd (omega arith)
        | inl begun ↦
            let is = begun_size Q a bs us q x at some within (omega arith) begun in
            record { within = within; begun = begun; long = same_quanta Q (block_quanta bs us q) n some (sym is ∙ e) }
      ]
    ]

-- What is left where a block's bits are cleared: the blocks without it.
pub record IsLeft (Q a : ℕ) (bs us : List Bool) (q n x : ℕ) : Type 0 where
  pub within : q + n ≤ length us
  pub some : 1 ≤ n
  pub used : Are true us q (q + n)
  pub fit : FitTogether false (set bs q false) (with_run us q n false)
  pub added : blocks_of Q a bs us ≡ add_block (block_at x (Q * n)) (blocks_of Q a (set bs q false) (with_run us q n false))
  pub dropped : drop_block (block_at x (Q * n)) (blocks_of Q a bs us) ≡ blocks_of Q a (set bs q false) (with_run us q n false)

pub left : (Q a : ℕ) (bs us : List Bool) (q n x : ℕ) → 0 < Q → FitTogether false bs us → x ≡ a + Q * q → IsBegun bs us q n → IsLeft Q a bs us q n x
left Q a bs us q n x some fit at is =
    let same = fit_length false bs us fit in
    let begun = is.begun in
    let within = is.within in
    let long = is.long in
    let inside : q + n ≤ length us = let w = block_within bs us q (omega arith) in omega arith in
    let least : 1 ≤ n = omega arith in
    let used = block_used false bs us q n fit within begun long in
    let cleared = fit_cleared false bs us q n fit within begun long in
    let as_long : length (with_run us q n false) ≡ length us = length_run us q n false inside in
    let idle = are_run us q n false inside in
    let more : Q * 1 ≤ Q * n = mul-le-mul_left Q least in
    let none : n ≡ n + 0 = omega arith in
    let again : with_run (with_run us q n false) q n true ≡ us =
    ap (λ k. with_run (with_run us q k false) q n true) none ∙ front_again us q n 0 false true inside used ∙ run_zero us (q + n) false in
    let all : blocks_of Q a bs us ≡ add_block (block_at x (Q * n)) (blocks_of Q a (set bs q false) (with_run us q n false)) =
    ap (λ l. blocks_of Q a l us) (sym (set_again bs q within begun))
    ∙ ap (λ l. blocks_of Q a (set (set bs q false) q true) l) (sym again)
    ∙ blocks_added Q a false (set bs q false) (with_run us q n false) q n x at some least (omega arith) cleared idle in
    let apart = idle_apart Q a false (set bs q false) (with_run us q n false) q n x (x + Q * n) at refl least (omega arith) cleared idle in
    record {
      within = inside;
      some = least;
      used = used;
      fit = cleared;
      added = all;
      dropped = ap (λ l. drop_block (block_at x (Q * n)) l) all ∙ drop_added (block_at x (Q * n)) (blocks_of Q a (set bs q false) (with_run us q n false)) (miss_other x (Q * n) (blocks_of Q a (set bs q false) (with_run us q n false)) (omega arith) apart);
    }

-- what a search for clear bits says where it found enough, and where it didn't
pub run_whole : (us : List Bool) (i most r : ℕ) → 1 ≤ most → IsRunOf false us i most r → most ≤ r → (i + most ≤ length us) × Are false us i (i + most)
run_whole us i most r some run whole =
    let limit = run.limit in
    let within = run.within in
    (omega arith, λ k d low high. run.each k d low (omega arith))

pub run_short : (us : List Bool) (i most r : ℕ) → IsRunOf false us i most r → r < most → i + most ≤ length us → Are false us i (i + most) → ⊥
run_short us i most r run less within idle = two (sym (run.ends less (omega arith) false) ∙ idle (i + r) false (omega arith) (omega arith))

-- a region as contracts see it
abbrev pub viewed : Site → ℕ → List Block → RegionView
viewed s a L = record { space = s; first = a; live = L }

pub changed : (s s' : Site) (a : ℕ) (L M : List Block) (old : RegionView) (f : List Block → List Block) → s' ≡ s → M ≡ f L → viewed s a L ≡ old → viewed s' a M ≡ record old { live = f old.live }
changed s s' a L M old f space blocks e = ap (λ t. viewed t a M) space ∙ ap (λ l. viewed s a l) blocks ∙ ap (λ (v : RegionView). record v { live = f v.live }) e

-- the ground after a call, with other quanta lent
pub record IsGroundAfter (g h : GroundView) (us : List Bool) : Type 0 where
  pub space : h.space ≡ g.space
  pub first : h.first ≡ g.first
  pub lent : h.lent ≡ us

module _ (Q N a : ℕ) (bs us : List Bool) (g : GroundView) (sum count : ℕ) (held : IsHeld Q N a bs us g sum count) where
  abbrev pub L : List Block
  L = blocks_of Q a bs us

  pub some_bytes : 0 < Q
  some_bytes = filled Q held.power

  pub same_length : length bs ≡ N
  same_length = fit_length false bs us held.bits ∙ held.quanta

  row_of : (cs vs : List Bool) → length vs ≡ N → AreInRow Q a (a + Q * N) (blocks_of Q a cs vs)
  row_of cs vs long = let end : a + Q * N ≡ a + Q * length vs = ap (λ n. a + Q * n) (sym long) in
      blocks_row Q a a (a + Q * N) cs vs some_bytes (quantum_aligned Q N a held.at) (omega arith) end

  pub region_is : IsRegion Q N (viewed g.space a L)
  region_is = record { power = held.power; at = held.at; inside = held.inside; small = held.small; row = row_of bs us held.quanta }

  -- the region's bytes, and what it counts, fit
  sum_of : (cs vs : List Bool) → length vs ≡ N → (size_sum (blocks_of Q a cs vs) ≤ Q * N) × (length (blocks_of Q a cs vs) ≤ Q * N)
  sum_of cs vs long =
      let all = row_sum Q a (a + Q * N) (blocks_of Q a cs vs) (row_of cs vs long) in
      let each = row_count Q a (a + Q * N) (blocks_of Q a cs vs) (row_of cs vs long) in
      (omega arith, omega arith)

  pub all_small : Q * N < 2 ^ 63
  all_small = let inside = held.inside in let small = held.small in omega arith

  pub sum_within : sum ≤ Q * N
  sum_within = let e = held.sum in let s = (sum_of bs us held.quanta).0 in omega arith

  held_after : (cs vs : List Bool) (h : GroundView) (sum' count' : ℕ) → length vs ≡ N → FitTogether false cs vs → IsGroundAfter g h vs → sum' ≡ size_sum (blocks_of Q a cs vs) → count' ≡ length (blocks_of Q a cs vs) → IsHeld Q N a cs vs h sum' count'
  held_after cs vs h sum' count' long fit after is_sum is_count =
      let same : h.space.size ≡ g.space.size = ap (λ (s : Site). s.size) after.space in
      let inside = held.inside in
      let small = held.small in
      record {
        power = held.power;
        at = held.at;
        inside = omega arith;
        small = omega arith;
        quanta = long;
        bits = fit;
        based = after.first ∙ held.based;
        lent = after.lent;
        sum = is_sum;
        counted = is_count;
      }

  -- idle quanta are those that no block meets
  pub test_from_bits : (q n x : ℕ) → x ≡ a + Q * q → 1 ≤ n → q + n ≤ N → Are false us q (q + n) → is_idle a (a + Q * N) L x (x + Q * n) ≡ true
  test_from_bits q n x at some within idle =
      let long = held.quanta in
      let low : Q * (q + n) ≤ Q * N = mul-le-mul_left Q within in
      let parts : Q * (q + n) ≡ Q * q + Q * n = mul-add Q q n in
      idle_from_miss a (a + Q * N) L x (x + Q * n) (omega arith) (omega arith) (omega arith) (idle_apart Q a false bs us q n x (x + Q * n) at refl some (omega arith) held.bits idle)

  pub bits_from_test : (q n x : ℕ) → x ≡ a + Q * q → is_idle a (a + Q * N) L x (x + Q * n) ≡ true → (q + n ≤ N) × Are false us q (q + n)
  bits_from_test q n x at h =
      let long = held.quanta in
      let missed = miss_from_idle a (a + Q * N) L x (x + Q * n) (omega arith) h in
      let high = missed.high in
      let parts : Q * (q + n) ≡ Q * q + Q * n = mul-add Q q n in
      let within : q + n ≤ N = le_of_mul-le-mul_left {m = q + n} {n = N} {k = Q} (omega arith) some_bytes in
      (within, apart_idle Q a bs us q n x (x + Q * n) some_bytes at refl (omega arith) held.bits missed.each)

  -- one block more
  module _ (q n x : ℕ) (at : x ≡ a + Q * q) (some : 1 ≤ n) (within : q + n ≤ N) (idle : Are false us q (q + n)) where
    inside : q + n ≤ length us
    inside = let long = held.quanta in omega arith

    more_bits : FitTogether false (set bs q true) (with_run us q n true)
    more_bits = fit_added false bs us q n some inside held.bits idle

    pub more_blocks : blocks_of Q a (set bs q true) (with_run us q n true) ≡ add_block (block_at x (Q * n)) L
    more_blocks = blocks_added Q a false bs us q n x at some_bytes some inside held.bits idle

    more_long : length (with_run us q n true) ≡ N
    more_long = length_run us q n true inside ∙ held.quanta

    more_sum : sum + n * Q ≡ size_sum (blocks_of Q a (set bs q true) (with_run us q n true))
    more_sum =
        let was = held.sum in
        let now = ap size_sum more_blocks ∙ sum-added (block_at x (Q * n)) L in
        omega arith

    more_count : count + 1 ≡ length (blocks_of Q a (set bs q true) (with_run us q n true))
    more_count =
        let was = held.counted in
        let now = ap length more_blocks ∙ length-added (block_at x (Q * n)) L in
        omega arith

    pub more_fits : (sum + n * Q ≤ Q * N) × (count + 1 ≤ Q * N)
    more_fits =
        let all = sum_of (set bs q true) (with_run us q n true) more_long in
        let s = all.0 in
        let c = all.1 in
        let is_sum = more_sum in
        let is_count = more_count in
        (omega arith, omega arith)

    pub held_more : (cs vs : List Bool) (h : GroundView) → cs ≡ set bs q true → vs ≡ with_run us q n true → IsGroundAfter g h (with_run us q n true) → IsHeld Q N a cs vs h (sum + n * Q) (count + 1)
    held_more cs vs h begins used after =
        let P = λ (l : List Bool). IsHeld Q N a l vs h (sum + n * Q) (count + 1) in
        let R = λ (l : List Bool). IsHeld Q N a (set bs q true) l h (sum + n * Q) (count + 1) in
        subst P (sym begins) (subst R (sym used) (held_after (set bs q true) (with_run us q n true) h (sum + n * Q) (count + 1) more_long more_bits after more_sum more_count))

    pub view_more : (cs vs : List Bool) (s : Site) (old : RegionView) → cs ≡ set bs q true → vs ≡ with_run us q n true → s ≡ g.space → viewed g.space a L ≡ old
        → viewed s a (blocks_of Q a cs vs) ≡ record old { live = add_block (block_at x (Q * n)) old.live }
    view_more cs vs s old begins used space e =
        changed g.space s a L (blocks_of Q a cs vs) old (add_block (block_at x (Q * n))) space (ap (λ l. blocks_of Q a l vs) begins ∙ ap (λ l. blocks_of Q a (set bs q true) l) used ∙ more_blocks) e

  -- one block fewer
  module _ (q n x : ℕ) (at : x ≡ a + Q * q) (is : IsBegun bs us q n) where
    gone : IsLeft Q a bs us q n x
    gone = left Q a bs us q n x some_bytes held.bits at is

    pub gone_within : q + n ≤ N
    gone_within = let long = held.quanta in let w = gone.within in omega arith

    pub gone_used : Are true us q (q + n)
    gone_used = gone.used

    abbrev L' : List Block
    L' = blocks_of Q a (set bs q false) (with_run us q n false)

    fewer_sum : sum ≡ size_sum L' + n * Q
    fewer_sum =
        let was = held.sum in
        let now = ap size_sum gone.added ∙ sum-added (block_at x (Q * n)) L' in
        omega arith

    fewer_count : count ≡ length L' + 1
    fewer_count =
        let was = held.counted in
        let now = ap length gone.added ∙ length-added (block_at x (Q * n)) L' in
        omega arith

    pub fewer_fits : (n * Q ≤ sum) × (1 ≤ count)
    fewer_fits = let s = fewer_sum in let c = fewer_count in (omega arith, omega arith)

    fewer_long : length (with_run us q n false) ≡ N
    fewer_long = length_run us q n false gone.within ∙ held.quanta

    pub held_fewer : (cs vs : List Bool) (h : GroundView) → cs ≡ set bs q false → vs ≡ with_run us q n false → IsGroundAfter g h (with_run us q n false) → IsHeld Q N a cs vs h (sum - n * Q) (count - 1)
    held_fewer cs vs h begins used after =
        let s = fewer_sum in
        let c = fewer_count in
        let P = λ (l : List Bool). IsHeld Q N a l vs h (sum - n * Q) (count - 1) in
        let R = λ (l : List Bool). IsHeld Q N a (set bs q false) l h (sum - n * Q) (count - 1) in
        subst P (sym begins) (subst R (sym used) (held_after (set bs q false) (with_run us q n false) h (sum - n * Q) (count - 1) fewer_long gone.fit after (omega arith) (omega arith)))

    pub view_fewer : (cs vs : List Bool) (s : Site) (old : RegionView) → cs ≡ set bs q false → vs ≡ with_run us q n false → s ≡ g.space → viewed g.space a L ≡ old
        → viewed s a (blocks_of Q a cs vs) ≡ record old { live = drop_block (block_at x (Q * n)) old.live }
    view_fewer cs vs s old begins used space e =
        changed g.space s a L (blocks_of Q a cs vs) old (drop_block (block_at x (Q * n))) space (ap (λ l. blocks_of Q a l vs) begins ∙ ap (λ l. blocks_of Q a (set bs q false) l) used ∙ sym gone.dropped) e

    -- idle quanta, but for that block
    pub test_but : (k : ℕ) → 1 ≤ k → q + k ≤ N → Are false (with_run us q n false) q (q + k) → is_idle a (a + Q * N) (drop_block (block_at x (Q * n)) L) x (x + Q * k) ≡ true
    test_but k some within idle =
        let long = fewer_long in
        let low : Q * (q + k) ≤ Q * N = mul-le-mul_left Q within in
        let parts : Q * (q + k) ≡ Q * q + Q * k = mul-add Q q k in
        subst (λ l. is_idle a (a + Q * N) l x (x + Q * k) ≡ true) (sym gone.dropped)
        (idle_from_miss a (a + Q * N) L' x (x + Q * k) (omega arith) (omega arith) (omega arith) (idle_apart Q a false (set bs q false) (with_run us q n false) q k x (x + Q * k) at refl some (omega arith) gone.fit idle))

    pub bits_but : (k : ℕ) → is_idle a (a + Q * N) (drop_block (block_at x (Q * n)) L) x (x + Q * k) ≡ true → (q + k ≤ N) × Are false (with_run us q n false) q (q + k)
    bits_but k h =
        let long = fewer_long in
        let missed = miss_from_idle a (a + Q * N) L' x (x + Q * k) (omega arith) (subst (λ l. is_idle a (a + Q * N) l x (x + Q * k) ≡ true) gone.dropped h) in
        let high = missed.high in
        let parts : Q * (q + k) ≡ Q * q + Q * k = mul-add Q q k in
        let within : q + k ≤ N = le_of_mul-le-mul_left {m = q + k} {n = N} {k = Q} (omega arith) some_bytes in
        (within, apart_idle Q a (set bs q false) (with_run us q n false) q k x (x + Q * k) some_bytes at refl (omega arith) gone.fit missed.each)

    -- another size
    module _ (k : ℕ) (vs : List Bool) (some : 1 ≤ k) (within : q + k ≤ N) (idle : Are false (with_run us q n false) q (q + k)) (used : vs ≡ with_run (with_run us q n false) q k true) where
      begins_again : set (set bs q false) q true ≡ bs
      begins_again = set_again bs q is.within is.begun

      other_blocks : blocks_of Q a bs vs ≡ add_block (block_at x (Q * k)) L'
      other_blocks =
          let long = fewer_long in
          ap (λ l. blocks_of Q a l vs) (sym begins_again) ∙ ap (λ l. blocks_of Q a (set (set bs q false) q true) l) used
          ∙ blocks_added Q a false (set bs q false) (with_run us q n false) q k x at some_bytes some (omega arith) gone.fit idle

      other_bits : FitTogether false bs vs
      other_bits =
          let long = fewer_long in
          let P = λ (l : List Bool). FitTogether false l vs in
          subst P begins_again (subst (FitTogether false (set (set bs q false) q true)) (sym used) (fit_added false (set bs q false) (with_run us q n false) q k some (omega arith) gone.fit idle))

      other_long : length vs ≡ N
      other_long = let long = fewer_long in ap length used ∙ length_run (with_run us q n false) q k true (omega arith) ∙ long

      pub other_sum : (sum' : ℕ) → sum' + n * Q ≡ sum + k * Q → sum' ≡ size_sum (blocks_of Q a bs vs)
      other_sum sum' e =
          let s = fewer_sum in
          let now = ap size_sum other_blocks ∙ sum-added (block_at x (Q * k)) L' in
          omega arith

      pub other_fits : (sum' : ℕ) → sum' + n * Q ≡ sum + k * Q → sum' ≤ Q * N
      other_fits sum' e = let s = other_sum sum' e in let all = (sum_of bs vs other_long).0 in omega arith

      pub held_other : (h : GroundView) (sum' : ℕ) → sum' + n * Q ≡ sum + k * Q → IsGroundAfter g h vs → IsHeld Q N a bs vs h sum' count
      held_other h sum' e after =
          let c = fewer_count in
          let now = ap length other_blocks ∙ length-added (block_at x (Q * k)) L' in
          held_after bs vs h sum' count other_long other_bits after (other_sum sum' e) (omega arith)

      pub view_other : (s : Site) (old : RegionView) → s ≡ g.space → viewed g.space a L ≡ old
          → viewed s a (blocks_of Q a bs vs) ≡ record old { live = add_block (block_at x (Q * k)) (drop_block (block_at x (Q * n)) old.live) }
      view_other s old space e =
          changed g.space s a L (blocks_of Q a bs vs) old (λ l. add_block (block_at x (Q * k)) (drop_block (block_at x (Q * n)) l)) space
          (other_blocks ∙ ap (add_block (block_at x (Q * k))) (sym gone.dropped)) e

-- flags that are equal to bits
pub flags_are : (v : Bool) (lent us : List Bool) (i j : ℕ) → lent ≡ us → Are v us i j → Are v lent i j
flags_are v lent us i j e h = let P = λ (l : List Bool). Are v l i j in subst P (sym e) h

-- quanta that are idle in a region as contracts see it
pub idle_bits : (Q N a : ℕ) (bs us : List Bool) (g : GroundView) (sum count : ℕ) → IsHeld Q N a bs us g sum count → (old : RegionView) → viewed g.space a (blocks_of Q a bs us) ≡ old → (q n : ℕ)
    → is_idle old.first (old.first + Q * N) old.live (old.first + Q * q) (old.first + Q * q + Q * n) ≡ true → (q + n ≤ N) × Are false us q (q + n)
idle_bits Q N a bs us g sum count held old e q n h =
    let P = λ (v : RegionView). is_idle v.first (v.first + Q * N) v.live (v.first + Q * q) (v.first + Q * q + Q * n) ≡ true in
    bits_from_test Q N a bs us g sum count held q n (a + Q * q) refl (subst P (sym e) h)

-- a live block of a region as contracts see it
pub begun_of_view : (Q N a : ℕ) (bs us : List Bool) (g : GroundView) (sum count : ℕ) → IsHeld Q N a bs us g sum count → (old : RegionView) → viewed g.space a (blocks_of Q a bs us) ≡ old → (q n x : ℕ) → 1 ≤ n → x ≡ old.first + Q * q
    → size_at old.live x ≡ Q * n → (x ≡ a + Q * q) × IsBegun bs us q n
begun_of_view Q N a bs us g sum count held old e q n x some at size =
    let here : x ≡ a + Q * q = at ∙ ap (λ (v : RegionView). v.first + Q * q) (sym e) in
    (here, begun_from_size Q a bs us q n x (filled Q held.power) (fit_length false bs us held.bits) here some (ap (λ (v : RegionView). size_at v.live x) e ∙ size))

-- the bits of a block that is made shorter
pub shorter : (us : List Bool) (q n k m : ℕ) → n ≡ k + m → q + n ≤ length us → Are true us q (q + n) → Are false (with_run us q n false) q (q + k) × (with_run us (q + k) m false ≡ with_run (with_run us q n false) q k true)
shorter us q n k m e within used = (
  λ i d low high. are_run us q n false within i d low (omega arith),
  sym (front_again us q k m false true (omega arith) (λ i d low high. used i d low (omega arith))) ∙ ap (λ l. with_run (with_run us q l false) q k true) (sym e),
)

-- and of one that is made longer
pub longer : (us : List Bool) (q n k m : ℕ) → k ≡ n + m → q + k ≤ length us → Are true us q (q + n) → Are false us (q + n) (q + n + m) → Are false (with_run us q n false) q (q + k) × (with_run us (q + n) m true ≡ with_run (with_run us q n false) q k true)
longer us q n k m e within used idle = (
  λ i d low high. are_run_and_more us q n m false (omega arith) idle i d low (omega arith),
  sym (again_with_more us q n m false true (omega arith) used) ∙ ap (λ l. with_run (with_run us q n false) q l true) (sym e),
)

-- parts of a number of quanta
pub parts_of : (Q n k m : ℕ) → n ≡ k + m → Q * n ≡ Q * k + Q * m
parts_of Q n k m e = ap (λ j. Q * j) e ∙ mul-add Q k m

-- the test of idle bytes but for one block, at a region as contracts see it
pub but_same : (Q N : ℕ) (s : Site) (a : ℕ) (M : List Block) (old : RegionView) (x m m' y : ℕ) → viewed s a M ≡ old → m' ≡ m
    → is_idle a (a + Q * N) (drop_block (block_at x m) M) x y ≡ is_idle old.first (old.first + Q * N) (drop_block (block_at x m') old.live) x y
but_same Q N s a M old x m m' y e size =
    ap (λ (v : RegionView). is_idle v.first (v.first + Q * N) (drop_block (block_at x m) v.live) x y) e ∙ ap (λ n. is_idle old.first (old.first + Q * N) (drop_block (block_at x n) old.live) x y) (sym size)

-- which quantum an address is of
pub quantum_of : (Q a x : ℕ) → IsPowerOfTwo Q → a % Q ≡ 0 → x % Q ≡ 0 → a ≤ x → x ≡ a + Q * ((x - a) / Q)
quantum_of Q a x power at at' above =
    let low : a ≡ Q * (a / Q) = omega (arith, div-add-mod' a Q) in
    let high : x ≡ Q * (x / Q) = omega (arith, div-add-mod' x Q) in
    let more : a / Q ≤ x / Q = le_of_mul-le-mul_left {m = a / Q} {n = x / Q} {k = Q} (omega arith) (filled Q power) in
    let parts : Q * (x / Q) ≡ Q * (a / Q) + Q * (x / Q - a / Q) = parts_of Q (x / Q) (a / Q) (x / Q - a / Q) (omega arith) in
    let apart : x - a ≡ Q * (x / Q - a / Q) = omega arith in
    let count : (x - a) / Q ≡ x / Q - a / Q = ap (λ n. n / Q) apart ∙ mul-div_right (x / Q - a / Q) (filled Q power) in
    omega (arith, ap (λ n. Q * n) count)

pub quantum_is : (Q a x k : ℕ) → 0 < Q → x ≡ a + Q * k → ((x - a) % Q ≡ 0) × ((x - a) / Q ≡ k)
quantum_is Q a x k some at =
    let apart : x - a ≡ Q * k = omega arith in
    (ap (λ n. n % Q) apart ∙ mul-mod_right Q k, ap (λ n. n / Q) apart ∙ mul-div_right k some)

pub quantum_from : (Q a x : ℕ) → a ≤ x → (x - a) % Q ≡ 0 → x ≡ a + Q * ((x - a) / Q)
quantum_from Q a x above whole = omega (arith, div-add-mod' (x - a) Q)

-- an address at which no block begins
pub none_at : (Q a : ℕ) (bs us : List Bool) (s : Site) (old : RegionView) (x : ℕ) → viewed s a (blocks_of Q a bs us) ≡ old → ((q : ℕ) → x ≡ a + Q * q → q < length bs → get_or bs q false ≡ true → ⊥) → size_at old.live x ≡ 0
none_at Q a bs us s old x e none = ap (λ (v : RegionView). size_at v.live x) (sym e) ∙ size_none (blocks_of Q a bs us) x (none_begun Q a bs us x none)

-- a live block is whole quanta of the region
pub record IsWhole (Q a : ℕ) (old : RegionView) (b : Block) : Type 0 where
  pub above : a ≤ b.first
  pub at : b.first ≡ a + Q * ((b.first - a) / Q)
  pub long : b.size ≡ Q * (b.size / Q)
  pub some : 1 ≤ b.size / Q
  pub size : size_at old.live b.first ≡ b.size

pub whole_block : (Q N a : ℕ) (bs us : List Bool) (g : GroundView) (sum count : ℕ) → IsHeld Q N a bs us g sum count → (old : RegionView) → viewed g.space a (blocks_of Q a bs us) ≡ old → (b : Block) → has_block old.live b ≡ true → IsWhole Q a old b
whole_block Q N a bs us g sum count held old e b h =
    let row = (region_is Q N a bs us g sum count held).row in
    let M = blocks_of Q a bs us in
    let here : has_block (blocks_of Q a bs us) b ≡ true = ap (λ (v : RegionView). has_block v.live b) e ∙ h in
    let is = size_of_block Q a (a + Q * N) (blocks_of Q a bs us) b row here in
    let found = among (λ c. (a ≤ c.first) × (c.first % Q ≡ 0) × (c.size % Q ≡ 0) × (0 < c.size)) (same_block b) (blocks_of Q a bs us) (row_each Q a (a + Q * N) (blocks_of Q a bs us) row) here in
    let parts = and_parts (b.first == (found.0).first) (b.size == (found.0).size) found.2 in
    let first : b.first ≡ (found.0).first = eqb-true b.first (found.0).first parts.0 in
    let size : b.size ≡ (found.0).size = eqb-true b.size (found.0).size parts.1 in
    let low = found.1.0 in
    let long : b.size ≡ Q * (b.size / Q) = omega (arith, div-add-mod' b.size Q, ap (λ n. n % Q) size ∙ found.1.2) in
    let some = is.1 in
    record {
      above = omega arith;
      at = quantum_of Q a b.first held.power (quantum_aligned Q N a held.at) (ap (λ n. n % Q) first ∙ found.1.1) (omega arith);
      long = long;
      some = positive (b.size / Q) long some;
      size = ap (λ (v : RegionView). size_at v.live b.first) (sym e) ∙ is.0;
    }
  where
    positive : (k : ℕ) → b.size ≡ Q * k → 1 ≤ b.size → 1 ≤ k
    positive zero e' some' = absurd (omega arith)
    positive (suc k) e' some' = omega arith

-- the bytes that a block keeps where it is made shorter are idle but for it
pub shrunk_test : (Q N a : ℕ) (bs us : List Bool) (g : GroundView) (sum count : ℕ) → IsHeld Q N a bs us g sum count → (old : RegionView) → viewed g.space a (blocks_of Q a bs us) ≡ old → (q had n x m : ℕ) → 1 ≤ n → n ≤ had → x ≡ old.first + Q * q
    → size_at old.live x ≡ Q * had → m ≡ Q * had → is_idle old.first (old.first + Q * N) (drop_block (block_at x m) old.live) x (x + Q * n) ≡ true
shrunk_test Q N a bs us g sum count held old e q had n x m some fewer at size long =
    let is = begun_of_view Q N a bs us g sum count held old e q had x (omega arith) at size in
    let within = gone_within Q N a bs us g sum count held q had x is.0 is.1 in
    let used = gone_used Q N a bs us g sum count held q had x is.0 is.1 in
    let count_is = held.quanta in
    let short = shorter us q had n (had - n) (omega arith) (omega arith) used in
    sym (but_same Q N g.space a (blocks_of Q a bs us) old x (Q * had) m (x + Q * n) e long) ∙ test_but Q N a bs us g sum count held q had x is.0 is.1 n some (omega arith) short.0

-- and they are kept
pub kept_bytes : (xs ys : List ℕ) (k m : ℕ) → ys ≡ take k xs → k ≤ m → take (min m k) ys ≡ take (min m k) xs
kept_bytes xs ys k m e low =
    let least : min m k ≡ k = omega arith in
    ap (λ j. take j ys) least ∙ ap (λ l. take k l) e ∙ take-take k k xs (omega arith) ∙ ap (λ j. take j xs) (sym least)

-- an alignment of at least a quantum is so many quanta
pub step_of : (Q al : ℕ) → IsPowerOfTwo Q → (al ≡ Q) ⊎ (IsPowerOfTwo al × IsFrom Q 16384 al) → IsFrom 1 16384 (al / Q) × (al ≡ Q * (al / Q))
step_of Q al power (inl same) =
    let one : al / Q ≡ 1 = ap (λ n. n / Q) (same ∙ sym (mul-one Q)) ∙ mul-div_right 1 (filled Q power) in
    ((omega arith, omega arith), same ∙ sym (mul-one Q) ∙ ap (λ n. Q * n) (sym one))
step_of Q al power (inr other) =
    let i = power.0 in
    let j = other.0.0 in
    let low = other.1.0 in
    let high = other.1.1 in
    let more : power.0 ≤ other.0.0 = elim (cases_lt other.0.0 power.0) [
      | inr up ↦ up
      | inl down ↦
          let steps : 2 ^ (other.0.0 + 1) ≤ 2 ^ power.0 = pow-le-pow_right (omega arith) (omega arith) in
          let twice : 2 ^ (other.0.0 + 1) ≡ 2 ^ other.0.0 * 2 ^ 1 = pow-add 2 other.0.0 1 in
          let some = pow_pos other.0.0 in
          let q = power.1 in
          let l = other.0.1 in
          absurd (omega arith)
    ] in
    let times : al ≡ Q * 2 ^ (other.0.0 - power.0) =
    let whole : power.0 + (other.0.0 - power.0) ≡ other.0.0 = omega arith in
    other.0.1 ∙ ap (λ k. 2 ^ k) (sym whole) ∙ pow-add 2 power.0 (other.0.0 - power.0) ∙ ap (λ n. n * 2 ^ (other.0.0 - power.0)) (sym power.1) in
    let count : al / Q ≡ 2 ^ (other.0.0 - power.0) = ap (λ n. n / Q) times ∙ mul-div_right (2 ^ (other.0.0 - power.0)) (filled Q power) in
    let some = pow_pos (other.0.0 - power.0) in
    let few : 1 * 2 ^ (other.0.0 - power.0) ≤ Q * 2 ^ (other.0.0 - power.0) = mul-le-mul_right (2 ^ (other.0.0 - power.0)) (filled Q power) in
    ((omega arith, omega arith), times ∙ ap (λ n. Q * n) (sym count))
