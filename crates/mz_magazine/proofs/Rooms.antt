-- Room in a region, whose idle runs begin at quanta.
use Rattle.std.proofs.Common.{◌≡◌, ℕ, ◌+◌, ◌-◌, ◌*◌, ◌/◌, ◌%◌, ◌^◌, ◌<◌, ◌≤◌, ◌⊎◌, List, [], ◌∷◌, Bool, true, false, Option, Some, None, MatchOption, is_some, Result, Ok, Err, MatchResult, is_ok, refl, sym, ap, ◌∙◌, inl, inr, mul-add, arith}
use Rattle.std.specs.Prelude.{map, ◌&&◌, ◌==◌, IsTrue}
use Rattle.std.specs.Bool.{MatchBool}
use Rattle.std.specs.List.{All}
use Rattle.std.specs.Int.{IsPowerOfTwo}
use Rattle.std.proofs.Math.Nat.{mul-le-mul_left, mul-le-mul_right, mul-mod_left, add-mul-mod_self_left, pow-le-pow_right, zero-mod}
use Rattle.std.proofs.lemmas.Nat.{div-add-mod', pow_pos, pow-add}
use Rattle.std.proofs.lemmas.Bool.{cases_lt, false_from_ne_true, false≢true}
use Rattle.std.proofs.lemmas.List.Elements.{All-nil, All-cons, All-weaker}
use Rattle.mz_base.specs.Space.{Block, block_at, block_end, least_multiple}
use Rattle.mz_base.specs.Lists.{add_block}
use Rattle.mz_base.specs.Room.{is_idle, starts_from, has_room_within_from, has_room_within, is_front_within}
use Rattle.mz_ground.specs.Views.{SpanView}
use Rattle.mz_region.specs.Views.{RegionView, AreInRow, IsRegion, IsNewBlock}
use Rattle.mz_magazine.proofs.Idle.{any_agree, meets_less, idle_is_room, room_is_idle, multiple_above, multiple_same}
use Rattle.mz_magazine.proofs.Lists.{all_but_inserted}

-- a power of two is at least 1
pub power_some : (m : ℕ) → IsPowerOfTwo m → 1 ≤ m
power_some m h = let k = pow_pos h.0 in let is = h.1 in omega arith

-- of two powers of two, the greater is a multiple of the less
pub power_divides : (m n : ℕ) → IsPowerOfTwo m → IsPowerOfTwo n → m ≤ n → (k : ℕ) × (n ≡ m * k)
power_divides m n hm hn up =
    let more : hm.0 ≤ hn.0 = elim (cases_lt hn.0 hm.0) [
      | inr more ↦ more
      | inl fewer ↦
          let steps : 2 ^ (hn.0 + 1) ≤ 2 ^ hm.0 = pow-le-pow_right (omega arith) (omega arith) in
          let twice : 2 ^ (hn.0 + 1) ≡ 2 ^ hn.0 * 2 ^ 1 = pow-add 2 hn.0 1 in
          let some = pow_pos hn.0 in
          let is_m = hm.1 in
          let is_n = hn.1 in
          absurd (omega arith)
    ] in
    let whole : hm.0 + (hn.0 - hm.0) ≡ hn.0 = omega arith in
    (2 ^ (hn.0 - hm.0), hn.1 ∙ ap (λ k. 2 ^ k) (sym whole) ∙ pow-add 2 hm.0 (hn.0 - hm.0) ∙ ap (λ j. j * 2 ^ (hn.0 - hm.0)) (sym hm.1))

-- a multiple of a multiple is one
pub multiple_of : (m k x : ℕ) → x % (m * k) ≡ 0 → x % m ≡ 0
multiple_of m k x whole =
    let all : x ≡ 0 + m * (k * (x / (m * k))) = omega (arith, div-add-mod' x (m * k)) in
    ap (λ n. n % m) all ∙ add-mul-mod_self_left 0 m (k * (x / (m * k))) ∙ zero-mod m

-- each start of an idle run of a region is at a quantum
abbrev pub AtQuantum : ℕ → ℕ → Type 0
AtQuantum Q x = x % Q ≡ 0

pub quantum_end : (Q : ℕ) (b : Block) → b.first % Q ≡ 0 → b.size % Q ≡ 0 → block_end b % Q ≡ 0
quantum_end Q b first size =
    let parts : b.size ≡ Q * (b.size / Q) = omega (arith, div-add-mod' b.size Q) in
    ap (λ k. (b.first + k) % Q) parts ∙ add-mul-mod_self_left b.first Q (b.size / Q) ∙ first

ends_at_quanta : (Q s e : ℕ) (L : List Block) → AreInRow Q s e L → All (AtQuantum Q) (map block_end L)
ends_at_quanta Q s e [] row = All-nil (AtQuantum Q)
ends_at_quanta Q s e (b ∷ bs) row = All-cons (AtQuantum Q) (block_end b) (map block_end bs) (quantum_end Q b row.1 row.3) (ends_at_quanta Q (block_end b) e bs row.4)

pub starts_at_quanta : (Q N : ℕ) (r : RegionView) → IsRegion Q N r → All (AtQuantum Q) (starts_from r.first r.live)
starts_at_quanta Q N r h =
    All-cons (AtQuantum Q) r.first (map block_end r.live) (multiple_of Q N r.first h.at) (ends_at_quanta Q r.first (r.first + Q * N) r.live h.row)

-- at a multiple of which a quantum is one, room and fronts are those at quanta
same_start : (Q al k x : ℕ) → 1 ≤ Q → 1 ≤ al → Q ≡ al * k → x % Q ≡ 0 → least_multiple al x ≡ least_multiple Q x
same_start Q al k x some step whole at =
    multiple_same al x step (multiple_of al k x (ap (λ m. x % m) (sym whole) ∙ at)) ∙ sym (multiple_same Q x some at)

pub same_room : (Q N al k n : ℕ) (r : RegionView) → IsRegion Q N r → 1 ≤ al → Q ≡ al * k → has_room_within r.first (r.first + Q * N) r.live n al ≡ has_room_within r.first (r.first + Q * N) r.live n Q
same_room Q N al k n r h step whole =
    any_agree (has_room_within_from r.first (r.first + Q * N) r.live n al) (has_room_within_from r.first (r.first + Q * N) r.live n Q) (starts_from r.first r.live)
    (All-weaker (AtQuantum Q) (λ x. has_room_within_from r.first (r.first + Q * N) r.live n al x ≡ has_room_within_from r.first (r.first + Q * N) r.live n Q x)
    (λ x at. ap (λ f. is_idle r.first (r.first + Q * N) r.live x (f + n)) (same_start Q al k x (power_some Q h.power) step whole at))
    (starts_from r.first r.live) (starts_at_quanta Q N r h))

pub same_front : (Q N al k : ℕ) (b : Block) (r : RegionView) → IsRegion Q N r → 1 ≤ al → Q ≡ al * k → is_front_within r.first (r.first + Q * N) r.live b al ≡ is_front_within r.first (r.first + Q * N) r.live b Q
same_front Q N al k b r h step whole =
    let test : ℕ → ℕ → Bool = λ m x. (least_multiple m x == b.first) && has_room_within_from r.first (r.first + Q * N) r.live b.size m x in
    any_agree (test al) (test Q) (starts_from r.first r.live)
    (All-weaker (AtQuantum Q) (λ x. test al x ≡ test Q x)
    (λ x at. ap (λ f. (f == b.first) && is_idle r.first (r.first + Q * N) r.live x (f + b.size)) (same_start Q al k x (power_some Q h.power) step whole at))
    (starts_from r.first r.live) (starts_at_quanta Q N r h))

-- a region has no more quanta than all
pub none_beyond : (Q N s : ℕ) (L : List Block) → 1 ≤ Q → has_room_within s (s + Q * N) L (Q * (N + 1)) Q ≡ false
none_beyond Q N s L some =
    false_from_ne_true (has_room_within s (s + Q * N) L (Q * (N + 1)) Q) (λ h.
    let more : Q * (N + 1) ≡ Q * N + Q * 1 = mul-add Q N 1 in
    let found = room_is_idle (λ x. x ≡ x) s (s + Q * N) L (Q * (N + 1)) Q (omega arith) some (λ k d _. refl) h in
    let up = multiple_above Q found.0 some in
    let low = found.2.not_below in
    let high = found.2.not_above in
    absurd (omega arith))

-- where there is no room for some quanta, there is none for more, at whatever multiple
pub none_for_more : (Q N m n al : ℕ) (r : RegionView) → IsRegion Q N r → 1 ≤ al → 1 ≤ m → m ≤ n → has_room_within r.first (r.first + Q * N) r.live (Q * m) Q ≡ false → has_room_within r.first (r.first + Q * N) r.live (Q * n) al ≡ false
none_for_more Q N m n al r h step some more none =
    let quantum = power_some Q h.power in
    let few : Q * m ≤ Q * n = mul-le-mul_left Q more in
    let one : Q * 1 ≤ Q * m = mul-le-mul_left Q some in
    false_from_ne_true (has_room_within r.first (r.first + Q * N) r.live (Q * n) al) (λ room.
    let found = room_is_idle (AtQuantum Q) r.first (r.first + Q * N) r.live (Q * n) al (omega arith) step (starts_at_quanta Q N r h) room in
    let up = multiple_above al found.0 step in
    let high = found.2.not_above in
    let there = idle_is_room r.first (r.first + Q * N) r.live (Q * m) Q found.0 (omega arith) quantum found.1 (record {
      some = omega arith;
      not_below = found.2.not_below;
      not_above = omega arith;
      meets_none = meets_less r.live found.0 found.0 (found.0 + Q * m) (least_multiple al found.0 + Q * n) (omega arith) (omega arith) found.2.meets_none;
    }) in
    false≢true (sym none ∙ there))

-- nor with a block more
pub none_with_more : (s e : ℕ) (L : List Block) (b : Block) (n al : ℕ) → 1 ≤ n → 1 ≤ al → has_room_within s e L n al ≡ false → has_room_within s e (add_block b L) n al ≡ false
none_with_more s e L b n al some step none =
    false_from_ne_true (has_room_within s e (add_block b L) n al) (λ room.
    let found = room_is_idle (λ x. x ≡ x) s e (add_block b L) n al some step (λ k d _. refl) room in
    let up = multiple_above al found.0 step in
    let low = found.2.not_below in
    let fewer = all_but_inserted (λ c. (block_end c ≤ found.0) ⊎ (least_multiple al found.0 + n ≤ c.first)) (λ c. c.first) b L found.2.meets_none in
    let there = idle_is_room s e L n al (least_multiple al found.0) some step (mul-mod_left ((found.0 + al - 1) / al) al) (record {
      some = omega arith;
      not_below = omega arith;
      not_above = found.2.not_above;
      meets_none = meets_less L found.0 (least_multiple al found.0) (least_multiple al found.0 + n) (least_multiple al found.0 + n) up (omega arith) fewer;
    }) in
    false≢true (sym none ∙ there))

-- a member that lacks some quanta still does with a block more
pub lacks_still : (Q N lacks n : ℕ) (old new : RegionView) (s : SpanView) → 1 ≤ Q → 1 ≤ lacks → IsNewBlock old s n new → has_room_within old.first (old.first + Q * N) old.live (Q * lacks) Q ≡ false → has_room_within new.first (new.first + Q * N) new.live (Q * lacks) Q ≡ false
lacks_still Q N lacks n old new s some more block none =
    let few : Q * 1 ≤ Q * lacks = mul-le-mul_left Q more in
    ap (λ (v : RegionView). has_room_within v.first (v.first + Q * N) v.live (Q * lacks) Q) block.live
    ∙ none_with_more old.first (old.first + Q * N) old.live (block_at s.first n) (Q * lacks) Q (omega arith) some none

-- the number of a region's quanta fits the machine, with room to spare
pub few_quanta : (Q N : ℕ) (r : RegionView) → IsRegion Q N r → (N < 2 ^ 63) × (Q * N < 2 ^ 63)
few_quanta Q N r h =
    let inside = h.inside in
    let small = h.small in
    let least : 1 * N ≤ Q * N = mul-le-mul_right N (power_some Q h.power) in
    (omega arith, omega arith)

-- the region has an idle run of n quanta at al
abbrev pub room : ℕ → ℕ → RegionView → ℕ → ℕ → Bool
room Q N r n al = has_room_within r.first (r.first + Q * N) r.live (Q * n) al

-- what a call leaves that answers None where it changes nothing, and else has made a block, lacks what it did
pub lacks_kept : (Q N lacks n : ℕ) (old new : RegionView) (r : Option SpanView) (P : Type 0) (R : SpanView → Type 0) → MatchOption r P R → (P → new ≡ old) → ((s : SpanView) → R s → IsNewBlock old s n new) → 1 ≤ Q → 1 ≤ lacks → room Q N old lacks Q ≡ false → room Q N new lacks Q ≡ false
lacks_kept Q N lacks n old new None P R said same made some more none = ap (λ (v : RegionView). room Q N v lacks Q) (same said) ∙ none
lacks_kept Q N lacks n old new (Some s) P R said same made some more none = lacks_still Q N lacks n old new s some more (made s said) none

-- what it answers at quanta, and at what a quantum is a multiple of
abbrev pub Answers : ℕ → ℕ → ℕ → ℕ → RegionView → RegionView → Option SpanView → Type 0
Answers Q N n al old new r =
    MatchOption r ((new ≡ old) × (IsTrue (room Q N old n al) → ⊥))
    (λ s. IsTrue (is_front_within old.first (old.first + Q * N) old.live (block_at s.first (Q * n)) al) × IsNewBlock old s (Q * n) new)

pub answers_below : (Q N n al k : ℕ) (old new : RegionView) (r : Option SpanView) → IsRegion Q N old → 1 ≤ al → Q ≡ al * k → Answers Q N n Q old new r → Answers Q N n al old new r
answers_below Q N n al k old new None h step whole said = (said.0, λ there. said.1 (sym (same_room Q N al k (Q * n) old h step whole) ∙ there))
answers_below Q N n al k old new (Some s) h step whole said = (same_front Q N al k (block_at s.first (Q * n)) old h step whole ∙ said.0, said.1)

-- what was found unable to serve is kept in mind
pub found_lacking : (Q N n : ℕ) (old new : RegionView) (r : Option SpanView) → Answers Q N n Q old new r → is_some r ≡ false → room Q N new n Q ≡ false
found_lacking Q N n old new None said none = ap (λ (v : RegionView). room Q N v n Q) said.0 ∙ false_from_ne_true (room Q N old n Q) said.1
found_lacking Q N n old new (Some s) said none = absurd (false≢true (sym none))

-- an error, and a false, change nothing
pub kept_on_error : {E : Type 0} (r : Result (Unit {0}) E) (P : Type 0) (R : E → Type 0) (X : Type 0) → MatchResult r (λ _. P) R → is_ok r ≡ false → ((e : E) → R e → X) → X
kept_on_error (Ok _) P R X said failed f = absurd (false≢true (sym failed))
kept_on_error (Err e) P R X said failed f = f e said

pub kept_on_false : (r : Bool) (P R : Type 0) → MatchBool r P R → r ≡ false → R
kept_on_false true P R said failed = absurd (false≢true (sym failed))
kept_on_false false P R said failed = said
