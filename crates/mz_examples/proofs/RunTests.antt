-- Short ways to show that a record of a worked run fits, and that one doesn't.
use Rattle.std.proofs.Common.{◌≡◌, ℕ, zero, suc, ◌+◌, ◌≤◌, true, false, List, [], ◌∷◌, ◌++◌, Option, Some, None, ap, sym, refl, ◌∙◌, arith, inl, inr, append_assoc}
use Rattle.std.specs.Prelude.{not}
use Rattle.std.specs.List.{list_all, list_any}
use Rattle.std.proofs.lemmas.Bool.{false≢true, or_right}
use Rattle.std.proofs.lemmas.List.{map-append}
use Rattle.mz_base.specs.declared.profile.Profile.{Profile}
use Rattle.mz_base.specs.Space.{Block}
use Rattle.mz_events.specs.declared.place.Place.{Place}
use Rattle.mz_events.specs.declared.entry.Entry.{Entry}
use Rattle.mz_events.specs.declared.event.Event.{Event}
use Rattle.mz_events.specs.declared.event.Event.TheVariants.{Take, Back, Move, New, End, Size, Full, Dry, No, Open, Shut}
use Rattle.mz_lines.specs.declared.answer.Answer.{Answer}
use Rattle.mz_lines.specs.declared.answer.Answer.TheVariants as answers
use Rattle.mz_record.specs.Moments.{duty_left}
use Rattle.mz_record.specs.Served.{is_dry, events, IsUndisturbed, Request, IsServed, Serves, ServeInTurn}
use Rattle.mz_record.specs.Dropped.{IsDropped}
use Rattle.mz_examples.proofs.UndisturbedTest.{all_at, flipped}
use Rattle.mz_examples.proofs.ServedTests.{last_of, is_new, is_in_order, ends_well, served_ends, served_in_order}

-- without a dry nothing is disturbed
pub calm : (p : Profile) (h : List Entry) (c : ℕ) (es : List Entry) → list_all (λ e. not (is_dry e.event)) es ≡ true → IsUndisturbed p h c es
calm p h c es none x j at_x there within =
    absurd (flipped (is_dry within.dry.event) within.is_dry (all_at (λ (y : Entry). not (is_dry y.event)) es within.dry none within.has_dry))

-- so a request is served as it stands
pub serves : {p : Profile} {h : List Entry} {q : Request} {es : List Entry} {got : Option Block} → list_all (λ e. not (is_dry e.event)) es ≡ true → IsServed p h q es got → Serves p h q es got
serves {p = p} {h = h} {q = q} {es = es} none served = record { served = served; undisturbed = calm p h q.caller es none }

-- entries in no order of the eight ways serve nothing
pub out_of_order : {p : Profile} {h : List Entry} {q : Request} {es : List Entry} {got : Option Block} → Serves p h q es got → is_in_order (events es) ≡ false → ⊥
out_of_order {p = p} {h = h} {q = q} {es = es} {got = got} s wrong = false≢true (sym wrong ∙ served_in_order p q es h got s.served)

-- nor do entries that end in another event than one that gives the block, or none
pub ends_ill : {p : Profile} {h : List Entry} {q : Request} {es : List Entry} {got : Option Block} → Serves p h q es got → ends_well p q (last_of (events es)) got ≡ false → ⊥
ends_ill {p = p} {h = h} {q = q} {es = es} {got = got} s wrong = false≢true (sym wrong ∙ served_ends p q es h got s.served)

-- so many blocks are made
abbrev pub count_new : List Event → ℕ
count_new [] = 0
count_new (e ∷ es) = (elim (is_new e) [ true ↦ 1 | false ↦ 0 ]) + count_new es

count_behind : (xs ys : List Event) → count_new (xs ++ ys) ≡ count_new xs + count_new ys
count_behind [] ys = omega arith
count_behind (x ∷ xs) ys = let rest = count_behind xs ys in omega (arith, rest)

last_counts : (p : Profile) (q : Request) (b : Block) (xs : List Event) → ends_well p q (last_of xs) (Some b) ≡ true → 1 ≤ count_new xs
last_counts p q b [] well = absurd (false≢true well)
last_counts p q b (New k a s al ∷ []) well = omega arith
last_counts p q b (Take k f w ∷ []) well = absurd (false≢true well)
last_counts p q b (Back k f w ∷ []) well = absurd (false≢true well)
last_counts p q b (Move f j k ∷ []) well = absurd (false≢true well)
last_counts p q b (End k a s ∷ []) well = absurd (false≢true well)
last_counts p q b (Size k a s t ∷ []) well = absurd (false≢true well)
last_counts p q b (Full k n al ∷ []) well = absurd (false≢true well)
last_counts p q b (Dry z w al ∷ []) well = absurd (false≢true well)
last_counts p q b (No k z a s ∷ []) well = absurd (false≢true well)
last_counts p q b (Open z ∷ []) well = absurd (false≢true well)
last_counts p q b (Shut z ∷ []) well = absurd (false≢true well)
last_counts p q b (x ∷ y ∷ xs) well = let rest = last_counts p q b (y ∷ xs) well in omega (arith, rest)

-- Requests that are served in turn, all of them, make as many blocks.
pub all_served :
    (p : Profile) (h : List Entry) (q : Request) (k : ℕ) (es : List Entry) → ((front back : List Entry) → es ≡ front ++ back → Serves p h q back None → ⊥)
    → ServeInTurn p h q k es → k ≤ count_new (events es)
all_served p h q zero es no_null none = omega arith
all_served p h q (suc k) es no_null (inl null) = absurd (no_null [] es refl null)
all_served p h q (suc k) es no_null (inr (front, back, b, whole, served, rest)) =
    let one : 1 ≤ count_new (events front) = last_counts p q b (events front) (served_ends p q front h (Some b) served.served) in
    let others : k ≤ count_new (events back) =
    all_served p h q k back
    (λ more last same null. no_null (front ++ more) last (whole ∙ ap (λ (xs : List Entry). front ++ xs) same ∙ sym (append_assoc front more last)) null) rest in
    let both : count_new (events es) ≡ count_new (events front) + count_new (events back) =
    ap (λ (xs : List Entry). count_new (events xs)) whole ∙ ap count_new (map-append (λ (d : Entry). d.event) front back) ∙ count_behind (events front) (events back) in
    omega (arith, one, others, both)

null_is_dry : (p : Profile) (q : Request) (xs : List Event) → ends_well p q (last_of xs) None ≡ true → list_any is_dry xs ≡ true
null_is_dry p q [] well = absurd (false≢true well)
null_is_dry p q (Dry z w al ∷ []) well = refl
null_is_dry p q (New k a s al ∷ []) well = absurd (false≢true well)
null_is_dry p q (Take k f w ∷ []) well = absurd (false≢true well)
null_is_dry p q (Back k f w ∷ []) well = absurd (false≢true well)
null_is_dry p q (Move f j k ∷ []) well = absurd (false≢true well)
null_is_dry p q (End k a s ∷ []) well = absurd (false≢true well)
null_is_dry p q (Size k a s t ∷ []) well = absurd (false≢true well)
null_is_dry p q (Full k n al ∷ []) well = absurd (false≢true well)
null_is_dry p q (No k z a s ∷ []) well = absurd (false≢true well)
null_is_dry p q (Open z ∷ []) well = absurd (false≢true well)
null_is_dry p q (Shut z ∷ []) well = absurd (false≢true well)
null_is_dry p q (x ∷ y ∷ xs) well = or_right (is_dry x) (list_any is_dry (y ∷ xs)) (null_is_dry p q (y ∷ xs) well)

dry_behind : (xs ys : List Event) → list_any is_dry ys ≡ true → list_any is_dry (xs ++ ys) ≡ true
dry_behind [] ys dry = dry
dry_behind (x ∷ xs) ys dry = or_right (is_dry x) (list_any is_dry (xs ++ ys)) (dry_behind xs ys dry)

-- without a dry no request gets none
pub no_null :
    (p : Profile) (h : List Entry) (q : Request) (es : List Entry) → list_any is_dry (events es) ≡ false → (front back : List Entry) → es ≡ front ++ back
    → Serves p h q back None → ⊥
no_null p h q es calm front back whole null =
    let dry : list_any is_dry (events back) ≡ true = null_is_dry p q (events back) (served_ends p q back h None null.served) in
    let all : list_any is_dry (events es) ≡ true =
    ap (λ (xs : List Entry). list_any is_dry (events xs)) whole ∙ ap (list_any is_dry) (map-append (λ (d : Entry). d.event) front back)
    ∙ dry_behind (events front) (events back) dry in
    false≢true (sym calm ∙ all)

-- no entry drops nothing
pub nothing_dropped : (p : Profile) (h : List Entry) (b : Block) (front back : List Entry) → [] ≡ front ++ back → IsDropped p h b front → ⊥
nothing_dropped p h b [] back whole dropped = dropped
nothing_dropped p h b (x ∷ xs) back whole dropped = cc

-- the size in an answer
abbrev pub size_answered : Answer → ℕ
size_answered (answers.Block a s) = s
size_answered _ = 0

-- A block whose end leaves no duty is dropped by that one entry.
pub record DroppedAlone (p : Profile) (h : List Entry) (b : Block) (e : Entry) (rest back : List Entry) : Type 0 where
  pub place : Place
  pub event : e.event ≡ End place b.first b.size
  pub others : back ≡ rest

pub dropped_alone :
    (p : Profile) (h : List Entry) (b : Block) (e : Entry) (rest front back : List Entry) → duty_left p h e ≡ None → e ∷ rest ≡ front ++ back → IsDropped p h b front
    → DroppedAlone p h b e rest back
dropped_alone p h b e rest [] back none whole dropped = absurd dropped
dropped_alone p h b e rest (x ∷ []) back none whole dropped =
    let same : e ≡ x = cc in
    let others : back ≡ rest = cc in
    record { place = dropped.0; event = ap (λ (d : Entry). d.event) same ∙ dropped.1; others = others }
dropped_alone p h b e rest (x ∷ y ∷ xs) back none whole dropped =
    let same : e ≡ x = cc in
    let left : ◌≡◌ {A = Option Event} None (Some y.event) = sym none ∙ ap (λ (d : Entry). duty_left p h d) same ∙ dropped.2.0.duty in
    (cc)
