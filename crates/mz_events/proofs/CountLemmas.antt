-- The regions of each range are counted beside the free pages: the counts stay right under each event that fits.
use Rattle.std.proofs.Common.{◌≡◌, ℕ, ◌+◌, ◌-◌, Bool, true, false, cond, List, [], ◌∷◌, length, refl, ap, sym, ◌∙◌, arith, suc}
use Rattle.std.specs.Prelude.{◌||◌}
use Rattle.std.specs.List.{list_any}
use Rattle.std.proofs.lemmas.Bool.{or_left, or_right, false_from_ne_true, cond-false}
use Rattle.mz_base.specs.declared.profile.Profile.{Profile}
use Rattle.mz_base.specs.Space.{Run, run_at, run_end, same_run}
use Rattle.mz_base.specs.Lists.{add_run, drop_run}
use Rattle.mz_events.specs.declared.place.Place.{Place}
use Rattle.mz_events.specs.declared.place.Place.TheVariants.{Pages}
use Rattle.mz_events.specs.declared.event.Event.{Event}
use Rattle.mz_events.specs.declared.event.Event.TheVariants.{Take, Back, Move, New, End, Size, Full, Dry, No, Open, Shut}
use Rattle.mz_events.specs.declared.entry.Entry.{Entry}
use Rattle.mz_events.specs.Places.{is_tiny, is_small, Spot, same_spot, spot_of, place_of}
use Rattle.mz_events.specs.State.{Kept, Value, State, value_at, kept_at, look_up, opening}
use Rattle.mz_events.specs.Changes.{one_for, region_at}
use Rattle.mz_events.specs.Effect.{value_after, after}
use Rattle.mz_events.specs.Rules.{Fits}
use Rattle.mz_events.specs.History.{AreLawful, after_all, after_entry}
use Rattle.mz_events.proofs.SpotLemmas.{same_spot-true, same_spot-refl}
use Rattle.mz_events.proofs.LocalityLemmas.{value_at-touched}
use Rattle.mz_events.proofs.InOrderLemmas.{length_insert, length_without}
use Rattle.mz_events.proofs.SoundLemmas.{same_run-is, same_run-self, place_of-spot}
use Rattle.mz_events.proofs.FactLemmas.{pair_range, pair_differ, runs_of_taker, not_pages, fits_take, fits_back}
use Rattle.mz_events.proofs.SeparationLemmas.{IsApart, apart_after, apart_at_first, changes_runs, runs_same, take_at, take_at_pages, back_at, back_at_pages, move_facts, move_from, move_to, move_pages, runs_stay}
use Rattle.mz_events.proofs.ListedLemmas.{run_count, counted, counted_after-same, counted_after-two}

first_touched : (j k : Spot) → list_any (same_spot j) (j ∷ k ∷ []) ≡ true
first_touched j k = or_left (same_spot j j) (same_spot j k || false) (same_spot-refl j)

second_touched : (j k : Spot) → list_any (same_spot k) (j ∷ k ∷ []) ≡ true
second_touched j k = or_right (same_spot k j) (same_spot k k || false) (or_left (same_spot k k) false (same_spot-refl k))

other_spot : (j k : Spot) → (j ≡ k → ⊥) → same_spot k j ≡ false
other_spot j k h = false_from_ne_true (same_spot k j) (λ t. h (sym (same_spot-true k j t)))

one_more : (b : Bool) (m n : ℕ) → m ≡ suc n → cond b m 0 ≡ cond b n 0 + one_for b
one_more true m n e = omega arith
one_more false m n e = omega arith

-- the runs of one kind of place
module _ (kind : Place → Bool) where
  abbrev pub of_kind : Spot → Bool
  of_kind j = kind (place_of j)

  module _ (p : Profile) (s : State) (c : ℕ) (h : IsApart p s) where
    at_kind : (k : Place) → of_kind (spot_of k) ≡ kind k
    at_kind k = ap kind (place_of-spot k 0)

    count_none : kind Pages ≡ false → (v : Value) → run_count of_kind (spot_of Pages) v ≡ 0
    count_none none v = cond-false (kind Pages) (length v.kept.runs) 0 none

    count_take : (k : Place) (f w : ℕ) → Fits p s c (Take k f w) → kind Pages ≡ false → counted of_kind (after p s c (Take k f w)).values ≡ counted of_kind s.values + one_for (kind k)
    count_take k f w fits none =
        let facts = fits_take p s c k f w fits in
        let new : (value_after s c (Take k f w) (spot_of k)).kept.runs ≡ add_run (run_at f w) (kept_at s (spot_of k)).runs = ap (λ (v : Value). v.kept.runs) (sym (value_at-touched p s c (Take k f w) (spot_of k) (first_touched (spot_of k) (spot_of Pages)))) ∙ ap (λ (x : Kept). x.runs) (take_at p s c h k f w fits) in
        let longer : length (value_after s c (Take k f w) (spot_of k)).kept.runs ≡ suc (length (kept_at s (spot_of k)).runs) = ap length new ∙ length_insert (λ (t : Run). t.first) (run_at f w) (kept_at s (spot_of k)).runs in
        let more = one_more (of_kind (spot_of k)) (length (value_after s c (Take k f w) (spot_of k)).kept.runs) (length (kept_at s (spot_of k)).runs) longer in
        let one : one_for (of_kind (spot_of k)) ≡ one_for (kind k) = ap one_for (at_kind k) in
        let two = counted_after-two of_kind p s c (Take k f w) (spot_of k) (spot_of Pages) refl (other_spot (spot_of k) (spot_of Pages) (not_pages (spot_of k) (runs_of_taker k facts.kind))) in
        let x = count_none none (value_at s (spot_of Pages)) in
        let y = count_none none (value_after s c (Take k f w) (spot_of Pages)) in
        omega (arith, more, one, two, x, y)

    count_back : (k : Place) (f w : ℕ) → Fits p s c (Back k f w) → kind Pages ≡ false → counted of_kind (after p s c (Back k f w)).values + one_for (kind k) ≡ counted of_kind s.values
    count_back k f w fits none =
        let facts = fits_back p s c k f w fits in
        let new : (value_after s c (Back k f w) (spot_of k)).kept.runs ≡ drop_run (run_at f w) (kept_at s (spot_of k)).runs = ap (λ (v : Value). v.kept.runs) (sym (value_at-touched p s c (Back k f w) (spot_of k) (first_touched (spot_of k) (spot_of Pages)))) ∙ ap (λ (x : Kept). x.runs) (back_at p s c h k f w fits) in
        let shorter : length (kept_at s (spot_of k)).runs ≡ suc (length (value_after s c (Back k f w) (spot_of k)).kept.runs) = sym (ap suc (ap length new) ∙ length_without (λ (t : Run). t.first) run_end same_run same_run-is same_run-self (kept_at s (spot_of k)).runs (run_at f w) (h.sound (spot_of k)).run_order facts.there) in
        let more = one_more (of_kind (spot_of k)) (length (kept_at s (spot_of k)).runs) (length (value_after s c (Back k f w) (spot_of k)).kept.runs) shorter in
        let one : one_for (of_kind (spot_of k)) ≡ one_for (kind k) = ap one_for (at_kind k) in
        let two = counted_after-two of_kind p s c (Back k f w) (spot_of k) (spot_of Pages) refl (other_spot (spot_of k) (spot_of Pages) (not_pages (spot_of k) facts.kind)) in
        let x = count_none none (value_at s (spot_of Pages)) in
        let y = count_none none (value_after s c (Back k f w) (spot_of Pages)) in
        omega (arith, more, one, two, x, y)

    count_move : (f : ℕ) (from to : Place) → Fits p s c (Move f from to) → kind from ≡ kind to → counted of_kind (after p s c (Move f from to)).values ≡ counted of_kind s.values
    count_move f from to fits same =
        let e = Move f from to in
        let facts = move_facts p s c h f from to fits in
        let r = region_at (kept_at s (spot_of from)).runs f in
        let new : (value_after s c e (spot_of to)).kept.runs ≡ add_run r (kept_at s (spot_of to)).runs = ap (λ (v : Value). v.kept.runs) (sym (value_at-touched p s c e (spot_of to) (second_touched (spot_of from) (spot_of to)))) ∙ ap (λ (x : Kept). x.runs) (move_to p s c h f from to fits) in
        let old : (value_after s c e (spot_of from)).kept.runs ≡ drop_run r (kept_at s (spot_of from)).runs = ap (λ (v : Value). v.kept.runs) (sym (value_at-touched p s c e (spot_of from) (first_touched (spot_of from) (spot_of to)))) ∙ ap (λ (x : Kept). x.runs) (move_from p s c h f from to fits) in
        let longer : length (value_after s c e (spot_of to)).kept.runs ≡ suc (length (kept_at s (spot_of to)).runs) = ap length new ∙ length_insert (λ (t : Run). t.first) r (kept_at s (spot_of to)).runs in
        let shorter : length (kept_at s (spot_of from)).runs ≡ suc (length (value_after s c e (spot_of from)).kept.runs) = sym (ap suc (ap length old) ∙ length_without (λ (t : Run). t.first) run_end same_run same_run-is same_run-self (kept_at s (spot_of from)).runs r (h.sound (spot_of from)).run_order facts.there) in
        let more = one_more (of_kind (spot_of to)) (length (value_after s c e (spot_of to)).kept.runs) (length (kept_at s (spot_of to)).runs) longer in
        let fewer = one_more (of_kind (spot_of from)) (length (kept_at s (spot_of from)).runs) (length (value_after s c e (spot_of from)).kept.runs) shorter in
        let one : one_for (of_kind (spot_of from)) ≡ one_for (of_kind (spot_of to)) = ap one_for (at_kind from ∙ same ∙ sym (at_kind to)) in
        let two = counted_after-two of_kind p s c e (spot_of from) (spot_of to) refl (other_spot (spot_of from) (spot_of to) (pair_differ from to facts.pair)) in
        omega (arith, more, fewer, one, two)

    count_same : (e : Event) → changes_runs e ≡ false → counted of_kind (after p s c e).values ≡ counted of_kind s.values
    count_same e n = counted_after-same of_kind p s c e (λ j. ap (λ (rs : List Run). cond (of_kind j) (length rs) 0) (runs_same p s c h e n j).runs)

-- the regions of each range, as they are counted and as they are
pub record IsCounted (s : State) : Type 0 where
  pub tiny : (kept_at s (spot_of Pages)).tiny_regions ≡ counted (of_kind is_tiny) s.values
  pub small : (kept_at s (spot_of Pages)).small_regions ≡ counted (of_kind is_small) s.values

counted_at_first : IsCounted opening
unfolding look_up
counted_at_first = record { tiny = refl; small = refl }

stay : (p : Profile) (s : State) (c : ℕ) (e : Event) → IsApart p s → changes_runs e ≡ false → IsCounted s → IsCounted (after p s c e)
stay p s c e h n was = record {
  tiny = (runs_stay p s c h e n (spot_of Pages)).tiny ∙ was.tiny ∙ sym (count_same is_tiny p s c h e n);
  small = (runs_stay p s c h e n (spot_of Pages)).small ∙ was.small ∙ sym (count_same is_small p s c h e n);
}

counted_after : (p : Profile) (s : State) (c : ℕ) (e : Event) → IsApart p s → Fits p s c e → IsCounted s → IsCounted (after p s c e)
counted_after p s c (Take k f w) h fits was = record {
  tiny = ap (λ (x : Kept). x.tiny_regions) (take_at_pages p s c h k f w fits) ∙ ap (λ n. n + one_for (is_tiny k)) was.tiny ∙ sym (count_take is_tiny p s c h k f w fits refl);
  small = ap (λ (x : Kept). x.small_regions) (take_at_pages p s c h k f w fits) ∙ ap (λ n. n + one_for (is_small k)) was.small ∙ sym (count_take is_small p s c h k f w fits refl);
}
counted_after p s c (Back k f w) h fits was =
    let tiny = count_back is_tiny p s c h k f w fits refl in
    let small = count_back is_small p s c h k f w fits refl in
    record {
      tiny = ap (λ (x : Kept). x.tiny_regions) (back_at_pages p s c h k f w fits) ∙ ap (λ n. n - one_for (is_tiny k)) was.tiny ∙ less (counted (of_kind is_tiny) s.values) (one_for (is_tiny k)) (counted (of_kind is_tiny) (after p s c (Back k f w)).values) tiny;
      small = ap (λ (x : Kept). x.small_regions) (back_at_pages p s c h k f w fits) ∙ ap (λ n. n - one_for (is_small k)) was.small ∙ less (counted (of_kind is_small) s.values) (one_for (is_small k)) (counted (of_kind is_small) (after p s c (Back k f w)).values) small;
    }
  where
    less : (m n l : ℕ) → l + n ≡ m → m - n ≡ l
    less m n l e = omega arith
counted_after p s c (Move f from to) h fits was =
    let range = pair_range from to (move_facts p s c h f from to fits).pair in
    record {
      tiny = ap (λ (x : Kept). x.tiny_regions) (move_pages p s c h f from to fits) ∙ was.tiny ∙ sym (count_move is_tiny p s c h f from to fits range.0);
      small = ap (λ (x : Kept). x.small_regions) (move_pages p s c h f from to fits) ∙ was.small ∙ sym (count_move is_small p s c h f from to fits range.1);
    }
counted_after p s c (New k a n al) h fits was = stay p s c (New k a n al) h refl was
counted_after p s c (End k a n) h fits was = stay p s c (End k a n) h refl was
counted_after p s c (Size k a n m) h fits was = stay p s c (Size k a n m) h refl was
counted_after p s c (Full k n al) h fits was = stay p s c (Full k n al) h refl was
counted_after p s c (Dry z w al) h fits was = stay p s c (Dry z w al) h refl was
counted_after p s c (No k z a n) h fits was = stay p s c (No k z a n) h refl was
counted_after p s c (Open z) h fits was = stay p s c (Open z) h refl was
counted_after p s c (Shut z) h fits was = stay p s c (Shut z) h refl was

pub counted_all : (p : Profile) (s : State) (es : List Entry) → AreLawful p s es → IsApart p s → IsCounted s → IsCounted (after_all p s es)
unfolding AreLawful after_all
counted_all p s [] lawful h was = was
counted_all p s (e ∷ es) lawful h was = counted_all p (after_entry p s e) es lawful.1 (apart_after p s e.caller h e.event lawful.0.fits) (counted_after p s e.caller e.event h lawful.0.fits was)

pub counted_left : (p : Profile) (es : List Entry) → AreLawful p opening es → IsCounted (after_all p opening es)
counted_left p es lawful = counted_all p opening es lawful (apart_at_first p) counted_at_first
