-- One try in the magazine.
use Rattle.std.proofs.Common.{◌≡◌, ℕ, ◌<◌, ◌≤◌, ◌%◌, ◌==◌, true, false, refl, ap, sym, subst, ◌∙◌, arith, None}
use Rattle.std.specs.Prelude.{◌&&◌, ◌||◌, nat_le, Ok, Err}
use Rattle.std.specs.List.{list_any, list_all}
use Rattle.std.specs.Int.{IsPowerOfTwo}
use Rattle.std.proofs.lemmas.Nat.{pow_pos}
use Rattle.std.proofs.lemmas.Bool.{false≢true, and_parts, and_from}
use Rattle.std.proofs.lemmas.Bool.Decides.{nat_tests}
use Rattle.mz_base.specs.Space.{block_at, block_end, blocks_apart}
use Rattle.mz_base.specs.Room.{lies_in}
use Rattle.mz_ground.specs.Views.{SpanView}
use Rattle.mz_events.specs.declared.place.Place.{Place}
use Rattle.mz_events.specs.declared.place.Place.TheVariants.{Tiny, Small}
use Rattle.mz_events.specs.declared.event.Event.TheVariants.{New, Full}
use Rattle.mz_events.specs.Places.{is_magazine, is_depot, is_large, is_nano, is_size_of, quantum_of, same_spot, spot_at}
use Rattle.mz_events.specs.State.{Kept}
use Rattle.mz_events.specs.Placement.{lies_in_place, is_placed_in_magazine}
use Rattle.mz_events.specs.Changes.{with_block}
use Rattle.mz_events.specs.Rules.{Fits}
use Rattle.mz_events.specs.Leaving.{left_by}
use Rattle.mz_events.specs.Standing.{Keeping}
use Rattle.mz_book.specs.Account.{Account, state_of, known}
use Rattle.mz_book.specs.Calls.{CanNote, Notes}
use Rattle.mz_rack.specs.declared.way.Way.{Way}
use Rattle.mz_rack.specs.BookLaws.{BookLaws}
use Rattle.mz_rack.specs.Answering.{HasNoRoom, IsPlaced}
use Rattle.mz_rack.specs.Asking.{MayAsk}
use Rattle.mz_rack.specs.Stages.{at_magazine, Keeps, CanAsk, Ready, Tried}
use Rattle.mz_rack.proofs.Steps.{same_spot_refl, one_spot, held_at, learn_touched, learn_other, can_note, standing}

pub power_some : (m : ℕ) → IsPowerOfTwo m → 1 ≤ m
power_some m h = let k = pow_pos h.0 in let is = h.1 in omega arith

pub size_on_quantum : (q : Place) (n : ℕ) → is_magazine q ≡ true → is_size_of q n ≡ true → (n % quantum_of q == 0) ≡ true
size_on_quantum (Tiny z m) n h s = (and_parts (n % 16 == 0) (nat_le 16 n) (and_parts ((n % 16 == 0) && nat_le 16 n) (nat_le n 1008) s).0).0
size_on_quantum (Small z m) n h s = (and_parts (n % 512 == 0) (nat_le 1024 n) (and_parts ((n % 512 == 0) && nat_le 1024 n) (nat_le n 32768) s).0).0
size_on_quantum _ n h s = absurd (false≢true h)

pub size_some : (q : Place) (n : ℕ) → is_magazine q ≡ true → is_size_of q n ≡ true → 1 ≤ n
size_some (Tiny z m) n h s = let l = (and_parts (n % 16 == 0) (nat_le 16 n) (and_parts ((n % 16 == 0) && nat_le 16 n) (nat_le n 1008) s).0).1 in grind (arith, nat_tests, l)
size_some (Small z m) n h s = let l = (and_parts (n % 512 == 0) (nat_le 1024 n) (and_parts ((n % 512 == 0) && nat_le 1024 n) (nat_le n 32768) s).0).1 in grind (arith, nat_tests, l)
size_some _ n h s = absurd (false≢true h)

module _ (L : BookLaws) (s : Account) (w : Way) (n al : ℕ) (r : Ready s w n al) where
  abbrev kept : Kept
  kept = (known s (at_magazine w)).kept

  spot_is : (a : ℕ) → spot_at w.magazine a ≡ at_magazine w
  spot_is a = (L.depot s.profile w.magazine r.can.way.magazine).magazine.one_spot a

  fits_new : (x : SpanView) → s.caller < s.profile.callers → IsPlaced s.site w.magazine kept n al x → Fits s.profile (state_of s) s.caller (New w.magazine x.first n al)
  fits_new x c be =
      let m = r.can.way.magazine in
      let kinds = L.depot s.profile w.magazine m in
      let at = sym (spot_is x.first) in
      let b = block_at x.first n in
      let quanta : (is_large w.magazine || ((b.first % quantum_of w.magazine == 0) && (b.size % quantum_of w.magazine == 0))) ≡ true =
      ap (λ y. y || ((b.first % quantum_of w.magazine == 0) && (b.size % quantum_of w.magazine == 0))) kinds.magazine.not_large
      ∙ and_from (b.first % quantum_of w.magazine == 0) _ (rw be.quantum refl) (size_on_quantum w.magazine n m r.can.size) in
      let lies : lies_in_place s.profile w.magazine kept.runs b ≡ true =
      rw kinds.magazine.not_nano (and_from (list_any (λ t. lies_in t b.first (block_end b)) kept.runs) _ be.lies quanta) in
      ((L.fits s.profile (state_of s) s.caller).make w.magazine x.first n al).1 (record {
        standing = standing s w n al r.can c;
        kind = ap (λ y. y || is_large w.magazine || is_nano w.magazine) m;
        calm = subst (λ j. (known s j).duty ≡ None) at r.calm;
        size = r.can.size;
        some = power_some al r.can.power;
        aligned = be.aligned;
        lies = subst (λ j. lies_in_place s.profile w.magazine (known s j).kept.runs b ≡ true) at lies;
        apart = subst (λ j. list_all (λ d. blocks_apart d b) (known s j).kept.live ≡ true) at be.apart;
        in_magazine = λ _. subst (λ j. is_placed_in_magazine (known s j).kept b al ≡ true) at be.placed;
        in_large = λ y. absurd (false≢true (sym kinds.magazine.not_large ∙ y));
        in_nano = λ y. absurd (false≢true (sym kinds.magazine.not_nano ∙ y));
      })

  pub can_new : (x : SpanView) → s.caller < s.profile.callers → 1 ≤ s.spare → IsPlaced s.site w.magazine kept n al x → CanNote s (New w.magazine x.first n al)
  can_new x c room be =
      let kinds = L.depot s.profile w.magazine r.can.way.magazine in
      can_note s (New w.magazine x.first n al) room refl refl kinds.magazine.not_nano
      (λ j y. held_at s j (at_magazine w) (one_spot L j (spot_at w.magazine x.first) y ∙ spot_is x.first) r.here)
      (fits_new x c be)

  pub can_full : s.caller < s.profile.callers → 1 ≤ s.spare → HasNoRoom kept n al → CanNote s (Full w.magazine n al)
  can_full c room none =
      let m = r.can.way.magazine in
      let kinds = L.depot s.profile w.magazine m in
      can_note s (Full w.magazine n al) room refl refl refl
      (λ j y. held_at s j (at_magazine w) (one_spot L j (at_magazine w) y) r.here)
      (((L.fits s.profile (state_of s) s.caller).full w.magazine n al).1 (record {
        standing = standing s w n al r.can c;
        kind = ap (λ y. y || is_depot w.magazine || is_large w.magazine) m;
        calm = r.calm;
        some = size_some w.magazine n m r.can.size;
        some_alignment = power_some al r.can.power;
        no_room = λ _. none;
        none_fits = λ y. absurd (false≢true (sym kinds.magazine.not_large ∙ y));
      }))

  pub tried_new : (x : SpanView) (i : ℕ) (t : Account) → IsPlaced s.site w.magazine kept n al x → CanNote s (New w.magazine x.first n al) → Notes s (New w.magazine x.first n al) i t → Tried s w n al (Ok x) t
  tried_new x i t be can h =
      let e = New w.magazine x.first n al in
      let at = spot_is x.first in
      let left : known t (spot_at w.magazine x.first) ≡ left_by s.caller e (with_block (block_at x.first n) (known s (spot_at w.magazine x.first)).kept) None =
      learn_touched s e i t (spot_at w.magazine x.first) h (held_at s (spot_at w.magazine x.first) (at_magazine w) at r.here) (rw (same_spot_refl L (spot_at w.magazine x.first)) refl)
      ∙ (L.leaves (state_of s) s.caller).make w.magazine x.first n al in
      record {
        ticket = i;
        since = L.note s t e i can refl h;
        held = ap (λ (u : Account). u.held) h.after;
        learns = subst (λ j. known t j ≡ left_by s.caller e (with_block (block_at x.first n) (known s j).kept) None) at left;
        others = λ j y z. learn_other s e i t j h y (subst (λ k. (same_spot j k || false) ≡ false) (sym at) (rw z refl));
        is = (be.space, be.size);
      }

  pub tried_full : (i : ℕ) (t : Account) → HasNoRoom kept n al → CanNote s (Full w.magazine n al) → Notes s (Full w.magazine n al) i t → Tried s w n al (Err i) t
  tried_full i t none can h =
      let e = Full w.magazine n al in
      record {
        ticket = i;
        since = L.note s t e i can refl h;
        held = ap (λ (u : Account). u.held) h.after;
        learns = learn_touched s e i t (at_magazine w) h r.here (rw (same_spot_refl L (at_magazine w)) refl) ∙ (L.leaves (state_of s) s.caller).full w.magazine n al;
        others = λ j y z. learn_other s e i t j h y (rw z refl);
        is = (refl, none);
      }

-- the magazine may be asked
pub may_ask : (s : Account) (w : Way) (n al : ℕ) → CanAsk s w n al → (v : Keeping) → Keeps s w.magazine v → MayAsk v n al
may_ask s w n al can v h = record {
  space = s.site;
  profile = s.profile;
  place = w.magazine;
  kept = (known s (at_magazine w)).kept;
  stands = h;
  regions = ap (λ b. b || is_depot w.magazine) can.way.magazine;
  size = can.size;
  power = can.power;
  range = can.range;
}
