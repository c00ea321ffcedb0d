-- The pages are dry, and the run that large cached first goes back to them.
use Rattle.std.proofs.Common.{◌≡◌, ℕ, ◌+◌, ◌<◌, ◌≤◌, true, false, List, [], ◌∷◌, ◌++◌, length, refl, ap, sym, subst, ◌∙◌, arith, inr, ⊎_elim, Some, None}
use Rattle.std.specs.List.{Contains}
use Rattle.std.proofs.lemmas.List.{append_assoc}
use Rattle.std.proofs.lemmas.List.Elements.{All-nil, Contains-append_cases, Contains-append_right}
use Rattle.mz_base.specs.Room.{has_free}
use Rattle.mz_base.specs.declared.profile.Profile.{Profile}
use Rattle.mz_ground.specs.Views.{SpanView}
use Rattle.mz_large.specs.Large.{run_of_span}
use Rattle.mz_events.specs.declared.place.Place.TheVariants.{Large}
use Rattle.mz_events.specs.declared.event.Event.TheVariants.{Back, Dry}
use Rattle.mz_events.specs.declared.entry.Entry.{Entry}
use Rattle.mz_events.specs.Places.{nano_start, spot_of}
use Rattle.mz_events.specs.State.{Kept, Value, is_open, opening}
use Rattle.mz_events.specs.History.{AreLawful}
use Rattle.mz_events.specs.Duties.{back_of_oldest, is_that}
use Rattle.mz_events.specs.Changes.{without_run, pages_with}
use Rattle.mz_events.specs.Leaving.{left_by}
use Rattle.mz_events.specs.Hands.{own}
use Rattle.mz_record.specs.Moments.{MeetsDuty, duty_left, first_some}
use Rattle.mz_book.specs.Account.{Account, state_of, known, holds_spot, entry_at}
use Rattle.mz_book.specs.Calls.{CanNote, Notes}
use Rattle.mz_book.specs.Growth.{IsSame, GrowsHolding}
use Rattle.mz_rack.specs.BookLaws.{BookLaws}
use Rattle.mz_rack.specs.Flushing.{IsOldest, IsLackedRun}
use Rattle.mz_rack.specs.Stages.{at_pages}
use Rattle.mz_rack.specs.FreeStages.{IsLast}
use Rattle.mz_rack.specs.Seeking.{CanSeek, cached_in, KeepsOthers, dry_at, IsFlushed, IsEmpty}
use Rattle.mz_rack.proofs.Steps.{below_test, same_spot_refl, two_spots, held_at, held_still, learn_touched, learn_other, can_note}
use Rattle.mz_rack.proofs.Answered.{MomentLaws}
use Rattle.mz_rack.proofs.PushingOut.{can_go_back, large_left, pages_left, is_lacked}
use Rattle.mz_rack.proofs.Ended.{is_last, duty_then, back_touches, met_first}
use Rattle.mz_rack.proofs.Undisturbed.{AreIndices, indices_behind, not_below, in_front, own_in}

module _ (L : BookLaws) (z w al : ℕ) (s : Account) (k : CanSeek s z w al) where
  pub can_dry : s.caller < s.profile.callers → 1 ≤ s.spare → has_free (nano_start s.profile) (known s at_pages).kept.taken w al ≡ false → CanNote s (Dry z w al)
  can_dry c room none =
      can_note s (Dry z w al) room refl refl refl
      (λ j y. ⊎_elim (λ (e : j ≡ at_pages). held_at s j at_pages e k.pages) (λ (e : j ≡ spot_of (Large z)). held_at s j (spot_of (Large z)) e k.large) (two_spots L j at_pages (spot_of (Large z)) y))
      (((L.fits s.profile (state_of s) s.caller).dry z w al).1 (record {
        caller = c;
        zone = k.zone;
        zone_open = k.zone_open;
        calm = k.calm_p;
        large_calm = k.calm_l;
        some = k.some;
        some_alignment = k.some_alignment;
        none_free = none;
      }))

  -- the places that are held stay held, and the zone is open still
  pub can_still : (t : Account) → IsSame s t → t.held ≡ s.held → ((y : ℕ) → is_open (state_of t) y ≡ is_open (state_of s) y) → (known t (spot_of (Large z))).duty ≡ None → (known t at_pages).duty ≡ None → CanSeek t z w al
  can_still t same held zones calm_l calm_p = record {
    zone = subst (λ (p : Profile). z < p.zones) (sym same.profile) k.zone;
    zone_open = zones z ∙ k.zone_open;
    large = held_still s t (spot_of (Large z)) same held k.large;
    pages = held_still s t at_pages same held k.pages;
    calm_l = calm_l;
    calm_p = calm_p;
    some = k.some;
    some_alignment = k.some_alignment;
  }

  -- what is known once it is noted that the pages are dry
  pub record IsDry (i : ℕ) (t : Account) : Type 0 where
    pub since : GrowsHolding s (dry_at i s.caller z w al ∷ []) 0 t
    pub last : IsLast t (dry_at i s.caller z w al)
    pub stays : KeepsOthers s z t
    pub at_l : known t (spot_of (Large z)) ≡ left_by s.caller (Dry z w al) (known s (spot_of (Large z))).kept (back_of_oldest (Large z) (cached_in s z))
    pub at_p : known t at_pages ≡ left_by s.caller (Dry z w al) (known s at_pages).kept (back_of_oldest (Large z) (cached_in s z))

  pub is_dry : (i : ℕ) (t : Account) → CanNote s (Dry z w al) → Notes s (Dry z w al) i t → IsDry i t
  is_dry i t can h =
      let e = Dry z w al in
      record {
        since = L.note s t e i can refl h;
        last = is_last s e i t h;
        stays = record {
          held = ap (λ (v : Account). v.held) h.after;
          others = λ j there off_l off_p. learn_other s e i t j h there (rw (off_p, off_l) refl);
        };
        at_l = learn_touched s e i t (spot_of (Large z)) h k.large (rw (same_spot_refl L (spot_of (Large z))) refl) ∙ (L.leaves (state_of s) s.caller).dry z w al (spot_of (Large z));
        at_p = learn_touched s e i t at_pages h k.pages refl ∙ (L.leaves (state_of s) s.caller).dry z w al at_pages;
      }

  -- nothing is cached
  pub is_empty : (i : ℕ) (t : Account) → IsDry i t → cached_in s z ≡ [] → IsEmpty s z w al i t
  is_empty i t d empty =
      let none : back_of_oldest (Large z) (cached_in s z) ≡ None = ap (back_of_oldest (Large z)) empty in
      let calm_l : (known t (spot_of (Large z))).duty ≡ None = ap (λ (v : Value). v.duty) d.at_l ∙ none in
      let calm_p : (known t at_pages).duty ≡ None = ap (λ (v : Value). v.duty) d.at_p ∙ none in
      let adds = d.since.grows.adds in
      record {
        since = d.since;
        can = can_still t adds.same d.stays.held adds.zones calm_l calm_p;
        stays = d.stays;
        same = ap (λ (v : Value). v.kept.cached) d.at_l;
        last = record {
          before = d.last.before;
          seen = d.last.seen ∙ ap (λ a. d.last.before ++ dry_at i a z w al ∷ []) (sym adds.same.caller);
          calm_p = calm_p;
          calm_l = calm_l;
        };
      }

  -- THE OLDEST goes back
  module _ (i : ℕ) (t : Account) (d : IsDry i t) (x : SpanView) (old : IsOldest t.site (known t (spot_of (Large z))).kept x) where
    here_l : holds_spot t (spot_of (Large z)) ≡ true
    here_l = held_still s t (spot_of (Large z)) d.since.grows.adds.same d.stays.held k.large

    here_p : holds_spot t at_pages ≡ true
    here_p = held_still s t at_pages d.since.grows.adds.same d.stays.held k.pages

    kept_l : (known t (spot_of (Large z))).kept ≡ (known s (spot_of (Large z))).kept
    kept_l = ap (λ (v : Value). v.kept) d.at_l

    oldest : back_of_oldest (Large z) (cached_in s z) ≡ Some (Back (Large z) (run_of_span x).first (run_of_span x).pages)
    oldest = ap (λ (j : Kept). back_of_oldest (Large z) j.cached) (sym kept_l) ∙ ap (back_of_oldest (Large z)) old.first

    duty_l : (known t (spot_of (Large z))).duty ≡ Some (Back (Large z) (run_of_span x).first (run_of_span x).pages)
    duty_l = ap (λ (v : Value). v.duty) d.at_l ∙ oldest

    duty_p : (known t at_pages).duty ≡ Some (Back (Large z) (run_of_span x).first (run_of_span x).pages)
    duty_p = ap (λ (v : Value). v.duty) d.at_p ∙ oldest

    pub can_back : t.caller < t.profile.callers → 1 ≤ t.spare → CanNote t (Back (Large z) (run_of_span x).first (run_of_span x).pages)
    can_back c room =
        can_go_back L t z x old here_l here_p c room (below_test z t.profile.zones (subst (λ (p : Profile). z < p.zones) (sym d.since.grows.adds.same.profile) k.zone)) duty_l (inr duty_p)

    pub record IsBack (j : ℕ) (u : Account) : Type 0 where
      pub flushed : IsFlushed s z w al u
      pub kept_l : (known u (spot_of (Large z))).kept ≡ without_run (run_of_span x) (known t (spot_of (Large z))).kept
      pub kept_p : (known u at_pages).kept ≡ pages_with (Large z) (run_of_span x) (known t at_pages).kept
      pub same : GrowsHolding t (entry_at j t.caller (Back (Large z) (run_of_span x).first (run_of_span x).pages) ∷ []) 0 u

    -- the duty that the dry left is met by this, in each history that goes on
    meets : MomentLaws → (j : ℕ) (u : Account) → AreLawful u.profile opening u.seen → GrowsHolding t (entry_at j t.caller (Back (Large z) (run_of_span x).first (run_of_span x).pages) ∷ []) 0 u
        → (h later : List Entry) → AreLawful u.profile opening h → h ≡ u.seen ++ later → MeetsDuty u.profile h (dry_at i s.caller z w al) (entry_at j t.caller (Back (Large z) (run_of_span x).first (run_of_span x).pages))
    meets M j u lawful since h later still goes =
        let e = dry_at i s.caller z w al in
        let b = entry_at j t.caller (Back (Large z) (run_of_span x).first (run_of_span x).pages) in
        let adds = since.grows.adds in
        let prof = adds.same.profile in
        let all : AreIndices 0 (u.seen ++ later) = subst (λ l. AreIndices 0 l) goes (λ n y at. L.index u.profile opening h still n y at) in
        let own_b : Contains (own t.caller adds.more) (entry_at j t.caller (Back (Large z) (run_of_span x).first (run_of_span x).pages)) = subst (λ l. Contains l (entry_at j t.caller (Back (Large z) (run_of_span x).first (run_of_span x).pages))) (sym adds.own_is) (0, omega arith, refl) in
        let there_b : Contains u.seen (entry_at j t.caller (Back (Large z) (run_of_span x).first (run_of_span x).pages)) =
        subst (λ l. Contains l (entry_at j t.caller (Back (Large z) (run_of_span x).first (run_of_span x).pages))) (sym adds.seen) (Contains-append_right t.seen adds.more (entry_at j t.caller (Back (Large z) (run_of_span x).first (run_of_span x).pages)) (own_in t.caller adds.more _ own_b).0) in
        let below = in_front 0 u.seen later _ all there_b in
        record {
          duty = subst (λ p. duty_left p h (dry_at i s.caller z w al) ≡ Some (Back (Large z) (run_of_span x).first (run_of_span x).pages)) (sym prof)
              (duty_then L M t (dry_at i s.caller z w al) h (adds.more ++ later) d.last (subst (λ p. AreLawful p opening h) prof still) (goes ∙ (ap (λ l. l ++ later) adds.seen ∙ append_assoc t.seen adds.more later))
              ∙ ap (λ o. first_some (o ∷ (known t (spot_of (Large z))).duty ∷ [])) duty_p);
          at_once = λ y there after before.
              ⊎_elim
              (λ (f : Contains u.seen y).
              met_first L t u (dry_at i s.caller z w al) (entry_at j t.caller (Back (Large z) (run_of_span x).first (run_of_span x).pages)) [] 0 (Large z) d.last lawful since.grows refl here_l
              (λ v q. back_touches L t.profile (Large z) (run_of_span x).first (run_of_span x).pages v q) (All-nil (λ (entry : Entry). is_that (Back (Large z) (run_of_span x).first (run_of_span x).pages) entry.event ≡ false)) y f after before)
              (λ (f : Contains later y). let low = not_below (0 + length u.seen) later y (indices_behind 0 u.seen later all) f in absurd (omega (arith, low, below, before)))
              (Contains-append_cases u.seen later y (subst (λ l. Contains l y) goes there));
        }

    pub is_back : MomentLaws → (j : ℕ) (u : Account) → AreLawful u.profile opening u.seen → CanNote t (Back (Large z) (run_of_span x).first (run_of_span x).pages) → Notes t (Back (Large z) (run_of_span x).first (run_of_span x).pages) j u → IsBack j u
    is_back M j u lawful can h =
        let e = Back (Large z) (run_of_span x).first (run_of_span x).pages in
        let since = L.note t u e j can refl h in
        let at_l = large_left L t z x old here_l here_p j u h in
        let at_p = pages_left L t z x old here_l here_p j u h in
        let held = ap (λ (v : Account). v.held) h.after ∙ d.stays.held in
        let c = d.since.grows.adds.same.caller in
        let both = L.joined s t u (dry_at i s.caller z w al ∷ []) (entry_at j t.caller e ∷ []) 0 0 d.since since in
        record {
          flushed = record {
            i = i;
            j = j;
            f = (run_of_span x).first;
            n = (run_of_span x).pages;
            since = subst (λ a. GrowsHolding s (dry_at i s.caller z w al ∷ entry_at j a e ∷ []) 0 u) c both;
            can = can_still u both.grows.adds.same held both.grows.adds.zones (ap (λ (v : Value). v.duty) at_l) (ap (λ (v : Value). v.duty) at_p);
            stays = record {
              held = held;
              others = λ y there off_l off_p. learn_other t e j u y h (held_still s t y d.since.grows.adds.same d.stays.held there) (rw (off_l, off_p) refl) ∙ d.stays.others y there off_l off_p;
            };
            fewer = ap (λ (y : Kept). y.cached) (sym kept_l) ∙ old.first ∙ ap (λ (v : Value). run_of_span x ∷ v.kept.cached) (sym at_l);
            met = λ h' later still goes. subst (λ a. MeetsDuty u.profile h' (dry_at i s.caller z w al) (entry_at j a e)) c (meets M j u lawful since h' later still goes);
          };
          kept_l = ap (λ (v : Value). v.kept) at_l;
          kept_p = ap (λ (v : Value). v.kept) at_p;
          same = since;
        }

    pub lacked : AreLawful t.profile opening t.seen → IsLackedRun t.profile (known t at_pages).kept x
    lacked lawful = is_lacked L t z x old here_l here_p lawful
