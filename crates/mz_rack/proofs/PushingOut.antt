-- The oldest run of large, which is out, goes back to the free pages.
use Rattle.std.proofs.Common.{◌≡◌, ℕ, ◌<◌, ◌≤◌, true, [], ◌∷◌, ◌++◌, refl, ap, sym, subst, ◌∙◌, inl, inr, ⊎_elim, None}
use Rattle.std.proofs.lemmas.List.{append-nil}
use Rattle.mz_base.specs.declared.profile.Profile.{Profile}
use Rattle.mz_ground.specs.Views.{SpanView}
use Rattle.mz_large.specs.Large.{run_of_span}
use Rattle.mz_events.specs.declared.place.Place.{Place}
use Rattle.mz_events.specs.declared.place.Place.TheVariants.{Pages, Large}
use Rattle.mz_events.specs.declared.event.Event.{Event}
use Rattle.mz_events.specs.declared.event.Event.TheVariants.{Back}
use Rattle.mz_events.specs.Places.{exists_in, spot_of}
use Rattle.mz_events.specs.State.{Value, opening}
use Rattle.mz_events.specs.Changes.{without_run, pages_with}
use Rattle.mz_events.specs.History.{AreLawful}
use Rattle.mz_events.specs.Fitting.{IsAllowedAt, IsOwedAt}
use Rattle.mz_events.specs.Leaving.{left_by}
use Rattle.mz_record.specs.Moments.{duty_left, first_some}
use Rattle.mz_book.specs.Keepers.{is_held}
use Rattle.mz_book.specs.Account.{Account, state_of, known, holds_spot, entry_at}
use Rattle.mz_book.specs.Calls.{CanHold, CanNote, Notes, Holds}
use Rattle.mz_book.specs.Growth.{Grows, GrowsHolding}
use Rattle.mz_rack.specs.declared.way.LargeWay.{LargeWay}
use Rattle.mz_rack.specs.BookLaws.{BookLaws}
use Rattle.mz_rack.specs.Flushing.{IsOldest, IsLackedRun}
use Rattle.mz_rack.specs.Stages.{at_pages}
use Rattle.mz_rack.specs.LargeStages.{IsLargeWay, large_spot}
use Rattle.mz_rack.specs.FreeStages.{OwesRun, HasPushed}
use Rattle.mz_rack.proofs.Steps.{same_spot_refl, two_spots, held_at, its_place, learn_touched, can_note, can_hold, rest_grows}
use Rattle.mz_rack.proofs.LargeSteps.{one_l, two_l, two_p, above_p, there_l}
use Rattle.mz_rack.proofs.Answered.{MomentLaws}
use Rattle.mz_rack.proofs.Ended.{is_last, duty_then}

abbrev pub back_of : ℕ → SpanView → Event
back_of z x = Back (Large z) (run_of_span x).first (run_of_span x).pages

-- BACK: large of a zone and the pages are held, and the oldest run is owed
module _ (L : BookLaws) (t : Account) (z : ℕ) (x : SpanView) (old : IsOldest t.site (known t (spot_of (Large z))).kept x) (here_l : holds_spot t (spot_of (Large z)) ≡ true) (here_p : holds_spot t at_pages ≡ true) where
  pub can_go_back : t.caller < t.profile.callers → 1 ≤ t.spare → exists_in t.profile (Large z) ≡ true → IsOwedAt (state_of t) (spot_of (Large z)) (back_of z x) → IsAllowedAt (state_of t) (spot_of Pages) (back_of z x) → CanNote t (back_of z x)
  can_go_back c room there owed allowed =
      can_note t (back_of z x) room refl refl refl
      (λ j y. ⊎_elim (λ (e : j ≡ spot_of (Large z)). held_at t j (spot_of (Large z)) e here_l) (λ (e : j ≡ at_pages). held_at t j at_pages e here_p) (two_spots L j (spot_of (Large z)) at_pages y))
      (((L.fits t.profile (state_of t) t.caller).give_back (Large z) (run_of_span x).first (run_of_span x).pages).1 (record {
        caller = c;
        kind = refl;
        exists = there;
        allowed = inr owed;
        pages_allowed = allowed;
        here = old.there;
        unused = old.unused;
        no_magazine = λ _. refl;
        owed = λ _ _. owed;
      }))

  pub large_left : (i : ℕ) (u : Account) → Notes t (back_of z x) i u → known u (spot_of (Large z)) ≡ left_by t.caller (back_of z x) (without_run (run_of_span x) (known t (spot_of (Large z))).kept) None
  large_left i u h =
      learn_touched t (back_of z x) i u (spot_of (Large z)) h here_l (rw (same_spot_refl L (spot_of (Large z))) refl)
      ∙ (L.leaves (state_of t) t.caller).give_back (Large z) (run_of_span x).first (run_of_span x).pages refl

  pub pages_left : (i : ℕ) (u : Account) → Notes t (back_of z x) i u → known u at_pages ≡ left_by t.caller (back_of z x) (pages_with (Large z) (run_of_span x) (known t at_pages).kept) None
  pages_left i u h = learn_touched t (back_of z x) i u at_pages h here_p refl ∙ (L.leaves (state_of t) t.caller).give_back_pages (Large z) (run_of_span x).first (run_of_span x).pages

  pub is_lacked : AreLawful t.profile opening t.seen → IsLackedRun t.profile (known t at_pages).kept x
  is_lacked lawful =
      let separate = L.separate t.profile t.seen lawful in
      record {
        taken = (L.ascending t.profile t.seen lawful).taken;
        whole = old.whole;
        there = (separate.taken (run_of_span x)).1 (spot_of (Large z), old.there);
        below = separate.below_nano (spot_of (Large z)) (run_of_span x) old.there;
      }

-- PUSHED OUT
module _ (L : BookLaws) (s : Account) (w : LargeWay) (x : SpanView) (o : OwesRun s w x) where
  pub can_hold_pages : CanHold s w.p
  can_hold_pages = can_hold s w.p (w.l ∷ []) o.held o.way.p_below (above_p L s.profile w o.way)

  here_l : holds_spot s (large_spot w) ≡ true
  here_l = ap (λ h. is_held s.profile h (large_spot w)) o.held ∙ one_l L s.profile w o.way

  -- the pages are held too
  module _ (t : Account) (h : Holds s w.p t) where
    since : GrowsHolding s [] 1 t
    since = L.hold s t w.p h

    pub way_t : IsLargeWay t.profile w
    way_t = subst (λ (p : Profile). IsLargeWay p w) (sym since.grows.adds.same.profile) o.way

    pub held_t : t.held ≡ w.l ∷ w.p ∷ []
    held_t = ap (λ (v : Account). v.held) h.after ∙ ap (λ y. y ++ w.p ∷ []) o.held

    pub large_t : known t (large_spot w) ≡ known s (large_spot w)
    large_t = h.stays (large_spot w) here_l

    pub calm_t : (known t at_pages).duty ≡ None
    calm_t = ap (λ (q : Place). (known t (spot_of q)).duty) (sym (its_place L s Pages w.p o.way.pages_is refl refl)) ∙ h.calm

    pub large_here : holds_spot t (large_spot w) ≡ true
    large_here = ap (λ y. is_held t.profile y (large_spot w)) held_t ∙ two_l L t.profile w way_t

    pub pages_here : holds_spot t at_pages ≡ true
    pages_here = ap (λ y. is_held t.profile y at_pages) held_t ∙ two_p L t.profile w way_t

    pub oldest_t : IsOldest t.site (known t (large_spot w)).kept x
    oldest_t = subst (λ y. IsOldest y (known t (large_spot w)).kept x) (sym since.grows.adds.same.site) (subst (λ (v : Value). IsOldest s.site v.kept x) (sym large_t) o.oldest)

    pub can_push : t.caller < t.profile.callers → 1 ≤ t.spare → CanNote t (back_of w.zone x)
    can_push c room = can_go_back L t w.zone x oldest_t large_here pages_here c room (there_l L t.profile w way_t) (ap (λ (v : Value). v.duty) large_t ∙ o.duty) (inl calm_t)

    module _ (i : ℕ) (u : Account) (can : CanNote t (back_of w.zone x)) (n : Notes t (back_of w.zone x) i u) where
      pub after : GrowsHolding t (entry_at i t.caller (back_of w.zone x) ∷ []) 0 u
      after = L.note t u (back_of w.zone x) i can refl n

      pub way_u : IsLargeWay u.profile w
      way_u = subst (λ (p : Profile). IsLargeWay p w) (sym after.grows.adds.same.profile) way_t

      pub held_u : u.held ≡ w.l ∷ w.p ∷ []
      held_u = ap (λ (v : Account). v.held) n.after ∙ held_t

      pub calm_l : (known u (large_spot w)).duty ≡ None
      calm_l = ap (λ (v : Value). v.duty) (large_left L t w.zone x oldest_t large_here pages_here i u n)

      pub kept_l : (known u (large_spot w)).kept ≡ without_run (run_of_span x) (known t (large_spot w)).kept
      kept_l = ap (λ (v : Value). v.kept) (large_left L t w.zone x oldest_t large_here pages_here i u n)

      pub calm_p : (known u at_pages).duty ≡ None
      calm_p = ap (λ (v : Value). v.duty) (pages_left L t w.zone x oldest_t large_here pages_here i u n)

      pub kept_p : (known u at_pages).kept ≡ pages_with (Large w.zone) (run_of_span x) (known t at_pages).kept
      kept_p = ap (λ (v : Value). v.kept) (pages_left L t w.zone x oldest_t large_here pages_here i u n)

      pub has_pushed : MomentLaws → (y : Account) → AreLawful y.profile opening y.seen → y ≡ record u { held = [] } → HasPushed s w x y
      has_pushed M y lawful go =
          let e = entry_at i t.caller (back_of w.zone x) in
          let c1 = since.grows.adds.same.caller in
          let p1 : u.profile ≡ s.profile = after.grows.adds.same.profile ∙ since.grows.adds.same.profile in
          let p2 : y.profile ≡ u.profile = ap (λ (a : Account). a.profile) go in
          let all = L.joined s t u [] (e ∷ []) 1 0 since after in
          let grown = rest_grows L s (e ∷ []) 1 u [] y all.grows go in
          let left : duty_left u.profile y.seen e ≡ None =
          duty_then L M u e y.seen [] (is_last t (back_of w.zone x) i u n) (subst (λ (p : Profile). AreLawful p opening y.seen) p2 lawful) (ap (λ (a : Account). a.seen) go ∙ sym (append-nil u.seen))
          ∙ (ap (λ a. first_some (a ∷ (known u at_pages).duty ∷ [])) calm_l ∙ ap (λ a. first_some (None ∷ a ∷ [])) calm_p) in
          record {
            ticket = i;
            grows = subst (λ c. Grows s (entry_at i c (back_of w.zone x) ∷ []) 1 y) c1 grown;
            nothing_held = ap (λ (a : Account). a.held) go;
            left = subst (λ c. duty_left s.profile y.seen (entry_at i c (back_of w.zone x)) ≡ None) c1 (subst (λ (p : Profile). duty_left p y.seen e ≡ None) p1 left);
          }
