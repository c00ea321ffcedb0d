-- What a call does to the account of a pass, as the trait says it.
use Rattle.std.proofs.Common.{◌≡◌, ℕ, ◌-◌, Bool, true, false, List, [], ◌∷◌, ◌++◌, length, None, if◌then◌else◌, refl, sym, ap, ◌∙◌, ⊎_elim}
use Rattle.std.proofs.lemmas.Bool.{false≢true, cases_Bool}
use Rattle.mz_base.specs.declared.profile.Profile.{Profile}
use Rattle.mz_events.specs.declared.entry.Entry.{Entry}
use Rattle.mz_events.specs.declared.event.Event.{Event}
use Rattle.mz_events.specs.declared.event.Event.TheVariants.{Take, Back, Move, New, End, Size, Full, Dry, No, Open, Shut}
use Rattle.mz_events.specs.declared.place.Place.{Place}
use Rattle.mz_events.specs.declared.place.Place.TheVariants.{Pages, Tiny, TinyDepot, Small, SmallDepot, Large, Nano}
use Rattle.mz_events.specs.Places.{Spot, keeper_at, nano_page}
use Rattle.mz_events.specs.State.{State, value_at, is_open, opening}
use Rattle.mz_events.specs.Effect.{touches, value_after, after}
use Rattle.mz_events.specs.History.{after_all}
use Rattle.mz_events.specs.Holding.{changes_zones, AreAway, IsKnownThrough}
use Rattle.mz_book.specs.Keepers.{keeper_spot}
use Rattle.mz_book.specs.Pairs.{pairs_after}
use Rattle.mz_book.specs.Account.{Account, state_of, known, holds_spot, entry_at}
use Rattle.mz_book.specs.Calls.{is_at_nano, CanNote, Gains, Notes, opened_after}
use Rattle.mz_desk.specs.Laws.{DeskLaws}

-- a keeper is gained
pub gains : DeskLaws → (s t : Account) (k n : ℕ) (others : List Entry) → s.between ≡ false → AreAway s.profile s.caller (holds_spot s) others → t ≡ record s { held = s.held ++ k ∷ []; seen = s.seen ++ others; holds = n }
    → (value_at (after_all s.profile opening (s.seen ++ others)) (keeper_spot s.profile k)).duty ≡ None → Gains s k n t
gains L s t k n others between away a calm =
    let through = L.known_through s.profile s.caller (holds_spot s) (state_of s) others away in
    let state : state_of t ≡ after_all s.profile (state_of s) others = ap state_of a ∙ L.after_joined s.profile opening s.seen others in
    record {
      others = others;
      away = away;
      alone = λ h. absurd (false≢true (sym between ∙ h));
      after = a;
      stays = λ j h. ap (λ (x : State). value_at x j) state ∙ through.values j h;
      zones = λ z. ap (λ (x : State). is_open x z) state ∙ through.zones z;
      calm = ap (λ (u : Account). (known u (keeper_spot s.profile k)).duty) a ∙ calm;
    }

-- an event at nano touches no place that has a keeper
nano_touches : (p : Profile) (e : Event) (q : Place) → is_at_nano e ≡ true → touches p e (keeper_at q) ≡ false
nano_touches p (New Nano a n al) q h = refl
nano_touches p (New Pages a n al) q h = absurd (false≢true h)
nano_touches p (New (Tiny z m) a n al) q h = absurd (false≢true h)
nano_touches p (New (TinyDepot z) a n al) q h = absurd (false≢true h)
nano_touches p (New (Small z m) a n al) q h = absurd (false≢true h)
nano_touches p (New (SmallDepot z) a n al) q h = absurd (false≢true h)
nano_touches p (New (Large z) a n al) q h = absurd (false≢true h)
nano_touches p (End Nano a n) q h = refl
nano_touches p (End Pages a n) q h = absurd (false≢true h)
nano_touches p (End (Tiny z m) a n) q h = absurd (false≢true h)
nano_touches p (End (TinyDepot z) a n) q h = absurd (false≢true h)
nano_touches p (End (Small z m) a n) q h = absurd (false≢true h)
nano_touches p (End (SmallDepot z) a n) q h = absurd (false≢true h)
nano_touches p (End (Large z) a n) q h = absurd (false≢true h)
nano_touches p (Size Nano a n m) q h = refl
nano_touches p (Size Pages a n m) q h = absurd (false≢true h)
nano_touches p (Size (Tiny z i) a n m) q h = absurd (false≢true h)
nano_touches p (Size (TinyDepot z) a n m) q h = absurd (false≢true h)
nano_touches p (Size (Small z i) a n m) q h = absurd (false≢true h)
nano_touches p (Size (SmallDepot z) a n m) q h = absurd (false≢true h)
nano_touches p (Size (Large z) a n m) q h = absurd (false≢true h)
nano_touches p (No Nano z a n) q h = refl
nano_touches p (No Pages z a n) q h = absurd (false≢true h)
nano_touches p (No (Tiny y m) z a n) q h = absurd (false≢true h)
nano_touches p (No (TinyDepot y) z a n) q h = absurd (false≢true h)
nano_touches p (No (Small y m) z a n) q h = absurd (false≢true h)
nano_touches p (No (SmallDepot y) z a n) q h = absurd (false≢true h)
nano_touches p (No (Large y) z a n) q h = absurd (false≢true h)
nano_touches p (Take k f w) q h = absurd (false≢true h)
nano_touches p (Back k f w) q h = absurd (false≢true h)
nano_touches p (Move f from to) q h = absurd (false≢true h)
nano_touches p (Full k n al) q h = absurd (false≢true h)
nano_touches p (Dry z w al) q h = absurd (false≢true h)
nano_touches p (Open z) q h = absurd (false≢true h)
nano_touches p (Shut z) q h = absurd (false≢true h)

-- no zone is opened or shut
as_it_was : (e : Event) (y : ℕ) (was : Bool) → changes_zones e ≡ false → opened_after e y was ≡ was
as_it_was (Open z) y was h = absurd (false≢true (sym h))
as_it_was (Shut z) y was h = absurd (false≢true (sym h))
as_it_was (Take k f w) y was h = refl
as_it_was (Back k f w) y was h = refl
as_it_was (Move f from to) y was h = refl
as_it_was (New k a n al) y was h = refl
as_it_was (End k a n) y was h = refl
as_it_was (Size k a n m) y was h = refl
as_it_was (Full k n al) y was h = refl
as_it_was (Dry z w al) y was h = refl
as_it_was (No k z a n) y was h = refl

-- an event is noted
module _ (L : DeskLaws) (s t : Account) (e : Event) (n : ℕ) (others : List Entry) (between : s.between ≡ false) (away : AreAway s.profile s.caller (holds_spot s) others) (can : CanNote s e)
    (ticket : n ≡ length (s.seen ++ others)) (a : t ≡ record s { seen = (s.seen ++ others) ++ entry_at n s.caller e ∷ []; noted = s.noted ++ entry_at n s.caller e ∷ []; pairs = pairs_after s.caller s.pairs e; spare = s.spare - 1 })
    (zones_stay : (p : Profile) (x : State) (c : ℕ) (d : Event) → changes_zones d ≡ false → (z : ℕ) → is_open (after p x c d) z ≡ is_open x z) where
  through : IsKnownThrough s.profile s.caller (holds_spot s) (state_of s) others
  through = L.known_through s.profile s.caller (holds_spot s) (state_of s) others away

  mid : State
  mid = after_all s.profile (state_of s) others

  state : state_of t ≡ after s.profile mid s.caller e
  unfolding mid after_all
  state = ap state_of a ∙ (L.after_joined s.profile opening (s.seen ++ others) (entry_at n s.caller e ∷ []) ∙ (L.after_one s.profile (after_all s.profile opening (s.seen ++ others)) (entry_at n s.caller e)
      ∙ ap (λ (x : State). after s.profile x s.caller e) (L.after_joined s.profile opening s.seen others)))

  no_zone : changes_zones e ≡ false
  no_zone = ⊎_elim (λ (y : changes_zones e ≡ true). absurd (false≢true (sym between ∙ can.between y))) (λ (z : changes_zones e ≡ false). z) (cases_Bool (changes_zones e))

  untouched : (j : Spot) → holds_spot s j ≡ true → is_at_nano e ≡ true → touches s.profile e j ≡ false
  untouched (keeper_at q) h y = nano_touches s.profile e q y
  untouched (nano_page i) h y = absurd (false≢true h)

  learns : (j : Spot) → holds_spot s j ≡ true → value_at (after s.profile mid s.caller e) j ≡ (if touches s.profile e j then value_after (state_of s) s.caller e j else known s j)
  unfolding mid after_all
  learns j h = ⊎_elim
      (λ (y : is_at_nano e ≡ true). let no = untouched j h y in through.untouched s.caller e j h no ∙ sym (ap (λ (b : Bool). if b then value_after (state_of s) s.caller e j else known s j) no))
      (λ (z : is_at_nano e ≡ false). through.leaves s.caller e (can.by_held z).held j h)
      (cases_Bool (is_at_nano e))

  pub notes : Notes s e n t
  unfolding mid after_all
  notes = record {
    others = others;
    away = away;
    alone = λ h. absurd (false≢true (sym between ∙ h));
    ticket = ticket;
    after = a;
    learns = λ j h. ap (λ (x : State). value_at x j) state ∙ learns j h;
    zones = λ y. ap (λ (x : State). is_open x y) state ∙ (zones_stay s.profile mid s.caller e no_zone y ∙ (through.zones y ∙ sym (as_it_was e y (is_open (state_of s) y) no_zone)));
  }
