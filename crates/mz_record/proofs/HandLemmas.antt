-- What the entries of a request leave in a hand: the block that is served, or all but the block that is dropped. No flush and no
-- duty changes a hand.
use Rattle.std.proofs.Common.{◌≡◌, ℕ, true, List, [], ◌∷◌, ◌++◌, ap, sym, refl, ◌∙◌, append_assoc, append-nil}
use Rattle.std.specs.Prelude.{fold, Option}
use Rattle.std.specs.List.{list_all}
use Rattle.std.specs.Option.{option_to_list}
use Rattle.std.proofs.lemmas.Bool.{and_parts, false≢true}
use Rattle.std.proofs.lemmas.List.Sums.{fold-append}
use Rattle.mz_base.specs.declared.profile.Profile.{Profile}
use Rattle.mz_base.specs.Space.{Block}
use Rattle.mz_base.specs.Lists.{drop_block}
use Rattle.mz_base.specs.Sizes.{units_of}
use Rattle.mz_events.specs.declared.event.Event.{Event}
use Rattle.mz_events.specs.declared.event.Event.TheVariants.{Take, Back, Move, New, End, Size, Full, Dry, No, Open, Shut}
use Rattle.mz_events.specs.declared.entry.Entry.{Entry}
use Rattle.mz_events.specs.Hands.{hand_after, hand_through}
use Rattle.mz_record.specs.Moments.{MeetDuties}
use Rattle.mz_record.specs.Served.{Request, events, AreFlushes, IsServed, by_nano, by_magazine, by_depot, by_fresh_region, null_in_range, by_cache, by_fresh_run, null_in_large}
use Rattle.mz_record.specs.Dropped.{IsDropped}
use Rattle.mz_record.proofs.DutyLemmas.{changes_no_block, LeavesThere, meets_and_changes_none}

-- a hand through events, one after another
abbrev through : List Block → List Event → List Block
through hand es = fold hand_after hand es

through_events : (hand : List Block) (es : List Entry) → hand_through hand es ≡ through hand (events es)
through_events hand [] = refl
through_events hand (e ∷ es) = through_events (hand_after hand e.event) es

keeps_hand : (hand : List Block) (e : Event) → changes_no_block e ≡ true → hand_after hand e ≡ hand
keeps_hand hand (New k a n al) only = absurd (false≢true only)
keeps_hand hand (End k a n) only = absurd (false≢true only)
keeps_hand hand (Size k a n m) only = absurd (false≢true only)
keeps_hand hand (Take k f w) only = refl
keeps_hand hand (Back k f w) only = refl
keeps_hand hand (Move f from to) only = refl
keeps_hand hand (Full k n al) only = refl
keeps_hand hand (Dry z w al) only = refl
keeps_hand hand (No k z a n) only = refl
keeps_hand hand (Open z) only = refl
keeps_hand hand (Shut z) only = refl

through_none : (hand : List Block) (es : List Event) → list_all changes_no_block es ≡ true → through hand es ≡ hand
through_none hand [] none = refl
through_none hand (e ∷ es) none =
    let parts = and_parts (changes_no_block e) (list_all changes_no_block es) none in
    ap (λ bs. through bs es) (keeps_hand hand e parts.0) ∙ through_none hand es parts.1

module _ (laws : LeavesThere) (p : Profile) (h : List Entry) where
  through_flushes : (z w al : ℕ) (hand : List Block) (fs : List Entry) → AreFlushes p h z w al fs → hand_through hand fs ≡ hand
  through_flushes z w al hand [] between = refl
  through_flushes z w al hand (d ∷ []) between = absurd between
  through_flushes z w al hand (d ∷ b ∷ fs) between =
      ap (λ bs. hand_through (hand_after bs b.event) fs) (ap (λ e. hand_after hand e) between.0)
      ∙ (ap (λ bs. hand_through bs fs) (keeps_hand hand b.event (meets_and_changes_none laws p h d b between.1.duty)) ∙ through_flushes z w al hand fs between.2)

  -- events that change no block, flushes, and others behind them
  behind : (z w al : ℕ) (hand : List Block) (front flushes back : List Entry) (fs bs : List Event) → events front ≡ fs → list_all changes_no_block fs ≡ true
      → AreFlushes p h z w al flushes → events back ≡ bs → hand_through hand (front ++ (flushes ++ back)) ≡ through hand bs
  behind z w al hand front flushes back fs bs first none between last =
      fold-append (λ x e. hand_after x e.event) hand front (flushes ++ back)
      ∙ (ap (λ x. hand_through x (flushes ++ back)) (through_events hand front ∙ (ap (λ es. through hand es) first ∙ through_none hand fs none))
      ∙ (fold-append (λ x e. hand_after x e.event) hand flushes back
      ∙ (ap (λ x. hand_through x back) (through_flushes z w al hand flushes between)
      ∙ (through_events hand back ∙ ap (λ es. through hand es) last))))

  through_duties : (hand : List Block) (e : Entry) (ds : List Entry) → MeetDuties p h e ds → hand_through hand ds ≡ hand
  through_duties hand e [] met = refl
  through_duties hand e (d ∷ ds) met =
      ap (λ bs. hand_through bs ds) (keeps_hand hand d.event (meets_and_changes_none laws p h e d met.0.duty)) ∙ through_duties hand d ds met.1

-- events that make the block that was got, or none
serves : (hand : List Block) (got is : Option Block) (es : List Block) → got ≡ is → es ≡ hand ++ option_to_list is → es ≡ hand ++ option_to_list got
serves hand got is es same all = all ∙ ap (λ o. hand ++ option_to_list o) (sym same)

pub served_hand : LeavesThere → (p : Profile) (h : List Entry) (q : Request) (es : List Entry) (got : Option Block) (hand : List Block) → IsServed p h q es got → hand_through hand es ≡ hand ++ option_to_list got
served_hand laws p h q es got hand (by_nano a zone some few align all is) = serves hand got _ _ is (through_events hand es ∙ ap (λ xs. through hand xs) all)
served_hand laws p h q es got hand (by_magazine r a here all is) = serves hand got _ _ is (through_events hand es ∙ ap (λ xs. through hand xs) all)
served_hand laws p h q es got hand (by_depot r a f here all is) = serves hand got _ _ is (through_events hand es ∙ ap (λ xs. through hand xs) all)
served_hand laws p h q es got hand (by_fresh_region r a f front flushes back here whole full between all is) =
    serves hand got _ _ is (ap (λ xs. hand_through hand xs) (whole ∙ append_assoc front flushes back) ∙ behind laws p h q.zone r.pages r.pages hand front flushes back _ _ full refl between all)
served_hand laws p h q es got hand (null_in_range r front flushes last here whole full between dry is) =
    serves hand got _ _ is (ap (λ xs. hand_through hand xs) (whole ∙ append_assoc front flushes (last ∷ [])) ∙ (behind laws p h q.zone r.pages r.pages hand front flushes (last ∷ []) _ _ full refl between (ap (λ e. e ∷ []) dry.event) ∙ sym (append-nil hand)))
served_hand laws p h q es got hand (by_cache e a s many whole all best is) = serves hand got _ _ is (ap (λ xs. hand_through hand xs) whole ∙ ap (λ d. hand_after hand d) all)
served_hand laws p h q es got hand (by_fresh_run f first flushes back many whole full between all is) =
    serves hand got _ _ is (ap (λ xs. hand_through hand xs) whole ∙ behind laws p h q.zone (units_of q.bytes) 1 hand (first ∷ []) flushes back _ _ (ap (λ e. e ∷ []) full) refl between all)
served_hand laws p h q es got hand (null_in_large first last flushes many whole full between dry is) =
    serves hand got _ _ is (ap (λ xs. hand_through hand xs) whole ∙ (behind laws p h q.zone (units_of q.bytes) 1 hand (first ∷ []) flushes (last ∷ []) _ _ (ap (λ e. e ∷ []) full) refl between (ap (λ e. e ∷ []) dry.event) ∙ sym (append-nil hand)))

pub dropped_hand : LeavesThere → (p : Profile) (h : List Entry) (b : Block) (es : List Entry) (hand : List Block) → IsDropped p h b es → hand_through hand es ≡ drop_block b hand
dropped_hand laws p h b [] hand is = absurd is
dropped_hand laws p h b (e ∷ es) hand is =
    ap (λ d. hand_through (hand_after hand d) es) is.1 ∙ through_duties laws p h (drop_block b hand) e es is.2
