-- Entries and pairs as numbers, so that ghost fields can compare lists of them.
use Rattle.std.specs.Prelude.{◌≡◌, ℕ, ◌⊎◌, List, refl}
use Rattle.std.proofs.Common.{inl, inr}
use Rattle.std.specs.Coded.{Coded, code_by, coded×, coded⊎, coded_ℕ, coded_list}
use base.Stored.{coded_unit}
use Rattle.mz_events.specs.declared.place.Place.{Place}
use Rattle.mz_events.specs.declared.place.Place.TheVariants.{Pages, Tiny, TinyDepot, Small, SmallDepot, Large, Nano}
use Rattle.mz_events.specs.declared.event.Event.{Event}
use Rattle.mz_events.specs.declared.event.Event.TheVariants.{Take, Back, Move, New, End, Size, Full, Dry, No, Open, Shut}
use Rattle.mz_events.specs.declared.entry.Entry.{Entry}

abbrev pub PlaceParts : Type 0
PlaceParts = (Unit {0} ⊎ Unit {0}) ⊎ ((ℕ × ℕ) ⊎ ((ℕ × ℕ) ⊎ (ℕ ⊎ (ℕ ⊎ ℕ))))

abbrev pub place_parts : Place → PlaceParts
place_parts Pages = inl (inl tt)
place_parts Nano = inl (inr tt)
place_parts (Tiny z m) = inr (inl (z, m))
place_parts (Small z m) = inr (inr (inl (z, m)))
place_parts (TinyDepot z) = inr (inr (inr (inl z)))
place_parts (SmallDepot z) = inr (inr (inr (inr (inl z))))
place_parts (Large z) = inr (inr (inr (inr (inr z))))

abbrev pub place_from : PlaceParts → Place
place_from (inl (inl x)) = Pages
place_from (inl (inr x)) = Nano
place_from (inr (inl x)) = Tiny x.0 x.1
place_from (inr (inr (inl x))) = Small x.0 x.1
place_from (inr (inr (inr (inl z)))) = TinyDepot z
place_from (inr (inr (inr (inr (inl z))))) = SmallDepot z
place_from (inr (inr (inr (inr (inr z))))) = Large z

pub place_back : (k : Place) → place_from (place_parts k) ≡ k
place_back Pages = refl
place_back Nano = refl
place_back (Tiny z m) = refl
place_back (Small z m) = refl
place_back (TinyDepot z) = refl
place_back (SmallDepot z) = refl
place_back (Large z) = refl

abbrev pub place_code : Coded Place
place_code = code_by PlaceParts (coded⊎ (coded⊎ coded_unit coded_unit) (coded⊎ (coded× coded_ℕ coded_ℕ) (coded⊎ (coded× coded_ℕ coded_ℕ) (coded⊎ coded_ℕ (coded⊎ coded_ℕ coded_ℕ))))) place_parts place_from place_back

-- a place and up to three numbers, two places and a number, or some numbers
abbrev pub EventParts : Type 0
EventParts = (((Place × (ℕ × ℕ)) ⊎ (Place × (ℕ × ℕ))) ⊎ ((Place × (ℕ × ℕ)) ⊎ (Place × (ℕ × ℕ)))) ⊎ (((Place × (ℕ × (ℕ × ℕ))) ⊎ ((Place × (ℕ × (ℕ × ℕ))) ⊎ (Place × (ℕ × (ℕ × ℕ))))) ⊎ ((ℕ × (Place × Place)) ⊎ ((ℕ × (ℕ × ℕ)) ⊎ (ℕ ⊎ ℕ))))

abbrev pub event_parts : Event → EventParts
event_parts (Take k f n) = inl (inl (inl (k, (f, n))))
event_parts (Back k f n) = inl (inl (inr (k, (f, n))))
event_parts (End k a n) = inl (inr (inl (k, (a, n))))
event_parts (Full k n al) = inl (inr (inr (k, (n, al))))
event_parts (New k a n al) = inr (inl (inl (k, (a, (n, al)))))
event_parts (Size k a n m) = inr (inl (inr (inl (k, (a, (n, m))))))
event_parts (No k z a n) = inr (inl (inr (inr (k, (z, (a, n))))))
event_parts (Move f from to) = inr (inr (inl (f, (from, to))))
event_parts (Dry z n al) = inr (inr (inr (inl (z, (n, al)))))
event_parts (Open z) = inr (inr (inr (inr (inl z))))
event_parts (Shut z) = inr (inr (inr (inr (inr z))))

abbrev pub event_from : EventParts → Event
event_from (inl (inl (inl x))) = Take x.0 x.1.0 x.1.1
event_from (inl (inl (inr x))) = Back x.0 x.1.0 x.1.1
event_from (inl (inr (inl x))) = End x.0 x.1.0 x.1.1
event_from (inl (inr (inr x))) = Full x.0 x.1.0 x.1.1
event_from (inr (inl (inl x))) = New x.0 x.1.0 x.1.1.0 x.1.1.1
event_from (inr (inl (inr (inl x)))) = Size x.0 x.1.0 x.1.1.0 x.1.1.1
event_from (inr (inl (inr (inr x)))) = No x.0 x.1.0 x.1.1.0 x.1.1.1
event_from (inr (inr (inl x))) = Move x.0 x.1.0 x.1.1
event_from (inr (inr (inr (inl x)))) = Dry x.0 x.1.0 x.1.1
event_from (inr (inr (inr (inr (inl z))))) = Open z
event_from (inr (inr (inr (inr (inr z))))) = Shut z

pub event_back : (e : Event) → event_from (event_parts e) ≡ e
event_back (Take k f n) = refl
event_back (Back k f n) = refl
event_back (End k a n) = refl
event_back (Full k n al) = refl
event_back (New k a n al) = refl
event_back (Size k a n m) = refl
event_back (No k z a n) = refl
event_back (Move f from to) = refl
event_back (Dry z n al) = refl
event_back (Open z) = refl
event_back (Shut z) = refl

abbrev pub event_code : Coded Event
event_code = code_by EventParts (coded⊎ (coded⊎ (coded⊎ (coded× place_code (coded× coded_ℕ coded_ℕ)) (coded× place_code (coded× coded_ℕ coded_ℕ))) (coded⊎ (coded× place_code (coded× coded_ℕ coded_ℕ)) (coded× place_code (coded× coded_ℕ coded_ℕ))))
    (coded⊎ (coded⊎ (coded× place_code (coded× coded_ℕ (coded× coded_ℕ coded_ℕ))) (coded⊎ (coded× place_code (coded× coded_ℕ (coded× coded_ℕ coded_ℕ))) (coded× place_code (coded× coded_ℕ (coded× coded_ℕ coded_ℕ))))) (coded⊎ (coded× coded_ℕ (coded× place_code place_code)) (coded⊎ (coded× coded_ℕ (coded× coded_ℕ coded_ℕ)) (coded⊎ coded_ℕ coded_ℕ)))))
    event_parts event_from event_back

abbrev pub entry_code : Coded Entry
entry_code = code_by (ℕ × (ℕ × Event)) (coded× coded_ℕ (coded× coded_ℕ event_code)) (λ e. (e.ticket, (e.caller, e.event))) (λ p. record { ticket = p.0; caller = p.1.0; event = p.1.1 }) (λ _. refl)

abbrev pub entries_code : Coded (List Entry)
entries_code = coded_list entry_code
