-- Which entries fit a block that is dropped. That a thin region goes to a depot and an old freed run back to the pages is
-- after libmalloc; the exact entries are this project's own.
use Rattle.std.specs.Prelude.{ℕ, ◌≡◌, List, [], ◌∷◌, ◌++◌}
use Rattle.mz_base.specs.declared.profile.Profile.{Profile}
use Rattle.mz_base.specs.Space.{Block}
use Rattle.mz_events.specs.declared.place.Place.{Place}
use Rattle.mz_events.specs.declared.event.Event.TheVariants.{End, No}
use Rattle.mz_events.specs.declared.entry.Entry.{Entry}
use Rattle.mz_record.specs.Moments.{MeetDuties}

-- The entries es of the history h drop a block: it ends in its place, and then come the duties, each at once.
abbrev pub IsDropped : Profile → List Entry → Block → List Entry → Type 0
IsDropped p h b [] = ⊥
IsDropped p h b (e ∷ es) = (k : Place) × (e.event ≡ End k b.first b.size) × MeetDuties p h e es

-- blocks are dropped one after another
abbrev pub DropInTurn : Profile → List Entry → List Block → List Entry → Type 0
DropInTurn p h [] es = es ≡ []
DropInTurn p h (b ∷ bs) es = (mine : List Entry) × (rest : List Entry) × (es ≡ mine ++ rest) × IsDropped p h b mine × DropInTurn p h bs rest

-- one entry says that the block isn't one of zone z
abbrev pub IsNotOfZone : ℕ → Block → List Entry → Type 0
IsNotOfZone z b es = (e : Entry) × (k : Place) × (es ≡ e ∷ []) × (e.event ≡ No k z b.first b.size)
