use Rattle.std.proofs.Common.{refl, sym}
use Rattle.mz_events.specs.declared.place.Place.TheVariants.{Pages, Nano}
use Rattle.mz_events.specs.Places.{spot_of}
use Rattle.mz_history.proofs.BeyondLemmas.{none_freed}
use Rattle.mz_history.proofs.books.Books.last_freed.Goals as goal

pub returns-in-Pages : goal.returns-in-Pages
returns-in-Pages c = rw (← c.self.view_is, c.in-Pages.is) (sym (none_freed _ _ (spot_of Pages) (λ es f. c.last_freed_lies_in_its_magazine.ensures _ es (spot_of Pages) f) refl c.self.invariant.0.reached))

pub returns-in-Nano : goal.returns-in-Nano
returns-in-Nano c = rw (← c.self.view_is, c.in-Nano.is) (sym (none_freed _ _ (spot_of Nano) (λ es f. c.last_freed_lies_in_its_magazine.ensures _ es (spot_of Nano) f) refl c.self.invariant.0.reached))
