use Rattle.std.proofs.lemmas.Bool.{ltb-false}
use Rattle.mz_history.proofs.BeyondLemmas.{none_cached}
use Rattle.mz_history.proofs.books.Books.has_zone.Goals as goal

pub returns-clause-none : goal.returns-clause-none
returns-clause-none c = λ out. rw (← c.self.view_is) (none_cached _ _ c.args.zone (λ e. c.locality.ensures _ e) (ltb-false c.args.zone c.self.inside.profile.zones out) c.self.invariant.0.reached)
