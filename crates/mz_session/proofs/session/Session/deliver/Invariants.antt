use Rattle.std.proofs.Common.{◌≡◌, length}
use Rattle.std.specs.Vec.Iter.{into_iter_items, into_iter_len}
use Rattle.mz_session.proofs.GivingLemmas.{Arrives}
use Rattle.mz_session.proofs.session.Session.deliver.Given as goal

abbrev pub invariant-loop-parcel : goal.invariant-loop-parcel
invariant-loop-parcel l =
    (goal.iterator-loop-parcel).can_next l.parcel-iterator ×
    (goal.iterator-loop-parcel).is_finite l.parcel-iterator ×
    Arrives l.fn.self (into_iter_items l.parcel-iterator) l.self ×
    (into_iter_len l.parcel-iterator ≡ length (into_iter_items l.parcel-iterator))
