use Rattle.std.proofs.Common.{◌≡◌, map, take}
use Rattle.mz_session.specs.Seats.{deal_of}
use Rattle.mz_session.specs.Giving.{slots_of}
use Rattle.mz_session.proofs.giving.deals_of.Given as goal

abbrev pub invariant-loop-parcel : goal.invariant-loop-parcel
invariant-loop-parcel l = l.deals.items ≡ map deal_of (slots_of (take l.parcel-index l.parcels))
