use Rattle.std.proofs.Common.{refl}
use Rattle.mz_zone.proofs.zone.Zone.valloc.Goals as goal

pub serve-requires-clause-power : goal.serve-requires-clause-power
serve-requires-clause-power g c = (14, refl)
