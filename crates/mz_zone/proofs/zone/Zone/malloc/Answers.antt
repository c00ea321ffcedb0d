use Rattle.std.proofs.Common.{refl}
use Rattle.mz_zone.proofs.zone.Zone.malloc.Goals as goal

pub serve-requires-clause-power : goal.serve-requires-clause-power
serve-requires-clause-power g c = (4, refl)
