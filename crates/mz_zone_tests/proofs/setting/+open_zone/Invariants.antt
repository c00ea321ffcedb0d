use Rattle.std.proofs.Common.{◌-◌}
use Rattle.mz_zone_tests.proofs.setting.+open_zone.Given as goal

-- the keepers that are not held yet
abbrev pub decreases-open_zone : goal.decreases-open_zone
decreases-open_zone g l = 7 - l.n
