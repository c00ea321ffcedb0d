use Rattle.std.proofs.Common.{sym, ◌∙◌}
use Rattle.mz_zone_tests.proofs.Tested.{ready_same}
use Rattle.mz_zone_tests.proofs.zones.makes.Goals as goal

pub go_on-requires-clause-same : goal.go_on-requires-clause-same
go_on-requires-clause-same g c = c.in_ok-second.ensures.profile ∙ sym c.in_ok-first.ensures.profile

pub go_on-requires-clause-left : goal.go_on-requires-clause-left
go_on-requires-clause-left g c = record { ready = ready_same _ _ _ 0 (c.in_ok-first.ensures.profile ∙ c.profile-p.ensures.same) c.in_ok-book.ensures.ready; held = tt }
