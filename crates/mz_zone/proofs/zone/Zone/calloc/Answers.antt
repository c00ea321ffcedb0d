use Rattle.std.proofs.Common.{◌≤◌, Ok, length, refl, subst}
use Rattle.mz_zone.specs.Calling.{AtView, seen}
use Rattle.mz_zone.specs.Answering.{Answers, IsCleared}
use Rattle.mz_zone.proofs.Enough.{served_holds}
use Rattle.mz_zone.proofs.Clearing.{cleared_answer}
use Rattle.mz_zone.proofs.zone.Zone.calloc.Goals as goal

pub serve-requires-clause-power : goal.serve-requires-clause-power
serve-requires-clause-power g c = (4, refl)

pub clear-requires : goal.clear-requires
clear-requires g c = served_holds c.of_zones.ensures _ _ _ _ _ c.in-Ok.ensures.answers.serves.served

pub returns-in-Ok-clause-answers : goal.returns-in-Ok-clause-answers
returns-in-Ok-clause-answers g c =
    let v : AtView = seen g.B.Book.account c.args.at.now in
    let w : AtView = seen g.B.Book.account c.serve.new.at in
    let a : Answers v c.args.self.now.zone c.in-Some.len 16 (Ok c.in-Ok.block) w = c.in-Ok.ensures.answers in
    let fits : c.in-Some.len ≤ length c.in-Ok.block.span.bytes = served_holds c.of_zones.ensures _ _ _ _ _ a.serves.served in
    let r = cleared_answer c.of_zones.ensures v w c.args.self.now.zone c.in-Some.len c.in-Ok.block c.clear.new.block fits c.clear.ensures a in
    let e = c.in-Some.ensures in
    (e.0, subst (λ k. Answers v c.args.self.now.zone k 16 (Ok c.clear.new.block) w) e.1 r.0, subst (λ k. IsCleared k c.clear.new.block) e.1 r.1)
