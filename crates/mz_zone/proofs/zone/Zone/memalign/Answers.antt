use Rattle.std.proofs.Common.{Ok, Err, max}
use Rattle.mz_zone.specs.Calling.{AtView, seen}
use Rattle.mz_zone.specs.Answering.{Answers}
use Rattle.mz_zone.proofs.Aligned.{power_raised}
use Rattle.mz_zone.proofs.zone.Zone.memalign.Goals as goal

pub serve-requires-clause-power : goal.serve-requires-clause-power
serve-requires-clause-power g c = power_raised c.args.al c.max.result c.max.ensures (c.is_alignment.ensures.0 c.if-not-is_alignment.false).power

pub returns-in-Ok-clause-answers : goal.returns-in-Ok-clause-answers
returns-in-Ok-clause-answers g c =
    let v : AtView = seen g.B.Book.account c.args.at.now in
    let w : AtView = seen g.B.Book.account c.serve.new.at in
    let a : Answers v c.args.self.now.zone c.args.n (max c.args.al 16) (Ok c.in-Ok.block) w = rw c.max.ensures at c.in-Ok.ensures.answers in
    (c.is_alignment.ensures.0 c.if-not-is_alignment.false, a)

pub returns-in-Err-clause-answers : goal.returns-in-Err-clause-answers
returns-in-Err-clause-answers g c =
    let v : AtView = seen g.B.Book.account c.args.at.now in
    let w : AtView = seen g.B.Book.account c.serve.new.at in
    let a : Answers v c.args.self.now.zone c.args.n (max c.args.al 16) (Err c.in-Err.null) w = rw c.max.ensures at c.in-Err.ensures.answers in
    (c.is_alignment.ensures.0 c.if-not-is_alignment.false, a)
