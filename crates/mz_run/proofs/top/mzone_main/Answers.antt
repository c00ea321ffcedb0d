use Rattle.std.proofs.Common.{Global, map, refl, string_bytes}
use Rattle.mz_run.specs.Top.{seen}
use Rattle.mz_run.proofs.ReplyLemmas.{no_job, usage_said}
use Rattle.mz_run.proofs.top.mzone_main.Goals as goal

pub returns-in-None-clause-ends : goal.returns-in-None-clause-ends
returns-in-None-clause-ends g c =
    let left = g.S.Source.left c.args.source.now in
    let faults = g.S.Source.faults c.args.source.now in
    let before = seen left faults (g.K.Sink.taken c.args.sink.now) (g.K.Sink.faults c.args.sink.now) in
    let after = seen left faults (g.K.Sink.taken c.tell.new.sink) (g.K.Sink.faults c.tell.new.sink) in
    no_job (map (string_bytes {Z = Global}) c.args.words.now) c.job_of.result before after c.tell.result c.job_of.ensures c.in-None.is
    (usage_said before after c.tell.result (record { left = refl; faults = refl }) c.tell.ensures.said)
