use Rattle.std.proofs.Common.{◌∙◌, ap, sym, subst}
use Rattle.std.proofs.lemmas.Option.{none-some}
use Rattle.mz_lines.specs.declared.answer.Answer.TheVariants as answers
use Rattle.mz_lines.specs.declared.command.Command.TheVariants.{FreeAt}
use Rattle.mz_lawful.specs.Tasks.{dropping}
use Rattle.mz_zone.specs.Blocks.{BlockView}
use Rattle.mz_session.specs.Names.{holding_of}
use Rattle.mz_session.specs.Sessions.{SessionView}
use Rattle.mz_session.specs.Serving.{Serves, setting_of}
use Rattle.mz_session.proofs.CountLemmas.{some-is}
use Rattle.mz_session.proofs.RecordLemmas.{serves-dropped, serves-refused}
use Rattle.mz_session.proofs.CommandLemmas.{at-nowhere, at-there}
use Rattle.mz_session.proofs.session.Session.free_at.Goals as goal

pub returns-in_default : goal.returns-in_default
returns-in_default g c =
    let s : SessionView = c.args.self.now in
    let name = c.get.result in
    subst (λ n. Serves s (FreeAt n c.args.off) answers.NotHeld s) c.get.ensures
    (serves-refused s (FreeAt name c.args.off) answers.NotHeld c.requires (λ v stands. at-nowhere s (setting_of s s v) stands name c.args.off c.in_default.ensures))

pub unreachable-requires : goal.unreachable-requires
unreachable-requires g c =
    let begins = c.in-Some.ensures.2 in
    none-some begins.block (sym c.in_default-take.ensures.0 ∙ begins.named)

pub end-requires : goal.end-requires
end-requires g c = c.in-Some-take.ensures.3

pub returns : goal.returns
returns g c =
    let s : SessionView = c.args.self.now in
    let u : SessionView = c.take.new.self in
    let t : SessionView = c.end.new.self in
    let name = c.get.result in
    let there = c.in-Some.there in
    let behind = c.in-Some.ensures in
    let takes = c.in-Some-take.ensures in
    let b = c.in-Some-take.block in
    subst (λ n. Serves s (FreeAt n c.args.off) answers.Done t) c.get.ensures
    (serves-dropped s u t (FreeAt name c.args.off) there b c.requires takes c.in_ok-end.ensures
    (λ v stands.
    at-there s (setting_of s t v) stands name there c.args.off behind.0 behind.1 behind.2
    ∙ ap (λ (x : BlockView). dropping (holding_of there x)) (some-is behind.2.block b (sym behind.2.named ∙ takes.0))))
