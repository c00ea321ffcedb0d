use Rattle.std.proofs.Common.{sym, subst}
use Rattle.mz_lines.specs.declared.answer.Answer.TheVariants as answers
use Rattle.mz_lines.specs.declared.command.Command.TheVariants.{Free}
use Rattle.mz_lawful.specs.Tasks.{dropping}
use Rattle.mz_session.specs.Sessions.{SessionView}
use Rattle.mz_session.specs.Serving.{Serves, setting_of}
use Rattle.mz_session.proofs.RecordLemmas.{serves-dropped, serves-refused, with-none, with-some}
use Rattle.mz_session.proofs.session.Session.free.Goals as goal

pub returns-in_default : goal.returns-in_default
returns-in_default g c =
    let s : SessionView = c.args.self.now in
    let name = c.get.result in
    let none = c.in_default.ensures in
    subst (λ n. Serves s (Free n) answers.NotHeld c.take.new.self) c.get.ensures
    (subst (λ x. Serves s (Free name) answers.NotHeld x) (sym none.1)
    (serves-refused s (Free name) answers.NotHeld c.requires (λ v stands. with-none s (setting_of s s v) stands name dropping none.0)))

pub end-requires : goal.end-requires
end-requires g c = c.in-Some.ensures.3

pub returns : goal.returns
returns g c =
    let s : SessionView = c.args.self.now in
    let u : SessionView = c.take.new.self in
    let t : SessionView = c.end.new.self in
    let name = c.get.result in
    let takes = c.in-Some.ensures in
    subst (λ n. Serves s (Free n) answers.Done t) c.get.ensures
    (serves-dropped s u t (Free name) name c.in-Some.block c.requires takes c.in_ok-end.ensures
    (λ v stands. with-some s (setting_of s t v) stands name dropping c.in-Some.block takes.0))
