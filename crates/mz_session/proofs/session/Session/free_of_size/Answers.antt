use Rattle.std.proofs.Common.{[], ◌∷◌, sym, subst, length, Ok, Err}
use Rattle.mz_lines.specs.declared.answer.Answer.TheVariants as answers
use Rattle.mz_lines.specs.declared.command.Command.TheVariants.{SizedFree}
use Rattle.mz_lawful.specs.Tasks.{refuse_if, dropping, is_wrong_size}
use Rattle.mz_zone.specs.declared.fault.SizeFault.TheVariants as size
use Rattle.mz_session.specs.Sessions.{SessionView, Keeps}
use Rattle.mz_session.specs.Serving.{EndsOfSize, Holds, Serves, setting_of}
use Rattle.mz_session.proofs.RecordLemmas.{serves-dropped, serves-refused, with-none}
use Rattle.mz_session.proofs.CommandLemmas.{free-again, serves-put-back, sized-right, sized-wrong}
use Rattle.mz_session.proofs.session.Session.free_of_size.Goals as goal

pub returns-in_default : goal.returns-in_default
returns-in_default g c =
    let s : SessionView = c.args.self.now in
    let name = c.get-name.result in
    let none = c.in_default.ensures in
    subst (λ n. Serves s (SizedFree n c.args.n) answers.NotHeld c.take.new.self) c.get-name.ensures
    (subst (λ x. Serves s (SizedFree name c.args.n) answers.NotHeld x) (sym none.1)
    (serves-refused s (SizedFree name c.args.n) answers.NotHeld c.requires
    (λ v stands. with-none s (setting_of s s v) stands name (λ h. refuse_if (is_wrong_size h.block c.args.n) (answers.WrongSize h.block.size) (dropping h)) none.0)))

pub end_of_size-requires : goal.end_of_size-requires
end_of_size-requires g c = c.in-Some.ensures.3

pub returns-in-Ok : goal.returns-in-Ok
returns-in-Ok g c =
    let s : SessionView = c.args.self.now in
    let u : SessionView = c.take.new.self in
    let t : SessionView = c.end_of_size.new.self in
    let name = c.get-name.result in
    let takes = c.in-Some.ensures in
    let ends : EndsOfSize u c.in-Some.block c.args.n (Ok tt) t = subst (λ o. EndsOfSize u c.in-Some.block c.args.n o t) c.in-Ok.is c.in_ok-end_of_size.ensures in
    subst (λ n. Serves s (SizedFree n c.args.n) answers.Done t) c.get-name.ensures
    (serves-dropped s u t (SizedFree name c.args.n) name c.in-Some.block c.requires takes ends.1
    (λ v stands. sized-right s (setting_of s t v) stands name c.args.n c.in-Some.block takes.0 ends.0))

pub put-requires-clause-kept : goal.put-requires-clause-kept
put-requires-clause-kept g c =
    let found : EndsOfSize c.take.new.self c.in-Some.block c.args.n (Err c.in-Err-WrongSize.field-0) c.end_of_size.new.self = subst (λ o. EndsOfSize c.take.new.self c.in-Some.block c.args.n o c.end_of_size.new.self) c.in-Err-WrongSize.is c.in_ok-end_of_size.ensures in
    let e : EndsOfSize c.take.new.self c.in-Some.block c.args.n (Err (size.WrongSize c.in-Err-WrongSize.block c.in-Err-WrongSize.held)) c.end_of_size.new.self = subst (λ f. EndsOfSize c.take.new.self c.in-Some.block c.args.n (Err f) c.end_of_size.new.self) c.in-Err-WrongSize.field-0-is found in
    subst (λ x. Keeps c.end_of_size.new.self (x ∷ [])) (sym e.1) e.3.keeps

pub put-requires-clause-free : goal.put-requires-clause-free
put-requires-clause-free g c =
    let found : EndsOfSize c.take.new.self c.in-Some.block c.args.n (Err c.in-Err-WrongSize.field-0) c.end_of_size.new.self = subst (λ o. EndsOfSize c.take.new.self c.in-Some.block c.args.n o c.end_of_size.new.self) c.in-Err-WrongSize.is c.in_ok-end_of_size.ensures in
    let e : EndsOfSize c.take.new.self c.in-Some.block c.args.n (Err (size.WrongSize c.in-Err-WrongSize.block c.in-Err-WrongSize.held)) c.end_of_size.new.self = subst (λ f. EndsOfSize c.take.new.self c.in-Some.block c.args.n (Err f) c.end_of_size.new.self) c.in-Err-WrongSize.field-0-is found in
    free-again c.args.self.now c.take.new.self c.end_of_size.new.self c.get-name.result c.in-Some.block c.requires c.in-Some.ensures e.3.notes.blocks e.3.notes.parcels

pub unreachable-requires : goal.unreachable-requires
unreachable-requires g c =
    let found : EndsOfSize c.take.new.self c.in-Some.block c.args.n (Err c.in-Err-NotLive.field-0) c.end_of_size.new.self = subst (λ o. EndsOfSize c.take.new.self c.in-Some.block c.args.n o c.end_of_size.new.self) c.in-Err-NotLive.is c.in_ok-end_of_size.ensures in
    subst (λ f. EndsOfSize c.take.new.self c.in-Some.block c.args.n (Err f) c.end_of_size.new.self) c.in-Err-NotLive.field-0-is found

pub returns-in_ok-put-in-Err-WrongSize : goal.returns-in_ok-put-in-Err-WrongSize
returns-in_ok-put-in-Err-WrongSize g c =
    let s : SessionView = c.args.self.now in
    let u : SessionView = c.take.new.self in
    let w : SessionView = c.end_of_size.new.self in
    let t : SessionView = c.put.new.self in
    let name = c.get-name.result in
    let b = c.in-Some.block in
    let takes = c.in-Some.ensures in
    let found : EndsOfSize c.take.new.self c.in-Some.block c.args.n (Err c.in-Err-WrongSize.field-0) c.end_of_size.new.self = subst (λ o. EndsOfSize c.take.new.self c.in-Some.block c.args.n o c.end_of_size.new.self) c.in-Err-WrongSize.is c.in_ok-end_of_size.ensures in
    let e : EndsOfSize c.take.new.self c.in-Some.block c.args.n (Err (size.WrongSize c.in-Err-WrongSize.block c.in-Err-WrongSize.held)) c.end_of_size.new.self = subst (λ f. EndsOfSize c.take.new.self c.in-Some.block c.args.n (Err f) c.end_of_size.new.self) c.in-Err-WrongSize.field-0-is found in
    let holds : Holds w name b t = subst (λ x. Holds w name x t) e.1 c.in_ok-put-in-Err-WrongSize.ensures in
    subst (λ n. Serves s (SizedFree n c.args.n) (answers.WrongSize c.in-Err-WrongSize.held) t) c.get-name.ensures
    (subst (λ h. Serves s (SizedFree name c.args.n) (answers.WrongSize h) t) (sym e.2)
    (serves-put-back s u w t (SizedFree name c.args.n) (answers.WrongSize (length b.span.bytes)) name b takes e.3 holds
    (λ v stands. sized-wrong s (setting_of s t v) stands name c.args.n b takes.0 e.0)))
