use Rattle.std.proofs.Common.{◌∙◌, sym, subst, length, Ok, Err}
use Rattle.mz_base.specs.declared.range.TheConstants.{PAGE}
use Rattle.mz_words.specs.declared.name.Name.TheVariants.{Base}
use Rattle.mz_lines.specs.declared.answer.Answer.TheVariants as answers
use Rattle.mz_lines.specs.declared.command.Command.TheVariants.{Valloc}
use Rattle.mz_lawful.specs.Tasks.{serving, request_of}
use Rattle.mz_session.specs.Names.{block_with}
use Rattle.mz_session.specs.Sessions.{SessionView}
use Rattle.mz_session.specs.Serving.{Makes, Holds, Serves, setting_of}
use Rattle.mz_session.proofs.HeldLemmas.{not-some}
use Rattle.mz_session.proofs.RecordLemmas.{serves-made, serves-null, serves-refused, new-held, new-free}
use Rattle.mz_session.proofs.CommandLemmas.{answered, free-own}
use Rattle.mz_session.proofs.session.Session.valloc.Goals as goal

pub returns-then-holds : goal.returns-then-holds
returns-then-holds g c =
    let s : SessionView = c.args.self.now in
    let name = Base c.args.name in
    serves-refused s (Valloc c.args.name c.args.n) answers.Held c.requires (λ v stands. new-held s (setting_of s s v) stands name (λ z. serving name (request_of 0 z c.args.n PAGE) 0) (sym c.holds.ensures ∙ c.if-holds.true))

pub hold-requires-clause-kept : goal.hold-requires-clause-kept
hold-requires-clause-kept g c =
    let s : SessionView = c.args.self.now in
    let makes : Makes s c.args.n PAGE (Ok c.in-Ok.block) c.make_at_page.new.self = subst (λ o. Makes s c.args.n PAGE o c.make_at_page.new.self) c.in-Ok.is c.in_ok-block.ensures in
    makes.keeps

pub hold-requires-clause-free : goal.hold-requires-clause-free
hold-requires-clause-free g c =
    let s : SessionView = c.args.self.now in
    let name = Base c.args.name in
    let makes : Makes s c.args.n PAGE (Ok c.in-Ok.block) c.make_at_page.new.self = subst (λ o. Makes s c.args.n PAGE o c.make_at_page.new.self) c.in-Ok.is c.in_ok-block.ensures in
    free-own s c.make_at_page.new.self name tt makes.notes.blocks (not-some (block_with s.blocks name) (sym c.holds.ensures ∙ c.if-holds.false))

pub returns-in-Ok : goal.returns-in-Ok
returns-in-Ok g c =
    let s : SessionView = c.args.self.now in
    let u : SessionView = c.make_at_page.new.self in
    let t : SessionView = c.hold.new.self in
    let name = Base c.args.name in
    let b = c.in-Ok.block in
    let makes : Makes s c.args.n PAGE (Ok c.in-Ok.block) c.make_at_page.new.self = subst (λ o. Makes s c.args.n PAGE o c.make_at_page.new.self) c.in-Ok.is c.in_ok-block.ensures in
    let free = not-some (block_with s.blocks name) (sym c.holds.ensures ∙ c.if-holds.false) in
    answered c.hold.result (answers.Block b.span.first (length b.span.bytes)) (Holds u name b t) (λ answer. Serves s (Valloc c.args.name c.args.n) answer t) c.hold.ensures.answer c.hold.ensures.holds
    (λ holds.
    serves-made c.of_sessions.ensures s u t (Valloc c.args.name c.args.n) name c.args.n PAGE 0 b makes holds free (c.of_sessions.ensures.unknown b.span.bytes) tt
    (λ v stands. new-free s (setting_of s t v) stands name (λ z. serving name (request_of 0 z c.args.n PAGE) 0) free))

pub returns-in-Err : goal.returns-in-Err
returns-in-Err g c =
    let s : SessionView = c.args.self.now in
    let t : SessionView = c.make_at_page.new.self in
    let name = Base c.args.name in
    let makes : Makes s c.args.n PAGE (Err c.in-Err._null) c.make_at_page.new.self = subst (λ o. Makes s c.args.n PAGE o c.make_at_page.new.self) c.in-Err.is c.in_ok-block.ensures in
    let free = not-some (block_with s.blocks name) (sym c.holds.ensures ∙ c.if-holds.false) in
    serves-null c.of_sessions.ensures s t (Valloc c.args.name c.args.n) name c.args.n PAGE 0 c.in-Err._null makes
    (λ v stands. new-free s (setting_of s t v) stands name (λ z. serving name (request_of 0 z c.args.n PAGE) 0) free)
