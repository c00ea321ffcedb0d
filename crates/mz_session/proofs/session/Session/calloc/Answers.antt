use Rattle.std.proofs.Common.{◌∙◌, ◌*◌, sym, subst, length, Ok, Err}
use Rattle.std.specs.Prelude.{◌^◌, nat_le}
use Rattle.mz_words.specs.declared.name.Name.TheVariants.{Base}
use Rattle.mz_lines.specs.declared.answer.Answer.TheVariants as answers
use Rattle.mz_lines.specs.declared.command.Command.TheVariants.{Calloc}
use Rattle.mz_lawful.specs.Tasks.{refuse_if, serving, request_of}
use Rattle.mz_zone.specs.declared.fault.CallocFault.TheVariants as calloc
use Rattle.mz_session.specs.Names.{block_with}
use Rattle.mz_session.specs.Sessions.{SessionView}
use Rattle.mz_session.specs.Serving.{MakesCleared, Holds, Serves, setting_of}
use Rattle.mz_session.proofs.HeldLemmas.{not-some}
use Rattle.mz_session.proofs.RecordLemmas.{serves-made, serves-null, serves-refused, serves-rests, new-held}
use Rattle.mz_session.proofs.CommandLemmas.{answered, free-own, calloc-free, calloc-many}
use Rattle.mz_session.proofs.session.Session.calloc.Goals as goal

pub returns-then-holds : goal.returns-then-holds
returns-then-holds g c =
    let s : SessionView = c.args.self.now in
    let name = Base c.args.name in
    serves-refused s (Calloc c.args.name c.args.n c.args.m) answers.Held c.requires (λ v stands. new-held s (setting_of s s v) stands name (λ z. refuse_if (nat_le (2 ^ 64) (c.args.n * c.args.m)) answers.Overflow (serving name (request_of 0 z (c.args.n * c.args.m) 16) (c.args.n * c.args.m))) (sym c.holds.ensures ∙ c.if-holds.true))

pub hold-requires-clause-kept : goal.hold-requires-clause-kept
hold-requires-clause-kept g c =
    let s : SessionView = c.args.self.now in
    let makes : MakesCleared s c.args.n c.args.m (Ok c.in-Ok.block) c.make_cleared.new.self = subst (λ o. MakesCleared s c.args.n c.args.m o c.make_cleared.new.self) c.in-Ok.is c.in_ok-block.ensures in
    makes.1.keeps

pub hold-requires-clause-free : goal.hold-requires-clause-free
hold-requires-clause-free g c =
    let s : SessionView = c.args.self.now in
    let name = Base c.args.name in
    let makes : MakesCleared s c.args.n c.args.m (Ok c.in-Ok.block) c.make_cleared.new.self = subst (λ o. MakesCleared s c.args.n c.args.m o c.make_cleared.new.self) c.in-Ok.is c.in_ok-block.ensures in
    free-own s c.make_cleared.new.self name tt makes.1.notes.blocks (not-some (block_with s.blocks name) (sym c.holds.ensures ∙ c.if-holds.false))

pub returns-in-Ok : goal.returns-in-Ok
returns-in-Ok g c =
    let s : SessionView = c.args.self.now in
    let u : SessionView = c.make_cleared.new.self in
    let t : SessionView = c.hold.new.self in
    let name = Base c.args.name in
    let b = c.in-Ok.block in
    let makes : MakesCleared s c.args.n c.args.m (Ok c.in-Ok.block) c.make_cleared.new.self = subst (λ o. MakesCleared s c.args.n c.args.m o c.make_cleared.new.self) c.in-Ok.is c.in_ok-block.ensures in
    let free = not-some (block_with s.blocks name) (sym c.holds.ensures ∙ c.if-holds.false) in
    answered c.hold.result (answers.Block b.span.first (length b.span.bytes)) (Holds u name b t) (λ answer. Serves s (Calloc c.args.name c.args.n c.args.m) answer t) c.hold.ensures.answer c.hold.ensures.holds
    (λ holds.
    serves-made c.of_sessions.ensures s u t (Calloc c.args.name c.args.n c.args.m) name (c.args.n * c.args.m) 16 (c.args.n * c.args.m) b makes.1 holds free makes.2 tt
    (λ v stands. calloc-free s (setting_of s t v) stands c.args.name c.args.n c.args.m free makes.0))

pub returns-in-Err-Null : goal.returns-in-Err-Null
returns-in-Err-Null g c =
    let s : SessionView = c.args.self.now in
    let t : SessionView = c.make_cleared.new.self in
    let found : MakesCleared s c.args.n c.args.m (Err c.in-Err-Null.field-0) c.make_cleared.new.self = subst (λ o. MakesCleared s c.args.n c.args.m o c.make_cleared.new.self) c.in-Err-Null.is c.in_ok-block.ensures in
    let makes : MakesCleared s c.args.n c.args.m (Err (calloc.Null c.in-Err-Null._null)) c.make_cleared.new.self = subst (λ f. MakesCleared s c.args.n c.args.m (Err f) c.make_cleared.new.self) c.in-Err-Null.field-0-is found in
    let name = Base c.args.name in
    let free = not-some (block_with s.blocks name) (sym c.holds.ensures ∙ c.if-holds.false) in
    serves-null c.of_sessions.ensures s t (Calloc c.args.name c.args.n c.args.m) name (c.args.n * c.args.m) 16 (c.args.n * c.args.m) c.in-Err-Null._null makes.1
    (λ v stands. calloc-free s (setting_of s t v) stands c.args.name c.args.n c.args.m free makes.0)

pub returns-in-Err-Overflow : goal.returns-in-Err-Overflow
returns-in-Err-Overflow g c =
    let s : SessionView = c.args.self.now in
    let t : SessionView = c.make_cleared.new.self in
    let found : MakesCleared s c.args.n c.args.m (Err c.in-Err-Overflow.field-0) c.make_cleared.new.self = subst (λ o. MakesCleared s c.args.n c.args.m o c.make_cleared.new.self) c.in-Err-Overflow.is c.in_ok-block.ensures in
    let makes : MakesCleared s c.args.n c.args.m (Err calloc.Overflow) c.make_cleared.new.self = subst (λ f. MakesCleared s c.args.n c.args.m (Err f) c.make_cleared.new.self) c.in-Err-Overflow.field-0-is found in
    let free = not-some (block_with s.blocks (Base c.args.name)) (sym c.holds.ensures ∙ c.if-holds.false) in
    serves-rests s t (Calloc c.args.name c.args.n c.args.m) answers.Overflow makes.1 (λ v stands. calloc-many s (setting_of s t v) stands c.args.name c.args.n c.args.m free makes.0)
