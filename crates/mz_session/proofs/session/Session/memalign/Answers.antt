use Rattle.std.proofs.Common.{◌∙◌, sym, subst, length, Ok, Err}
use Rattle.std.specs.Prelude.{max, not}
use Rattle.mz_words.specs.declared.name.Name.TheVariants.{Base}
use Rattle.mz_lines.specs.declared.answer.Answer.TheVariants as answers
use Rattle.mz_lines.specs.declared.command.Command.TheVariants.{Memalign}
use Rattle.mz_lawful.specs.Tasks.{refuse_if, serving, is_alignment, request_of}
use Rattle.mz_zone.specs.declared.fault.AlignFault.TheVariants as align
use Rattle.mz_session.specs.Names.{block_with}
use Rattle.mz_session.specs.Sessions.{SessionView}
use Rattle.mz_session.specs.Serving.{MakesAligned, Holds, Serves, setting_of}
use Rattle.mz_session.proofs.HeldLemmas.{not-some}
use Rattle.mz_session.proofs.RecordLemmas.{serves-made, serves-null, serves-refused, serves-rests, new-held}
use Rattle.mz_session.proofs.CommandLemmas.{answered, free-own, memalign-free, memalign-bad}
use Rattle.mz_session.proofs.session.Session.memalign.Goals as goal

pub returns-then-holds : goal.returns-then-holds
returns-then-holds g c =
    let s : SessionView = c.args.self.now in
    let name = Base c.args.name in
    serves-refused s (Memalign c.args.name c.args.al c.args.n) answers.Held c.requires (λ v stands. new-held s (setting_of s s v) stands name (λ z. refuse_if (not (is_alignment c.args.al)) answers.BadAlign (serving name (request_of 0 z c.args.n (max c.args.al 16)) 0)) (sym c.holds.ensures ∙ c.if-holds.true))

pub hold-requires-clause-kept : goal.hold-requires-clause-kept
hold-requires-clause-kept g c =
    let s : SessionView = c.args.self.now in
    let makes : MakesAligned s c.args.al c.args.n (Ok c.in-Ok.block) c.make_aligned.new.self = subst (λ o. MakesAligned s c.args.al c.args.n o c.make_aligned.new.self) c.in-Ok.is c.in_ok-block.ensures in
    makes.1.keeps

pub hold-requires-clause-free : goal.hold-requires-clause-free
hold-requires-clause-free g c =
    let s : SessionView = c.args.self.now in
    let name = Base c.args.name in
    let makes : MakesAligned s c.args.al c.args.n (Ok c.in-Ok.block) c.make_aligned.new.self = subst (λ o. MakesAligned s c.args.al c.args.n o c.make_aligned.new.self) c.in-Ok.is c.in_ok-block.ensures in
    free-own s c.make_aligned.new.self name tt makes.1.notes.blocks (not-some (block_with s.blocks name) (sym c.holds.ensures ∙ c.if-holds.false))

pub returns-in-Ok : goal.returns-in-Ok
returns-in-Ok g c =
    let s : SessionView = c.args.self.now in
    let u : SessionView = c.make_aligned.new.self in
    let t : SessionView = c.hold.new.self in
    let name = Base c.args.name in
    let b = c.in-Ok.block in
    let makes : MakesAligned s c.args.al c.args.n (Ok c.in-Ok.block) c.make_aligned.new.self = subst (λ o. MakesAligned s c.args.al c.args.n o c.make_aligned.new.self) c.in-Ok.is c.in_ok-block.ensures in
    let free = not-some (block_with s.blocks name) (sym c.holds.ensures ∙ c.if-holds.false) in
    answered c.hold.result (answers.Block b.span.first (length b.span.bytes)) (Holds u name b t) (λ answer. Serves s (Memalign c.args.name c.args.al c.args.n) answer t) c.hold.ensures.answer c.hold.ensures.holds
    (λ holds.
    serves-made c.of_sessions.ensures s u t (Memalign c.args.name c.args.al c.args.n) name c.args.n (max c.args.al 16) 0 b makes.1 holds free (c.of_sessions.ensures.unknown b.span.bytes) tt
    (λ v stands. memalign-free s (setting_of s t v) stands c.args.name c.args.al c.args.n free makes.0))

pub returns-in-Err-Null : goal.returns-in-Err-Null
returns-in-Err-Null g c =
    let s : SessionView = c.args.self.now in
    let t : SessionView = c.make_aligned.new.self in
    let found : MakesAligned s c.args.al c.args.n (Err c.in-Err-Null.field-0) c.make_aligned.new.self = subst (λ o. MakesAligned s c.args.al c.args.n o c.make_aligned.new.self) c.in-Err-Null.is c.in_ok-block.ensures in
    let makes : MakesAligned s c.args.al c.args.n (Err (align.Null c.in-Err-Null._null)) c.make_aligned.new.self = subst (λ f. MakesAligned s c.args.al c.args.n (Err f) c.make_aligned.new.self) c.in-Err-Null.field-0-is found in
    let name = Base c.args.name in
    let free = not-some (block_with s.blocks name) (sym c.holds.ensures ∙ c.if-holds.false) in
    serves-null c.of_sessions.ensures s t (Memalign c.args.name c.args.al c.args.n) name c.args.n (max c.args.al 16) 0 c.in-Err-Null._null makes.1
    (λ v stands. memalign-free s (setting_of s t v) stands c.args.name c.args.al c.args.n free makes.0)

pub returns-in-Err-BadAlign : goal.returns-in-Err-BadAlign
returns-in-Err-BadAlign g c =
    let s : SessionView = c.args.self.now in
    let t : SessionView = c.make_aligned.new.self in
    let found : MakesAligned s c.args.al c.args.n (Err c.in-Err-BadAlign.field-0) c.make_aligned.new.self = subst (λ o. MakesAligned s c.args.al c.args.n o c.make_aligned.new.self) c.in-Err-BadAlign.is c.in_ok-block.ensures in
    let makes : MakesAligned s c.args.al c.args.n (Err align.BadAlign) c.make_aligned.new.self = subst (λ f. MakesAligned s c.args.al c.args.n (Err f) c.make_aligned.new.self) c.in-Err-BadAlign.field-0-is found in
    let free = not-some (block_with s.blocks (Base c.args.name)) (sym c.holds.ensures ∙ c.if-holds.false) in
    serves-rests s t (Memalign c.args.name c.args.al c.args.n) answers.BadAlign makes.1 (λ v stands. memalign-bad s (setting_of s t v) stands c.args.name c.args.al c.args.n free makes.0)
