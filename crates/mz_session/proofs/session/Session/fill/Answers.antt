use Rattle.std.proofs.Common.{◌≡◌, ◌∙◌, refl, ap, sym, subst, Some, None, length}
use Rattle.std.specs.Prelude.{replicate}
use Rattle.std.specs.Option.{option_map}
use Rattle.std.proofs.lemmas.List.{length-replicate}
use Rattle.mz_lines.specs.declared.answer.Answer.TheVariants as answers
use Rattle.mz_lines.specs.declared.command.Command.TheVariants.{Fill}
use Rattle.mz_record.specs.Bytes.{filled}
use Rattle.mz_lawful.specs.Tasks.{filling}
use Rattle.mz_zone.specs.Blocks.{BlockView, block_of, with_block_bytes}
use Rattle.mz_session.specs.Names.{block_with}
use Rattle.mz_session.specs.Changes.{AreWith}
use Rattle.mz_session.specs.Sessions.{SessionView}
use Rattle.mz_session.specs.Serving.{setting_of, Serves}
use Rattle.mz_session.proofs.ShownLemmas.{shown-filled}
use Rattle.mz_session.proofs.RecordLemmas.{serves-refused, with-none, with-some}
use Rattle.mz_session.proofs.WrittenLemmas.{option-none, option-some, with_blocks, serves-written}
use Rattle.mz_session.proofs.session.Session.fill.Goals as goal

pub returns-then-is_none : goal.returns-then-is_none
returns-then-is_none c =
    let s : SessionView = c.args.self.now in
    let name = c.args.name in
    let inside : block_with c.self.inside.blocks c.get-name.result ≡ None = sym c.get.ensures ∙ option-none (λ b. b.now) c.get.result c.if-is_none.ensures in
    let none : block_with s.blocks name ≡ None = ap (λ x. block_with x.blocks name) (sym c.self.view_is) ∙ ap (block_with c.self.inside.blocks) (sym c.get-name.ensures) ∙ inside in
    serves-refused s (Fill name c.args.byte) answers.NotHeld c.requires (λ v stands. with-none s (setting_of s s v) stands name (λ h. filling h.block c.args.byte) none)

pub returns : goal.returns
returns c =
    let s : SessionView = c.args.self.now in
    let name = c.args.name in
    let byte = c.args.byte in
    let some = option-some (λ b. b.now) c.get.result c.if-is_none.ensures in
    let b : BlockView = some.0 in
    let held : block_with s.blocks name ≡ Some b =
    ap (λ x. block_with x.blocks name) (sym c.self.view_is) ∙ (ap (block_with c.self.inside.blocks) (sym c.get-name.ensures) ∙ (sym c.get.ensures ∙ some.1)) in
    let ws = replicate (length b.span.bytes) byte in
    let bs = c.fill.new.self in
    let with_it : AreWith s.blocks name (Some (with_block_bytes b ws)) bs =
    subst (λ o. AreWith s.blocks name (option_map (λ x. with_block_bytes x (replicate (length x.span.bytes) byte)) o) bs) held
    (subst (λ n. AreWith s.blocks n (option_map (λ y. with_block_bytes y (replicate (length y.span.bytes) byte)) (block_with s.blocks n)) bs) c.get-name.ensures
    (subst (λ x. AreWith x.blocks c.get-name.result (option_map (λ y. with_block_bytes y (replicate (length y.span.bytes) byte)) (block_with x.blocks c.get-name.result)) bs) c.self.view_is c.fill.ensures)) in
    let served = serves-written s bs name b ws c.requires held (length-replicate (length b.span.bytes) byte) with_it
    (Fill name byte) (λ v. filling (block_of b) byte) (λ v. filled (length b.span.bytes) byte)
    (λ v stands. with-some s (setting_of s (with_blocks s bs) v) stands name (λ h. filling h.block byte) b held)
    (λ v. (refl, (refl, (refl, λ x. refl))))
    (λ v stands. shown-filled (length b.span.bytes) byte) in
    subst (λ x. Serves s (Fill name byte) answers.Done (with_blocks x bs)) (sym c.self.view_is) served
