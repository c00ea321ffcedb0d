use Rattle.std.proofs.Common.{◌≡◌, ◌∙◌, ◌+◌, ◌≤◌, ◌<◌, refl, ap, sym, subst, Some, None, length, inl, inr}
use Rattle.std.specs.Prelude.{nat_lt, nat_le, take, drop}
use Rattle.std.proofs.lemmas.Bool.{cases_Bool, false≢true, leb-true, leb-false}
use Rattle.mz_lines.specs.declared.answer.Answer.TheVariants as answers
use Rattle.mz_lines.specs.declared.command.Command.TheVariants.{Show}
use Rattle.mz_lawful.specs.Tasks.{showing, refuse_if}
use Rattle.mz_zone.specs.Blocks.{BlockView}
use Rattle.mz_session.specs.Names.{block_with}
use Rattle.mz_session.specs.Sessions.{SessionView}
use Rattle.mz_session.specs.Serving.{setting_of}
use Rattle.mz_session.proofs.RecordLemmas.{serves-refused, with-none}
use Rattle.mz_session.proofs.BytesLemmas.{serves-no-bytes, serves-bytes}
use Rattle.mz_session.proofs.session.Session.show.Goals as goal

pub returns-in_default : goal.returns-in_default
returns-in_default c =
    let s : SessionView = c.args.self.now in
    let name = c.args.name in
    let none : block_with s.blocks name ≡ None = ap (λ x. block_with x.blocks name) (sym c.self.view_is) ∙ (ap (block_with c.self.inside.blocks) (sym c.get.ensures) ∙ sym c.in_default.ensures) in
    serves-refused s (Show name c.args.off c.args.count) answers.NotHeld c.requires
    (λ v stands. with-none s (setting_of s s v) stands name (λ h. refuse_if (nat_lt h.block.size (c.args.off + c.args.count)) answers.OutOfRange (showing h.block c.args.off c.args.count)) none)

pub returns-in-Some-bytes_at : goal.returns-in-Some-bytes_at
returns-in-Some-bytes_at c =
    let s : SessionView = c.args.self.now in
    let name = c.args.name in
    let b : BlockView = c.in-Some.block.now in
    let held : block_with s.blocks name ≡ Some b = ap (λ x. block_with x.blocks name) (sym c.self.view_is) ∙ (ap (block_with c.self.inside.blocks) (sym c.get.ensures) ∙ sym c.in-Some.ensures) in
    let bytes = c.bytes.ensures in
    let within : c.args.off + c.args.count ≤ length b.span.bytes = subst (λ xs. c.args.off + c.args.count ≤ length xs) bytes (c.in-Some-bytes_at.ensures.there.0 refl) in
    serves-bytes s c.requires name b held c.args.off c.args.count c.in-Some-bytes_at.shown within
    (c.in-Some-bytes_at.ensures.some ∙ ap (λ xs. take c.args.count (drop c.args.off xs)) bytes)

pub returns-in-None : goal.returns-in-None
returns-in-None c =
    let s : SessionView = c.args.self.now in
    let name = c.args.name in
    let b : BlockView = c.in-Some.block.now in
    let held : block_with s.blocks name ≡ Some b = ap (λ x. block_with x.blocks name) (sym c.self.view_is) ∙ (ap (block_with c.self.inside.blocks) (sym c.get.ensures) ∙ sym c.in-Some.ensures) in
    let beyond : length b.span.bytes < c.args.off + c.args.count =
    subst (λ xs. length xs < c.args.off + c.args.count) c.bytes.ensures
    (elim (cases_Bool (nat_le (c.args.off + c.args.count) (length c.bytes.result.now))) [
      | inl within ↦ absurd (false≢true (c.in-None.ensures.there.1 (leb-true (c.args.off + c.args.count) (length c.bytes.result.now) within)))
      | inr none ↦ leb-false (c.args.off + c.args.count) (length c.bytes.result.now) none
    ])
    in
    serves-no-bytes s c.requires name b held c.args.off c.args.count beyond
