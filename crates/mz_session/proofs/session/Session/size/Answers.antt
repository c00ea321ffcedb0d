use Rattle.std.proofs.Common.{◌≡◌, ◌∙◌, ap, sym, subst, Some, None}
use Rattle.mz_lines.specs.declared.answer.Answer.TheVariants as answers
use Rattle.mz_lines.specs.declared.command.Command.TheVariants.{Size}
use Rattle.mz_session.specs.Names.{block_with}
use Rattle.mz_session.specs.Sessions.{SessionView}
use Rattle.mz_session.specs.Serving.{Serves}
use Rattle.mz_session.proofs.BytesLemmas.{serves-no-size, serves-size}
use Rattle.mz_session.proofs.session.Session.size.Goals as goal

pub returns-in-Some : goal.returns-in-Some
returns-in-Some c =
    let s : SessionView = c.args.self.now in
    let name = c.args.name in
    let held : block_with s.blocks name ≡ Some c.in-Some.block.now =
    ap (λ x. block_with x.blocks name) (sym c.self.view_is) ∙ ap (block_with c.self.inside.blocks) (sym c.get.ensures) ∙ sym c.in-Some.ensures in
    subst (λ n. Serves s (Size name) (answers.Size n) s) (sym c.size.ensures) (serves-size s c.requires name c.in-Some.block.now held)

pub returns-in-None : goal.returns-in-None
returns-in-None c =
    let s : SessionView = c.args.self.now in
    let name = c.args.name in
    let none : block_with s.blocks name ≡ None =
    ap (λ x. block_with x.blocks name) (sym c.self.view_is) ∙ ap (block_with c.self.inside.blocks) (sym c.get.ensures) ∙ sym c.in-None.ensures in
    serves-no-size s c.requires name none
