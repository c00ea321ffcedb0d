use Rattle.std.proofs.Common.{◌≡◌, ap, sym, subst, ◌∙◌, filter, None}
use Rattle.std.specs.Bool.{then_some}
use Rattle.mz_lawful.specs.Names.{batch_name}
use Rattle.mz_session.specs.Names.{IsFirstInBatch}
use Rattle.mz_session.proofs.OrderLemmas.{is_from, range-from, batch-none, batch-found, batch-other, IsElsewhere}
use Rattle.mz_session.proofs.blocks.Blocks.first_in_batch.Goals as goal

pub returns-in_err-name : goal.returns-in_err-name
returns-in_err-name c =
    let es = c.self.inside.map.entries in
    let base = c.args.base.now in
    let ran : c.range.result ≡ filter (is_from (batch_name base 0)) es =
    c.range.ensures.between tt ∙ range-from (batch_name base c.in_ok-index.index) es ∙ ap (λ n. filter (is_from (batch_name base n)) es) c.in_ok-index.ensures.value in
    subst (λ xs. IsFirstInBatch xs base c.from_residual-in_err-name.result) c.self.view_is
    (subst (λ o. IsFirstInBatch es base o) (sym c.from_residual-in_err-name.ensures) (batch-none es base (sym ran ∙ c.in_err-name.ensures.steps.0)))

pub returns-in-Batch : goal.returns-in-Batch
returns-in-Batch c =
    let es = c.self.inside.map.entries in
    let base = c.args.base.now in
    let ran : c.range.result ≡ filter (is_from (batch_name base 0)) es =
    c.range.ensures.between tt ∙ range-from (batch_name base c.in_ok-index.index) es ∙ ap (λ n. filter (is_from (batch_name base n)) es) c.in_ok-index.ensures.value in
    subst (λ xs. IsFirstInBatch xs base c.then_some.result) c.self.view_is
    (subst (λ o. IsFirstInBatch es base o) (sym (c.then_some.ensures ∙ ap (λ d. then_some d c.in-Batch.batch.index) c.eq.ensures))
    (batch-found es base c.in-Batch.batch (c.in_ok-name.name.now, c.in_ok-name._block.now) c.next.new.self c.range.ensures.ordered
    (sym ran ∙ c.in_ok-name.ensures.steps) c.in-Batch.is))

pub returns-in-Given : goal.returns-in-Given
returns-in-Given c =
    let es = c.self.inside.map.entries in
    let base = c.args.base.now in
    let ran : c.range.result ≡ filter (is_from (batch_name base 0)) es =
    c.range.ensures.between tt ∙ range-from (batch_name base c.in_ok-index.index) es ∙ ap (λ n. filter (is_from (batch_name base n)) es) c.in_ok-index.ensures.value in
    subst (λ xs. IsFirstInBatch xs base None) c.self.view_is
    (batch-other es base (c.in_ok-name.name.now, c.in_ok-name._block.now) c.next.new.self c.range.ensures.ordered
    (sym ran ∙ c.in_ok-name.ensures.steps) (subst (IsElsewhere base) (sym c.in-Given.is) tt))
