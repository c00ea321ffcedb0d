use Rattle.std.proofs.Common.{◌∙◌, sym, ap, length}
use Rattle.std.specs.Prelude.{◌==◌}
use Rattle.mz_run.proofs.PassLemmas.{stopped_start}
use Rattle.mz_run.proofs.built.pass_round.Goals as goal

pub returns-then-not-is_empty : goal.returns-then-not-is_empty
returns-then-not-is_empty c =
    let some = ap (λ ls. length ls == 0) (sym c.as_slice.ensures) ∙ sym c.is_empty.ensures ∙ c.if-not-is_empty.true in
    sym (stopped_start _ c.args.round.now.lines _ some)
