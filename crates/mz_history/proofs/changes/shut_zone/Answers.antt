use Rattle.std.proofs.Common.{rules, not}
use Rattle.std.specs.Prelude.{◌==◌}
use Rattle.std.proofs.lemmas.Fn.{filter_same}
use Rattle.mz_history.proofs.changes.shut_zone.Goals as goal

pub returns : goal.returns
returns c = filter_same _ (λ y. not (y == c.args.zone)) _ (λ x b f' k. (search rules, search rules)) _ _ c.retain.ensures.filtered
