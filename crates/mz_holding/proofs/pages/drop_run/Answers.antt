use Rattle.std.proofs.Common.{rules}
use Rattle.std.proofs.lemmas.Fn.{filter_same}
use Rattle.mz_holding.specs.TakenPages.{is_other}
use Rattle.mz_holding.proofs.pages.drop_run.Goals as goal

pub returns : goal.returns
returns c = filter_same _ (is_other c.args.first c.args.pages) _ (λ x b f' k. (search rules, search rules)) _ _ c.retain.ensures.filtered
