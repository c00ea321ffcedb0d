use Rattle.std.proofs.Common.{[], ◌∷◌, ap, ◌∙◌}
use Rattle.mz_run.proofs.allocator.serve_round.Goals as goal

pub returns-clause-turns : goal.returns-clause-turns
returns-clause-turns g c = record {
  calls = c.in_ok-records.records.items;
  served = c.serve_commands.new.session;
  starts = c.new.ensures;
  callers = c.of-2.ensures ∙ c.in_ok-callers.ensures.items ∙ ap (λ l. l ∷ []) c.of.ensures;
  turns = c.in_ok-records.ensures.turns;
  delivers = c.in_ok-deliver.ensures;
}
