use Rattle.std.proofs.Common.{◌≡◌, true, map, take}
use Rattle.std.specs.List.{list_all}
use Rattle.mz_trace.specs.RunForms.{entry_fits}
use Rattle.mz_run.specs.Turns.{step_of}
use Rattle.mz_run.proofs.allocator.steps_of.Given as goal

abbrev pub invariant-loop-entry : goal.invariant-loop-entry
invariant-loop-entry l = record {
  steps : l.steps.items ≡ map step_of (take l.entry-index l.entries);
  told : list_all entry_fits l.steps.items ≡ true;
}
