use Rattle.std.proofs.Common.{◌≡◌, ◌++◌}
use Rattle.std.specs.Prelude.{map}
use Rattle.mz_holding.specs.Gaps.{blocks_of_pairs}
use Rattle.mz_holding.specs.LiveBlocks.{live_of}
use Rattle.mz_holding.specs.HeldRuns.{block_of}
use Rattle.mz_holding.proofs.blocks.Blocks.push_to.Given as goal

abbrev pub invariant-loop-first : goal.invariant-loop-first
invariant-loop-first l = map block_of l.list.items ++ blocks_of_pairs l.first-iterator ≡ map block_of l.fn.list.items ++ live_of l.self
