use Rattle.std.proofs.Common.{◌≡◌, ◌++◌, map}
use Rattle.mz_zone.specs.Blocks.{block_of}
use Rattle.mz_session.specs.Names.{blocks_named}
use Rattle.mz_session.proofs.blocks.Blocks.listed.Given as goal

abbrev pub invariant-loop-block : goal.invariant-loop-block
invariant-loop-block l = l.listed.items ++ map block_of l.block-iterator ≡ blocks_named l.fn.self
