use Rattle.std.proofs.Common.{◌≡◌, ◌+◌, ◌*◌, length}
use Rattle.mz_nano.specs.Laid.{Laid}
use Rattle.mz_nano.proofs.open.lay.Given as goal

abbrev pub invariant-loop-b : goal.invariant-loop-b
invariant-loop-b l = record {
  laid : Laid l.geometry l.b l.places.items;
  space : l.left.space ≡ l.geometry.edge.space;
  first : l.left.first ≡ l.geometry.edge.first + l.b * 16384;
  len : length l.left.bytes + l.b * 16384 ≡ l.geometry.blocks * 16384;
}
