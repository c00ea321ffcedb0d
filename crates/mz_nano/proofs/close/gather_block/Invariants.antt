use Rattle.std.proofs.Common.{◌≡◌, ◌+◌, ◌*◌, length}
use Rattle.core.specs.Mem.Slots.{slots_len, slots_filled}
use Rattle.mz_nano.specs.Ended.{begins, TakenTo, Steady}
use Rattle.mz_nano.proofs.close.gather_block.Given as goal

abbrev pub invariant-loop-j : goal.invariant-loop-j
invariant-loop-j l = record {
  same : Steady l.initial.closed l.closed;
  taken : TakenTo (l.b * 1025 + l.j) (slots_len l.closed.slots) (slots_filled l.closed.slots);
  space : l.whole.space ≡ l.initial.whole.space;
  first : l.whole.first ≡ l.initial.whole.first;
  len : length l.whole.bytes ≡ length l.initial.whole.bytes + begins l.w l.j;
}

abbrev pub invariant-loop-k : goal.invariant-loop-k
invariant-loop-k l = record {
  same : Steady l.fn.closed l.closed;
  taken : TakenTo (l.b * 1025 + l.k) (slots_len l.closed.slots) (slots_filled l.closed.slots);
}
