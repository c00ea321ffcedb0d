use Rattle.std.proofs.Common.{◌≡◌, ◌*◌, length}
use Rattle.core.specs.Mem.Slots.{slots_len, slots_filled}
use Rattle.mz_nano.specs.Ended.{TakenTo, Steady}
use Rattle.mz_nano.proofs.close.gather.Given as goal

abbrev pub invariant-loop-b : goal.invariant-loop-b
invariant-loop-b l = record {
  same : Steady l.initial.closed l.closed;
  taken : TakenTo (l.b * 1025) (slots_len l.closed.slots) (slots_filled l.closed.slots);
  space : l.whole.space ≡ l.initial.whole.space;
  first : l.whole.first ≡ l.initial.whole.first;
  len : length l.whole.bytes ≡ l.b * 16384;
}
