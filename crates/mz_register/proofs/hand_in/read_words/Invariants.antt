use Rattle.std.proofs.Common.{◌≡◌, ℕ, ◌+◌, ◌<◌, length, get_or}
use Rattle.core.specs.Mem.Slots.{slots_items}
use Rattle.mz_register.proofs.hand_in.read_words.Given as goal

abbrev pub invariant-loop-i : goal.invariant-loop-i
invariant-loop-i g l = record {
  len : length l.row.items ≡ length l.initial.row.items;
  each : (k : ℕ) → k < l.i → get_or l.row.items k 0 ≡ get_or (slots_items l.closed.words) (l.from + k) 0;
}
