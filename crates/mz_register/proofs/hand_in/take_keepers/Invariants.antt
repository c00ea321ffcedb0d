use Rattle.std.proofs.Common.{◌≡◌, ℕ, ◌≤◌, ◌<◌, true, false, length, get_or, take}
use Rattle.std.specs.Vec.{vec_capacity}
use Rattle.core.specs.Mem.Slots.{slots_items, slots_len, slots_filled}
use Rattle.mz_register.proofs.hand_in.take_keepers.Given as goal

abbrev pub invariant-loop-k : goal.invariant-loop-k
invariant-loop-k g l = record {
  items : slots_items l.closed.slots ≡ slots_items l.initial.closed.slots;
  len : slots_len l.closed.slots ≡ slots_len l.initial.closed.slots;
  taken : (i : ℕ) → i < l.k → get_or (slots_filled l.closed.slots) i false ≡ false;
  left : (i : ℕ) → l.k ≤ i → i < slots_len l.closed.slots → get_or (slots_filled l.closed.slots) i false ≡ true;
  keepers : l.keepers.items ≡ take l.k (slots_items l.initial.closed.slots);
  pushed : length l.keepers.items ≡ l.k;
  capacity : vec_capacity l.keepers ≡ vec_capacity l.initial.keepers;
}
