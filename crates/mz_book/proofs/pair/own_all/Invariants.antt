use Rattle.std.proofs.Common.{◌≡◌, length, drop}
use Rattle.mz_book.specs.Handed.{quanta_since}
use Rattle.mz_book.proofs.pair.own_all.Given as goal

abbrev pub invariant-loop-entry : goal.invariant-loop-entry
invariant-loop-entry l = record {
  rest : quanta_since l.quanta.items (drop l.entry-index l.entries) ≡ quanta_since l.fn.quanta.items l.fn.entries;
  len : length l.quanta.items ≡ length l.fn.quanta.items;
  same : l.entries ≡ l.fn.entries;
}
