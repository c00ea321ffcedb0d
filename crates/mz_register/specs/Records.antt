-- The records of callers, one behind the other. This project's own.
use Rattle.std.specs.Prelude.{ℕ, zero, suc, ◌+◌, List, [], ◌++◌}
use Rattle.mz_events.specs.declared.entry.Entry.{Entry}
use Rattle.mz_events.specs.Hands.{own}

-- what n callers, from c on, have among these entries, one caller behind the other
abbrev pub records_from : ℕ → ℕ → List Entry → List Entry
records_from c zero entries = []
records_from c (suc n) entries = own c entries ++ records_from (c + 1) n entries
