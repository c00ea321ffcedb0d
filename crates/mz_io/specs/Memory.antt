-- What contracts see of the sources and sinks in memory. This project's own.
use Rattle.std.specs.Prelude.{ℕ, ◌-◌, ◌==◌, List, ◌++◌, length, take, drop, if◌then◌else◌, Option, Some, None}
use Rattle.mz_io.specs.Count.{one_more, more_by}

-- a source: the bytes to come, the most bytes of one call, the numbers of the calls that fail,
-- the number of the next call, and how many calls have failed
pub record Supply : Type 0 where
  pub left : List ℕ
  pub cut : ℕ
  pub fail : List ℕ
  pub calls : ℕ
  pub faults : ℕ

-- a sink: the bytes that it keeps, how many it dropped, and how many it has room for; the most
-- bytes of one call and the rest as of a source
pub record Store : Type 0 where
  pub kept : List ℕ
  pub dropped : ℕ
  pub room : ℕ
  pub cut : ℕ
  pub fail : List ℕ
  pub calls : ℕ
  pub faults : ℕ

-- a sink that never fails: the bytes that it keeps, and how many it dropped
pub record Tray : Type 0 where
  pub kept : List ℕ
  pub dropped : ℕ

-- the bytes of a sink, which it tells as long as it has dropped none
abbrev pub told : List ℕ → ℕ → Option (List ℕ)
told kept dropped = if dropped == 0 then Some kept else None

-- what is kept once more bytes came, of which those past the room are dropped
abbrev pub kept_with : ℕ → List ℕ → List ℕ → List ℕ
kept_with room kept bytes = kept ++ take (room - length kept) bytes

-- how many are dropped then
abbrev pub dropped_with : ℕ → List ℕ → ℕ → List ℕ → ℕ
dropped_with room kept dropped bytes = more_by (length bytes - (room - length kept)) dropped

-- the source after a call that gave n bytes, and after one that failed
abbrev pub after_gift : Supply → ℕ → Supply
after_gift s n = record s { left = drop n s.left; calls = one_more s.calls }

abbrev pub after_failed_read : Supply → Supply
after_failed_read s = record s { calls = one_more s.calls; faults = one_more s.faults }

-- the sink after a call that took these bytes, and after one that failed
abbrev pub after_taking : Store → List ℕ → Store
after_taking s bytes = record s { kept = kept_with s.room s.kept bytes; dropped = dropped_with s.room s.kept s.dropped bytes; calls = one_more s.calls }

abbrev pub after_failed_write : Store → Store
after_failed_write s = record s { calls = one_more s.calls; faults = one_more s.faults }
