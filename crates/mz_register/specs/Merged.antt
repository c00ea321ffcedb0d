-- Records that are put together by ticket. This project's own.
use Rattle.std.specs.Prelude.{◌≡◌, ◌⊎◌, ℕ, ◌+◌, ◌<◌, Vec, List, [], ◌∷◌, ◌++◌, length, slice_get, Some}
use Rattle.std.specs.List.{All}
use Rattle.std.specs.declared.alloc.Global.{Global}
use Rattle.mz_events.specs.declared.entry.Entry.{Entry}
use Rattle.mz_book.specs.Owners.{BeginsWithin}
use Rattle.mz_register.specs.declared.pass.Pass.{Pass}

-- how many entries these passes noted
abbrev pub count_noted : {V : Type 0} → List (Pass V) → ℕ
count_noted [] = 0
count_noted (x ∷ xs) = length x.noted.items + count_noted xs

-- each entry of the record stands in the history `all` at its ticket
pub record IsPart (all out record' : List Entry) : Type 0 where
  pub sized : length out ≡ length all
  pub stands : (i : ℕ) (e : Entry) → slice_get record' i ≡ Some e → slice_get all e.ticket ≡ Some e

-- an entry is in a record
pub record IsNoted (records : List (Vec Entry Global)) (e : Entry) : Type 0 where
  pub index : ℕ
  pub noted : Vec Entry Global
  pub at : slice_get records index ≡ Some noted
  pub place : ℕ
  pub here : slice_get noted.items place ≡ Some e

-- tickets of the history `all` are indices, each record is a part of it, and each of its entries is in `out` already, or in a record
pub record IsMerge (all out : List Entry) (records : List (Vec Entry Global)) : Type 0 where
  pub sized : length out ≡ length all
  pub tickets : (i : ℕ) (e : Entry) → slice_get all i ≡ Some e → e.ticket ≡ i
  pub stands : (k : ℕ) (r : Vec Entry Global) → slice_get records k ≡ Some r → (i : ℕ) (e : Entry) → slice_get r.items i ≡ Some e → slice_get all e.ticket ≡ Some e
  pub each : (i : ℕ) (e : Entry) → slice_get all i ≡ Some e → (slice_get out i ≡ Some e) ⊎ IsNoted records e

-- These entries come after those before them: their tickets go on, each is in a record and all of each record among them, and the blocks
-- that they make begin in the quanta, and are callers'.
pub record CanWrite (before : List Entry) (quanta : List ℕ) (later : List Entry) (records : List (Vec Entry Global)) : Type 0 where
  pub tickets : (i : ℕ) (e : Entry) → slice_get (before ++ later) i ≡ Some e → e.ticket ≡ i
  pub stands : (k : ℕ) (r : Vec Entry Global) → slice_get records k ≡ Some r → (i : ℕ) (e : Entry) → slice_get r.items i ≡ Some e → (j : ℕ) × (slice_get later j ≡ Some e)
  pub each : (i : ℕ) (e : Entry) → slice_get later i ≡ Some e → IsNoted records e
  pub within : All (λ e. BeginsWithin quanta e.event) later
  pub callers : All (λ e. e.caller < 256) later
