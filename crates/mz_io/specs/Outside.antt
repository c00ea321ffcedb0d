-- What contracts see of a source over a reader of std. This project's own.
use Rattle.std.specs.Prelude.{ℕ, List, Option}

-- the bytes to come, where the reader tells them, and how many calls have failed
pub record Feed : Type 0 where
  pub left : Option (List ℕ)
  pub faults : ℕ
