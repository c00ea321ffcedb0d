-- The exchanges by which a book changes words that callers share, and the places of those words. This project's own.
use Rattle.std.specs.Prelude.{◌≡◌, ℕ, ◌+◌, ◌*◌, List, [], ◌∷◌, IsFalse}
use Rattle.mz_base.specs.declared.profile.Profile.{Profile}
use Rattle.mz_book.specs.declared.light.Clash.{Clash}
use Rattle.mz_book.specs.Keepers.{keeper_count}
use Rattle.mz_book.specs.Account.{Account}

-- What came of all exchanges of a book.
pub record Exchanges : Type 0 where
  -- how many found the word that they expected
  pub wins : ℕ
  -- those that found another, the newest first
  pub clashes : List Clash

-- of a book with no atomics
abbrev pub no_exchanges : Exchanges
no_exchanges = record { wins = 0; clashes = [] }

-- behind the counter and a lock for each keeper, the class word of each block of nano
abbrev pub class_place : Profile → ℕ → ℕ
class_place p b = keeper_count p + 1 + b

-- and then the slot words: each block has 1,024
abbrev pub slot_place : Profile → ℕ → ℕ → ℕ
slot_place p b j = keeper_count p + 1 + p.nano + (b * 1024 + j)

-- an exchange at the place i that expected the word x and found n
abbrev pub clash_of : ℕ → ℕ → ℕ → Clash
clash_of i x n = record { word = i; expected = x; found = n }

-- Where other callers act beside the book, the word n was found by an exchange of this call, at the place i in place of x. It was
-- the only one that found another word, and none found what it expected.
abbrev pub Clashes : Account → Exchanges → ℕ → ℕ → ℕ → Exchanges → Type 0
Clashes s e i x n e' = IsFalse s.between → e' ≡ record e { clashes = clash_of i x n ∷ e.clashes }
