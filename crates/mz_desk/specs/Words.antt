-- Which word of a register's table is which: the counter, the locks of the keepers, the class of each block of nano, and the word of
-- each of its slots. This project's own.
use Rattle.std.specs.Prelude.{ℕ, ◌+◌, ◌*◌, List, slice_index}
use Rattle.mz_base.specs.declared.profile.Profile.{Profile}
use Rattle.mz_book.specs.Keepers.{keeper_count}
pub use Rattle.mz_book.specs.Exchanges.{class_place, slot_place}

-- word 0 counts the entries

abbrev pub lock_place : ℕ → ℕ
lock_place k = k + 1

abbrev pub word_count : Profile → ℕ
word_count p = keeper_count p + 1 + p.nano + p.nano * 1024

-- 0 where the keeper k is free, and else 1 and the caller who has it
abbrev pub lock_word : List ℕ → ℕ → ℕ
lock_word words k = slice_index words (lock_place k)

-- the class of the block b of nano, and 0 where it has none yet
abbrev pub class_word : Profile → List ℕ → ℕ → ℕ
class_word p words b = slice_index words (class_place p b)

-- 1 where the slot j of the block b is live, 0 where it isn't, and 2 and the caller where its light is held
abbrev pub light_word : Profile → List ℕ → ℕ → ℕ → ℕ
light_word p words b j = slice_index words (slot_place p b j)
