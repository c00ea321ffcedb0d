-- Names of blocks, and which are equal. This project's own.
use Rattle.std.specs.Prelude.{ℕ, ◌==◌, Bool, false, ◌&&◌, nat_lt, List}
use Rattle.std.specs.Str.{bytes_eq}
use Rattle.mz_words.specs.declared.name.Name.{Name}
use Rattle.mz_words.specs.declared.name.Name.TheVariants.{Base, Batch, Given}

-- two names are one
abbrev pub same_name : Name → Name → Bool
same_name (Base a) (Base b) = bytes_eq a b
same_name (Batch a) (Batch b) = bytes_eq a.base b.base && (a.index == b.index)
same_name (Given a) (Given b) = bytes_eq a.base b.base
same_name (Base a) (Batch b) = false
same_name (Base a) (Given b) = false
same_name (Batch a) (Base b) = false
same_name (Batch a) (Given b) = false
same_name (Given a) (Base b) = false
same_name (Given a) (Batch b) = false

-- block number i of a batch
abbrev pub batch_name : List ℕ → ℕ → Name
batch_name base i = Batch (record { base = base; index = i })

-- the name is that of one of the first so many blocks of the batch
abbrev pub is_in_batch : List ℕ → ℕ → Name → Bool
is_in_batch base count (Batch b) = bytes_eq b.base base && nat_lt b.index count
is_in_batch base count (Base b) = false
is_in_batch base count (Given b) = false

-- the number of a block within its batch
abbrev pub index_of : Name → ℕ
index_of (Batch b) = b.index
index_of (Base b) = 0
index_of (Given b) = 0
