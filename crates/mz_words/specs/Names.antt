-- Names as words. This project's own.
use Rattle.std.specs.Prelude.{ℕ, ◌+◌, ◌-◌, ◌==◌, Bool, false, ◌&&◌, ◌||◌, nat_lt, List, [], ◌∷◌, ◌++◌, Option, Some, None, position, take, drop, codes, if◌then◌else◌}
use Rattle.std.specs.List.{before_first, after_first}
use Rattle.std.specs.Option.{option_map_or}
use Rattle.std.specs.Str.{bytes_eq}
use Rattle.std.specs.Fmt.{decimal}
use Rattle.mz_base.specs.Names.{is_base_name, is_null}
use Rattle.mz_words.specs.declared.count.TheConstants.{MOST_IN_BATCH}
use Rattle.mz_words.specs.declared.name.BatchName.{BatchName}
use Rattle.mz_words.specs.declared.name.GivenName.{GivenName}
use Rattle.mz_words.specs.declared.name.Name.{Name}
use Rattle.mz_words.specs.declared.name.Name.TheVariants.{Base, Batch, Given}
use Rattle.mz_words.specs.Numbers.{is_number_from, number_from, ◌>>=◌}

-- a base name, a dot, and a number below the most blocks of a batch
abbrev pub is_batch_name : List ℕ → Bool
is_batch_name word = is_base_name (before_first (λ c. c == 46) word) && is_number_from 0 (MOST_IN_BATCH - 1) (after_first (λ c. c == 46) word)

-- an `@`, and a base name
abbrev pub is_given_name : List ℕ → Bool
is_given_name [] = false
is_given_name (c ∷ cs) = (c == 64) && is_base_name cs

-- a name of any of the three forms
abbrev pub is_name : List ℕ → Bool
is_name word = is_base_name word || is_batch_name word || is_given_name word

-- a base name, or the word in front
abbrev pub is_new : List ℕ → List ℕ → Bool
is_new before word = is_base_name word || bytes_eq word before

-- how names are written
abbrev pub batch_word : BatchName → List ℕ
batch_word name = name.base ++ 46 ∷ decimal name.index

abbrev pub given_word : GivenName → List ℕ
given_word name = 64 ∷ name.base

abbrev pub name_word : Name → List ℕ
name_word (Base name) = name
name_word (Batch name) = batch_word name
name_word (Given name) = given_word name

-- the old name of a `realloc`, or none
abbrev pub old_word : Option Name → List ℕ
old_word None = codes "null"
old_word (Some name) = name_word name

-- A clause sees a name as any bytes, and an index as any number. This test says which of them a line can have.
abbrev pub name_fits : Name → Bool
name_fits (Base name) = is_base_name name
name_fits (Batch name) = is_base_name name.base && nat_lt name.index MOST_IN_BATCH
name_fits (Given name) = is_base_name name.base

-- the name that a word is
abbrev pub base_of : List ℕ → Option (List ℕ)
base_of word = if is_base_name word then Some word else None

abbrev pub given_of : List ℕ → Option GivenName
given_of [] = None
given_of (c ∷ cs) = if c == 64 then (base_of cs >>= λ base. Some (record { base = base })) else None

abbrev pub batch_of : List ℕ → Option BatchName
batch_of word = do
  dot ← position (λ c. c == 46) word
  base ← base_of (take dot word)
  index ← number_from 0 (MOST_IN_BATCH - 1) (drop (dot + 1) word)
  Some (record { base = base; index = index })

abbrev pub longer_name_of : List ℕ → Option Name
longer_name_of word = option_map_or (λ b. Some (Batch b)) (batch_of word) (given_of word >>= λ g. Some (Given g))

abbrev pub name_of : List ℕ → Option Name
name_of word = option_map_or (λ b. Some (Base b)) (base_of word) (longer_name_of word)

abbrev pub old_name_of : List ℕ → Option (Option Name)
old_name_of word = if is_null word then Some None else (name_of word >>= λ n. Some (Some n))

abbrev pub new_name_of : List ℕ → List ℕ → Option Name
new_name_of before word = name_of word >>= λ n. if is_new before word then Some n else None
