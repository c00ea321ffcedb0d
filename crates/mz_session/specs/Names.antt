-- Names with their blocks: which block a name has, and which name a block. This project's own.
use Rattle.std.specs.Prelude.{ℕ, ◌+◌, ◌≡◌, ◌==◌, ◌<◌, Bool, true, false, List, [], ◌∷◌, map, Option, None, Some, if◌then◌else◌}
use Rattle.std.specs.Option.{option_map}
use Rattle.std.specs.Ordering.{nat_cmp}
use Rattle.std.specs.BTreeMap.{BTreeMap, get}
use Rattle.mz_base.specs.Space.{Block}
use Rattle.mz_words.specs.declared.name.Name.{Name}
use Rattle.mz_lawful.specs.Names.{same_name, batch_name}
use Rattle.mz_lawful.specs.Standing.{Holding}
use Rattle.mz_zone.specs.Blocks.{BlockView, block_of}

-- names with their blocks, in the order of the names
abbrev pub NamedBlocks : Type 0
NamedBlocks = List (Name × BlockView)

-- the blocks that have names
abbrev pub views_named : NamedBlocks → List BlockView
views_named bs = map (λ e. e.1) bs

abbrev pub blocks_named : NamedBlocks → List Block
blocks_named bs = map (λ e. block_of e.1) bs

-- the block that a name has, or none
abbrev pub block_with : NamedBlocks → Name → Option BlockView
block_with [] name = None
block_with (e ∷ es) name = if same_name e.0 name then Some e.1 else block_with es name

-- a block under a name, as contracts of a run see it
abbrev pub holding_of : Name → BlockView → Holding
holding_of name b = record { name = name; block = block_of b; zone = b.zone }

-- what is held under a name, or none
abbrev pub holding_named : NamedBlocks → Name → Option Holding
holding_named bs name = option_map (holding_of name) (block_with bs name)

-- the name whose block begins at the address, or none
abbrev pub name_from : NamedBlocks → ℕ → Option Name
name_from [] a = None
name_from (e ∷ es) a = if e.1.span.first == a then Some e.0 else name_from es a

-- no name stands twice, and no two blocks begin at one address
abbrev pub AreApart : NamedBlocks → Type 0
AreApart [] = Unit {0}
AreApart (e ∷ es) = (block_with es e.0 ≡ None) × (name_from es e.1.span.first ≡ None) × AreApart es

-- The named blocks are apart, and each name is found by the start of its block.
pub record AreStarts (bs : NamedBlocks) (starts : BTreeMap ℕ Name) : Type 0 where
  pub found : (a : ℕ) → get nat_cmp starts a ≡ name_from bs a
  pub apart : AreApart bs

-- the block of the name begins at the address, and no other name's does
pub record BeginsAt (bs : NamedBlocks) (a : ℕ) (name : Name) : Type 0 where
  pub block : BlockView
  pub named : block_with bs name ≡ Some block
  pub first : block.span.first ≡ a
  pub only : (w : Name) (c : BlockView) → block_with bs w ≡ Some c → c.span.first ≡ a → w ≡ name

-- this name has the block that begins off bytes behind the start of the named one; where it is none no name has one there, or there is no
-- named one
abbrev pub IsBehind : NamedBlocks → Name → ℕ → Option Name → Type 0
IsBehind bs name off None = (b : BlockView) → block_with bs name ≡ Some b → (w : Name) (c : BlockView) → block_with bs w ≡ Some c → c.span.first ≡ b.span.first + off → ⊥
IsBehind bs name off (Some there) = (b : BlockView) × (block_with bs name ≡ Some b) × BeginsAt bs (b.span.first + off) there

-- the least number of a block of the batch, or none where there is none
abbrev pub IsFirstInBatch : NamedBlocks → List ℕ → Option ℕ → Type 0
IsFirstInBatch bs base None = (i : ℕ) → block_with bs (batch_name base i) ≡ None
IsFirstInBatch bs base (Some k) = ((b : BlockView) × (block_with bs (batch_name base k) ≡ Some b)) × ((i : ℕ) → i < k → block_with bs (batch_name base i) ≡ None)

-- whether one of the first so many blocks of the batch is there
abbrev pub HasSomeOfBatch : NamedBlocks → List ℕ → ℕ → Bool → Type 0
HasSomeOfBatch bs base count true = (i : ℕ) × (i < count) × (b : BlockView) × (block_with bs (batch_name base i) ≡ Some b)
HasSomeOfBatch bs base count false = (i : ℕ) → i < count → block_with bs (batch_name base i) ≡ None
