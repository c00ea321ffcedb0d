-- How named blocks change: one name gets a block, or loses it. This project's own.
use Rattle.std.specs.Prelude.{ℕ, ◌+◌, ◌≡◌, ◌⊎◌, List, ◌++◌, length, take, drop, Option, None, Some, Contains, if◌then◌else◌}
use Rattle.mz_base.specs.Space.{Block, same_block}
use Rattle.mz_events.specs.Changes.{one_for}
use Rattle.mz_book.specs.Living.{times}
use Rattle.mz_words.specs.declared.name.Name.{Name}
use Rattle.mz_lawful.specs.Names.{same_name}
use Rattle.mz_zone.specs.Blocks.{BlockView, block_of}
use Rattle.mz_session.specs.Names.{NamedBlocks, views_named, blocks_named, block_with}

-- how often the block is the one that there is, if there is one
abbrev pub count_in : Block → Option BlockView → ℕ
count_in b None = 0
count_in b (Some x) = one_for (same_block b (block_of x))

-- the blocks are the others, but that this name has this one, or none
pub record AreWith (old : NamedBlocks) (name : Name) (got : Option BlockView) (new : NamedBlocks) : Type 0 where
  pub named : (w : Name) → block_with new w ≡ (if same_name name w then got else block_with old w)
  pub counted : (b : Block) → times b (blocks_named new) + count_in b (block_with old name) ≡ times b (blocks_named old) + count_in b got
  pub members : (x : BlockView) → Contains (views_named new) x → (got ≡ Some x) ⊎ Contains (views_named old) x

-- the bytes with these written over them from off on
abbrev pub written : ℕ → List ℕ → List ℕ → List ℕ
written off ws bs = take off bs ++ ws ++ drop (off + length ws) bs
