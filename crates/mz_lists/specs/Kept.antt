-- The facts that all free lists keep. This project's own.
use Rattle.std.specs.Prelude.{◌≡◌, ℕ, ◌+◌, ◌^◌, ◌≤◌, List, true, length, slice_index}
use Rattle.mz_lists.specs.Numbers.{NumbersView}
use Rattle.mz_lists.specs.Slots.{has_member, length_at, list_of}
use Rattle.mz_lists.specs.Chains.{Chains, AreLinked}
use Rattle.mz_lists.specs.Heads.{HeadsView, head_of, list_count}

-- the slots and the first members, read as lists
abbrev pub chains_of : ℕ → List ℕ → List ℕ → List ℕ → HeadsView → Chains
chains_of most next prev lengths heads = record {
  is_member = has_member next prev;
  next = slice_index next;
  prev = slice_index prev;
  list = λ q. list_of most (length_at lengths q);
  head = head_of heads;
}

-- there are as many slots of each kind, all places and lengths fit, and the members are linked and within the quanta
pub record AreKept (most : ℕ) (next prev lengths : NumbersView) (heads : HeadsView) : Type 0 where
  pub some : 1 ≤ most
  pub few : most ≤ 64
  pub small : length next.items ≤ 2 ^ 32
  pub prevs : length prev.items ≡ length next.items
  pub lens : length lengths.items ≡ length next.items
  pub lists : list_count heads ≡ most
  pub next_fits : length next.items ≤ next.limit
  pub prev_fits : length next.items ≤ prev.limit
  pub length_fits : length next.items ≤ lengths.limit
  pub head_fits : length next.items ≤ heads.places.limit
  pub next_short : 2 ≤ next.limit
  pub prev_short : 2 ≤ prev.limit
  pub linked : AreLinked (chains_of most next.items prev.items lengths.items heads)
  pub within : (q : ℕ) → has_member next.items prev.items q ≡ true → q + length_at lengths.items q ≤ length next.items
