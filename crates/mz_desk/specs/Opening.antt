-- What words and keepers a register is opened with. This project's own.
use Rattle.std.specs.Prelude.{◌≡◌, ℕ, ◌<◌, ◌≤◌, ◌^◌, List, length, map, slice_index, slice_index_or, Option}
use mathlib.Core.Option as m
use Rattle.mz_base.specs.Limits.{IsWithinLimits}
use Rattle.mz_events.specs.State.{opening}
use Rattle.mz_events.specs.Changes.{one_for}
use Rattle.mz_events.specs.History.{AreLawful, after_all}
use Rattle.mz_events.specs.Standing.{Keeping}
use Rattle.mz_book.specs.Keepers.{keeper_count}
use Rattle.mz_book.specs.Lights.{is_slot_live}
use Rattle.mz_book.specs.Rule.{AreInOneHand}
use Rattle.mz_desk.specs.Words.{word_count, lock_word, class_word, light_word}
use Rattle.mz_desk.specs.Views.{Opened}
use Rattle.mz_desk.specs.Rule.{AtHome, ClassesKeep}

-- The counter is the length of the history, all keepers are free and at home, no light is held, and classes are those told, and of the
-- live blocks of nano.
pub record CanOpen {V : Type 0} (keeping : V → Keeping) (key : Opened) (ws : List ℕ) (ks : List (Option V)) : Type 0 where
  pub limits : IsWithinLimits key.profile
  pub short : length key.history ≤ 2 ^ 58
  pub lawful : AreLawful key.profile opening key.history
  pub in_one_hand : AreInOneHand (after_all key.profile opening key.history) key.pairs
  pub words : length ws ≡ word_count key.profile
  pub keepers : length ks ≡ keeper_count key.profile
  pub counter : slice_index ws 0 ≡ length key.history
  pub free : (k : ℕ) → k < keeper_count key.profile → lock_word ws k ≡ 0
  pub home : (k : ℕ) → k < keeper_count key.profile → AtHome keeping key (after_all key.profile opening key.history) (map m.some ks) k
  pub lights : (b j : ℕ) → b < key.profile.nano → j < 1024 → light_word key.profile ws b j ≡ one_for (is_slot_live key.profile (after_all key.profile opening key.history) b j)
  pub classes : ClassesKeep key (after_all key.profile opening key.history) ws
  pub told : (b : ℕ) → b < key.profile.nano → class_word key.profile ws b ≡ slice_index_or key.classes b 0
