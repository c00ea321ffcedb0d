-- What a client of any book asks, which notes two events while it holds two keepers: that it may, and that the keepers still
-- stand for their places then.
use Rattle.std.specs.Prelude.{◌≡◌, ℕ, ◌<◌, false, [], ◌∷◌, None, IsTrue}
use Rattle.mz_events.specs.declared.event.Event.{Event}
use Rattle.mz_events.specs.Holding.{changes_zones}
use Rattle.mz_book.specs.Keepers.{keeper_count, keeper_spot, is_among}
use Rattle.mz_book.specs.Account.{Account, known}
use Rattle.mz_book.specs.Calls.{CanNote, Notes}
use Rattle.mz_book.specs.Growth.{GrowsHolding}

-- the account after both keepers were taken: nothing was noted since, and no duty stands at their places
pub record HasTaken (s : Account) (k l : ℕ) (t : Account) : Type 0 where
  pub grows : GrowsHolding s [] 2 t
  pub held : t.held ≡ k ∷ l ∷ []
  pub calm : (i : ℕ) → IsTrue (is_among (k ∷ l ∷ []) i) → (known t (keeper_spot t.profile i)).duty ≡ None

pub record MayNoteBoth (s : Account) (k l : ℕ) (d e : Event) : Type 0 where
  pub nothing_held : s.held ≡ []
  pub order : k < l
  pub exists : l < keeper_count s.profile
  pub no_zone : changes_zones d ≡ false
  pub no_zone_either : changes_zones e ≡ false
  pub first : (t : Account) → HasTaken s k l t → CanNote t d
  pub second : (t u : Account) (m : ℕ) → HasTaken s k l t → Notes t d m u → CanNote u e
  pub kept : (t u v : Account) (m n i : ℕ) → HasTaken s k l t → Notes t d m u → Notes u e n v → IsTrue (is_among (k ∷ l ∷ []) i) →
      (known v (keeper_spot t.profile i)).kept ≡ (known t (keeper_spot t.profile i)).kept
  pub calm : (t u v : Account) (m n i : ℕ) → HasTaken s k l t → Notes t d m u → Notes u e n v → IsTrue (is_among (k ∷ l ∷ []) i) →
      (known v (keeper_spot t.profile i)).duty ≡ None
