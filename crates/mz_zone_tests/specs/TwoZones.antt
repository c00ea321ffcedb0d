-- Zone 1 of two zones opens in a book without entries, while all of its keepers are held.
use Rattle.std.specs.Prelude.{◌≡◌, ℕ, ◌≤◌, [], ◌∷◌, IsTrue}
use Rattle.std.specs.List.{range_with_len}
use Rattle.mz_base.specs.declared.profile.Profile.{Profile}
use Rattle.mz_events.specs.declared.event.Event.TheVariants.{Open}
use Rattle.mz_book.specs.Account.{Account, entry_at}

-- the keepers of zone 1 are those of the numbers 7 to 13
abbrev pub two_zones : Profile
two_zones = record { pages = 258; callers = 2; magazines = 2; nano = 2; most_gen = 1024; zones = 2 }

-- nothing was noted yet, and the first n keepers of zone 1 are held
pub record HoldsFirst (s : Account) (n : ℕ) : Type 0 where
  pub profile : s.profile ≡ two_zones
  pub between : IsTrue s.between
  pub seen : s.seen ≡ []
  pub held : s.held ≡ range_with_len 7 n
  pub room : 1 ≤ s.spare

-- zone 1 opened, and the same is held
pub record HasOpened (s t : Account) : Type 0 where
  pub profile : t.profile ≡ s.profile
  pub site : t.site ≡ s.site
  pub seen : t.seen ≡ entry_at 0 s.caller (Open 1) ∷ []
  pub held : t.held ≡ s.held
  pub lights : t.lights ≡ s.lights
