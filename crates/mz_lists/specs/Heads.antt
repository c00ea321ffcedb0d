-- The first member of each list, where it has one. This project's own.
use Rattle.std.specs.Prelude.{◌≡◌, ◌≢◌, ℕ, ◌<◌, ◌≤◌, Option, Some, None, false, length, slice_index, if◌then◌else◌, refl}
use Rattle.std.specs.Coded.{Coded, code_by, coded×, coded_ℕ}
use Rattle.mz_lists.specs.Numbers.{NumbersView, numbers_code}
use Rattle.mz_lists.specs.Words.{is_set}

-- for each list a place, and a word whose bits say which lists have a member
pub record HeadsView : Type 0 where
  pub places : NumbersView
  pub filled : ℕ

-- they are stored as the pair of these
abbrev pub heads_code : Coded HeadsView
heads_code =
    code_by (NumbersView × ℕ) (coded× numbers_code coded_ℕ) (λ h. (h.places, h.filled)) (λ p. record { places = p.0; filled = p.1 }) (λ _. refl)

-- how many lists there are
abbrev pub list_count : HeadsView → ℕ
list_count h = length h.places.items

-- the first member of the list k
abbrev pub head_of : HeadsView → ℕ → Option ℕ
head_of h k = if is_set h.filled k then Some (slice_index h.places.items k) else None

-- a word has a bit for each list, and no bit is set for others
pub record AreHeads (h : HeadsView) : Type 0 where
  pub few : list_count h ≤ 64
  pub above : (j : ℕ) → list_count h ≤ j → is_set h.filled j ≡ false

-- new has this first member of the list k, and the others as they were
pub record IsWithHead (old : HeadsView) (k : ℕ) (first : Option ℕ) (new : HeadsView) : Type 0 where
  pub there : head_of new k ≡ first
  pub others : (j : ℕ) → j ≢ k → head_of new j ≡ head_of old j
  pub count : list_count new ≡ list_count old
  pub limit : new.places.limit ≡ old.places.limit

-- no list from k on has a member
abbrev pub HasNoHead : HeadsView → ℕ → Type 0
HasNoHead h k = (j : ℕ) → k ≤ j → head_of h j ≡ None

-- q is the first member of the lowest list from k on that has one
pub record IsLowestHead (h : HeadsView) (k q : ℕ) : Type 0 where
  pub list : ℕ
  pub above : k ≤ list
  pub there : head_of h list ≡ Some q
  pub before : (j : ℕ) → k ≤ j → j < list → head_of h j ≡ None
