-- Members: runs of quanta by the place where each begins. That a length counts as most where it is more is a word of
-- these definitions. This project's own.
use Rattle.std.specs.Prelude.{◌≡◌, ℕ, ◌+◌, ◌<◌, ◌≤◌, min, Some, refl}
use Rattle.std.specs.Ordering.{nat_cmp}
use Rattle.std.specs.Coded.{Coded, code_by, coded×, coded_ℕ}
use Rattle.std.specs.FinMap as map

-- some quanta, and the length of each member by its place
pub record ListsView : Type 0 where
  pub quanta : ℕ
  pub members : map.FinMap nat_cmp ℕ

-- they are stored as the pair of these
abbrev pub lists_code : Coded ListsView
lists_code =
    code_by (ℕ × map.FinMap nat_cmp ℕ) (coded× coded_ℕ (map.code coded_ℕ coded_ℕ)) (λ v. (v.quanta, v.members)) (λ p. record { quanta = p.0; members = p.1 }) (λ _. refl)

-- so many quanta, and no member
abbrev pub no_members : ℕ → ListsView
no_members quanta = record { quanta = quanta; members = map.empty }

-- what a length counts as where all lengths of most and more count alike
abbrev pub counted : ℕ → ℕ → ℕ
counted most n = min n most

-- no member has n quanta or more
abbrev pub HasNoFit : map.FinMap nat_cmp ℕ → ℕ → Type 0
HasNoFit members n = (q l : ℕ) → map.get members q ≡ Some l → l < n

-- the member of l quanta at the place q has n or more, and none that has counts as less
pub record IsLeastFit (most : ℕ) (members : map.FinMap nat_cmp ℕ) (n q l : ℕ) : Type 0 where
  pub there : map.get members q ≡ Some l
  pub serves : n ≤ l
  pub least : (p m : ℕ) → map.get members p ≡ Some m → n ≤ m → counted most l ≤ counted most m

-- each member is at least one of the quanta
abbrev pub AreWithin : ListsView → Type 0
AreWithin v = (q l : ℕ) → map.get v.members q ≡ Some l → (1 ≤ l) × (q + l ≤ v.quanta)
