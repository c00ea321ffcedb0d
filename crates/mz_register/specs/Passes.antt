-- What a pass keeps between its calls. This project's own.
use Rattle.std.specs.Prelude.{◌≡◌, ℕ, ◌+◌, ◌-◌, ◌*◌, ◌^◌, ◌<◌, ◌≤◌, Bool, true, false, nat_lt, nat_le, ◌&&◌, not, List, [], ◌∷◌, length, drop, Option, Some, None}
use Rattle.std.specs.List.{list_all}
use Rattle.std.specs.Coded.{Coded-set, coded_ℕ, coded_bool, coded_list, Π_prop, le_prop}
use Rattle.atomic_table.specs.Seated.{TableId}
use Rattle.mz_base.specs.declared.profile.Profile.{Profile}
use Rattle.mz_base.specs.Limits.{IsWithinLimits}
use Rattle.mz_base.specs.Codes.{limits_once}
use Rattle.mz_base.specs.Site.{Site}
use Rattle.mz_base.specs.Space.{Block}
use Rattle.mz_events.specs.declared.entry.Entry.{Entry}
use Rattle.mz_events.specs.State.{opening}
use Rattle.mz_events.specs.Changes.{one_for}
use Rattle.mz_events.specs.History.{AreLawful, after_all}
use Rattle.mz_events.specs.Hands.{own}
use Rattle.mz_events.specs.Holding.{changes_zones}
use Rattle.mz_events.specs.Codes.{all_lawful_once}
use Rattle.mz_book.specs.declared.light.Light.{Light}
use Rattle.mz_book.specs.Keepers.{keeper_count}
use Rattle.mz_book.specs.Pairs.{owners}
use Rattle.mz_book.specs.Account.{Account, is_live, is_ascending}
use Rattle.mz_desk.specs.declared.view.View.{View}
use Rattle.mz_register.specs.Codes.{entries_code}

-- which table it is, as numbers
abbrev pub table_numbers : TableId → List ℕ
table_numbers z = z.words ∷ z.slots ∷ z.views_name ∷ z.atom ∷ z.block ∷ z.offset ∷ z.slot_names

-- a space, as numbers
abbrev pub site_numbers : Site → List ℕ
site_numbers x = x.name ∷ x.block ∷ x.origin ∷ x.size ∷ []

-- the account is one of a pass of the register on this table, of this profile
pub record IsOf (z : TableId) (p : Profile) (s : Account) : Type 0 where
  pub name : s.name ≡ table_numbers z
  pub profile : s.profile ≡ p

-- which slots a seat carries
abbrev pub keys : {A : Type 0} → List (ℕ × A) → List ℕ
keys [] = []
keys (x ∷ xs) = x.0 ∷ keys xs

abbrev pub is_empty : {A : Type 0} → Option A → Bool
is_empty None = true
is_empty (Some x) = false

-- with no value in any of them
abbrev pub bare : {A : Type 0} → List (ℕ × Option A) → Bool
bare [] = true
bare (x ∷ xs) = is_empty x.1 && bare xs

-- the last of the caller's entries in all that was seen
abbrev pub last_own : View → List Entry
last_own v = drop (length (own v.caller v.seen) - length v.noted) (own v.caller v.seen)

-- the light is of a slot
abbrev pub is_light_of : Profile → Light → Bool
is_light_of p l = nat_lt l.block p.nano && nat_lt l.slot 1024

-- none of these entries opens or shuts a zone
abbrev pub keeps_zones : List Entry → Bool
keeps_zones entries = list_all (λ e. not (changes_zones e.event)) entries

-- The view of caller c, whose record and held keepers are these. It isn't in the middle of a hold and took in no other.
pub record IsRested (v : View) (c : ℕ) (noted : List Entry) (held : List ℕ) : Type 0 where
  pub live : v.live ≡ true
  pub none_taking : length v.taking ≡ 0
  pub none_joined : length v.joined ≡ 0
  pub caller : v.caller ≡ c
  pub noted_is : v.noted ≡ noted
  pub held_is : v.held ≡ held
  pub ascending : is_ascending 0 v.held ≡ true
  pub below : list_all (λ k. nat_lt k (keeper_count v.profile)) v.held ≡ true
  pub sized : length v.settled ≡ v.profile.nano
  pub classes : list_all (λ k. nat_le k 16) v.settled ≡ true
  pub lit : list_all (is_light_of v.profile) v.lights ≡ true

-- and what it knows by all that it has seen
pub record IsKnowing (v : View) : Type 0 where
  pub limits : IsWithinLimits v.profile
  pub caller : v.caller < v.profile.callers
  pub lawful : AreLawful v.profile opening v.seen
  pub recorded : last_own v ≡ v.noted
  pub counted : length v.seen ≤ (v.profile.callers + 1) * 2 ^ 58
  pub owned : (b : Block) → owners v.pairs b ≤ one_for (is_live (after_all v.profile opening v.seen) b)

pub rested_once : (v : View) (c : ℕ) (noted : List Entry) (held : List ℕ) → IsProp (IsRested v c noted held)
rested_once v c noted held x y = λ i. record {
  live = Coded-set coded_bool _ _ x.live y.live i;
  none_taking = Coded-set coded_ℕ _ _ x.none_taking y.none_taking i;
  none_joined = Coded-set coded_ℕ _ _ x.none_joined y.none_joined i;
  caller = Coded-set coded_ℕ _ _ x.caller y.caller i;
  noted_is = Coded-set entries_code _ _ x.noted_is y.noted_is i;
  held_is = Coded-set (coded_list coded_ℕ) _ _ x.held_is y.held_is i;
  ascending = Coded-set coded_bool _ _ x.ascending y.ascending i;
  below = Coded-set coded_bool _ _ x.below y.below i;
  sized = Coded-set coded_ℕ _ _ x.sized y.sized i;
  classes = Coded-set coded_bool _ _ x.classes y.classes i;
  lit = Coded-set coded_bool _ _ x.lit y.lit i;
}

pub knowing_once : (v : View) → IsProp (IsKnowing v)
knowing_once v x y = λ i. record {
  limits = limits_once v.profile x.limits y.limits i;
  caller = le_prop x.caller y.caller i;
  lawful = all_lawful_once v.profile opening v.seen x.lawful y.lawful i;
  recorded = Coded-set entries_code _ _ x.recorded y.recorded i;
  counted = le_prop x.counted y.counted i;
  owned = Π_prop (λ b. le_prop) x.owned y.owned i;
}
