-- The account of a plain book, and what its own calls do to it. This project's own.
use Rattle.std.specs.Prelude.{◌≡◌, ℕ, ◌-◌, ◌<◌, ◌≤◌, ◌^◌, ◌+◌, ◌*◌, ◌==◌, Bool, true, false, cond, List, [], ◌∷◌, length, replicate, slice_get, Option, None, IsTrue}
use Rattle.std.specs.List.{list_any}
use Rattle.std.proofs.Common.{arith}
use Rattle.mz_base.specs.declared.profile.Profile.{Profile}
use Rattle.mz_base.specs.Site.{Site}
use Rattle.mz_events.specs.declared.entry.Entry.{Entry}
use Rattle.mz_events.specs.State.{nothing_kept}
use Rattle.mz_events.specs.Hands.{own}
use Rattle.mz_events.specs.Standing.{Keeping, Stands, of_regions, of_large, of_pages, of_nothing}
use Rattle.mz_book.specs.declared.light.Asked.{Asked}
use Rattle.mz_book.specs.declared.pair.Pair.{Pair}
use Rattle.mz_book.specs.Keepers.{keeper_count, place_at}
use Rattle.mz_book.specs.Pairs.{is_from, given}
use Rattle.mz_book.specs.Lights.{lights_from}
use Rattle.mz_book.specs.Account.{Account, HoldsNothing}
use Rattle.mz_book.specs.Rule.{IsThere}

-- The account of a plain book that acts as caller c: it has seen the whole history, its record is the caller's entries, its pairs
-- are those of all callers, and its lights are told by the slot words.
abbrev pub plain_account : Profile → ℕ → Site → List Entry → ℕ → List ℕ → List Pair → List ℕ → List ℕ → ℕ → ℕ → Option Asked → Account
plain_account p c x history limit held pairs classes words holds founds found = record {
  name = [];
  profile = p;
  caller = c;
  site = x;
  between = true;
  held = held;
  seen = history;
  noted = own c history;
  pairs = pairs;
  spare = limit - length history;
  holds = holds;
  lights = lights_from 0 words;
  settled = classes;
  founds = founds;
  found = found;
}

abbrev nowhere : Site
nowhere = record { name = 0; block = 0; origin = 0; size = 0 }

-- the space of a keeper of the free pages; the others need not have one
abbrev pub site_of : Keeping → Site
site_of (of_pages v) = v.space
site_of (of_regions v) = nowhere
site_of (of_large v) = nowhere
site_of of_nothing = nowhere

-- the space of the last of these keepers, which is that of the free pages
abbrev pub last_site : List Keeping → Site
last_site [] = nowhere
last_site (v ∷ []) = site_of v
last_site (v ∷ w ∷ vs) = last_site (w ∷ vs)

-- These are the keepers of all numbers, in order, and stand for the places of the opening state in one space.
pub record StandAtFirst (p : Profile) (ks : List Keeping) : Type 0 where
  pub count : length ks ≡ keeper_count p
  pub each : (k : ℕ) → k < keeper_count p → IsThere (λ v. Stands v (last_site ks) p (place_at p k) nothing_kept) (slice_get ks k)

-- the account of a book of which nothing was asked yet
abbrev pub opening_account : Profile → Site → Account
opening_account p x = plain_account p 0 x [] 0 [] [] (replicate p.nano 0) [] 0 0 None

-- there is room for n entries more
pub record Reserves (s : Account) (n : ℕ) (t : Account) : Type 0 where
  pub after : t ≡ record s { spare = t.spare }
  pub room : n ≤ t.spare
  pub no_less : s.spare ≤ t.spare

-- caller, record and hand are those of c
pub record ActsAs (s : Account) (c : ℕ) (t : Account) : Type 0 where
  pub after : t ≡ record s { caller = c; noted = own c s.seen }

-- nothing is held, from has a pair at a, and there is such a caller
pub record CanGive (s : Account) (from to a : ℕ) : Type 0 where
  pub nothing_held : HoldsNothing s
  pub there : IsTrue (list_any (is_from from a) s.pairs)
  pub caller : to < s.profile.callers

-- the pair at a is in to's hand, and no longer in from's
pub record Gives (s : Account) (from to a : ℕ) (t : Account) : Type 0 where
  pub after : t ≡ record s { pairs = given from to a s.pairs }

-- What a plain book proves of the numbers of its entries: its record is no longer than the history, which its limit bounds.

kept_or_not : (e : Entry) (es fs : List Entry) (d : Bool) → length es ≤ length fs → length (cond d (e ∷ es) es) ≤ length (e ∷ fs)
kept_or_not e es fs true h = omega arith
kept_or_not e es fs false h = omega arith

own_few : (c : ℕ) (es : List Entry) → length (own c es) ≤ length es
own_few c [] = omega arith
own_few c (e ∷ es) = kept_or_not e (own c es) es (e.caller == c) (own_few c es)

pub few_noted : (c : ℕ) (history : List Entry) (limit : ℕ) → length history ≤ limit → limit ≤ 2 ^ 58 → length (own c history) + (limit - length history) ≤ 2 ^ 58
few_noted c history limit h g = let o = own_few c history in omega arith

pub few_seen : (n limit callers : ℕ) → n ≤ limit → limit ≤ 2 ^ 58 → n ≤ (callers + 1) * 2 ^ 58
few_seen n limit callers h g = omega arith

pub few_entries : (n limit : ℕ) → n ≤ limit → limit ≤ 2 ^ 58 → n + (limit - n) ≤ 2 ^ 58
few_entries n limit h g = omega arith

pub at_most : {m n : ℕ} → m ≡ n → m ≤ n
at_most {m} {n} h = omega arith
