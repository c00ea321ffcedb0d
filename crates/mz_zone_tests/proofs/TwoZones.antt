-- Zone 1 of the tests' two zones opens while its keepers are held.
use Rattle.std.proofs.Common.{◌≡◌, ℕ, ◌+◌, ◌*◌, ◌<◌, ◌≤◌, ◌==◌, Bool, true, false, List, [], ◌∷◌, ◌++◌, length, refl, ap, sym, subst, ◌∙◌, arith, zero, suc, None, Some}
use Rattle.std.specs.Prelude.{◌||◌, ◌↔◌, nat_lt, if◌then◌else◌}
use Rattle.std.specs.List.{All, list_all, range_with_len}
use Rattle.std.proofs.lemmas.Bool.{and_parts, and_from, eq-eqb, false≢true}
use Rattle.std.proofs.lemmas.Bool.Decides.{nat_tests}
use Rattle.std.proofs.lemmas.List.{append-nil}
use Rattle.std.proofs.lemmas.List.Elements.{All-from_recursion}
use Rattle.mz_base.specs.declared.profile.Profile.{Profile}
use Rattle.mz_base.specs.Limits.{IsWithinLimits}
use Rattle.mz_base.specs.Site.{Site}
use Rattle.mz_events.specs.declared.event.Event.{Event}
use Rattle.mz_events.specs.declared.event.Event.TheVariants.{Open}
use Rattle.mz_events.specs.declared.entry.Entry.{Entry}
use Rattle.mz_events.specs.Places.{Spot, spot_of, places_of, nano_start}
use Rattle.mz_events.specs.State.{Kept, State, opening, nothing_kept, look_up, value_at, is_open}
use Rattle.mz_events.specs.Effect.{touches, value_after, after}
use Rattle.mz_events.specs.History.{after_entry, after_all}
use Rattle.mz_events.specs.Holding.{ReadsHeld, read_spots}
use Rattle.mz_events.specs.Fitting.{MayOpen, FitsByEvent}
use Rattle.mz_events.specs.Standing.{Keeping, Stands}
use Rattle.mz_book.specs.Keepers.{keeper_count, place_at, keeper_spot, is_among, is_held}
use Rattle.mz_book.specs.Account.{Account, state_of, known, holds_spot, entry_at, StandsFor}
use Rattle.mz_book.specs.Calls.{CanHold, Holds, CanNote, Notes, CanRelease, Releases, without}
use Rattle.mz_book.specs.Plain.{opening_account, Reserves}
use Rattle.mz_nano.specs.declared.nano.Nano.{Nano}
use Rattle.mz_nano.specs.declared.seat.NanoSeat.{NanoSeat}
use Rattle.mz_nano.specs.SeatLists.{SitsAt, first_of, blocks_of, space_of}
use Rattle.mz_base.specs.declared.range.TheConstants.{PAGE}
use Rattle.mz_rack.specs.Serving.{CanServe}
use Rattle.mz_zone.specs.Calling.{IsSeatedAt, with_seat}
use Rattle.mz_zone_tests.specs.Tested.{IsReady}
use Rattle.mz_zone_tests.specs.TwoZones.{two_zones, HoldsFirst, HasOpened}

pub two_zones_limits : IsWithinLimits two_zones
two_zones_limits = record {
  pages = (omega arith, omega arith);
  callers = (omega arith, omega arith);
  magazines = (omega arith, omega arith);
  nano = (omega arith, omega arith);
  nano_within = omega arith;
  most_gen = (omega arith, omega arith);
  zones = (omega arith, omega arith);
}

-- numbers in a row

below_test : (a b : ℕ) → a < b → nat_lt a b ≡ true
below_test a b h = grind (arith, nat_tests)

test_below : (a b : ℕ) → nat_lt a b ≡ true → a < b
test_below a b h = grind (arith, nat_tests)

less_differs : (a b : ℕ) → a < b → (a == b) ≡ false
less_differs a b h = grind (arith, nat_tests)

same_number : (a : ℕ) → (a == a) ≡ true
same_number a = eq-eqb a a refl

range_below : (a n m : ℕ) → a + n ≤ m → list_all (λ x. nat_lt x m) (range_with_len a n) ≡ true
range_below a zero m h = refl
range_below a (suc n) m h = and_from _ _ (below_test a m (omega arith)) (range_below (a + 1) n m (omega arith))

range_more : (a n k : ℕ) → k ≡ a + n → range_with_len a n ++ k ∷ [] ≡ range_with_len a (suc n)
range_more a zero k e = ap (λ (x : ℕ). x ∷ []) (let d : k ≡ a = omega arith in d)
range_more a (suc n) k e = ap (λ xs. a ∷ xs) (range_more (a + 1) n k (omega arith))

among_last : (xs : List ℕ) (k : ℕ) → is_among (xs ++ k ∷ []) k ≡ true
among_last [] k = rw (same_number k) refl
among_last (x ∷ xs) k = rw (among_last xs k) (grind arith)

without_last : (xs : List ℕ) (k : ℕ) → list_all (λ x. nat_lt x k) xs ≡ true → without k (xs ++ k ∷ []) ≡ xs
without_last [] k h = rw (same_number k) refl
without_last (x ∷ xs) k h = rw (less_differs x k (test_below x k (and_parts _ _ h).0)) (ap (λ ys. x ∷ ys) (without_last xs k (and_parts _ _ h).1))

abbrev pub FitLaw : Type 0
FitLaw = (p : Profile) (s : State) (c : ℕ) → FitsByEvent p s c

abbrev pub ReadLaw : Type 0
ReadLaw = (p : Profile) (held : Spot → Bool) (e : Event) → ReadsHeld p held e ↔ All (λ j. held j ≡ true) (read_spots p e)

-- what is known while zone 1 opens: no place keeps anything, and no duty stands

abbrev pub Leaves : Type 0
Leaves = (p : Profile) (s : State) (c : ℕ) (e : Event) (j : Spot) → value_at (after p s c e) j ≡ (if touches p e j then value_after s c e j else value_at s j)

abbrev pub One : Type 0
One = (p : Profile) (s : State) (e : Entry) → after_all p s (e ∷ []) ≡ after_entry p s e

abbrev pub Nothing : Type 0
Nothing = (p : Profile) (s : State) → after_all p s [] ≡ s

kept_there : (b : Bool) (c : ℕ) (j : Spot) → (if b then value_after opening c (Open 1) j else value_at opening j).kept ≡ nothing_kept
unfolding look_up
kept_there true c j = refl
kept_there false c j = refl

calm_there : (b : Bool) (c : ℕ) (j : Spot) → (if b then value_after opening c (Open 1) j else value_at opening j).duty ≡ None
unfolding look_up
calm_there true c j = refl
calm_there false c j = refl

kept_first : (j : Spot) → (value_at opening j).kept ≡ nothing_kept
unfolding look_up
kept_first j = refl

state_first : Nothing → (s : Account) → s.seen ≡ [] → state_of s ≡ opening
state_first none s h = ap (after_all s.profile opening) h ∙ none s.profile opening

state_then : One → (s t : Account) → HasOpened s t → state_of t ≡ after t.profile opening s.caller (Open 1)
state_then one s t h = ap (after_all t.profile opening) h.seen ∙ one t.profile opening (entry_at 0 s.caller (Open 1))

pub kept_then : Leaves → One → (s t : Account) (j : Spot) → HasOpened s t → (known t j).kept ≡ nothing_kept
kept_then leaves one s t j h =
    ap (λ (x : State). (value_at x j).kept) (state_then one s t h)
    ∙ ap (λ v. v.kept) (leaves t.profile opening s.caller (Open 1) j)
    ∙ kept_there (touches t.profile (Open 1) j) s.caller j

pub calm_then : Leaves → One → (s t : Account) (j : Spot) → HasOpened s t → (known t j).duty ≡ None
calm_then leaves one s t j h =
    ap (λ (x : State). (value_at x j).duty) (state_then one s t h)
    ∙ ap (λ v. v.duty) (leaves t.profile opening s.caller (Open 1) j)
    ∙ calm_there (touches t.profile (Open 1) j) s.caller j

-- a keeper is taken

pub can_take : (s : Account) (n : ℕ) → HoldsFirst s n → n < 7 → CanHold s (7 + n)
can_take s n h below = record {
  exists = subst (λ (p : Profile). 7 + n < keeper_count p) (sym h.profile) (omega arith);
  above_held = subst (λ (xs : List ℕ). list_all (λ x. nat_lt x (7 + n)) xs ≡ true) (sym h.held) (range_below 7 n (7 + n) (omega arith));
}

pub holds_one_more : (s t : Account) (n : ℕ) → HoldsFirst s n → Holds s (7 + n) t → HoldsFirst t (n + 1)
holds_one_more s t n h took = record {
  profile = ap (λ (a : Account). a.profile) took.after ∙ h.profile;
  between = ap (λ (a : Account). a.between) took.after ∙ h.between;
  seen = ap (λ (a : Account). a.seen) took.after ∙ ap (λ xs. s.seen ++ xs) (took.alone h.between) ∙ append-nil s.seen ∙ h.seen;
  held = ap (λ (a : Account). a.held) took.after ∙ ap (λ (xs : List ℕ). xs ++ (7 + n) ∷ []) h.held ∙ range_more 7 n (7 + n) refl ∙ ap (range_with_len 7) (let e : suc n ≡ n + 1 = omega arith in e);
  room = let e = ap (λ (a : Account). a.spare) took.after in let r = h.room in omega arith;
}

-- all seven are held, and zone 1 opens

all_held : (p : Profile) (held : List ℕ) → p ≡ two_zones → held ≡ range_with_len 7 7 → All (λ j. is_held p held j ≡ true) (read_spots p (Open 1))
all_held p held e f =
    subst (λ (q : Profile). All (λ j. is_held q held j ≡ true) (read_spots q (Open 1))) (sym e)
    (subst (λ (hs : List ℕ). All (λ j. is_held two_zones hs j ≡ true) (read_spots two_zones (Open 1))) (sym f)
    (All-from_recursion (λ j. is_held two_zones (range_with_len 7 7) j ≡ true) (read_spots two_zones (Open 1))
    (refl, (refl, (refl, (refl, (refl, (refl, (refl, tt)))))))))

opens_first : (c : ℕ) → c < 2 → MayOpen two_zones opening c 1
unfolding look_up
opens_first c h = record {
  caller = h;
  zone = omega arith;
  calm = All-from_recursion (λ k. (value_at opening (spot_of k)).duty ≡ None) (places_of two_zones 1) (refl, (refl, (refl, (refl, (refl, (refl, (refl, tt)))))));
  shut = refl;
  no_runs = All-from_recursion (λ k. (value_at opening (spot_of k)).kept.runs ≡ []) (places_of two_zones 1) (refl, (refl, (refl, (refl, (refl, (refl, (refl, tt)))))));
}

may_open : Nothing → (s : Account) → HoldsFirst s 7 → s.caller < s.profile.callers → MayOpen s.profile (state_of s) s.caller 1
may_open none s h c =
    subst (λ (x : State). MayOpen s.profile x s.caller 1) (sym (state_first none s h.seen))
    (subst (λ (p : Profile). MayOpen p opening s.caller 1) (sym h.profile)
    (opens_first s.caller (subst (λ (p : Profile). s.caller < p.callers) h.profile c)))

pub can_open : FitLaw → ReadLaw → Nothing → (s : Account) → HoldsFirst s 7 → s.caller < s.profile.callers → CanNote s (Open 1)
can_open fit read none s h c = record {
  room = h.room;
  between = λ _. h.between;
  in_hand = refl;
  by_held = λ _. record {
    held = (read s.profile (holds_spot s) (Open 1)).1 (all_held s.profile s.held h.profile h.held);
    fits = ((fit s.profile (state_of s) s.caller).opens 1).1 (may_open none s h c);
  };
  at_nano = λ y. absurd (false≢true y);
}

pub has_opened : (s t : Account) (i : ℕ) → HoldsFirst s 7 → Notes s (Open 1) i t → HasOpened s t
has_opened s t i h note =
    let before : s.seen ++ note.others ≡ [] = ap (λ xs. s.seen ++ xs) (note.alone h.between) ∙ append-nil s.seen ∙ h.seen in
    record {
      profile = ap (λ (a : Account). a.profile) note.after;
      site = ap (λ (a : Account). a.site) note.after;
      seen = ap (λ (a : Account). a.seen) note.after ∙ ap (λ (xs : List Entry). xs ++ entry_at i s.caller (Open 1) ∷ []) before ∙ ap (λ x. entry_at x s.caller (Open 1) ∷ []) (note.ticket ∙ ap length before);
      held = ap (λ (a : Account). a.held) note.after;
      lights = ap (λ (a : Account). a.lights) note.after;
    }

-- the keeper that was taken is given back

module _ (leaves : Leaves) (one : One) (none : Nothing) (s t u : Account) (n : ℕ) (h : HoldsFirst s n) (took : Holds s (7 + n) t) (opened : HasOpened t u) where
  held_then : u.held ≡ s.held ++ (7 + n) ∷ []
  held_then = opened.held ∙ ap (λ (a : Account). a.held) took.after

  pub can_give_back : CanRelease u (7 + n)
  can_give_back = record {
    held = subst (λ (xs : List ℕ). is_among xs (7 + n) ≡ true) (sym held_then) (among_last s.held (7 + n));
    calm = calm_then leaves one t u (keeper_spot u.profile (7 + n)) opened;
  }

  pub stands_then : (v : Keeping) → StandsFor t (7 + n) v → StandsFor u (7 + n) v
  stands_then v y =
      let j = keeper_spot t.profile (7 + n) in
      let first : (known t j).kept ≡ nothing_kept = ap (λ (x : State). (value_at x j).kept) (state_first none t (holds_one_more s t n h took).seen) ∙ kept_first j in
      let blank : Stands v t.site t.profile (place_at t.profile (7 + n)) nothing_kept = subst (λ (k : Kept). Stands v t.site t.profile (place_at t.profile (7 + n)) k) first y in
      subst (λ (k : Kept). Stands v u.site u.profile (place_at u.profile (7 + n)) k) (sym (kept_then leaves one t u (keeper_spot u.profile (7 + n)) opened))
      (subst (λ (p : Profile). Stands v u.site p (place_at p (7 + n)) nothing_kept) (sym opened.profile)
      (subst (λ (x : Site). Stands v x t.profile (place_at t.profile (7 + n)) nothing_kept) (sym opened.site) blank))

  pub has_opened_then : (v : Account) → Releases u (7 + n) v → HasOpened s v
  has_opened_then v gave = record {
    profile = ap (λ (a : Account). a.profile) gave.after ∙ opened.profile ∙ ap (λ (a : Account). a.profile) took.after;
    site = ap (λ (a : Account). a.site) gave.after ∙ opened.site ∙ ap (λ (a : Account). a.site) took.after;
    seen = ap (λ (a : Account). a.seen) gave.after ∙ opened.seen ∙ ap (λ (c : ℕ). entry_at 0 c (Open 1) ∷ []) (ap (λ (a : Account). a.caller) took.after);
    held = ap (λ (a : Account). a.held) gave.after ∙ ap (without (7 + n)) held_then ∙ without_last s.held (7 + n) (subst (λ (xs : List ℕ). list_all (λ x. nat_lt x (7 + n)) xs ≡ true) (sym h.held) (range_below 7 n (7 + n) (omega arith)));
    lights = ap (λ (a : Account). a.lights) gave.after ∙ opened.lights ∙ ap (λ (a : Account). a.lights) took.after;
  }

-- requests can be made in both zones

pub as_tested : (r : Account) (p : Profile) (x : Site) → r ≡ opening_account p x → p ≡ two_zones → r ≡ opening_account two_zones x
as_tested r p x is same = is ∙ ap (λ (q : Profile). opening_account q x) same

pub holds_none : (s t : Account) (x : Site) → s ≡ opening_account two_zones x → Reserves s 1 t → HoldsFirst t 0
holds_none s t x is more = record {
  profile = ap (λ (a : Account). a.profile) more.after ∙ ap (λ (a : Account). a.profile) is;
  between = ap (λ (a : Account). a.between) more.after ∙ ap (λ (a : Account). a.between) is;
  seen = ap (λ (a : Account). a.seen) more.after ∙ ap (λ (a : Account). a.seen) is;
  held = ap (λ (a : Account). a.held) more.after ∙ ap (λ (a : Account). a.held) is;
  room = more.room;
}

abbrev pub Opens : Type 0
Opens = (p : Profile) (s : State) (c z y : ℕ) → is_open (after p s c (Open z)) y ≡ ((z == y) || is_open s y)

pub can_in : Opens → One → (r s t : Account) (x : Site) (z : ℕ) → r ≡ opening_account two_zones x → Reserves r 1 s → HasOpened s t → ((1 == z) || is_open opening z) ≡ true → CanServe t two_zones z 0
can_in opens one r s t x z is more opened there = record {
  profile = opened.profile ∙ (holds_none r s x is more).profile;
  zone_open = ap (λ (y : State). is_open y z) (state_then one s t opened) ∙ opens t.profile opening s.caller 1 z ∙ there;
  nothing_held = record {
    keepers = opened.held ∙ (holds_none r s x is more).held;
    lights = opened.lights ∙ ap (λ (a : Account). a.lights) more.after ∙ ap (λ (a : Account). a.lights) is;
  };
  room = omega arith;
}

two_seated :
    (r s t : Account) (x : Site) (nano : Nano) (seat : NanoSeat) → r ≡ opening_account two_zones x → Reserves r 1 s → HasOpened s t
    → SitsAt nano seat → first_of nano ≡ 256 * PAGE → blocks_of nano ≡ 2 → space_of nano ≡ x → IsSeatedAt t (Some (record { nano = nano; seat = seat }))
two_seated r s t x nano seat is more opened sits first blocks space =
    let profile : t.profile ≡ two_zones = opened.profile ∙ (holds_none r s x is more).profile in
    let site : t.site ≡ x = opened.site ∙ ap (λ (a : Account). a.site) more.after ∙ ap (λ (a : Account). a.site) is in
    record {
      seat = sits;
      first = first ∙ sym (ap (λ (q : Profile). nano_start q * PAGE) profile);
      blocks = blocks ∙ sym (ap (λ (q : Profile). q.nano) profile);
      space = space ∙ sym site;
    }

pub two_ready :
    Opens → One → (r s t : Account) (x : Site) (q : Profile) (nano : Nano) (seat : NanoSeat) → r ≡ opening_account two_zones x → Reserves r 1 s → HasOpened s t
    → q ≡ two_zones → SitsAt nano seat → first_of nano ≡ 256 * PAGE → blocks_of nano ≡ 2 → space_of nano ≡ x → IsReady (with_seat t nano seat) q 0
two_ready opens one r s t x q nano seat is more opened same sits first blocks space =
    subst (λ p. IsReady (with_seat t nano seat) p 0) (sym same)
    (record { each = λ z below. record { serve = by_zone z below; nano = two_seated r s t x nano seat is more opened sits first blocks space } })
  where
    by_zone : (z : ℕ) → z < 2 → CanServe t two_zones z 0
    by_zone zero below = can_in opens one r s t x 0 is more opened refl
    by_zone (suc zero) below = can_in opens one r s t x 1 is more opened refl
    by_zone (suc (suc z)) below = absurd (omega (arith, below))
