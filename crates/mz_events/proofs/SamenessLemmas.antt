-- States that are the same can't be told apart.
use Rattle.std.proofs.Common.{◌≡◌, ℕ, zero, suc, ◌+◌, ◌-◌, get_or, max, Bool, true, false, cond, not, List, [], ◌∷◌, ◌++◌, length, Option, Some, None, refl, ap, sym, ◌∙◌, inl, inr, arith}
use Rattle.std.specs.Prelude.{◌&&◌, find, map, sum_by, is_none, ◌==◌}
use Rattle.std.specs.List.{list_any, flat_map, range_with_len, Contains, All}
use Rattle.std.specs.List.Sorted.{IsPermutation}
use Rattle.std.proofs.lemmas.Bool.{false≢true, cases_Bool, false_from_ne_true}
use Rattle.std.proofs.lemmas.List.Sorted.{IsPermutation-sym, Contains-permutation, sum_by-IsPermutation}
use Rattle.std.proofs.lemmas.List.Sums.{sum_by-append, sum_by-cons}
use Rattle.std.proofs.lemmas.List.Elements.{Contains-append_left, Contains-append_cases, All-contains, All-nil, All-cons, All-append}
use Rattle.mz_base.specs.declared.profile.Profile.{Profile}
use Rattle.mz_base.specs.Space.{Block, Run, block_at, block_end}
use Rattle.mz_events.specs.declared.entry.Entry.{Entry}
use Rattle.mz_events.specs.declared.place.Place.{Place}
use Rattle.mz_events.specs.declared.place.Place.TheVariants.{Pages, Tiny, TinyDepot, Small, SmallDepot, Large, Nano}
use Rattle.mz_events.specs.declared.event.Event.{Event}
use Rattle.mz_events.specs.declared.event.Event.TheVariants.{New, Size}
use Rattle.mz_events.specs.Places.{Spot, nano_page, nano_start, same_spot, spot_of, spot_at}
use Rattle.mz_events.specs.State.{Value, State, blank, nothing_kept, look_up, value_at, kept_at, kept_of, opening, live_blocks, live_size, nano_runs}
use Rattle.mz_events.specs.Effect.{touches, touched, value_after, after}
use Rattle.mz_events.specs.Placement.{fits_apart_there}
use Rattle.mz_events.specs.Rules.{Rule, in_turn, keeps, event_rules, Fits, first_broken}
use Rattle.mz_events.specs.History.{IsLawful, AreLawful, after_entry, after_all, owes_nothing, Breach, first_breach}
use Rattle.mz_events.specs.Locality.{Agree}
use Rattle.mz_events.specs.Sameness.{has_each_once, IsOnce, IsSame, AreAlike, IsBySpot}
use Rattle.mz_events.proofs.LocalityLemmas.{rule_same, all_local}
use Rattle.mz_events.proofs.SpotLemmas.{same_spot-refl}
use Rattle.mz_events.proofs.SpotListLemmas.{without_spot, one_in_front, gives_same, once-write_all, all_at_spots, all_from_spots}

-- each spot once

pub opening_once : IsOnce opening
opening_once = refl

pub after_once : (p : Profile) (s : State) (c : ℕ) (e : Event) → IsOnce s → IsOnce (after p s c e)
unfolding after
after_once p s c e once = once-write_all (value_after s c e) (touched p e) s.values once

pub after_all_once : (p : Profile) (s : State) (es : List Entry) → IsOnce s → IsOnce (after_all p s es)
unfolding after_all
after_all_once p s [] once = once
after_all_once p s (e ∷ es) once = after_all_once p (after_entry p s e) es (after_once p s e.caller e.event once)

-- sameness is an equality

pub same-refl : (s : State) → IsSame s s
same-refl s = record { values = λ j. refl; zones = λ z. refl; entries = refl; greatest = refl }

pub same-sym : (s t : State) → IsSame s t → IsSame t s
same-sym s t h = record { values = λ j. sym (h.values j); zones = λ z. sym (h.zones z); entries = sym h.entries; greatest = sym h.greatest }

pub same-trans : (s t u : State) → IsSame s t → IsSame t u → IsSame s u
same-trans s t u h g = record { values = λ j. h.values j ∙ g.values j; zones = λ z. h.zones z ∙ g.zones z; entries = h.entries ∙ g.entries; greatest = h.greatest ∙ g.greatest }

-- what the lists give

abbrev block_parts : Spot × Value → List (Spot × Block)
block_parts pair = map (λ b. (pair.0, b)) pair.1.kept.live

abbrev run_parts : Spot × Value → List (Spot × Run)
run_parts pair = map (λ r. (pair.0, r)) pair.1.kept.runs

sum_by-tagged : (j : Spot) (bs : List Block) → sum_by (λ (x : Spot × Block). x.1.size) (map (λ b. (j, b)) bs) ≡ sum_by (λ b. b.size) bs
sum_by-tagged j [] = refl
sum_by-tagged j (b ∷ bs) =
    sum_by-cons (λ (x : Spot × Block). x.1.size) (j, b) (map (λ c. (j, c)) bs) ∙ (ap (λ n. b.size + n) (sum_by-tagged j bs) ∙ sym (sum_by-cons (λ (c : Block). c.size) b bs))

-- the sum of live sizes is that of the live blocks
pub live_size-is : (pairs : List (Spot × Value)) → sum_by (λ (x : Spot × Block). x.1.size) (flat_map block_parts pairs) ≡ live_size pairs
live_size-is [] = refl
live_size-is (q ∷ qs) =
    sum_by-append (λ (x : Spot × Block). x.1.size) (block_parts q) (flat_map block_parts qs)
    ∙ (ap (λ n. n + sum_by (λ (x : Spot × Block). x.1.size) (flat_map block_parts qs)) (sum_by-tagged q.0 q.1.kept.live) ∙ (ap (λ n. sum_by (λ b. b.size) q.1.kept.live + n) (live_size-is qs) ∙ sym (sum_by-cons (λ (pair : Spot × Value). sum_by (λ b. b.size) pair.1.kept.live) q qs)))

none_duty : (o : Option Event) → is_none o ≡ true → o ≡ None
none_duty None h = refl
none_duty (Some x) h = absurd (false≢true h)

pub owing-to : (s : State) → owes_nothing s ≡ true → (j : Spot) → (value_at s j).duty ≡ None
owing-to s h j = none_duty (value_at s j).duty (all_at_spots (λ v. is_none v.duty) refl s.values h j)

pub owing-from : (s : State) → IsOnce s → ((j : Spot) → (value_at s j).duty ≡ None) → owes_nothing s ≡ true
owing-from s once h = all_from_spots (λ v. is_none v.duty) refl s.values once (λ j. ap is_none (h j))

both_true : (a b : Bool) → (a ≡ true → b ≡ true) → (b ≡ true → a ≡ true) → a ≡ b
both_true true b f g = sym (f refl)
both_true false b f g = sym (false_from_ne_true b (λ y. false≢true (g y)))

-- all rules are kept alike

apart_alike : (p : Profile) (s t : State) → ((j : Spot) → value_at s j ≡ value_at t j) → (e : Event) → fits_apart_there p s e ≡ fits_apart_there p t e
apart_alike p s t all (New k a n al) = let x = all (spot_at k a) in let y = all (spot_at k (block_end (block_at a n) - 1)) in let z = all (spot_of k) in cc
apart_alike p s t all (Size k a n m) = let x = all (spot_at k a) in cc
apart_alike p s t all _ = refl

find_same : {A : Type 0} (f g : A → Bool) (xs : List A) → ((x : A) → f x ≡ g x) → find f xs ≡ find g xs
find_same f g [] h = refl
find_same f g (x ∷ xs) h = ap (λ b. cond b (Some x) (find f xs)) (h x) ∙ ap (cond (g x) (Some x)) (find_same f g xs h)

module _ (p : Profile) where
  pub agree : (s t : State) (e : Event) → IsSame s t → Agree p e s t
  agree s t e same = record { values = λ j h. same.values j; zones = same.zones }

  pub rules_alike : (s t : State) → IsSame s t → (r : Rule) (c : ℕ) (e : Event) → keeps r p s c e ≡ keeps r p t c e
  rules_alike s t same r c e = rule_same p s t c same.zones r e (apart_alike p s t same.values e) (λ j h. same.values j)

  pub broken_alike : (s t : State) → IsSame s t → (c : ℕ) (e : Event) → first_broken p s c e ≡ first_broken p t c e
  broken_alike s t same c e = find_same (λ r. not (keeps r p s c e)) (λ r. not (keeps r p t c e)) event_rules (λ r. ap not (rules_alike s t same r c e))

  values_alike : (s t : State) → IsSame s t → (c : ℕ) (e : Event) (j : Spot) → value_at (after p s c e) j ≡ value_at (after p t c e) j
  values_alike s t same c e j = elim (cases_Bool (touches p e j)) [
    | inl y ↦ (all_local p e).effect s t c j (agree s t e same) y
    | inr n ↦ (all_local p e).elsewhere s c j n ∙ (same.values j ∙ sym ((all_local p e).elsewhere t c j n))
  ]

  pub live_alike : (s t : State) → IsOnce s → IsOnce t → ((j : Spot) → value_at s j ≡ value_at t j) → IsPermutation (live_blocks s) (live_blocks t)
  live_alike s t a b all = gives_same block_parts (λ j. refl) s.values t.values a b all

  pub size_alike : (s t : State) → IsOnce s → IsOnce t → ((j : Spot) → value_at s j ≡ value_at t j) → live_size s.values ≡ live_size t.values
  size_alike s t a b all = sym (live_size-is s.values) ∙ (sym (sum_by-IsPermutation (λ (x : Spot × Block). x.1.size) (live_blocks s) (live_blocks t) (live_alike s t a b all)) ∙ live_size-is t.values)

  greatest_after : (s : State) (c : ℕ) (e : Event) → (after p s c e).greatest ≡ max s.greatest (live_size (after p s c e).values)
  unfolding after
  greatest_after s c e = refl

  entries_after : (s : State) (c : ℕ) (e : Event) → (after p s c e).entries ≡ s.entries + 1
  unfolding after
  entries_after s c e = refl

  pub after_alike : (s t : State) → IsOnce s → IsOnce t → IsSame s t → (c : ℕ) (e : Event) → IsSame (after p s c e) (after p t c e)
  after_alike s t a b same c e =
      let size = size_alike (after p s c e) (after p t c e) (after_once p s c e a) (after_once p t c e b) (values_alike s t same c e) in
      record {
        values = values_alike s t same c e;
        zones = λ z. (all_local p e).zones s t c z (agree s t e same);
        entries = entries_after s c e ∙ (ap (λ n. n + 1) same.entries ∙ sym (entries_after t c e));
        greatest = greatest_after s c e ∙ (ap (λ n. max n (live_size (after p s c e).values)) same.greatest ∙ (ap (max t.greatest) size ∙ sym (greatest_after t c e)));
      }

  pub after_all_alike : (s t : State) → IsOnce s → IsOnce t → IsSame s t → (es : List Entry) → IsSame (after_all p s es) (after_all p t es)
  unfolding after_all
  after_all_alike s t a b same [] = same
  after_all_alike s t a b same (e ∷ es) = after_all_alike (after_entry p s e) (after_entry p t e) (after_once p s e.caller e.event a) (after_once p t e.caller e.event b) (after_alike s t a b same e.caller e.event) es

  fits_alike : (s t : State) → IsSame s t → (c : ℕ) (e : Event) → Fits p s c e → Fits p t c e
  fits_alike s t same c e fits r = sym (rules_alike s t same r c e) ∙ fits r

  pub lawful_alike : (s t : State) → IsOnce s → IsOnce t → IsSame s t → (es : List Entry) → AreLawful p s es → AreLawful p t es
  unfolding AreLawful
  lawful_alike s t a b same [] h = tt
  lawful_alike s t a b same (e ∷ es) h =
      let now : IsLawful p t e = record { in_turn = h.0.in_turn ∙ same.entries; fits = fits_alike s t same e.caller e.event h.0.fits } in
      (now, lawful_alike (after_entry p s e) (after_entry p t e) (after_once p s e.caller e.event a) (after_once p t e.caller e.event b) (after_alike s t a b same e.caller e.event) es h.1)

  pub owing_alike : (s t : State) → IsOnce s → IsOnce t → IsSame s t → owes_nothing s ≡ owes_nothing t
  owing_alike s t a b same = both_true (owes_nothing s) (owes_nothing t)
      (λ h. owing-from t b (λ j. ap (λ (v : Value). v.duty) (sym (same.values j)) ∙ owing-to s h j))
      (λ h. owing-from s a (λ j. ap (λ (v : Value). v.duty) (same.values j) ∙ owing-to t h j))

  pub breach_alike : (s t : State) → IsOnce s → IsOnce t → IsSame s t → (es : List Entry) → first_breach p s es ≡ first_breach p t es
  unfolding first_breach
  breach_alike s t a b same [] = let x = owing_alike s t a b same in let y = same.entries in cc
  breach_alike s t a b same (e ∷ es) =
      let x = broken_alike s t same e.caller e.event in
      let y = same.entries in
      let rest = breach_alike (after_entry p s e) (after_entry p t e) (after_once p s e.caller e.event a) (after_once p t e.caller e.event b) (after_alike s t a b same e.caller e.event) es in
      let family : ℕ → Option Rule → Option Breach → Option Breach = λ n o b. cond ((e.ticket == n) && not (list_any (λ d. d.ticket == e.ticket) es)) (elim o [ None ↦ b | Some rule ↦ Some (record { ticket = n; rule = rule }) ]) (Some (record { ticket = n; rule = in_turn })) in
      ap (λ n. family n (first_broken p s e.caller e.event) (first_breach p (after_entry p s e) es)) y
      ∙ (ap (λ o. family t.entries o (first_breach p (after_entry p s e) es)) x ∙ ap (family t.entries (first_broken p t e.caller e.event)) rest)

  nano_alike : (s t : State) → ((j : Spot) → value_at s j ≡ value_at t j) → (pages : List ℕ) → flat_map (λ i. (kept_at s (nano_page i)).live) pages ≡ flat_map (λ i. (kept_at t (nano_page i)).live) pages
  nano_alike s t all [] = refl
  nano_alike s t all (i ∷ is) = let here = all (nano_page i) in let rest = nano_alike s t all is in ap (λ (v : Value). v.kept.live ++ flat_map (λ n. (kept_at s (nano_page n)).live) is) here ∙ ap (λ bs. (kept_at t (nano_page i)).live ++ bs) rest

  kept_alike : (s t : State) → ((j : Spot) → value_at s j ≡ value_at t j) → (k : Place) → kept_of p s k ≡ kept_of p t k
  kept_alike s t all Pages = ap (λ (v : Value). v.kept) (all (spot_of Pages))
  kept_alike s t all (Tiny z m) = ap (λ (v : Value). v.kept) (all (spot_of (Tiny z m)))
  kept_alike s t all (TinyDepot z) = ap (λ (v : Value). v.kept) (all (spot_of (TinyDepot z)))
  kept_alike s t all (Small z m) = ap (λ (v : Value). v.kept) (all (spot_of (Small z m)))
  kept_alike s t all (SmallDepot z) = ap (λ (v : Value). v.kept) (all (spot_of (SmallDepot z)))
  kept_alike s t all (Large z) = ap (λ (v : Value). v.kept) (all (spot_of (Large z)))
  kept_alike s t all Nano = ap (λ bs. record nothing_kept { runs = map (λ pair. pair.1) (nano_runs p); live = bs }) (nano_alike s t all (range_with_len (nano_start p) p.nano))

  pub alike : (s t : State) → IsOnce s → IsOnce t → IsSame s t → AreAlike p s t
  alike s t a b same = record {
    rules = rules_alike s t same;
    fits = fits_alike s t same;
    broken = broken_alike s t same;
    event = after_alike s t a b same;
    entries = after_all_alike s t a b same;
    lawful = lawful_alike s t a b same;
    breach = breach_alike s t a b same;
    owing = owing_alike s t a b same;
    live = live_alike s t a b same.values;
    runs = gives_same run_parts (λ j. refl) s.values t.values a b same.values;
    size = size_alike s t a b same.values;
    kept = kept_alike s t same.values;
  }

-- what stands in the lists, by spots

tag_other : {A : Type 0} (j i : Spot) (xs : List A) → same_spot j i ≡ false → All (λ (x : Spot × A). same_spot j x.0 ≡ false) (map (λ x. (i, x)) xs)
tag_other j i [] h = All-nil (λ (x : Spot × _). same_spot j x.0 ≡ false)
tag_other {A} j i (x ∷ xs) h = All-cons (λ (y : Spot × A). same_spot j y.0 ≡ false) (i, x) (map (λ y. (i, y)) xs) h (tag_other j i xs h)

get_or-map : {A B : Type 0} (f : A → B) (xs : List A) (k : ℕ) (d : A) → get_or (map f xs) k (f d) ≡ f (get_or xs k d)
get_or-map f [] k d = refl
get_or-map f (x ∷ xs) zero d = refl
get_or-map f (x ∷ xs) (suc k) d = get_or-map f xs k d

length-map : {A B : Type 0} (f : A → B) (xs : List A) → length (map f xs) ≡ length xs
length-map f [] = refl
length-map f (x ∷ xs) = ap suc (length-map f xs)

module _ {A : Type 0} (j : Spot) where
  abbrev tag : A → Spot × A
  tag x = (j, x)

  tagged : (xs : List A) (x : A) → Contains xs x → Contains {X = Spot × A} (map tag xs) (j, x)
  tagged xs x h = (h.0, omega (arith, length-map tag xs, h.1), get_or-map tag xs h.0 x ∙ ap tag h.2)

  untagged : (xs : List A) (x : A) → Contains {X = Spot × A} (map tag xs) (j, x) → Contains xs x
  untagged xs x h =
      let e : ◌≡◌ {A = Spot × A} (j, get_or xs h.0 x) (j, x) = sym (get_or-map tag xs h.0 x) ∙ h.2 in
      (h.0, omega (arith, length-map tag xs, h.1), ap (λ (y : Spot × A). y.1) e)

module _ {A : Type 0} (of : Value → List A) (blank_of : of blank ≡ []) where
  abbrev parts : Spot × Value → List (Spot × A)
  parts pair = map (λ x. (pair.0, x)) (of pair.1)

  others : (j : Spot) (pairs : List (Spot × Value)) → All (λ (x : Spot × A). same_spot j x.0 ≡ false) (flat_map parts (without_spot j pairs))
  others j [] = All-nil (λ (x : Spot × A). same_spot j x.0 ≡ false)
  others j (q ∷ qs) = elim (cases_Bool (same_spot j q.0)) [
    | inl y ↦ rw y (others j qs)
    | inr n ↦ rw n (All-append (λ (x : Spot × A). same_spot j x.0 ≡ false) (parts q) (flat_map parts (without_spot j qs)) (tag_other j q.0 (of q.1) n) (others j qs))
  ]

  front : (j : Spot) (pairs : List (Spot × Value)) → has_each_once pairs ≡ true → IsPermutation (flat_map parts pairs) (parts (j, look_up pairs j) ++ flat_map parts (without_spot j pairs))
  front j pairs once = one_in_front parts (λ i. ap (map (λ x. (i, x))) blank_of) j pairs once

  -- an element stands in the list with a spot exactly where the value of the spot has it
  pub in_list : (pairs : List (Spot × Value)) → has_each_once pairs ≡ true → (j : Spot) (x : A) → Contains (of (look_up pairs j)) x → Contains (flat_map parts pairs) (j, x)
  in_list pairs once j x h =
      let there : Contains (parts (j, look_up pairs j) ++ flat_map parts (without_spot j pairs)) (j, x) = Contains-append_left (parts (j, look_up pairs j)) (flat_map parts (without_spot j pairs)) (j, x) (tagged j (of (look_up pairs j)) x h) in
      Contains-permutation (parts (j, look_up pairs j) ++ flat_map parts (without_spot j pairs)) (flat_map parts pairs) (j, x)
      (IsPermutation-sym (flat_map parts pairs) (parts (j, look_up pairs j) ++ flat_map parts (without_spot j pairs)) (front j pairs once)) there

  pub at_spot : (pairs : List (Spot × Value)) → has_each_once pairs ≡ true → (j : Spot) (x : A) → Contains (flat_map parts pairs) (j, x) → Contains (of (look_up pairs j)) x
  at_spot pairs once j x h =
      let there : Contains (parts (j, look_up pairs j) ++ flat_map parts (without_spot j pairs)) (j, x) = Contains-permutation (flat_map parts pairs) (parts (j, look_up pairs j) ++ flat_map parts (without_spot j pairs)) (j, x) (front j pairs once) h in
      elim (Contains-append_cases (parts (j, look_up pairs j)) (flat_map parts (without_spot j pairs)) (j, x) there) [
        | inl y ↦ untagged j (of (look_up pairs j)) x y
        | inr z ↦
            let differs : same_spot j j ≡ false = All-contains (λ (y : Spot × A). same_spot j y.0 ≡ false) (flat_map parts (without_spot j pairs)) (j, x) (others j pairs) z in
            absurd (false≢true (sym differs ∙ same_spot-refl j))
      ]

pub by_spot : (s : State) → IsOnce s → IsBySpot s
by_spot s once = record {
  owing = (owing-to s, owing-from s once);
  live = λ j b. (at_spot (λ v. v.kept.live) refl s.values once j b, in_list (λ v. v.kept.live) refl s.values once j b);
  size = sym (live_size-is s.values);
  runs = λ j r. (at_spot (λ v. v.kept.runs) refl s.values once j r, in_list (λ v. v.kept.runs) refl s.values once j r);
}
