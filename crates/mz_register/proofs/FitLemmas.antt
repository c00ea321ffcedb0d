-- The parts of the plain book that passes are handed into.
use Rattle.std.proofs.Common.{◌≡◌, ℕ, ◌+◌, ◌-◌, ◌*◌, ◌/◌, ◌%◌, ◌^◌, ◌<◌, ◌≤◌, Bool, true, false, List, [], ◌∷◌, ◌++◌, length, get_or, Option, Some, None, is_none, refl, sym, ap, ◌∙◌, subst, arith, zero, suc}
use Rattle.std.specs.Prelude.{nat_le, nat_lt}
use Rattle.std.specs.List.{list_all}
use Rattle.std.specs.Coded.{Coded-set, coded_ℕ, coded_list}
use Rattle.std.specs.Vec.{vec_capacity}
use Rattle.std.proofs.lemmas.Bool.{false≢true, and_from}
use Rattle.std.proofs.lemmas.Bool.Decides.{nat_tests}
use mathlib.Core.Logic.{∥∥₁_elim}
use mathlib.Core.Option as m
use mathlib.Core.Option.{some-ne-none, some-injective}
use lib.ListN.{get_elem?}
use Rattle.mz_base.specs.declared.profile.Profile.{Profile}
use Rattle.mz_base.specs.Limits.{IsWithinLimits}
use Rattle.mz_base.specs.Site.{Site}
use Rattle.mz_events.specs.declared.entry.Entry.{Entry}
use Rattle.mz_events.specs.State.{State, opening, value_at}
use Rattle.mz_events.specs.Changes.{one_for}
use Rattle.mz_events.specs.History.{AreLawful, after_all}
use Rattle.mz_events.specs.Standing.{Keeping, Stands}
use Rattle.mz_book.specs.declared.parts.Parts.{Parts}
use Rattle.mz_book.specs.Keepers.{keeper_count, keeper_spot, place_at}
use Rattle.mz_book.specs.Lights.{slot_size, lights_from, is_slot_live}
use Rattle.mz_book.specs.Owners.{pairs_told}
use Rattle.mz_book.specs.Handed.{quanta_since, GoesOn}
use Rattle.mz_book.specs.Parts.{site_in, FitTogether}
use Rattle.mz_book.specs.Plain.{site_of}
use Rattle.mz_book.specs.Rule.{IsThere, AreInOneHand, AreHome, AreOfClass}
use Rattle.mz_desk.specs.declared.view.SpaceName.{SpaceName}
use Rattle.mz_desk.specs.declared.view.Opening.{Opening}
use Rattle.mz_desk.specs.declared.view.View.{View}
use Rattle.mz_desk.specs.Keys.{opened_as, space_name}
use Rattle.mz_desk.specs.Views.{Opened}
use Rattle.mz_desk.specs.Rule.{Homes}
use Rattle.mz_desk.specs.Ending.{Ended}
use Rattle.mz_register.specs.Passes.{site_numbers}

-- what the table was told when it was made is what the register still has

space_from : List ℕ → SpaceName
space_from ns = record { name = get_or ns 0 0; block = get_or ns 1 0; origin = get_or ns 2 0; size = get_or ns 3 0 }

same_space : (x y : Site) → site_numbers x ≡ site_numbers y → space_name x ≡ space_name y
unfolding space_from
same_space x y e = ap space_from e

pub same_key : {V : Type 0} (keeping : V → Keeping) (o q : Opening V) → o.profile ≡ q.profile → o.history.items ≡ q.history.items → o.quanta.items ≡ q.quanta.items → o.classes.items ≡ q.classes.items → ∥ o.site ≡ q.site ∥₁ → opened_as keeping o ≡ opened_as keeping q
same_key keeping o q p h u c s =
    let n : site_numbers (site_of (keeping o.site.value)) ≡ site_numbers (site_of (keeping q.site.value)) = ∥∥₁_elim s (Coded-set (coded_list coded_ℕ) _ _) (λ e. ap (λ x. site_numbers (site_of (keeping x.value))) e) in
    let w = same_space (site_of (keeping o.site.value)) (site_of (keeping q.site.value)) n in
    λ i. record { profile = p i; space = w i; history = h i; pairs = pairs_told (u i) (h i); classes = c i }

-- rows of words

all_small : (xs : List ℕ) → ((i : ℕ) → i < length xs → get_or xs i 0 ≤ 16) → list_all (λ c. nat_le c 16) xs ≡ true
all_small [] f = refl
all_small (x ∷ xs) f = and_from (nat_le x 16) (list_all (λ c. nat_le c 16) xs) (let l = f 0 (omega arith) in grind (arith, nat_tests, l)) (all_small xs (λ i l. f (suc i) (omega arith)))

none_lit : (i : ℕ) (ws : List ℕ) → ((k : ℕ) → k < length ws → get_or ws k 0 < 2) → lights_from i ws ≡ []
none_lit i [] f = refl
none_lit i (w ∷ ws) f =
    let l : w < 2 = f 0 (omega arith) in
    let t : nat_lt w 2 ≡ true = grind (arith, nat_tests, l) in
    rw t (none_lit (i + 1) ws (λ k h. f (suc k) (omega arith)))

one_small : (b : Bool) → one_for b < 2
one_small true = omega arith
one_small false = omega arith

-- where each slot's word says whether its pair is live, no light is held
pub none_lit_apart : (nano : ℕ) (ws : List ℕ) (live : ℕ → ℕ → Bool) → length ws ≡ nano * 1024 → ((b j : ℕ) → b < nano → j < 1024 → get_or ws (b * 1024 + j) 0 ≡ one_for (live b j)) → lights_from 0 ws ≡ []
none_lit_apart nano ws live n f = none_lit 0 ws (λ k l.
    let lb : k / 1024 < nano = omega arith in
    let lj : k % 1024 < 1024 = omega arith in
    let is : k / 1024 * 1024 + k % 1024 ≡ k = omega arith in
    let w : get_or ws k 0 ≡ one_for (live (k / 1024) (k % 1024)) = ap (λ (i : ℕ). get_or ws i 0) (sym is) ∙ f (k / 1024) (k % 1024) lb lj in
    let s = one_small (live (k / 1024) (k % 1024)) in
    omega arith)

read_home : {A : Type 0} (xs : List (Option A)) (k : ℕ) (x : A) → get_elem? xs k ≡ m.some (Some x) → get_or xs k None ≡ Some x
read_home [] k x e = absurd (some-ne-none (Some x) (sym e))
read_home (y ∷ ys) zero x e = some-injective y (Some x) e
read_home (y ∷ ys) (suc k) x e = read_home ys k x e

module _ {V : Type 0} (keeping : V → Keeping) (x : Parts V) (before : List Entry) (quanta opened_classes : List ℕ) (v : View) (words : List ℕ) (homes : Homes V) where
  -- what the table of the register was told
  abbrev pub told : Opened
  told = record { profile = x.profile; space = space_name (site_in keeping x); history = before; pairs = pairs_told quanta before; classes = opened_classes }

  module _ (e : Ended keeping told v words homes) where
    abbrev p : Profile
    p = x.profile

    abbrev H : List Entry
    H = before ++ e.later

    abbrev st : State
    st = after_all p opening H

    -- the parts come from what ended
    pub record Comes : Type 0 where
      pub limits : IsWithinLimits p
      pub caller : x.caller < p.callers
      pub goes : GoesOn p quanta before e.later
      pub count : length quanta ≡ p.pages * 1024
      pub history : x.history.items ≡ H
      pub owners : x.quanta.items ≡ quanta_since quanta e.later
      pub owned : length x.quanta.items ≡ length quanta
      pub limit : x.limit ≡ length x.history.items
      pub limited : x.limit ≤ vec_capacity x.history
      pub few : x.limit ≤ 2 ^ 58
      pub held : x.held.items ≡ []
      pub held_room : keeper_count p ≤ vec_capacity x.held
      pub keepers : length x.keepers.items ≡ keeper_count p
      pub same : (k : ℕ) (y : Option V) → get_elem? homes k ≡ m.some (m.some y) → get_elem? x.keepers.items k ≡ m.some y
      pub class_count : length x.classes.items ≡ p.nano
      pub classes : (i : ℕ) → i < p.nano → get_or x.classes.items i 0 ≡ get_or words (keeper_count p + 1 + i) 0
      pub slot_count : length x.slots.items ≡ p.nano * 1024
      pub slots : (i : ℕ) → i < p.nano * 1024 → get_or x.slots.items i 0 ≡ get_or words (keeper_count p + 1 + p.nano + i) 0

    module _ (c : Comes) where
      slot_word : (b j : ℕ) → b < p.nano → j < 1024 → get_or x.slots.items (b * 1024 + j) 0 ≡ one_for (is_slot_live p st b j)
      slot_word b j lb lj = c.slots (b * 1024 + j) (omega arith) ∙ e.lights b j lb lj

      pub none_held : lights_from 0 x.slots.items ≡ []
      none_held = none_lit_apart p.nano x.slots.items (λ b j. is_slot_live p st b j) c.slot_count slot_word

      home : AreHome keeping (site_in keeping x) p st [] x.keepers.items
      home k l =
          let h = e.home k l in
          let at : get_or x.keepers.items k None ≡ Some h.keeper = read_home x.keepers.items k h.keeper (c.same k (Some h.keeper) h.here) in (
            (λ n. (subst (IsThere (λ w. Stands (keeping w) (site_in keeping x) p (place_at p k) (value_at st (keeper_spot p k)).kept)) (sym at) h.stands, ap is_none h.calm)),
            (λ y. absurd (false≢true y)),
          )

      pub spare_none : x.limit - length x.history.items ≡ 0
      spare_none = let l = c.limit in omega arith

      pub fits : FitTogether keeping x
      fits = record {
        limits = c.limits;
        caller = c.caller;
        lawful = subst (AreLawful p opening) (sym c.history) e.lawful;
        within = let l = c.limit in omega arith;
        limited = c.limited;
        few = c.few;
        quanta = c.owned ∙ c.count;
        keepers = c.keepers;
        held = c.held;
        held_room = c.held_room;
        home = subst (λ (es : List Entry). AreHome keeping (site_in keeping x) p (after_all p opening es) [] x.keepers.items) (sym c.history) home;
        in_one_hand = subst (λ (es : List Entry). AreInOneHand (after_all p opening es) (pairs_told x.quanta.items es)) (sym c.history) (subst (λ (qs : List ℕ). AreInOneHand st (pairs_told qs H)) (sym c.owners) c.goes.in_one_hand);
        class_count = c.class_count;
        class_most = all_small x.classes.items (λ i l. let n = c.class_count in let k = c.classes i (omega arith) in let w = e.classes.most i (omega arith) in omega arith);
        of_class = subst (λ (es : List Entry). AreOfClass p (after_all p opening es) x.classes.items) (sym c.history) (λ b y l h. e.classes.of_class b y l h ∙ ap slot_size (sym (c.classes b l)));
        slot_count = c.slot_count;
        words = subst (λ (es : List Entry). (b j : ℕ) → b < p.nano → j < 1024 → get_or x.slots.items (b * 1024 + j) 0 ≡ one_for (is_slot_live p (after_all p opening es) b j)) (sym c.history) slot_word;
      }
