-- The words of a register that is opened.
use Rattle.std.proofs.Common.{◌≡◌, ℕ, ◌+◌, ◌*◌, ◌<◌, ◌≤◌, Bool, true, List, [], ◌∷◌, ◌++◌, length, replicate, map, get_or, Option, Some, None, is_none, refl, sym, ap, ◌∙◌, subst, arith, zero, suc, length-append, mul-le-mul_right}
use Rattle.std.specs.Prelude.{nat_le}
use Rattle.std.specs.List.{list_all}
use Rattle.std.proofs.lemmas.List.{length-replicate, get_or_append_left, get_or-append-add, get_or-replicate}
use Rattle.std.proofs.lemmas.Bool.{false≢true, and_parts}
use Rattle.std.proofs.lemmas.Bool.Decides.{nat_tests}
use mathlib.Core.Option as m
use lib.ListN.{get_elem?}
use Rattle.atomic_table.proofs.Lists.{at_map}
use Rattle.mz_base.specs.declared.profile.Profile.{Profile}
use Rattle.mz_base.specs.Limits.{IsWithinLimits}
use Rattle.mz_events.specs.State.{value_at}
use Rattle.mz_events.specs.Standing.{Keeping, Stands}
use Rattle.mz_book.specs.declared.parts.Parts.{Parts}
use Rattle.mz_book.specs.Keepers.{keeper_count, keeper_spot, place_at}
use Rattle.mz_book.specs.Lights.{slot_size}
use Rattle.mz_book.specs.Parts.{site_in, state_in, FitTogether}
use Rattle.mz_book.specs.Rule.{IsThere}
use Rattle.mz_desk.specs.Words.{lock_word, class_word, light_word}
use Rattle.mz_desk.specs.Views.{Opened}
use Rattle.mz_desk.specs.Keys.{opened_as}
use Rattle.mz_desk.specs.Rule.{AtHome, ClassesKeep}
use Rattle.mz_desk.specs.Opening.{CanOpen}

-- the words, in their order
abbrev pub all_words : ℕ → ℕ → List ℕ → List ℕ → List ℕ
all_words n k cs ss = n ∷ (replicate k 0 ++ (cs ++ ss))

abbrev free : ℕ → List ℕ
free k = replicate k 0

free_length : (k : ℕ) → length (free k) ≡ k
free_length k = length-replicate k 0

lock_at : (n k i : ℕ) (cs ss : List ℕ) → i < k → get_or (all_words n k cs ss) (i + 1) 0 ≡ 0
lock_at n k i cs ss l =
    let at : i + 1 ≡ 1 + i = omega arith in
    let in_free : i < length (free k) = omega (arith, free_length k) in
    ap (λ (x : ℕ). get_or (all_words n k cs ss) x 0) at ∙ (get_or-append-add (n ∷ []) (free k ++ (cs ++ ss)) i 0 ∙ (get_or_append_left (free k) (cs ++ ss) 0 i in_free ∙ get_or-replicate k i 0 0 l))

class_at : (n k i : ℕ) (cs ss : List ℕ) → i < length cs → get_or (all_words n k cs ss) (k + 1 + i) 0 ≡ get_or cs i 0
class_at n k i cs ss l =
    let at : k + 1 + i ≡ 1 + (length (free k) + i) = omega (arith, free_length k) in
    ap (λ (x : ℕ). get_or (all_words n k cs ss) x 0) at ∙ (get_or-append-add (n ∷ []) (free k ++ (cs ++ ss)) (length (free k) + i) 0 ∙ (get_or-append-add (free k) (cs ++ ss) i 0 ∙ get_or_append_left cs ss 0 i l))

slot_at : (n k c i : ℕ) (cs ss : List ℕ) → length cs ≡ c → get_or (all_words n k cs ss) (k + 1 + c + i) 0 ≡ get_or ss i 0
slot_at n k c i cs ss e =
    let at : k + 1 + c + i ≡ 1 + (length (free k) + (length cs + i)) = omega (arith, free_length k) in
    ap (λ (x : ℕ). get_or (all_words n k cs ss) x 0) at
    ∙ (get_or-append-add (n ∷ []) (free k ++ (cs ++ ss)) (length (free k) + (length cs + i)) 0 ∙ (get_or-append-add (free k) (cs ++ ss) (length cs + i) 0 ∙ get_or-append-add cs ss i 0))

pub word_length : (n k : ℕ) (cs ss : List ℕ) → length (all_words n k cs ss) ≡ k + 1 + length cs + length ss
word_length n k cs ss = omega (arith, free_length k, length-append (free k) (cs ++ ss), length-append cs ss)

test_at : (test : ℕ → Bool) (xs : List ℕ) (i : ℕ) → list_all test xs ≡ true → i < length xs → test (get_or xs i 0) ≡ true
test_at test [] i h l = absurd (omega arith)
test_at test (x ∷ xs) zero h l = (and_parts (test x) (list_all test xs) h).0
test_at test (x ∷ xs) (suc i) h l = test_at test xs i ((and_parts (test x) (list_all test xs) h).1) (omega arith)

at_get : {A : Type 0} (xs : List A) (i : ℕ) (d : A) → i < length xs → get_elem? xs i ≡ m.some (get_or xs i d)
at_get [] i d l = absurd (omega arith)
at_get (x ∷ xs) zero d l = refl
at_get (x ∷ xs) (suc i) d l = at_get xs i d (omega arith)

pub none_is : {A : Type 0} (o : Option A) → is_none o ≡ true → o ≡ None
none_is None h = refl
none_is (Some x) h = absurd (false≢true h)

there_is : {V : Type 0} (P : V → Type 0) (o : Option V) → IsThere P o → (v : V) × (o ≡ Some v) × P v
there_is P None h = absurd h
there_is P (Some v) h = (v, refl, h)

-- there are few keepers
pub few_keepers : (p : Profile) → IsWithinLimits p → keeper_count p ≤ 141
few_keepers p l =
    let z : p.zones * (2 * p.magazines + 3) ≤ 4 * (2 * p.magazines + 3) = mul-le-mul_right (2 * p.magazines + 3) l.zones.1 in
    let m = l.magazines.1 in
    omega arith

module _ {V : Type 0} (keeping : V → Keeping) (x : Parts V) (fit : FitTogether keeping x) where
  abbrev opened : Opened
  opened = opened_as keeping (record { profile = x.profile; history = x.history; quanta = x.quanta; classes = x.classes; site = x.site })

  abbrev words : List ℕ
  words = all_words (length x.history.items) (length x.keepers.items) x.classes.items x.slots.items

  abbrev p : Profile
  p = x.profile

  lock_is : (k : ℕ) → k < keeper_count p → lock_word words k ≡ 0
  lock_is k l = let n = fit.keepers in lock_at (length x.history.items) (length x.keepers.items) k x.classes.items x.slots.items (omega arith)

  class_is : (b : ℕ) → b < p.nano → class_word p words b ≡ get_or x.classes.items b 0
  class_is b l = let n = fit.keepers in let c = fit.class_count in ap (λ (i : ℕ). get_or words i 0) (omega arith) ∙ class_at (length x.history.items) (length x.keepers.items) b x.classes.items x.slots.items (omega arith)

  light_is : (b j : ℕ) → light_word p words b j ≡ get_or x.slots.items (b * 1024 + j) 0
  light_is b j = let n = fit.keepers in ap (λ (i : ℕ). get_or words i 0) (omega arith) ∙ slot_at (length x.history.items) (length x.keepers.items) p.nano (b * 1024 + j) x.classes.items x.slots.items fit.class_count

  at_home : (k : ℕ) → k < keeper_count p → AtHome keeping opened (state_in x) (map m.some x.keepers.items) k
  at_home k l =
      let h = (fit.home k l).0 refl in
      let t = there_is (λ v. Stands (keeping v) (site_in keeping x) p (place_at p k) (value_at (state_in x) (keeper_spot p k)).kept) (get_or x.keepers.items k None) h.0 in
      let n = fit.keepers in
      record { keeper = t.0; here = at_map m.some x.keepers.items k (Some t.0) (at_get x.keepers.items k None (omega arith) ∙ ap m.some t.1); stands = t.2; calm = none_is (value_at (state_in x) (keeper_spot p k)).duty h.1 }

  classes : ClassesKeep opened (state_in x) words
  classes = record {
    most = λ b l. let c = fit.class_count in let t = test_at (λ k. nat_le k 16) x.classes.items b fit.class_most (omega arith) in let e = class_is b l in let s : get_or x.classes.items b 0 ≤ 16 = grind (arith, nat_tests, t) in omega arith;
    of_class = λ b y l h. fit.of_class b y l h ∙ ap slot_size (sym (class_is b l));
    stays = λ b l n. class_is b l;
  }

  pub can_open : (ws : List ℕ) → ws ≡ words → CanOpen keeping opened ws x.keepers.items
  can_open ws e = subst (λ (us : List ℕ). CanOpen keeping opened us x.keepers.items) (sym e) record {
    limits = fit.limits;
    short = let a = fit.within in let b = fit.few in omega arith;
    lawful = fit.lawful;
    in_one_hand = fit.in_one_hand;
    words = let n = word_length (length x.history.items) (length x.keepers.items) x.classes.items x.slots.items in let k = fit.keepers in let c = fit.class_count in let s = fit.slot_count in omega arith;
    keepers = fit.keepers;
    counter = refl;
    free = lock_is;
    home = at_home;
    lights = λ b j lb lj. light_is b j ∙ fit.words b j lb lj;
    classes = classes;
    told = class_is;
  }
