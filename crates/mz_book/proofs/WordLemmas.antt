-- What a call on one slot or class word does to all of them.
use Rattle.std.proofs.Common.{◌≡◌, ◌≢◌, ℕ, ◌==◌, Bool, true, false, cond, not, get_or, set, ◌<◌, List, [], ◌∷◌, length, ◌≤◌, ◌+◌, ◌*◌, ◌/◌, ◌%◌, suc, zero, arith, subst, refl, ap, sym, ◌∙◌, eq-eqb, inl, inr}
use Rattle.std.specs.Prelude.{◌&&◌, ◌⊎◌, nat_lt, nat_le, replicate}
use Rattle.std.specs.List.{list_all}
use Rattle.std.proofs.lemmas.Bool.{cases_Bool, eqb-true, and_parts, and_from, false≢true}
use Rattle.std.proofs.lemmas.Bool.Decides.{nat_tests}
use Rattle.std.proofs.lemmas.List.{get_or-set_same, get_or-set_other}
use Rattle.std.proofs.lemmas.Nat.{mul-le}
use Rattle.mz_base.specs.declared.range.TheConstants.{PAGE}
use Rattle.mz_base.specs.declared.profile.Profile.{Profile}
use Rattle.mz_base.specs.Space.{Block, page_of}
use Rattle.mz_base.specs.Lists.{has_block}
use Rattle.mz_events.specs.declared.entry.Entry.{Entry}
use Rattle.mz_events.specs.Places.{nano_page, nano_start}
use Rattle.mz_events.specs.State.{State, opening, kept_at}
use Rattle.mz_events.specs.Changes.{one_for}
use Rattle.mz_events.specs.History.{AreLawful, after_all}
use Rattle.mz_book.specs.declared.pair.Pair.{Pair}
use Rattle.mz_book.specs.HistoryLaws.{HistoryLaws}
use Rattle.mz_book.specs.Pairs.{hand_among, owners}
use Rattle.mz_book.specs.Account.{Account, IsOrderly, is_live}
use Rattle.mz_book.specs.Calls.{CanHoldLight}
use Rattle.mz_book.specs.Lights.{slot_size, slots_of, page_of_block, slot_number, has_slot, is_slot_live, has_light, light_at, lights_from}
use Rattle.mz_book.specs.Rule.{AreInOneHand, AreOfClass, AreWords, is_word}
use Rattle.mz_book.proofs.ListLemmas.{find_any, there_has, same_bool}
use Rattle.mz_book.proofs.LightLemmas.{light_of_slot}
use Rattle.mz_book.proofs.SlotLemmas.{slot_test, slot_end}
use Rattle.mz_book.proofs.NanoLemmas.{word_idle, word_lit, lit_word, idle_word, owned_slot, slot_of_owned, lit_owned}

-- one word is another
pub words_set : (p : Profile) (s : State) (c : ℕ) (pairs : List Pair) (ws : List ℕ) (b j v : ℕ) → b < p.nano → j < 1024 → length ws ≡ p.nano * 1024 → is_word c (is_slot_live p s b j) (has_slot p (hand_among c pairs) b j) v ≡ true → AreWords p s c pairs ws → AreWords p s c pairs (set ws (b * 1024 + j) v)
words_set p s c pairs ws b j v lb lj len new words i k li lk = elim (cases_Bool (i * 1024 + k == b * 1024 + j)) [
  | inl y ↦
      let e : i * 1024 + k ≡ b * 1024 + j = eqb-true (i * 1024 + k) (b * 1024 + j) y in
      let eb : b ≡ i = omega arith in
      let ej : j ≡ k = omega arith in
      let at : get_or (set ws (b * 1024 + j) v) (i * 1024 + k) 0 ≡ v = ap (λ n. get_or (set ws (b * 1024 + j) v) n 0) e ∙ get_or-set_same ws (b * 1024 + j) v 0 (omega arith) in
      let here : is_word c (is_slot_live p s i k) (has_slot p (hand_among c pairs) i k) v ≡ true =
      subst (λ x. is_word c (is_slot_live p s x k) (has_slot p (hand_among c pairs) x k) v ≡ true) eb (subst (λ x. is_word c (is_slot_live p s b x) (has_slot p (hand_among c pairs) b x) v ≡ true) ej new) in
      ap (is_word c (is_slot_live p s i k) (has_slot p (hand_among c pairs) i k)) at ∙ here
  | inr n ↦
      let at : get_or (set ws (b * 1024 + j) v) (i * 1024 + k) 0 ≡ get_or ws (i * 1024 + k) 0 = get_or-set_other ws (b * 1024 + j) (i * 1024 + k) v 0 (λ e. false≢true (sym n ∙ eq-eqb (i * 1024 + k) (b * 1024 + j) e)) in
      ap (is_word c (is_slot_live p s i k) (has_slot p (hand_among c pairs) i k)) at ∙ words i k li lk
]

-- the words are those of any caller, and of other pairs, where none is held

idle_any : (c d w : ℕ) (live owned other : Bool) → nat_lt w 2 ≡ true → is_word c live owned w ≡ true → is_word d live other w ≡ true
idle_any c d w live owned other n h = idle_word d w live other n (word_idle c w live owned n h)

pub words_idle : (p : Profile) (s : State) (c d : ℕ) (pairs others : List Pair) (ws : List ℕ) → lights_from 0 ws ≡ [] → AreWords p s c pairs ws → AreWords p s d others ws
words_idle p s c d pairs others ws none words b j lb lj =
    let w = get_or ws (b * 1024 + j) 0 in
    let n : not (nat_lt w 2) ≡ false = sym (light_of_slot b j ws lj) ∙ ap (λ ls. has_light ls (light_at b j)) none in
    let t : nat_lt w 2 ≡ true = elim (cases_Bool (nat_lt w 2)) [ inl y ↦ y | inr z ↦ absurd (false≢true (sym n ∙ ap not z)) ] in
    idle_any c d w (is_slot_live p s b j) (has_slot p (hand_among c pairs) b j) (has_slot p (hand_among d others) b j) t (words b j lb lj)

-- classes

all_set_case : (test : ℕ → Bool) (xs : List ℕ) (i v : ℕ) → test v ≡ true → list_all test xs ≡ true → list_all test (set xs i v) ≡ true
all_set_case test [] i v t h = refl
all_set_case test (x ∷ xs) zero v t h = and_from (test v) (list_all test xs) t ((and_parts (test x) (list_all test xs) h).1)
all_set_case test (x ∷ xs) (suc i) v t h = let u = and_parts (test x) (list_all test xs) h in and_from (test x) (list_all test (set xs i v)) u.0 (all_set_case test xs i v t u.1)

pub classes_set : (classes : List ℕ) (b class : ℕ) → class ≤ 16 → list_all (λ d. nat_le d 16) classes ≡ true → list_all (λ d. nat_le d 16) (set classes b class) ≡ true
classes_set classes b class l h = let t : nat_le class 16 ≡ true = grind (arith, nat_tests) in all_set_case (λ d. nat_le d 16) classes b class t h

pub same_class : (p : Profile) (s : State) (classes : List ℕ) (b class : ℕ) → length classes ≡ p.nano → ((j : Rattle.mz_events.specs.Places.Spot) (x : Block) → has_block (kept_at s j).live x ≡ true → 1 ≤ x.size) → (get_or classes b 0 ≡ 0) ⊎ (get_or classes b 0 ≡ class) → AreOfClass p s classes → AreOfClass p s (set classes b class)
same_class p s classes b class len some was of i x li h = elim (cases_Bool (i == b)) [
  | inl y ↦
      let e : i ≡ b = eqb-true i b y in
      let at : get_or (set classes b class) i 0 ≡ class = ap (λ k. get_or (set classes b class) k 0) e ∙ get_or-set_same classes b class 0 (omega arith) in
      let old : x.size ≡ slot_size (get_or classes b 0) = of i x li h ∙ ap (λ k. slot_size (get_or classes k 0)) e in
      elim was [
        | inl z ↦ let byte = some (nano_page (page_of_block p i)) x h in absurd (omega arith)
        | inr z ↦ old ∙ ap slot_size (z ∙ sym at)
      ]
  | inr n ↦ of i x li h ∙ ap slot_size (sym (get_or-set_other classes b i class 0 (λ e. false≢true (sym n ∙ eq-eqb i b e))))
]

-- nothing is live in nano of an empty history, and no word is held

zero_at : (n i : ℕ) → ◌≡◌ {A = ℕ} (get_or {A = ℕ} (replicate n 0) i 0) 0
zero_at zero i = refl
zero_at (suc n) zero = refl
zero_at (suc n) (suc i) = zero_at n i

pub no_words : (p : Profile) (s : State) (c : ℕ) (pairs : List Pair) (n : ℕ) → ((j : Rattle.mz_events.specs.Places.Spot) → (kept_at s j).live ≡ []) → AreWords p s c pairs (replicate n 0)
no_words p s c pairs n none b j lb lj =
    let idle : is_slot_live p s b j ≡ false = ap (λ bs. has_slot p bs b j) (none (nano_page (page_of_block p b))) in
    let zeros : List ℕ = replicate n 0 in
    let w : get_or zeros (b * 1024 + j) 0 ≡ zero = zero_at n (b * 1024 + j) in
    ap (is_word c (is_slot_live p s b j) (has_slot p (hand_among c pairs) b j)) w ∙ idle_word c 0 (is_slot_live p s b j) (has_slot p (hand_among c pairs) b j) refl (sym (ap one_for idle))

pub no_classes : (n : ℕ) → list_all (λ d. nat_le d 16) (replicate n 0) ≡ true
no_classes zero = refl
no_classes (suc n) = no_classes n

-- slots

pub slot_few : (j class : ℕ) → 1 ≤ class → j < slots_of class → j < 1024
slot_few j class some l =
    let e = slot_end j (16 * class) (omega arith) l in
    let m : j * 16 ≤ j * (16 * class) = mul-le j 16 j (16 * class) (omega arith) (omega arith) in
    omega arith

module _ (L : HistoryLaws) (p : Profile) (es : List Entry) (ok : AreLawful p opening es) where
  abbrev st : State
  st = after_all p opening es

  number_few : (u n j : ℕ) → 16 ≤ n → u < PAGE → u / n ≡ j → j < 1024
  number_few u n j l b e =
      let d = Rattle.std.proofs.lemmas.Nat.div-add-mod' u n in
      let m : j * 16 ≤ u / n * n = mul-le j 16 (u / n) n (omega arith) l in
      omega arith

  pub live_few : (b j : ℕ) → is_slot_live p st b j ≡ true → j < 1024
  live_few b j h =
      let i = page_of_block p b in
      let r = find_any (slot_test p b j) (kept_at st (nano_page i)).live h in
      let x = r.0 in
      let at = there_has (kept_at st (nano_page i)).live x r.1.0 in
      let form = L.forms p es (nano_page i) x ok at in
      let t = and_parts (page_of x.first == i) (slot_number x == j) r.1.1 in
      let size = and_parts ((x.size % 16 == 0) && nat_le 16 x.size) (nat_le x.size 256) form.size in
      let least = and_parts (x.size % 16 == 0) (nat_le 16 x.size) size.0 in
      let l : 16 ≤ x.size = grind (arith, nat_tests, least.1) in
      number_few (x.first % PAGE) x.size j l (omega arith) (eqb-true (slot_number x) j t.1)

  -- what is asked of a light tells which slot it is
  pub asked_few_by : (c : ℕ) (pairs : List Pair) (classes : List ℕ) (b j expect : ℕ) → ((x : Block) → owners pairs x ≤ one_for (is_live st x)) → expect ≤ 1 → (expect ≡ 0 → 1 ≤ get_or classes b 0) → (expect ≡ 0 → j < slots_of (get_or classes b 0)) → (expect ≡ 1 → has_slot p (hand_among c pairs) b j ≡ true) → j < 1024
  asked_few_by c pairs classes b j expect one kind settled there owned = elim (cases_Bool (expect == 0)) [
    | inl y ↦ let e = eqb-true expect 0 y in slot_few j (get_or classes b 0) (settled e) (there e)
    | inr n ↦
        let e : expect ≡ 1 = omega (arith, kind, λ (z : expect ≡ 0). false≢true (sym n ∙ eq-eqb expect 0 z)) in
        live_few b j (slot_of_owned L p es ok pairs c b j one (owned e))
  ]

  pub asked_few : (c : ℕ) (pairs : List Pair) (classes : List ℕ) (b j expect : ℕ) → AreInOneHand st pairs → expect ≤ 1 → (expect ≡ 0 → 1 ≤ get_or classes b 0) → (expect ≡ 0 → j < slots_of (get_or classes b 0)) → (expect ≡ 1 → has_slot p (hand_among c pairs) b j ≡ true) → j < 1024
  asked_few c pairs classes b j expect one kind settled there owned = asked_few_by c pairs classes b j expect (λ x. let e = one x in omega arith) kind settled there owned

  module _ (c : ℕ) (pairs : List Pair) (ws : List ℕ) (b j expect : ℕ) (one : AreInOneHand st pairs) (words : AreWords p st c pairs ws) (lb : b < p.nano) (lj : j < 1024) (kind : expect ≤ 1) (free : has_light (lights_from 0 ws) (light_at b j) ≡ false) (owned : expect ≡ 1 → has_slot p (hand_among c pairs) b j ≡ true) where
    abbrev w : ℕ
    w = get_or ws (b * 1024 + j) 0

    pub is_free : nat_lt w 2 ≡ true
    is_free = elim (cases_Bool (nat_lt w 2)) [ inl y ↦ y | inr z ↦ absurd (false≢true (sym free ∙ (light_of_slot b j ws lj ∙ ap not z))) ]

    pub tells : w ≡ one_for (is_slot_live p st b j)
    tells = word_idle c w (is_slot_live p st b j) (has_slot p (hand_among c pairs) b j) is_free (words b j lb lj)

    not_live : w ≡ 0 → is_slot_live p st b j ≡ false
    not_live e = elim (cases_Bool (is_slot_live p st b j)) [ inl y ↦ absurd (let z : 0 ≡ 1 = sym e ∙ (tells ∙ ap one_for y) in omega arith) | inr n ↦ n ]

    pub not_owned : w ≡ 0 → has_slot p (hand_among c pairs) b j ≡ false
    not_owned e = elim (cases_Bool (has_slot p (hand_among c pairs) b j)) [ inl y ↦ absurd (false≢true (sym (not_live e) ∙ owned_slot L p es ok pairs c b j one y)) | inr n ↦ n ]

    pub held_word : w ≡ expect → is_word c (is_slot_live p st b j) (has_slot p (hand_among c pairs) b j) (2 + c) ≡ true
    held_word e =
        let n : nat_lt (2 + c) 2 ≡ false = grind (arith, nat_tests) in
        lit_word c (2 + c) (is_slot_live p st b j) (has_slot p (hand_among c pairs) b j) n refl
        (λ y. let z : expect ≡ 1 = sym e ∙ (tells ∙ ap one_for y) in owned z)

    -- the word of a live pair is as expected
    pub only_idle : w ≢ expect → expect ≡ 0
    only_idle other = elim (cases_Bool (expect == 0)) [
      | inl y ↦ eqb-true expect 0 y
      | inr n ↦
          let e : expect ≡ 1 = omega (arith, kind, λ (z : expect ≡ 0). false≢true (sym n ∙ eq-eqb expect 0 z)) in
          absurd (other (tells ∙ (ap one_for (owned_slot L p es ok pairs c b j one (owned e)) ∙ sym e)))
    ]

  -- the holder of a light owns the pair exactly where it is live
  pub lit_live : (c : ℕ) (pairs : List Pair) (ws : List ℕ) (b j : ℕ) → AreInOneHand st pairs → AreWords p st c pairs ws → b < p.nano → j < 1024 → has_light (lights_from 0 ws) (light_at b j) ≡ true → is_slot_live p st b j ≡ has_slot p (hand_among c pairs) b j
  lit_live c pairs ws b j one words lb lj lit = same_bool (is_slot_live p st b j) (has_slot p (hand_among c pairs) b j) (lit_owned L p es ok c pairs ws b j words lb lj lit) (owned_slot L p es ok pairs c b j one)

-- the word of a slot whose light is free
pub free_word : (c : ℕ) (live owned : Bool) → is_word c live owned (one_for live) ≡ true
free_word c true owned = refl
free_word c false owned = refl

pub one_for_few : (live : Bool) → nat_lt (one_for live) 2 ≡ true
one_for_few true = refl
one_for_few false = refl

-- what a word tells
told_case : (c w : ℕ) (live owned : Bool) (d : Bool) → nat_lt w 2 ≡ d → is_word c live owned w ≡ true → w ≡ cond (not d) (2 + c) (one_for live)
told_case c w live owned true e h = word_idle c w live owned e h
told_case c w live owned false e h = (word_lit c w live owned e h).0

pub word_told : (p : Profile) (s : State) (c : ℕ) (pairs : List Pair) (ws : List ℕ) (b j : ℕ) → AreWords p s c pairs ws → b < p.nano → j < 1024 → get_or ws (b * 1024 + j) 0 ≡ cond (has_light (lights_from 0 ws) (light_at b j)) (2 + c) (one_for (is_slot_live p s b j))
word_told p s c pairs ws b j words lb lj =
    let w = get_or ws (b * 1024 + j) 0 in
    told_case c w (is_slot_live p s b j) (has_slot p (hand_among c pairs) b j) (nat_lt w 2) refl (words b j lb lj) ∙ ap (λ d. cond d (2 + c) (one_for (is_slot_live p s b j))) (sym (light_of_slot b j ws lj))

pub no_class : (p : Profile) (s : State) (classes : List ℕ) → ((j : Rattle.mz_events.specs.Places.Spot) → (kept_at s j).live ≡ []) → AreOfClass p s classes
no_class p s classes none b x lb h = absurd (false≢true (sym (ap (λ bs. has_block bs x) (none (nano_page (page_of_block p b)))) ∙ h))

-- a light that a book may take is of a slot
pub light_few : HistoryLaws → (s : Account) (b j expect : ℕ) → IsOrderly s → CanHoldLight s b j expect → j < 1024
light_few L s b j expect o can = asked_few_by L s.profile s.seen o.lawful s.caller s.pairs s.settled b j expect o.owned can.kind can.settled can.there can.owned
