-- Reading and writing are inverse, kind by kind.
use Rattle.std.proofs.Common.{◌≡◌, ℕ, ◌<◌, ◌≤◌, ◌^◌, Bool, true, List, codes, cond, inl, inr, arith, refl, sym, ap, ◌∙◌, Option, Some, None}
use Rattle.std.specs.Prelude.{◌&&◌}
use Rattle.std.proofs.lemmas.Bool.{and_parts, and_from, le-leb, ltb-true}
use Rattle.std.proofs.lemmas.Bool.Decides.{nat_tests}
use Rattle.std.specs.Fmt.{decimal}
use Rattle.mz_words.specs.declared.kind.Kind.{Kind}
use Rattle.mz_words.specs.declared.kind.Kind.TheVariants as kind
use Rattle.mz_words.specs.declared.kind.Word.{Word}
use Rattle.mz_words.specs.declared.kind.Word.TheVariants as word
use Rattle.mz_words.specs.Numbers.{is_from, number_of, ◌>>=◌, number_from, caller_of, small_number_of}
use Rattle.mz_words.specs.Names.{name_word, name_fits, old_name_of, new_name_of, is_new, base_of, name_of, given_of}
use Rattle.mz_words.specs.Places.{place_of}
use Rattle.mz_words.specs.Ranges.{range_of}
use Rattle.mz_words.specs.Hex.{shown_of}
use Rattle.mz_words.specs.Kinds.{kind_of, word_fits, word_text, read_word, is_short_kind}
use Rattle.std.proofs.lemmas.Slice.Eq.{bytes_eq-Decides}
use Rattle.mz_base.specs.Names.{is_null}
use Rattle.mz_words.specs.declared.name.Name.{Name}
use Rattle.mz_words.specs.declared.name.Name.TheVariants as name
use Rattle.mz_words.proofs.NumberIsReadAgain.{number_again, limited_again}
use Rattle.mz_words.proofs.PlaceIsReadAgain.{small_again, place_again, range_again, shown_again}
use Rattle.mz_words.proofs.NameReading.{base_of_base}
use Rattle.mz_words.proofs.NameIsReadAgain.{caller_of-decimal, given_of-word, name_of-word, not_null, below_callers}
use Rattle.mz_words.proofs.ReadIsWritten.{bind_parts, some_same, if_else, if_parts, number_spelled, limited_spelled, caller_spelled, base_spelled, given_spelled, name_spelled}
use Rattle.mz_words.proofs.PlaceReadIsWritten.{small_spelled, place_spelled, range_spelled, shown_spelled}
use Rattle.mz_words.specs.Lines.{is_visible_word, is_short_word}
use Rattle.mz_words.proofs.WordsAreVisible.{IsSeen, base_seen, hex_visible, name_seen, number_seen, place_seen, range_seen}

into : {A : Type 0} (o : Option A) (x : A) (f : A → Word) → o ≡ Some x → (o >>= λ y. Some (f y)) ≡ Some (f x)
into {A = A} o x f e = ap (λ (p : Option A). p >>= λ y. Some (f y)) e

-- the names of a `realloc`
old_again : (n : Name) → name_fits n ≡ true → old_name_of (name_word n) ≡ Some (Some n)
old_again n h = rw (not_null n h, name_of-word n h) refl

new_again : (before : List ℕ) (n : Name) → (name_fits n && is_new before (name_word n)) ≡ true → new_name_of before (name_word n) ≡ Some n
new_again before n h =
    let p = and_parts (name_fits n) (is_new before (name_word n)) h in
    ap (λ (o : Option Name). o >>= λ m. cond (is_new before (name_word n)) (Some m) None) (name_of-word n p.0) ∙ ap (λ (b : Bool). cond b (Some n) None) p.1

new_spelled : (before t : List ℕ) (n : Name) → new_name_of before t ≡ Some n → (t ≡ name_word n) × ((name_fits n && is_new before (name_word n)) ≡ true)
new_spelled before t n h =
    let p = bind_parts (name_of t) (λ m. cond (is_new before t) (Some m) None) n h in
    let q = if_parts (is_new before t) p.0 n p.2 in
    let s = name_spelled t p.0 p.1 in
    let e : t ≡ name_word n = s.0 ∙ ap name_word q.1 in
    (e, and_from _ _ (ap name_fits (sym q.1) ∙ s.1) (ap (is_new before) (sym e) ∙ q.0))

old_spelled : (callers : ℕ) (before t : List ℕ) (o : Option Name) → old_name_of t ≡ Some o → (t ≡ word_text (word.Old o)) × (word_fits callers before (word.Old o) ≡ true)
unfolding word_text word_fits
old_spelled callers before t None h = elim (if_else (is_null t) _ _ None h) [
  | inl p ↦ ((bytes_eq-Decides t (codes "null")).0 p.0, refl)
  | inr q ↦ let p = bind_parts (name_of t) (λ n. Some (Some n)) None q in absurd (let e : Some (Some p.0) ≡ Some None = p.2 in cc)
]
old_spelled callers before t (Some n) h = elim (if_else (is_null t) _ _ (Some n) h) [
  | inl p ↦ absurd (let e : Some None ≡ Some (Some n) = p.1 in cc)
  | inr q ↦
      let p = bind_parts (name_of t) (λ m. Some (Some m)) (Some n) q in
      let same : p.0 ≡ n = cc (p.2) in
      let s = name_spelled t p.0 p.1 in (s.0 ∙ ap name_word same, ap name_fits (sym same) ∙ s.1)
]

-- what is written of a word is read as that word
pub written_is_read : (callers : ℕ) (before : List ℕ) (w : Word) → callers < 2 ^ 64 → word_fits callers before w ≡ true → read_word callers before (kind_of w) (word_text w) ≡ Some w
unfolding word_fits word_text read_word
written_is_read callers before (word.Number n) few h = into _ n word.Number (number_again n h)
written_is_read callers before (word.Small n) few h = into _ n word.Small (small_again n h)
written_is_read callers before (word.Caller n) few h = into _ n word.Caller (caller_of-decimal callers n (below_callers callers n few h) h)
written_is_read callers before (word.Base b) few h = into _ b word.Base (base_of_base b h)
written_is_read callers before (word.Name n) few h = into _ n word.Name (name_of-word n h)
written_is_read callers before (word.Old None) few h = refl
written_is_read callers before (word.Old (Some n)) few h = into _ (Some n) word.Old (old_again n h)
written_is_read callers before (word.New n) few h = into _ n word.New (new_again before n h)
written_is_read callers before (word.Given g) few h = into _ g word.Given (given_of-word g h)
written_is_read callers before (word.Zone z) few h = into _ z word.Zone (base_of_base z h)
written_is_read callers before (word.Byte n) few h = into _ n word.Byte (limited_again 0 255 n h (omega arith))
written_is_read callers before (word.ShowCount n) few h = into _ n word.ShowCount (limited_again 1 64 n h (omega arith))
written_is_read callers before (word.BatchCount n) few h = into _ n word.BatchCount (limited_again 1 4096 n h (omega arith))
written_is_read callers before (word.Place k) few h = into _ k word.Place (place_again k h)
written_is_read callers before (word.Range r) few h = into _ r word.Range (range_again r h)
written_is_read callers before (word.Bytes bs) few h = into _ bs word.Bytes (shown_again bs h)

-- a text that is read as a word is what is written of that word
pub record Spells (callers : ℕ) (before : List ℕ) (k : Kind) (t : List ℕ) (w : Word) : Type 0 where
  pub text : t ≡ word_text w
  pub kind : k ≡ kind_of w
  pub fits : word_fits callers before w ≡ true

spells : {A : Type 0} (callers : ℕ) (before : List ℕ) (o : Option A) (f : A → Word) (k : Kind) (t : List ℕ) (w : Word) → (o >>= λ y. Some (f y)) ≡ Some w
    → ((x : A) → o ≡ Some x → (t ≡ word_text (f x)) × (word_fits callers before (f x) ≡ true)) → ((x : A) → k ≡ kind_of (f x)) → Spells callers before k t w
spells callers before o f k t w h spelled same =
    let p = bind_parts o (λ y. Some (f y)) w h in
    let q = spelled p.0 p.1 in
    let e : f p.0 ≡ w = some_same (f p.0) w p.2 in
    record { text = q.0 ∙ ap word_text e; kind = same p.0 ∙ ap kind_of e; fits = ap (word_fits callers before) (sym e) ∙ q.1 }

pub read_is_written : (callers : ℕ) (before : List ℕ) (k : Kind) (t : List ℕ) (w : Word) → read_word callers before k t ≡ Some w → Spells callers before k t w
unfolding word_fits word_text read_word
read_is_written callers before kind.Number t w h = spells callers before (number_of t) word.Number kind.Number t w h (number_spelled t) (λ x. refl)
read_is_written callers before kind.Small t w h = spells callers before (small_number_of t) word.Small kind.Small t w h (small_spelled t) (λ x. refl)
read_is_written callers before kind.Caller t w h = spells callers before (caller_of callers t) word.Caller kind.Caller t w h (caller_spelled callers t) (λ x. refl)
read_is_written callers before kind.Base t w h = spells callers before (base_of t) word.Base kind.Base t w h (base_spelled t) (λ x. refl)
read_is_written callers before kind.Name t w h = spells callers before (name_of t) word.Name kind.Name t w h (name_spelled t) (λ x. refl)
read_is_written callers before kind.Old t w h = spells callers before (old_name_of t) word.Old kind.Old t w h (old_spelled callers before t) (λ x. refl)
read_is_written callers before kind.New t w h = spells callers before (new_name_of before t) word.New kind.New t w h (new_spelled before t) (λ x. refl)
read_is_written callers before kind.Given t w h = spells callers before (given_of t) word.Given kind.Given t w h (given_spelled t) (λ x. refl)
read_is_written callers before kind.Zone t w h = spells callers before (base_of t) word.Zone kind.Zone t w h (base_spelled t) (λ x. refl)
read_is_written callers before kind.Byte t w h = spells callers before (number_from 0 255 t) word.Byte kind.Byte t w h (limited_spelled 0 255 t) (λ x. refl)
read_is_written callers before kind.ShowCount t w h = spells callers before (number_from 1 64 t) word.ShowCount kind.ShowCount t w h (limited_spelled 1 64 t) (λ x. refl)
read_is_written callers before kind.BatchCount t w h = spells callers before (number_from 1 4096 t) word.BatchCount kind.BatchCount t w h (limited_spelled 1 4096 t) (λ x. refl)
read_is_written callers before kind.Place t w h = spells callers before (place_of t) word.Place kind.Place t w h (place_spelled t) (λ x. refl)
read_is_written callers before kind.Range t w h = spells callers before (range_of t) word.Range kind.Range t w h (range_spelled t) (λ x. refl)
read_is_written callers before kind.Bytes t w h = spells callers before (shown_of t) word.Bytes kind.Bytes t w h (shown_spelled t) (λ x. refl)

-- The bytes of a word can be seen, and but for those that show bytes, words have at most 21.
pub record IsPlainWord (w : Word) : Type 0 where
  pub visible : is_visible_word (word_text w) ≡ true
  pub short : is_short_kind (kind_of w) ≡ true → is_short_word (word_text w) ≡ true

few : (w : Word) (m : ℕ) → m ≤ 21 → IsSeen m (word_text w) → IsPlainWord w
few w m le h = record { visible = h.visible; short = λ short. le-leb _ 21 (let seen = h.few in omega (arith, seen, le)) }

limited : (w : Word) (least most n : ℕ) → word_text w ≡ decimal n → is_from least most n ≡ true → most < 2 ^ 64 → IsPlainWord w
limited w least most n e h lt = let top : n ≤ most = grind (arith, nat_tests) in few w 20 (omega arith) (rw e (number_seen n (omega arith)))

pub plain_word : (callers : ℕ) (before : List ℕ) (w : Word) → callers < 2 ^ 64 → word_fits callers before w ≡ true → IsPlainWord w
unfolding word_fits word_text
plain_word callers before (word.Number n) lt h = few _ 20 (omega arith) (number_seen n (ltb-true _ _ h))
plain_word callers before (word.Small n) lt h = let small : n < 2 ^ 32 = ltb-true _ _ h in few _ 20 (omega arith) (number_seen n (omega arith))
plain_word callers before (word.Caller n) lt h = let below : n < callers = ltb-true _ _ h in few _ 20 (omega arith) (number_seen n (omega arith))
plain_word callers before (word.Base b) lt h = few _ 16 (omega arith) (base_seen b h)
plain_word callers before (word.Name n) lt h = few _ 21 (omega arith) (name_seen n h)
plain_word callers before (word.Old None) lt h = record { visible = refl; short = λ short. refl }
plain_word callers before (word.Old (Some n)) lt h = few _ 21 (omega arith) (name_seen n h)
plain_word callers before (word.New n) lt h = few _ 21 (omega arith) (name_seen n (and_parts (name_fits n) _ h).0)
plain_word callers before (word.Given g) lt h = few _ 21 (omega arith) (name_seen (name.Given g) h)
plain_word callers before (word.Zone z) lt h = few _ 16 (omega arith) (base_seen z h)
plain_word callers before (word.Byte n) lt h = limited _ 0 255 n refl h (omega arith)
plain_word callers before (word.ShowCount n) lt h = limited _ 1 64 n refl h (omega arith)
plain_word callers before (word.BatchCount n) lt h = limited _ 1 4096 n refl h (omega arith)
plain_word callers before (word.Place k) lt h = few _ 21 (omega arith) (place_seen k h)
plain_word callers before (word.Range r) lt h = few _ 21 (omega arith) (range_seen r)
plain_word callers before (word.Bytes bs) lt h = record { visible = hex_visible bs (and_parts _ _ h).0; short = λ short. absurd cc }
