-- Bits in a slice of words.
use Rattle.std.proofs.Common.{◌≡◌, ℕ, ◌+◌, ◌-◌, ◌*◌, ◌/◌, ◌%◌, ◌^◌, ◌<◌, ◌≤◌, ◌⊎◌, List, Bool, true, false, not, length, slice_index, min, slice_get, bit_and, ◌==◌, replicate, Option, Some, None, MatchOption, unwrap_or, if◌then◌else◌, get_or, set, refl, sym, ap, ◌∙◌, subst, inl, inr, arith}
use Rattle.std.proofs.lemmas.Bool.{cases_lt, cases_eq}
use Rattle.std.proofs.lemmas.List.{length-set, get_or-set_same, get_or-set_other, same_lists, length-replicate, get_or-replicate, get_or_read}
use Rattle.std.proofs.lemmas.Option.{slice_get-get_or}
use Rattle.std.proofs.lemmas.List.FromFn.{length-map-range_with_len, get_or-map-range_with_len}
use Rattle.std.specs.List.{AllWithin}
use Rattle.std.specs.Int.{trailing_zeros, w64}
use Rattle.mz_bits.specs.Words.{is_set, bit_of, bits_of, NoneIs, IsFirstThat, IsRestOf, IsWritten, Writes}
use Rattle.mz_bits.specs.Runs.{HasNoNext, IsNext, IsRunOf, with_run}
use Rattle.mz_bits.proofs.RunLemmas.{with_run_from}
use Rattle.mz_bits.proofs.WordLemmas.{lowest_is, none_set, read_bit}

-- which of the words a bit is in, and where
in_word : (i j : ℕ) → i % 64 + j < 64 → ((i + j) / 64 ≡ i / 64) × ((i + j) % 64 ≡ i % 64 + j)
in_word i j h = (omega arith, omega arith)

-- a bit that is the flipped one, or not
told : (v b r : Bool) → r ≡ (if v then b else not b) → (r ≡ true → b ≡ v) × (r ≡ false → b ≡ not v)
told true b r e = (λ t. sym e ∙ t, λ f. sym e ∙ f)
told false true r e = (λ t. sym t ∙ e, λ f. refl)
told false false r e = (λ t. refl, λ f. sym f ∙ e)

-- what a bit of the rest of a word says
rest_tells : (v : Bool) (words : List ℕ) (i j rest : ℕ) → IsRestOf v (slice_index words (i / 64)) (i % 64) rest → i % 64 + j < 64 → (is_set rest j ≡ true → bit_of words (i + j) ≡ v) × (is_set rest j ≡ false → bit_of words (i + j) ≡ not v)
rest_tells v words i j rest r h =
    let here = in_word i j h in
    let same : is_set (slice_index words (i / 64)) (i % 64 + j) ≡ bit_of words (i + j) = ap (λ q. is_set (slice_index words q) (i % 64 + j)) (sym here.0) ∙ ap (λ k. is_set (slice_index words ((i + j) / 64)) k) (sym here.1) in
    let F = λ (b : Bool). if v then b else not b in
    told v (bit_of words (i + j)) (is_set rest j) (r.same j h ∙ ap F same)

-- the rest of a word is 0: none of its bits is v
pub no_rest : (v : Bool) (words : List ℕ) (i rest : ℕ) → IsRestOf v (slice_index words (i / 64)) (i % 64) rest → rest ≡ 0 → NoneIs v words i ((i / 64 + 1) * 64)
no_rest v words i rest r zero k low high =
    let there : i + (k - i) ≡ k = omega arith in
    let t = rest_tells v words i (k - i) rest r (omega arith) in
    ap (λ q. bit_of words q) (sym there) ∙ t.1 (none_set rest (k - i) zero)

-- and else its lowest 1 is the first that is v
pub found : (v : Bool) (words : List ℕ) (i t rest : ℕ) → IsRestOf v (slice_index words (i / 64)) (i % 64) rest → 0 < rest → t ≡ trailing_zeros w64 rest → (i % 64 + t < 64) × (bit_of words (i + t) ≡ v) × NoneIs v words i (i + t)
found v words i t rest r some e =
    let l = lowest_is rest (i % 64) t (omega arith) some r.few e in
    let within : i % 64 + t < 64 = l.0 in (
      within,
      (rest_tells v words i t rest r within).0 l.1.set,
      λ k low high.
          let there : i + (k - i) ≡ k = omega arith in
          let q = rest_tells v words i (k - i) rest r (omega arith) in
          ap (λ q. bit_of words q) (sym there) ∙ q.1 (l.1.below (k - i) (omega arith)),
    )

-- none up to one place, and none from there on
pub none_more : (v : Bool) (words : List ℕ) (i j k : ℕ) → NoneIs v words i j → NoneIs v words j k → NoneIs v words i k
none_more v words i j k first next q low high = elim (cases_lt q j) [ inl l ↦ first q low l | inr g ↦ next q g high ]

pub none_fewer : (v : Bool) (words : List ℕ) (i j k : ℕ) → k ≤ j → NoneIs v words i j → NoneIs v words i k
none_fewer v words i j k h all q low high = all q low (omega arith)

-- one word written
pub writes : (v : Bool) (words : List ℕ) (i n w : ℕ) → i / 64 < length words → i % 64 + n ≤ 64 → IsWritten v (slice_index words (i / 64)) (i % 64) n w → Writes v words i n (set words (i / 64) w)
writes v words i n w here one r = record {
  count = length-set words (i / 64) w;
  inside = λ k low high.
      let same : k / 64 ≡ i / 64 = omega arith in
      let from : i % 64 ≤ k % 64 = omega arith in
      let upto : k % 64 < i % 64 + n = omega arith in
      ap (λ q. is_set (slice_index (set words (i / 64) w) q) (k % 64)) same ∙ ap (λ x. is_set x (k % 64)) (get_or-set_same words (i / 64) w 0 here) ∙ r.inside (k % 64) from upto;
  outside = λ k away. elim (cases_eq (k / 64) (i / 64)) [
    | inl same ↦
        ap (λ q. is_set (slice_index (set words (i / 64) w) q) (k % 64)) same ∙ ap (λ x. is_set x (k % 64)) (get_or-set_same words (i / 64) w 0 here) ∙ r.outside (k % 64) (omega arith) (away_in_word i n k same one away)
        ∙ ap (λ q. is_set (slice_index words q) (k % 64)) (sym same)
    | inr other ↦ ap (λ x. is_set x (k % 64)) (get_or-set_other words (i / 64) (k / 64) w 0 other)
  ];
}
  where
    away_in_word : (i n k : ℕ) → k / 64 ≡ i / 64 → i % 64 + n ≤ 64 → (k < i) ⊎ (i + n ≤ k) → (k % 64 < i % 64) ⊎ (i % 64 + n ≤ k % 64)
    away_in_word i n k same one (inl l) = inl (omega arith)
    away_in_word i n k same one (inr g) = inr (omega arith)

-- nothing written
pub writes_none : (v : Bool) (words : List ℕ) (i n : ℕ) → n ≡ 0 → Writes v words i n words
writes_none v words i n e = record { count = refl; inside = λ k low high. absurd (omega arith); outside = λ k away. refl }

-- one run written, and the next
pub writes_more : (v : Bool) (words next new : List ℕ) (i n j m : ℕ) → i + n ≡ j → Writes v words i n next → Writes v next j m new → Writes v words i (n + m) new
writes_more v words next new i n j m e first more = record {
  count = more.count ∙ first.count;
  inside = λ k low high. elim (cases_lt k j) [
    | inl l ↦ more.outside k (inl l) ∙ first.inside k low (omega arith)
    | inr g ↦ more.inside k g (omega arith)
  ];
  outside = λ k away. more.outside k (farther k away) ∙ first.outside k (nearer k away);
}
  where
    farther : (k : ℕ) → (k < i) ⊎ (i + (n + m) ≤ k) → (k < j) ⊎ (j + m ≤ k)
    farther k (inl l) = inl (omega arith)
    farther k (inr g) = inr (omega arith)

    nearer : (k : ℕ) → (k < i) ⊎ (i + (n + m) ≤ k) → (k < i) ⊎ (i + n ≤ k)
    nearer k (inl l) = inl l
    nearer k (inr g) = inr (omega arith)

-- ---- the list of the first n bits
pub length-bits_of : (words : List ℕ) (n : ℕ) → length (bits_of words n) ≡ n
unfolding bits_of
length-bits_of words n = length-map-range_with_len (bit_of words) 0 n

pub get_or-bits_of : (words : List ℕ) (n k : ℕ) (d : Bool) → k < n → get_or (bits_of words n) k d ≡ bit_of words k
unfolding bits_of
get_or-bits_of words n k d h = get_or-map-range_with_len (bit_of words) 0 n k k d h (omega arith)

-- one bit, as it is read
pub get-bits_of : (words : List ℕ) (n k x : ℕ) → k < n → n ≤ 64 * length words → x ≡ get_or words (k / 64) x → slice_get (bits_of words n) k ≡ Some (bit_and (x / 2 ^ (k % 64)) 1 == 1)
get-bits_of words n k x h room e =
    let long : length (bits_of words n) ≡ n = length-bits_of words n in
    let word : x ≡ slice_index words (k / 64) = get_or_read words (k / 64) x (omega arith) e 0 in
    slice_get-get_or (bits_of words n) k false (omega arith) ∙ ap (λ b. Some b) (get_or-bits_of words n k false h ∙ ap (λ y. is_set y (k % 64)) (sym word) ∙ sym (read_bit x (k % 64)))

-- words that are 0
pub bits_of-zeros : (words : List ℕ) (m n : ℕ) → words ≡ replicate m 0 → n ≤ 64 * m → bits_of words n ≡ replicate n false
bits_of-zeros words m n e room = same_lists (bits_of words n) (replicate n false) (length-bits_of words n ∙ sym (length-replicate n false)) (λ k d l.
    let long : length (bits_of words n) ≡ n = length-bits_of words n in
    let zero : slice_index words (k / 64) ≡ 0 = ap (λ ws. slice_index ws (k / 64)) e ∙ get_or-replicate m (k / 64) 0 0 (omega arith) in
    get_or-bits_of words n k d (omega arith) ∙ none_set (slice_index words (k / 64)) (k % 64) zero ∙ sym (get_or-replicate n k false d (omega arith)))

-- a write in the words is one in the list
pub bits_of-written : (v : Bool) (words new : List ℕ) (len i n : ℕ) → i + n ≤ len → Writes v words i n new → bits_of new len ≡ with_run (bits_of words len) i n v
bits_of-written v words new len i n h w =
    let long : length (bits_of words len) ≡ len = length-bits_of words len in
    with_run_from (bits_of words len) (bits_of new len) i n v (omega arith) (length-bits_of new len ∙ sym long)
    (λ k d low high. get_or-bits_of new len k d (omega arith) ∙ w.inside k low high)
    (λ k d l away. get_or-bits_of new len k d (omega arith) ∙ w.outside k away ∙ sym (get_or-bits_of words len k d (omega arith)))

-- no bit is v
pub none_in_list : (v : Bool) (words : List ℕ) (len i j : ℕ) → j ≤ len → NoneIs v words i j → AllWithin (λ b. b ≡ not v) (bits_of words len) i j
none_in_list v words len i j h none k d low high = get_or-bits_of words len k d (omega arith) ∙ none k low high

-- the least place is the same in the list
pub next_in_list : (v : Bool) (words : List ℕ) (len i q : ℕ) → IsFirstThat v words i len q → IsNext v (bits_of words len) i q
next_in_list v words len i q f =
    let long : length (bits_of words len) ≡ len = length-bits_of words len in
    let below : q < len = f.below in
    record {
      above = f.above;
      within = omega arith;
      there = λ d. get_or-bits_of words len q d below ∙ f.there;
      before = none_in_list v words len i q (omega arith) f.before;
    }

-- both answers of a search up to the end
pub search_in_list : (v : Bool) (words : List ℕ) (len i : ℕ) (r : Option ℕ) → MatchOption r (NoneIs v words i len) (IsFirstThat v words i len) → MatchOption r (HasNoNext v (bits_of words len) i) (IsNext v (bits_of words len) i)
search_in_list v words len i None none =
    let long = length-bits_of words len in
    none_in_list v words len i (length (bits_of words len)) (omega arith) (none_fewer v words i len (length (bits_of words len)) (omega arith) none)
search_in_list v words len i (Some q) f = next_in_list v words len i q f

not_not : (v : Bool) → not (not v) ≡ v
not_not true = refl
not_not false = refl

-- the length of the run of bits that are v, by the first that isn't up to an end
pub run_in_list : (v : Bool) (words : List ℕ) (len i most end n : ℕ) (r : Option ℕ) → len < 2 ^ 64 → end ≡ min len (min (i + most) (2 ^ 64 - 1)) → MatchOption r (NoneIs (not v) words i end) (IsFirstThat (not v) words i end) →
    n ≡ unwrap_or r end - i → IsRunOf v (bits_of words len) i most n
run_in_list v words len i most end n None small e none is =
    let long : length (bits_of words len) ≡ len = length-bits_of words len in
    record {
      limit = omega arith;
      within = omega arith;
      each = λ k d low high. get_or-bits_of words len k d (omega arith) ∙ none k low (omega arith) ∙ not_not v;
      ends = λ fewer inside. absurd (omega arith);
    }
run_in_list v words len i most end n (Some q) small e f is =
    let long : length (bits_of words len) ≡ len = length-bits_of words len in
    let above : i ≤ q = f.above in
    let below : q < end = f.below in
    let at : q ≡ i + n = omega arith in
    record {
      limit = omega arith;
      within = omega arith;
      each = λ k d low high. get_or-bits_of words len k d (omega arith) ∙ f.before k low (omega arith) ∙ not_not v;
      ends = λ fewer inside d. get_or-bits_of words len (i + n) d (omega arith) ∙ ap (λ k. bit_of words k) (sym at) ∙ f.there;
    }

-- the same of a view, and of a slice that is the words
pub search_in_view : (v : Bool) (words slice : List ℕ) (bits : List Bool) (len i : ℕ) (r : Option ℕ) → slice ≡ words → bits_of words len ≡ bits → MatchOption r (NoneIs v slice i len) (IsFirstThat v slice i len) →
    MatchOption r (HasNoNext v bits i) (IsNext v bits i)
search_in_view v words slice bits len i r e is h =
    let F : List ℕ → Type 0 = λ ws. MatchOption r (NoneIs v ws i len) (IsFirstThat v ws i len) in
    let G : List Bool → Type 0 = λ l. MatchOption r (HasNoNext v l i) (IsNext v l i) in
    subst G is (search_in_list v words len i r (subst F e h))

pub run_in_view : (v : Bool) (words slice : List ℕ) (bits : List Bool) (len i most end n : ℕ) (r : Option ℕ) → slice ≡ words → bits_of words len ≡ bits → len < 2 ^ 64 → end ≡ min len (min (i + most) (2 ^ 64 - 1)) →
    MatchOption r (NoneIs (not v) slice i end) (IsFirstThat (not v) slice i end) → n ≡ unwrap_or r end - i → IsRunOf v bits i most n
run_in_view v words slice bits len i most end n r e is small upto h long =
    let F : List ℕ → Type 0 = λ ws. MatchOption r (NoneIs (not v) ws i end) (IsFirstThat (not v) ws i end) in
    let G : List Bool → Type 0 = λ l. IsRunOf v l i most n in
    subst G is (run_in_list v words len i most end n r small upto (subst F e h) long)
