-- A plain list beside free lists stays alike.
use Rattle.std.proofs.Common.{◌≡◌, ◌≢◌, ℕ, ◌<◌, ◌≤◌, Some, None, List, length, get_or, set, replicate, ap, sym, refl, ◌∙◌, inl, inr, arith}
use Rattle.std.specs.Prelude.{IsSome, IsNone}
use Rattle.std.proofs.lemmas.Bool.{cases_eq, cases_lt, eq-eqb, ne_eqb}
use Rattle.std.proofs.lemmas.List.{length-replicate, get_or-replicate, get_or_past}
use Rattle.std.specs.Ordering.{nat_cmp}
use Rattle.std.specs.FinMap as map
use Rattle.std.specs.FinMap.{get-empty}
use Rattle.mz_lists.specs.Members.{ListsView, no_members}
use Rattle.mz_low_tests.specs.Plain.{plain_at, IsAlike}
use Rattle.mz_lists.proofs.MapLemmas.{get_inserted, get_not_inserted, get_removed, get_not_removed}
use Rattle.mz_lists.proofs.SlotLemmas.{at_set, off_set, len_set}
use Rattle.mz_lists.proofs.KeptLemmas.{is_some_from, is_none_from}

plain_none : (plain : List ℕ) (q : ℕ) → get_or plain q 0 ≡ 0 → plain_at plain q ≡ None
plain_none plain q e = rw (eq-eqb (get_or plain q 0) 0 e) refl

plain_some : (plain : List ℕ) (q n : ℕ) → get_or plain q 0 ≡ n → 1 ≤ n → plain_at plain q ≡ Some n
plain_some plain q n e some =
    let more : get_or plain q 0 ≢ 0 = λ z. omega (arith, e) in
    rw (ne_eqb (get_or plain q 0) 0 more) (ap (λ x. Some x) e)

plain_same : (xs ys : List ℕ) (q : ℕ) → get_or ys q 0 ≡ get_or xs q 0 → plain_at ys q ≡ plain_at xs q
plain_same xs ys q e = rw e refl

-- zeros, in and behind the list
all_zero : (quanta q : ℕ) (plain : List ℕ) → plain ≡ replicate quanta 0 → get_or plain q 0 ≡ 0
all_zero quanta q plain e = elim (cases_lt q quanta) [
  | inl low ↦ ap (λ xs. get_or xs q 0) e ∙ get_or-replicate quanta q 0 0 low
  | inr high ↦ get_or_past plain q 0 (omega (arith, ap length e, length-replicate {A = ℕ} quanta 0))
]

pub alike_new : (quanta : ℕ) (v : ListsView) (plain : List ℕ) → v ≡ no_members quanta → plain ≡ replicate quanta 0 → IsAlike v plain
alike_new quanta v plain v_is e = record {
  count = ap length e ∙ length-replicate quanta 0 ∙ sym (ap (λ (w : ListsView). w.quanta) v_is);
  same = λ q. ap (λ (w : ListsView). map.get w.members q) v_is ∙ get-empty nat_cmp q ∙ sym (plain_none plain q (all_zero quanta q plain e));
}

pub alike_put : (v w : ListsView) (plain : List ℕ) (q n : ℕ) → IsAlike v plain → w ≡ record v { members = map.insert v.members q n } → q < length plain → 1 ≤ n → IsAlike w (set plain q n)
alike_put v w plain q n a w_is low some = record {
  count = len_set plain (set plain q n) q n refl ∙ a.count ∙ sym (ap (λ (x : ListsView). x.quanta) w_is);
  same = λ r. ap (λ (x : ListsView). map.get x.members r) w_is ∙ elim (cases_eq r q) [
    | inl e ↦ get_inserted v.members q n r e ∙ sym (ap (plain_at (set plain q n)) e ∙ plain_some (set plain q n) q n (at_set plain (set plain q n) q n refl low) some)
    | inr ne ↦ get_not_inserted v.members q n r ne ∙ a.same r ∙ sym (plain_same plain (set plain q n) r (off_set plain (set plain q n) q n r refl ne))
  ];
}

pub alike_take : (v w : ListsView) (plain : List ℕ) (q : ℕ) → IsAlike v plain → w ≡ record v { members = map.remove v.members q } → q < length plain → IsAlike w (set plain q 0)
alike_take v w plain q a w_is low = record {
  count = len_set plain (set plain q 0) q 0 refl ∙ a.count ∙ sym (ap (λ (x : ListsView). x.quanta) w_is);
  same = λ r. ap (λ (x : ListsView). map.get x.members r) w_is ∙ elim (cases_eq r q) [
    | inl e ↦ get_removed v.members q r e ∙ sym (ap (plain_at (set plain q 0)) e ∙ plain_none (set plain q 0) q (at_set plain (set plain q 0) q 0 refl low))
    | inr ne ↦ get_not_removed v.members q r ne ∙ a.same r ∙ sym (plain_same plain (set plain q 0) r (off_set plain (set plain q 0) q 0 r refl ne))
  ];
}

-- lists of which no place has a member, and those with one put in
pub none_in : (quanta q : ℕ) (v : ListsView) → v ≡ no_members quanta → IsNone (map.get v.members q)
none_in quanta q v e = is_none_from (map.get v.members q) (ap (λ (w : ListsView). map.get w.members q) e ∙ get-empty nat_cmp q)

pub one_in : (q n : ℕ) (v w : ListsView) → w ≡ record v { members = map.insert v.members q n } → IsSome (map.get w.members q)
one_in q n v w e = is_some_from (map.get w.members q) n (ap (λ (x : ListsView). map.get x.members q) e ∙ get_inserted v.members q n q refl)
