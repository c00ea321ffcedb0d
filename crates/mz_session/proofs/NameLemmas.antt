-- Names in an ordered map: a look-up by name is the map's own, and what a change of the map does to look-ups, counts and members.
use Rattle.std.proofs.Common.{◌≡◌, ℕ, zero, suc, ◌+◌, ◌≤◌, ◌==◌, Bool, true, false, cond, List, [], ◌∷◌, Option, Some, None, refl, ap, sym, subst, ◌∙◌, ◌⊎◌, inl, inr, ⊎_elim, arith, eq-eqb}
use Rattle.std.specs.Prelude.{map, ◌&&◌, Contains}
use Rattle.std.specs.Ordering.{nat_cmp, ordering_then, is_eq, match_ordering}
use Rattle.std.specs.declared.cmp.Ordering.{Ordering}
use Rattle.std.specs.declared.cmp.Ordering.TheVariants.{Less, Equal, Greater}
use Rattle.std.specs.Cmp.{IsTotalOrder, nat_eq_equiv, unsigned_tied}
use Rattle.std.specs.Cmp.Lexicographic.{slice_cmp, nat_list_eq_equiv, texts_ties}
use Rattle.std.specs.Str.{bytes_eq}
use Rattle.std.specs.Map.{lookup, remove_entry, set_value}
use Rattle.std.specs.BTreeMap.{insert_entry}
use Rattle.std.proofs.lemmas.Bool.{false≢true, and_parts, and_from, eqb-true}
use Rattle.std.proofs.lemmas.Option.{none-some}
use Rattle.std.proofs.lemmas.Slice.Eq.{bytes_eq-Decides}
use Rattle.mz_base.specs.Space.{Block, same_block}
use Rattle.mz_events.specs.Changes.{one_for}
use Rattle.mz_words.specs.declared.name.Name.{Name}
use Rattle.mz_words.specs.declared.name.Name.TheVariants.{Base, Batch, Given}
use Rattle.mz_words.specs.contracts.name.NameOrd.TheImpl as ord
use Rattle.mz_words.specs.contracts.name.NameOrd.TheImpl.Laws as laws
use Rattle.mz_lawful.specs.Names.{same_name}
use Rattle.mz_book.specs.Living.{times}
use Rattle.mz_zone.specs.Blocks.{BlockView, block_of}
use Rattle.mz_session.specs.Names.{NamedBlocks, views_named, blocks_named, block_with, name_from}
use Rattle.mz_session.specs.Changes.{count_in, AreWith}
use Rattle.mz_session.proofs.CountLemmas.{some-is, same-self, one-true, count-cons}

-- when two names are one

pub name-self : (v : Name) → same_name v v ≡ true
name-self (Base a) = (bytes_eq-Decides a a).1 refl
name-self (Batch a) = and_from (bytes_eq a.base a.base) (a.index == a.index) ((bytes_eq-Decides a.base a.base).1 refl) (eq-eqb a.index a.index refl)
name-self (Given a) = (bytes_eq-Decides a.base a.base).1 refl

pub same-is-name : (v w : Name) → same_name v w ≡ true → v ≡ w
same-is-name (Base a) (Base b) same = ap (λ x. Base x) ((bytes_eq-Decides a b).0 same)
same-is-name (Base a) (Batch b) same = absurd (false≢true same)
same-is-name (Base a) (Given b) same = absurd (false≢true same)
same-is-name (Batch a) (Base b) same = absurd (false≢true same)
same-is-name (Batch a) (Batch b) same =
    let parts = and_parts (bytes_eq a.base b.base) (a.index == b.index) same in
    ap (λ x. Batch (record { base = x; index = a.index })) ((bytes_eq-Decides a.base b.base).0 parts.0) ∙ ap (λ n. Batch (record { base = b.base; index = n })) (eqb-true a.index b.index parts.1)
same-is-name (Batch a) (Given b) same = absurd (false≢true same)
same-is-name (Given a) (Base b) same = absurd (false≢true same)
same-is-name (Given a) (Batch b) same = absurd (false≢true same)
same-is-name (Given a) (Given b) same = ap (λ x. Given (record { base = x })) ((bytes_eq-Decides a.base b.base).0 same)

symm-case : (v w : Name) (c d : Bool) → same_name v w ≡ c → same_name w v ≡ d → c ≡ d
symm-case v w true true this that = refl
symm-case v w true false this that = absurd (false≢true (sym that ∙ ap (same_name w) (same-is-name v w this) ∙ name-self w))
symm-case v w false true this that = absurd (false≢true (sym this ∙ ap (same_name v) (same-is-name w v that) ∙ name-self v))
symm-case v w false false this that = refl

pub name-symm : (v w : Name) → same_name v w ≡ same_name w v
name-symm v w = symm-case v w (same_name v w) (same_name w v) refl refl

-- the order of names, which is that of the map

abbrev pub name_cmp : Name → Name → Ordering
name_cmp = ord.cmp-value.it

pub name-order : IsTotalOrder name_cmp
name-order = laws.total-law

then-case : (o p : Ordering) (c d : Bool) → is_eq o ≡ c → is_eq p ≡ d → is_eq (ordering_then o p) ≡ (c && d)
then-case Less p c d this that = ap (λ x. x && d) this
then-case Equal p c d this that = that ∙ ap (λ x. x && d) this
then-case Greater p c d this that = ap (λ x. x && d) this

tied-text : (a b : List ℕ) → is_eq (slice_cmp nat_cmp a b) ≡ bytes_eq b a
tied-text a b = sym (texts_ties a b) ∙ nat_list_eq_equiv.symm a b

-- equal names are at one place of the order
pub tied-name : (v w : Name) → is_eq (name_cmp v w) ≡ same_name w v
tied-name (Base a) (Base b) = tied-text a b
tied-name (Base a) (Batch b) = refl
tied-name (Base a) (Given b) = refl
tied-name (Batch a) (Base b) = refl
tied-name (Batch a) (Batch b) =
    then-case (slice_cmp nat_cmp a.base b.base) (nat_cmp a.index b.index) (bytes_eq b.base a.base) (b.index == a.index)
    (tied-text a.base b.base) (unsigned_tied a.index b.index ∙ nat_eq_equiv.symm a.index b.index)
tied-name (Batch a) (Given b) = refl
tied-name (Given a) (Base b) = refl
tied-name (Given a) (Batch b) = refl
tied-name (Given a) (Given b) = tied-text a.base b.base

-- the test by which the map finds a name
abbrev pub finds : Name → Name → Bool
finds name v = is_eq (name_cmp name v)

-- the two look-ups agree
pub lookup-block : (es : NamedBlocks) (name : Name) → lookup (finds name) es ≡ block_with es name
lookup-block [] name = refl
lookup-block (e ∷ es) name = λ i. cond (tied-name name e.0 i) (Some e.1) (lookup-block es name i)

-- a map that was changed at a name has the old block at each other name
block-changed :
    (old new : NamedBlocks) (name : Name) (got : Option BlockView) (w : Name)
    → lookup (finds w) new ≡ cond (finds name w) got (lookup (finds w) old)
    → block_with new w ≡ cond (same_name name w) got (block_with old w)
block-changed old new name got w changed =
    sym (lookup-block new w) ∙ changed ∙ (λ i. cond ((tied-name name w ∙ name-symm w name) i) got (lookup-block old w i))

-- counts

blocks-count : (b : Block) (e : Name × BlockView) (es : NamedBlocks) → times b (blocks_named (e ∷ es)) ≡ one_for (same_block b (block_of e.1)) + times b (blocks_named es)
blocks-count b e es = count-cons b (block_of e.1) (blocks_named es)

removed-case :
    (t : Name → Bool) (b : Block) (e : Name × BlockView) (es : NamedBlocks) (d : Bool)
    → times b (blocks_named (remove_entry t es)) + count_in b (lookup t es) ≡ times b (blocks_named es)
    → times b (blocks_named (cond d es (e ∷ remove_entry t es))) + count_in b (cond d (Some e.1) (lookup t es)) ≡ times b (blocks_named (e ∷ es))
removed-case t b e es true rest = let all = blocks-count b e es in omega (arith, all)
removed-case t b e es false rest = let all = blocks-count b e es in let left = blocks-count b e (remove_entry t es) in omega (arith, all, left, rest)

count-removed : (t : Name → Bool) (b : Block) (es : NamedBlocks) → times b (blocks_named (remove_entry t es)) + count_in b (lookup t es) ≡ times b (blocks_named es)
count-removed t b [] = refl
count-removed t b (e ∷ es) = removed-case t b e es (t e.0) (count-removed t b es)

set-case :
    (t : Name → Bool) (b : Block) (w : BlockView) (e : Name × BlockView) (es : NamedBlocks) (l : BlockView) (d : Bool)
    → (lookup t es ≡ Some l → times b (blocks_named (set_value t es w)) + count_in b (Some l) ≡ times b (blocks_named es) + count_in b (Some w))
    → cond d (Some e.1) (lookup t es) ≡ Some l
    → times b (blocks_named (cond d ((e.0, w) ∷ es) (e ∷ set_value t es w))) + count_in b (Some l) ≡ times b (blocks_named (e ∷ es)) + count_in b (Some w)
set-case t b w e es l true rest found =
    let all = blocks-count b e es in
    let new = blocks-count b (e.0, w) es in
    let same = ap (count_in b) found in
    omega (arith, all, new, same)
set-case t b w e es l false rest found =
    let all = blocks-count b e es in
    let new = blocks-count b e (set_value t es w) in
    let later = rest found in
    omega (arith, all, new, later)

count-set :
    (t : Name → Bool) (b : Block) (w : BlockView) (es : NamedBlocks) (l : BlockView) → lookup t es ≡ Some l
    → times b (blocks_named (set_value t es w)) + count_in b (Some l) ≡ times b (blocks_named es) + count_in b (Some w)
count-set t b w [] l found = absurd (none-some l found)
count-set t b w (e ∷ es) l found = set-case t b w e es l (t e.0) (count-set t b w es l) found

inserted-case :
    (name : Name) (w : BlockView) (b : Block) (e : Name × BlockView) (es : NamedBlocks) (o : Ordering)
    → (lookup (finds name) es ≡ None → times b (blocks_named (insert_entry name_cmp es name w)) ≡ times b (blocks_named es) + count_in b (Some w))
    → cond (is_eq o) (Some e.1) (lookup (finds name) es) ≡ None
    → times b (blocks_named (match_ordering o ((name, w) ∷ e ∷ es) ((e.0, w) ∷ es) (e ∷ insert_entry name_cmp es name w))) ≡ times b (blocks_named (e ∷ es)) + count_in b (Some w)
inserted-case name w b e es Less rest none = let new = blocks-count b (name, w) (e ∷ es) in omega (arith, new)
inserted-case name w b e es Equal rest none = absurd (none-some e.1 (sym none))
inserted-case name w b e es Greater rest none =
    let all = blocks-count b e es in
    let new = blocks-count b e (insert_entry name_cmp es name w) in
    let later = rest none in
    omega (arith, all, new, later)

count-inserted :
    (name : Name) (w : BlockView) (b : Block) (es : NamedBlocks) → lookup (finds name) es ≡ None
    → times b (blocks_named (insert_entry name_cmp es name w)) ≡ times b (blocks_named es) + count_in b (Some w)
count-inserted name w b [] none = let new = blocks-count b (name, w) [] in omega (arith, new)
count-inserted name w b (e ∷ es) none = inserted-case name w b e es (name_cmp name e.0) (count-inserted name w b es) none

-- members

-- an element of a list is its first, or one of the others
pub first-or-later : {A : Type 0} (y : A) (ys : List A) (x : A) → Contains (y ∷ ys) x → (y ≡ x) ⊎ Contains ys x
first-or-later y ys x (zero, l, e) = inl e
first-or-later y ys x (suc k, l, e) = inr (k, omega arith, e)

pub here-first : {A : Type 0} (y : A) (ys : List A) → Contains (y ∷ ys) y
here-first y ys = (zero, omega arith, refl)

pub later-too : {A : Type 0} (y : A) (ys : List A) (x : A) → Contains ys x → Contains (y ∷ ys) x
later-too y ys x (k, l, e) = (suc k, omega arith, e)

-- either the one, or among the others
abbrev IsOrAmong : BlockView → NamedBlocks → BlockView → Type 0
IsOrAmong w es x = (w ≡ x) ⊎ Contains (views_named es) x

more-among : (w : BlockView) (e : Name × BlockView) (es : NamedBlocks) (x : BlockView) → (e.1 ≡ x) ⊎ IsOrAmong w es x → IsOrAmong w (e ∷ es) x
more-among w e es x (inl here) = inr (subst (λ y. Contains (views_named (e ∷ es)) y) here (here-first e.1 (views_named es)))
more-among w e es x (inr (inl new)) = inl new
more-among w e es x (inr (inr there)) = inr (later-too e.1 (views_named es) x there)

left-case :
    (t : Name → Bool) (e : Name × BlockView) (es : NamedBlocks) (x : BlockView) (d : Bool)
    → (Contains (views_named (remove_entry t es)) x → Contains (views_named es) x)
    → Contains (views_named (cond d es (e ∷ remove_entry t es))) x → Contains (views_named (e ∷ es)) x
left-case t e es x true rest there = later-too e.1 (views_named es) x there
left-case t e es x false rest there =
    ⊎_elim (λ (here : e.1 ≡ x). subst (λ y. Contains (views_named (e ∷ es)) y) here (here-first e.1 (views_named es)))
    (λ (later : Contains (views_named (remove_entry t es)) x). later-too e.1 (views_named es) x (rest later))
    (first-or-later e.1 (views_named (remove_entry t es)) x there)

members-removed : (t : Name → Bool) (es : NamedBlocks) (x : BlockView) → Contains (views_named (remove_entry t es)) x → Contains (views_named es) x
members-removed t [] x there = there
members-removed t (e ∷ es) x there = left-case t e es x (t e.0) (members-removed t es x) there

written-case :
    (t : Name → Bool) (w : BlockView) (e : Name × BlockView) (es : NamedBlocks) (x : BlockView) (d : Bool)
    → (Contains (views_named (set_value t es w)) x → IsOrAmong w es x)
    → Contains (views_named (cond d ((e.0, w) ∷ es) (e ∷ set_value t es w))) x → IsOrAmong w (e ∷ es) x
written-case t w e es x true rest there =
    ⊎_elim (λ (here : w ≡ x). inl here) (λ (later : Contains (views_named es) x). inr (later-too e.1 (views_named es) x later)) (first-or-later w (views_named es) x there)
written-case t w e es x false rest there =
    more-among w e es x
    (⊎_elim (λ (here : e.1 ≡ x). inl here) (λ (later : Contains (views_named (set_value t es w)) x). inr (rest later)) (first-or-later e.1 (views_named (set_value t es w)) x there))

members-set : (t : Name → Bool) (w : BlockView) (es : NamedBlocks) (x : BlockView) → Contains (views_named (set_value t es w)) x → IsOrAmong w es x
members-set t w [] x there = inr there
members-set t w (e ∷ es) x there = written-case t w e es x (t e.0) (members-set t w es x) there

put-case :
    (name : Name) (w : BlockView) (e : Name × BlockView) (es : NamedBlocks) (x : BlockView) (o : Ordering)
    → (Contains (views_named (insert_entry name_cmp es name w)) x → IsOrAmong w es x)
    → Contains (views_named (match_ordering o ((name, w) ∷ e ∷ es) ((e.0, w) ∷ es) (e ∷ insert_entry name_cmp es name w))) x → IsOrAmong w (e ∷ es) x
put-case name w e es x Less rest there = first-or-later w (views_named (e ∷ es)) x there
put-case name w e es x Equal rest there =
    ⊎_elim (λ (here : w ≡ x). inl here) (λ (later : Contains (views_named es) x). inr (later-too e.1 (views_named es) x later)) (first-or-later w (views_named es) x there)
put-case name w e es x Greater rest there =
    more-among w e es x
    (⊎_elim (λ (here : e.1 ≡ x). inl here) (λ (later : Contains (views_named (insert_entry name_cmp es name w)) x). inr (rest later))
    (first-or-later e.1 (views_named (insert_entry name_cmp es name w)) x there))

members-inserted : (name : Name) (w : BlockView) (es : NamedBlocks) (x : BlockView) → Contains (views_named (insert_entry name_cmp es name w)) x → IsOrAmong w es x
members-inserted name w [] x there = first-or-later w [] x there
members-inserted name w (e ∷ es) x there = put-case name w e es x (name_cmp name e.0) (members-inserted name w es x) there

-- what the three changes of a map are to named blocks

pub with-inserted :
    (old new : NamedBlocks) (name : Name) (b : BlockView) → block_with old name ≡ None
    → ((w : Name) → lookup (finds w) new ≡ cond (finds name w) (Some b) (lookup (finds w) old))
    → new ≡ insert_entry name_cmp old name b → AreWith old name (Some b) new
with-inserted old new name b free looked is = record {
  named = λ w. block-changed old new name (Some b) w (looked w);
  counted = λ x.
      let count = ap (λ es. times x (blocks_named es)) is in
      let more = count-inserted name b x old (lookup-block old name ∙ free) in
      let none = ap (count_in x) free in
      omega (arith, count, more, none);
  members = λ x there.
      ⊎_elim (λ (new_one : b ≡ x). inl (ap (λ y. Some y) new_one)) (λ (rest : Contains (views_named old) x). inr rest)
      (members-inserted name b old x (subst (λ es. Contains (views_named es) x) is there));
}

pub with-removed :
    (old new : NamedBlocks) (name : Name)
    → ((w : Name) → lookup (finds w) new ≡ cond (finds name w) None (lookup (finds w) old))
    → new ≡ remove_entry (finds name) old → AreWith old name None new
with-removed old new name looked is = record {
  named = λ w. block-changed old new name None w (looked w);
  counted = λ x.
      let count = ap (λ es. times x (blocks_named es)) is in
      let less = count-removed (finds name) x old in
      let found = ap (count_in x) (lookup-block old name) in
      omega (arith, count, less, found);
  members = λ x there. inr (members-removed (finds name) old x (subst (λ es. Contains (views_named es) x) is there));
}

pub with-written :
    (old new : NamedBlocks) (name : Name) (l b : BlockView) → block_with old name ≡ Some l
    → ((w : Name) → lookup (finds w) new ≡ cond (finds name w) (Some b) (lookup (finds w) old))
    → new ≡ set_value (finds name) old b → AreWith old name (Some b) new
with-written old new name l b held looked is = record {
  named = λ w. block-changed old new name (Some b) w (looked w);
  counted = λ x.
      let count = ap (λ es. times x (blocks_named es)) is in
      let set = count-set (finds name) x b old l (lookup-block old name ∙ held) in
      let found = ap (count_in x) held in
      omega (arith, count, set, found);
  members = λ x there.
      ⊎_elim (λ (new_one : b ≡ x). inl (ap (λ y. Some y) new_one)) (λ (rest : Contains (views_named old) x). inr rest)
      (members-set (finds name) b old x (subst (λ es. Contains (views_named es) x) is there));
}

name-case : (d : Bool) (x : Option BlockView) → (d ≡ true → x ≡ None) → x ≡ cond d None x
name-case true x none = none refl
name-case false x none = refl

-- nothing is changed where a name that has no block gets none
pub with-nothing : (old : NamedBlocks) (name : Name) → block_with old name ≡ None → AreWith old name None old
with-nothing old name none = record {
  named = λ w. name-case (same_name name w) (block_with old w) (λ same. ap (block_with old) (sym (same-is-name name w same)) ∙ none);
  counted = λ x. let found = ap (count_in x) none in omega (arith, found);
  members = λ x there. inr there;
}

-- and then each name has the block of before
pub same-names : (old new : NamedBlocks) (name : Name) → AreWith old name None new → block_with old name ≡ None → (w : Name) → block_with new w ≡ block_with old w
same-names old new name with_it none w =
    with_it.named w ∙ sym (name-case (same_name name w) (block_with old w) (λ same. ap (block_with old) (sym (same-is-name name w same)) ∙ none))

-- the changed name itself, and another one
pub named-here : (old new : NamedBlocks) (name : Name) (got : Option BlockView) → AreWith old name got new → block_with new name ≡ got
named-here old new name got with_it = with_it.named name ∙ ap (λ d. cond d got (block_with old name)) (name-self name)

pub named-elsewhere : (old new : NamedBlocks) (name : Name) (got : Option BlockView) (w : Name) → AreWith old name got new → same_name name w ≡ false → block_with new w ≡ block_with old w
named-elsewhere old new name got w with_it other = with_it.named w ∙ ap (λ d. cond d got (block_with old w)) other

-- the block of a name is one of those that have names
kept-case :
    (e : Name × BlockView) (es : NamedBlocks) (b : BlockView) (d : Bool) (o : Option BlockView)
    → (o ≡ Some b → Contains (views_named es) b) → cond d (Some e.1) o ≡ Some b → Contains (views_named (e ∷ es)) b
kept-case e es b true o rest named = subst (λ y. Contains (views_named (e ∷ es)) y) (some-is e.1 b named) (here-first e.1 (views_named es))
kept-case e es b false o rest named = later-too e.1 (views_named es) b (rest named)

pub block-kept : (bs : NamedBlocks) (name : Name) (b : BlockView) → block_with bs name ≡ Some b → Contains (views_named bs) b
block-kept [] name b named = absurd (none-some b named)
block-kept (e ∷ es) name b named = kept-case e es b (same_name e.0 name) (block_with es name) (block-kept es name b) named

-- and it is counted
here-counted : (e : Name × BlockView) (es : NamedBlocks) (b : BlockView) → Some e.1 ≡ Some b → times (block_of b) (blocks_named (e ∷ es)) ≡ 1 + times (block_of b) (blocks_named es)
here-counted e es b here =
    let all = blocks-count (block_of b) e es in
    let same : same_block (block_of b) (block_of e.1) ≡ true = subst (λ x. same_block (block_of b) (block_of x) ≡ true) (sym (some-is e.1 b here)) (same-self (block_of b)) in
    let one = one-true (same_block (block_of b) (block_of e.1)) same in
    omega (arith, all, one)

named-case :
    (e : Name × BlockView) (es : NamedBlocks) (b : BlockView) (d : Bool) (o : Option BlockView)
    → (o ≡ Some b → 1 ≤ times (block_of b) (blocks_named es)) → cond d (Some e.1) o ≡ Some b
    → 1 ≤ times (block_of b) (blocks_named (e ∷ es))
named-case e es b true o rest named = let here = here-counted e es b named in omega (arith, here)
named-case e es b false o rest named =
    let here = blocks-count (block_of b) e es in
    let later = rest named in
    omega (arith, here, later)

pub one-named : (bs : NamedBlocks) (name : Name) (b : BlockView) → block_with bs name ≡ Some b → 1 ≤ times (block_of b) (blocks_named bs)
one-named [] name b named = absurd (none-some b named)
one-named (e ∷ es) name b named = named-case e es b (same_name e.0 name) (block_with es name) (one-named es name b) named

-- and two names with one block count twice
both-case :
    (v w : Name) (e : Name × BlockView) (es : NamedBlocks) (b c : BlockView) (p q : Bool) → same_name e.0 v ≡ p → same_name e.0 w ≡ q → same_name v w ≡ false
    → block_of b ≡ block_of c
    → (block_with es v ≡ Some b → block_with es w ≡ Some c → 2 ≤ times (block_of b) (blocks_named es))
    → cond p (Some e.1) (block_with es v) ≡ Some b → cond q (Some e.1) (block_with es w) ≡ Some c
    → 2 ≤ times (block_of b) (blocks_named (e ∷ es))
both-case v w e es b c true true at_v at_w other same rest this that =
    absurd (false≢true (sym other ∙ ap (λ x. same_name x w) (sym (same-is-name e.0 v at_v)) ∙ at_w))
both-case v w e es b c true false at_v at_w other same rest this that =
    let here = here-counted e es b this in
    let later = subst (λ x. 1 ≤ times x (blocks_named es)) (sym same) (one-named es w c that) in
    omega (arith, here, later)
both-case v w e es b c false true at_v at_w other same rest this that =
    let here = subst (λ x. times x (blocks_named (e ∷ es)) ≡ 1 + times x (blocks_named es)) (sym same) (here-counted e es c that) in
    let later = one-named es v b this in
    omega (arith, here, later)
both-case v w e es b c false false at_v at_w other same rest this that =
    let here = blocks-count (block_of b) e es in
    let later = rest this that in
    omega (arith, here, later)

pub two-named :
    (bs : NamedBlocks) (v w : Name) (b c : BlockView) → same_name v w ≡ false → block_with bs v ≡ Some b → block_with bs w ≡ Some c → block_of b ≡ block_of c
    → 2 ≤ times (block_of b) (blocks_named bs)
two-named [] v w b c other this that same = absurd (none-some b this)
two-named (e ∷ es) v w b c other this that same =
    both-case v w e es b c (same_name e.0 v) (same_name e.0 w) refl refl other same (λ x y. two-named es v w b c other x y same) this that

-- the name of an address is that of a block that begins there
from-case :
    (e : Name × BlockView) (es : NamedBlocks) (a : ℕ) (name : Name) (d : Bool) (o : Option Name) → (e.1.span.first == a) ≡ d
    → (o ≡ Some name → (b : BlockView) × Contains (views_named es) b × (b.span.first ≡ a)) → cond d (Some e.0) o ≡ Some name
    → (b : BlockView) × Contains (views_named (e ∷ es)) b × (b.span.first ≡ a)
from-case e es a name true o at_a rest found = (e.1, here-first e.1 (views_named es), eqb-true e.1.span.first a at_a)
from-case e es a name false o at_a rest found = let later = rest found in (later.0, later-too e.1 (views_named es) later.0 later.1, later.2)

pub from-names : (bs : NamedBlocks) (a : ℕ) (name : Name) → name_from bs a ≡ Some name → (b : BlockView) × Contains (views_named bs) b × (b.span.first ≡ a)
from-names [] a name found = absurd (none-some name found)
from-names (e ∷ es) a name found = from-case e es a name (e.1.span.first == a) (name_from es a) refl (from-names es a name) found

-- the blocks of the views are those of the names
pub blocks-of-views : (es : NamedBlocks) → map block_of (views_named es) ≡ blocks_named es
blocks-of-views [] = refl
blocks-of-views (e ∷ es) = ap (λ bs. block_of e.1 ∷ bs) (blocks-of-views es)
