-- Where the blocks of names begin: each name is found by the start of its block, and stays so where the map changes.
use Rattle.std.proofs.Common.{◌≡◌, ℕ, ◌==◌, Bool, true, false, cond, [], ◌∷◌, Option, Some, None, refl, ap, sym, subst, ◌∙◌, inl, inr, eq-eqb}
use Rattle.std.specs.Prelude.{IfSome, Result, Ok, Err, OnOk, OnErr, is_err}
use Rattle.std.specs.Ordering.{nat_cmp, is_eq, match_ordering}
use Rattle.std.specs.Cmp.{unsigned_tied}
use Rattle.std.specs.declared.cmp.Ordering.{Ordering}
use Rattle.std.specs.declared.cmp.Ordering.TheVariants.{Less, Equal, Greater}
use Rattle.std.specs.Map.{lookup, remove_entry, set_value}
use Rattle.std.specs.BTreeMap.{BTreeMap, get, insert_entry}
use Rattle.std.proofs.lemmas.Bool.{false≢true, cases_Bool, eqb-true}
use Rattle.std.proofs.lemmas.Option.{none-some}
use Rattle.mz_words.specs.declared.name.Name.{Name}
use Rattle.mz_lawful.specs.Names.{same_name}
use Rattle.mz_zone.specs.Blocks.{BlockView}
use Rattle.mz_session.specs.Names.{NamedBlocks, block_with, name_from, AreApart, AreStarts, BeginsAt}
use Rattle.mz_session.proofs.CountLemmas.{some-is}
use Rattle.mz_session.proofs.NameLemmas.{name-self, same-is-name, name-symm, name_cmp, finds, tied-name}

-- a test that is met at the head, and one that isn't
none-head : {A : Type 0} (d : Bool) (x : A) (o : Option A) → cond d (Some x) o ≡ None → d ≡ false
none-head true x o none = absurd (none-some x (sym none))
none-head false x o none = refl

none-tail : {A : Type 0} (d : Bool) (x : A) (o : Option A) → cond d (Some x) o ≡ None → o ≡ None
none-tail true x o none = absurd (none-some x (sym none))
none-tail false x o none = none

head-yes : {A : Type 0} (d : Bool) (x : A) (o : Option A) → d ≡ true → cond d (Some x) o ≡ Some x
head-yes d x o met = ap (λ t. cond t (Some x) o) met

head-no : {A : Type 0} (d : Bool) (x : A) (o : Option A) → d ≡ false → cond d (Some x) o ≡ o
head-no d x o unmet = ap (λ t. cond t (Some x) o) unmet

-- where a block has a name, its address does
held-case :
    (e : Name × BlockView) (es : NamedBlocks) (w : Name) (c : BlockView) (d : Bool) → same_name e.0 w ≡ d → name_from es e.1.span.first ≡ None
    → (block_with es w ≡ Some c → name_from es c.span.first ≡ Some w) → cond d (Some e.1) (block_with es w) ≡ Some c
    → name_from (e ∷ es) c.span.first ≡ Some w
held-case e es w c true at_w lone rest held =
    let same = some-is e.1 c held in
    head-yes (e.1.span.first == c.span.first) e.0 (name_from es c.span.first) (eq-eqb e.1.span.first c.span.first (ap (λ b. b.span.first) same))
    ∙ ap (λ x. Some x) (same-is-name e.0 w at_w)
held-case e es w c false at_w lone rest held = elim (cases_Bool (e.1.span.first == c.span.first)) [
  | inl same ↦ absurd (none-some w (sym lone ∙ ap (name_from es) (eqb-true e.1.span.first c.span.first same) ∙ rest held))
  | inr other ↦ head-no (e.1.span.first == c.span.first) e.0 (name_from es c.span.first) other ∙ rest held
]

pub held-from : (bs : NamedBlocks) (w : Name) (c : BlockView) → AreApart bs → block_with bs w ≡ Some c → name_from bs c.span.first ≡ Some w
held-from [] w c apart held = absurd (none-some c held)
held-from (e ∷ es) w c apart held = held-case e es w c (same_name e.0 w) refl apart.1 (held-from es w c apart.2) held

-- and where an address has a name, the name has a block that begins there
abbrev IsFrom : NamedBlocks → ℕ → Name → Type 0
IsFrom bs a name = (b : BlockView) × (block_with bs name ≡ Some b) × (b.span.first ≡ a)

begun-later : (e : Name × BlockView) (es : NamedBlocks) (a : ℕ) (name : Name) → block_with es e.0 ≡ None → IsFrom es a name → IsFrom (e ∷ es) a name
begun-later e es a name lone later = elim (cases_Bool (same_name e.0 name)) [
  | inl same ↦ absurd (none-some later.0 (sym lone ∙ ap (block_with es) (same-is-name e.0 name same) ∙ later.1))
  | inr other ↦ (later.0, head-no (same_name e.0 name) e.1 (block_with es name) other ∙ later.1, later.2)
]

begun-case :
    (e : Name × BlockView) (es : NamedBlocks) (a : ℕ) (name : Name) (d : Bool) → (e.1.span.first == a) ≡ d → block_with es e.0 ≡ None
    → (name_from es a ≡ Some name → IsFrom es a name) → cond d (Some e.0) (name_from es a) ≡ Some name → IsFrom (e ∷ es) a name
begun-case e es a name true at_a lone rest found =
    (e.1, head-yes (same_name e.0 name) e.1 (block_with es name) (ap (same_name e.0) (sym (some-is e.0 name found)) ∙ name-self e.0), eqb-true e.1.span.first a at_a)
begun-case e es a name false at_a lone rest found = begun-later e es a name lone (rest found)

from-held : (bs : NamedBlocks) (a : ℕ) (name : Name) → AreApart bs → name_from bs a ≡ Some name → IsFrom bs a name
from-held [] a name apart found = absurd (none-some name found)
from-held (e ∷ es) a name apart found = begun-case e es a name (e.1.span.first == a) refl apart.0 (from-held es a name apart.2) found

pub begins : (bs : NamedBlocks) (a : ℕ) (name : Name) → AreApart bs → name_from bs a ≡ Some name → BeginsAt bs a name
begins bs a name apart found =
    let there = from-held bs a name apart found in
    record {
      block = there.0;
      named = there.1;
      first = there.2;
      only = λ w c held at_a. some-is w name (sym (held-from bs w c apart held) ∙ ap (name_from bs) at_a ∙ found);
    }

pub begins-if : (bs : NamedBlocks) (a : ℕ) (o : Option Name) → AreApart bs → o ≡ name_from bs a → IfSome o (BeginsAt bs a)
begins-if bs a None apart is = tt
begins-if bs a (Some name) apart is = begins bs a name apart (sym is)

-- a name and a block more

both-no : {A : Type 0} (c d : Bool) (x y : A) (o : Option A) → (c ≡ true → d ≡ true → x ≡ y) → cond c (Some x) (cond d (Some y) o) ≡ cond d (Some y) (cond c (Some x) o)
both-no true true x y o once = ap (λ z. Some z) (once refl refl)
both-no true false x y o once = refl
both-no false true x y o once = refl
both-no false false x y o once = refl

put-with-case :
    (name : Name) (w : BlockView) (e : Name × BlockView) (es : NamedBlocks) (q : Name) (o : Ordering) → name_cmp name e.0 ≡ o → same_name e.0 name ≡ false
    → block_with (insert_entry name_cmp es name w) q ≡ cond (same_name name q) (Some w) (block_with es q)
    → block_with (match_ordering o ((name, w) ∷ e ∷ es) ((e.0, w) ∷ es) (e ∷ insert_entry name_cmp es name w)) q ≡ cond (same_name name q) (Some w) (block_with (e ∷ es) q)
put-with-case name w e es q Less at_e other rest = refl
put-with-case name w e es q Equal at_e other rest = absurd (false≢true (sym other ∙ sym (tied-name name e.0) ∙ ap is_eq at_e))
put-with-case name w e es q Greater at_e other rest =
    ap (λ o. cond (same_name e.0 q) (Some e.1) o) rest
    ∙ both-no (same_name e.0 q) (same_name name q) e.1 w (block_with es q)
    (λ this that. absurd (false≢true (sym other ∙ ap (same_name e.0) (same-is-name name q that) ∙ this)))

put-with :
    (es : NamedBlocks) (name : Name) (w : BlockView) (q : Name) → block_with es name ≡ None
    → block_with (insert_entry name_cmp es name w) q ≡ cond (same_name name q) (Some w) (block_with es q)
put-with [] name w q free = refl
put-with (e ∷ es) name w q free =
    put-with-case name w e es q (name_cmp name e.0) refl (none-head (same_name e.0 name) e.1 (block_with es name) free)
    (put-with es name w q (none-tail (same_name e.0 name) e.1 (block_with es name) free))

put-from-case :
    (name : Name) (w : BlockView) (e : Name × BlockView) (es : NamedBlocks) (a : ℕ) (o : Ordering) → name_cmp name e.0 ≡ o → same_name e.0 name ≡ false
    → (e.1.span.first == w.span.first) ≡ false
    → name_from (insert_entry name_cmp es name w) a ≡ cond (w.span.first == a) (Some name) (name_from es a)
    → name_from (match_ordering o ((name, w) ∷ e ∷ es) ((e.0, w) ∷ es) (e ∷ insert_entry name_cmp es name w)) a ≡ cond (w.span.first == a) (Some name) (name_from (e ∷ es) a)
put-from-case name w e es a Less at_e other start rest = refl
put-from-case name w e es a Equal at_e other start rest = absurd (false≢true (sym other ∙ sym (tied-name name e.0) ∙ ap is_eq at_e))
put-from-case name w e es a Greater at_e other start rest =
    ap (λ o. cond (e.1.span.first == a) (Some e.0) o) rest
    ∙ both-no (e.1.span.first == a) (w.span.first == a) e.0 name (name_from es a)
    (λ this that. absurd (false≢true (sym start ∙ ap (λ n. e.1.span.first == n) (eqb-true w.span.first a that) ∙ this)))

pub put-from :
    (es : NamedBlocks) (name : Name) (w : BlockView) (a : ℕ) → block_with es name ≡ None → name_from es w.span.first ≡ None
    → name_from (insert_entry name_cmp es name w) a ≡ cond (w.span.first == a) (Some name) (name_from es a)
put-from [] name w a free start = refl
put-from (e ∷ es) name w a free start =
    put-from-case name w e es a (name_cmp name e.0) refl (none-head (same_name e.0 name) e.1 (block_with es name) free)
    (none-head (e.1.span.first == w.span.first) e.0 (name_from es w.span.first) start)
    (put-from es name w a (none-tail (same_name e.0 name) e.1 (block_with es name) free) (none-tail (e.1.span.first == w.span.first) e.0 (name_from es w.span.first) start))

number-symm : (a b : ℕ) → (a == b) ≡ false → (b == a) ≡ false
number-symm a b other = elim (cases_Bool (b == a)) [
  | inl same ↦ absurd (false≢true (sym other ∙ eq-eqb a b (sym (eqb-true b a same))))
  | inr apart ↦ apart
]

put-apart-case :
    (name : Name) (w : BlockView) (e : Name × BlockView) (es : NamedBlocks) (o : Ordering) → name_cmp name e.0 ≡ o
    → block_with (e ∷ es) name ≡ None → name_from (e ∷ es) w.span.first ≡ None → AreApart (e ∷ es)
    → AreApart (insert_entry name_cmp es name w)
    → AreApart (match_ordering o ((name, w) ∷ e ∷ es) ((e.0, w) ∷ es) (e ∷ insert_entry name_cmp es name w))
put-apart-case name w e es Less at_e free start apart rest = (free, start, apart)
put-apart-case name w e es Equal at_e free start apart rest =
    absurd (false≢true (sym (none-head (same_name e.0 name) e.1 (block_with es name) free) ∙ sym (tied-name name e.0) ∙ ap is_eq at_e))
put-apart-case name w e es Greater at_e free start apart rest =
    let free_later = none-tail (same_name e.0 name) e.1 (block_with es name) free in
    let start_later = none-tail (e.1.span.first == w.span.first) e.0 (name_from es w.span.first) start in
    let other = name-symm name e.0 ∙ none-head (same_name e.0 name) e.1 (block_with es name) free in
    let no_start = number-symm e.1.span.first w.span.first (none-head (e.1.span.first == w.span.first) e.0 (name_from es w.span.first) start) in (
      put-with es name w e.0 free_later ∙ head-no (same_name name e.0) w (block_with es e.0) other ∙ apart.0,
      put-from es name w e.1.span.first free_later start_later ∙ head-no (w.span.first == e.1.span.first) name (name_from es e.1.span.first) no_start ∙ apart.1,
      rest,
    )

pub put-apart :
    (es : NamedBlocks) (name : Name) (w : BlockView) → block_with es name ≡ None → name_from es w.span.first ≡ None → AreApart es
    → AreApart (insert_entry name_cmp es name w)
put-apart [] name w free start apart = (refl, refl, tt)
put-apart (e ∷ es) name w free start apart =
    put-apart-case name w e es (name_cmp name e.0) refl free start apart
    (put-apart es name w (none-tail (same_name e.0 name) e.1 (block_with es name) free) (none-tail (e.1.span.first == w.span.first) e.0 (name_from es w.span.first) start) apart.2)

-- what was put in is taken out again
undone-case :
    (name : Name) (w : BlockView) (e : Name × BlockView) (es : NamedBlocks) (o : Ordering) → name_cmp name e.0 ≡ o → same_name e.0 name ≡ false
    → remove_entry (finds name) (insert_entry name_cmp es name w) ≡ es
    → remove_entry (finds name) (match_ordering o ((name, w) ∷ e ∷ es) ((e.0, w) ∷ es) (e ∷ insert_entry name_cmp es name w)) ≡ e ∷ es
undone-case name w e es Less at_e other rest = ap (λ d. cond d (e ∷ es) ((name, w) ∷ remove_entry (finds name) (e ∷ es))) (tied-name name name ∙ name-self name)
undone-case name w e es Equal at_e other rest = absurd (false≢true (sym other ∙ sym (tied-name name e.0) ∙ ap is_eq at_e))
undone-case name w e es Greater at_e other rest =
    ap (λ d. cond d (insert_entry name_cmp es name w) (e ∷ remove_entry (finds name) (insert_entry name_cmp es name w))) (tied-name name e.0 ∙ other)
    ∙ ap (λ xs. e ∷ xs) rest

pub undone : (es : NamedBlocks) (name : Name) (w : BlockView) → block_with es name ≡ None → remove_entry (finds name) (insert_entry name_cmp es name w) ≡ es
undone [] name w free = ap (λ d. cond d [] ((name, w) ∷ [])) (tied-name name name ∙ name-self name)
undone (e ∷ es) name w free =
    undone-case name w e es (name_cmp name e.0) refl (none-head (same_name e.0 name) e.1 (block_with es name) free) (undone es name w (none-tail (same_name e.0 name) e.1 (block_with es name) free))

-- a name and its block less

no-with-case : (t : Name → Bool) (e : Name × BlockView) (es : NamedBlocks) (q : Name) (d : Bool) → same_name e.0 q ≡ false → block_with es q ≡ None → block_with (remove_entry t es) q ≡ None → block_with (cond d es (e ∷ remove_entry t es)) q ≡ None
no-with-case t e es q true other old rest = old
no-with-case t e es q false other old rest = head-no (same_name e.0 q) e.1 (block_with (remove_entry t es) q) other ∙ rest

no-with : (t : Name → Bool) (es : NamedBlocks) (q : Name) → block_with es q ≡ None → block_with (remove_entry t es) q ≡ None
no-with t [] q none = none
no-with t (e ∷ es) q none =
    let later = none-tail (same_name e.0 q) e.1 (block_with es q) none in
    no-with-case t e es q (t e.0) (none-head (same_name e.0 q) e.1 (block_with es q) none) later (no-with t es q later)

no-from-case : (t : Name → Bool) (e : Name × BlockView) (es : NamedBlocks) (a : ℕ) (d : Bool) → (e.1.span.first == a) ≡ false → name_from es a ≡ None → name_from (remove_entry t es) a ≡ None → name_from (cond d es (e ∷ remove_entry t es)) a ≡ None
no-from-case t e es a true other old rest = old
no-from-case t e es a false other old rest = head-no (e.1.span.first == a) e.0 (name_from (remove_entry t es) a) other ∙ rest

no-from : (t : Name → Bool) (es : NamedBlocks) (a : ℕ) → name_from es a ≡ None → name_from (remove_entry t es) a ≡ None
no-from t [] a none = none
no-from t (e ∷ es) a none =
    let later = none-tail (e.1.span.first == a) e.0 (name_from es a) none in
    no-from-case t e es a (t e.0) (none-head (e.1.span.first == a) e.0 (name_from es a) none) later (no-from t es a later)

left-apart-case : (t : Name → Bool) (e : Name × BlockView) (es : NamedBlocks) (d : Bool) → AreApart (e ∷ es) → AreApart (remove_entry t es) → AreApart (cond d es (e ∷ remove_entry t es))
left-apart-case t e es true apart rest = apart.2
left-apart-case t e es false apart rest = (no-with t es e.0 apart.0, no-from t es e.1.span.first apart.1, rest)

pub left-apart : (t : Name → Bool) (es : NamedBlocks) → AreApart es → AreApart (remove_entry t es)
left-apart t [] apart = apart
left-apart t (e ∷ es) apart = left-apart-case t e es (t e.0) apart (left-apart t es apart.2)

gone-here : (x : Name) (f : Bool) (o : Option Name) → (f ≡ true → o ≡ None) → o ≡ cond f None (cond f (Some x) o)
gone-here x true o none = none refl
gone-here x false o none = refl

gone-later : (x : Name) (f g : Bool) (o p : Option Name) → (f ≡ true → g ≡ true → Some x ≡ None) → p ≡ cond g None o → cond f (Some x) p ≡ cond g None (cond f (Some x) o)
gone-later x true true o p never rest = never refl refl
gone-later x true false o p never rest = refl
gone-later x false g o p never rest = rest

gone-case :
    (name : Name) (e : Name × BlockView) (es : NamedBlocks) (b : BlockView) (a : ℕ) (d : Bool) → AreApart (e ∷ es)
    → (block_with es name ≡ Some b → name_from (remove_entry (finds name) es) a ≡ cond (b.span.first == a) None (name_from es a))
    → cond d (Some e.1) (block_with es name) ≡ Some b
    → name_from (cond d es (e ∷ remove_entry (finds name) es)) a ≡ cond (b.span.first == a) None (name_from (e ∷ es) a)
gone-case name e es b a true apart rest held =
    subst (λ x. name_from es a ≡ cond (x.span.first == a) None (name_from (e ∷ es) a)) (some-is e.1 b held)
    (gone-here e.0 (e.1.span.first == a) (name_from es a) (λ same. ap (name_from es) (sym (eqb-true e.1.span.first a same)) ∙ apart.1))
gone-case name e es b a false apart rest held =
    gone-later e.0 (e.1.span.first == a) (b.span.first == a) (name_from es a) (name_from (remove_entry (finds name) es) a)
    (λ this that.
    absurd (none-some name
    (sym apart.1 ∙ ap (name_from es) (eqb-true e.1.span.first a this ∙ sym (eqb-true b.span.first a that)) ∙ held-from es name b apart.2 held)))
    (rest held)

gone-from-at :
    (name : Name) (es : NamedBlocks) (b : BlockView) (a : ℕ) → AreApart es → block_with es name ≡ Some b
    → name_from (remove_entry (finds name) es) a ≡ cond (b.span.first == a) None (name_from es a)
gone-from-at name [] b a apart held = absurd (none-some b held)
gone-from-at name (e ∷ es) b a apart held =
    gone-case name e es b a (finds name e.0) apart (gone-from-at name es b a apart.2)
    (ap (λ d. cond d (Some e.1) (block_with es name)) (tied-name name e.0) ∙ held)

pub gone-from :
    (es : NamedBlocks) (name : Name) (b : BlockView) (a : ℕ) → AreApart es → block_with es name ≡ Some b
    → name_from (remove_entry (finds name) es) a ≡ cond (b.span.first == a) None (name_from es a)
gone-from es name b a apart held = gone-from-at name es b a apart held

-- other bytes for a block

same-from-case :
    (t : Name → Bool) (e : Name × BlockView) (es : NamedBlocks) (w l : BlockView) (a : ℕ) (d : Bool) → w.span.first ≡ l.span.first
    → (lookup t es ≡ Some l → name_from (set_value t es w) a ≡ name_from es a) → cond d (Some e.1) (lookup t es) ≡ Some l
    → name_from (cond d ((e.0, w) ∷ es) (e ∷ set_value t es w)) a ≡ name_from (e ∷ es) a
same-from-case t e es w l a true same rest held = ap (λ n. cond (n == a) (Some e.0) (name_from es a)) (same ∙ ap (λ b. b.span.first) (sym (some-is e.1 l held)))
same-from-case t e es w l a false same rest held = ap (λ o. cond (e.1.span.first == a) (Some e.0) o) (rest held)

pub same-from :
    (t : Name → Bool) (es : NamedBlocks) (w l : BlockView) (a : ℕ) → w.span.first ≡ l.span.first → lookup t es ≡ Some l
    → name_from (set_value t es w) a ≡ name_from es a
same-from t [] w l a same held = absurd (none-some l held)
same-from t (e ∷ es) w l a same held = same-from-case t e es w l a (t e.0) same (same-from t es w l a same) held

set-with-case : (t : Name → Bool) (e : Name × BlockView) (es : NamedBlocks) (w : BlockView) (q : Name) (d : Bool) → same_name e.0 q ≡ false → block_with es q ≡ None → block_with (set_value t es w) q ≡ None → block_with (cond d ((e.0, w) ∷ es) (e ∷ set_value t es w)) q ≡ None
set-with-case t e es w q true other old rest = head-no (same_name e.0 q) w (block_with es q) other ∙ old
set-with-case t e es w q false other old rest = head-no (same_name e.0 q) e.1 (block_with (set_value t es w) q) other ∙ rest

set-with : (t : Name → Bool) (es : NamedBlocks) (w : BlockView) (q : Name) → block_with es q ≡ None → block_with (set_value t es w) q ≡ None
set-with t [] w q none = none
set-with t (e ∷ es) w q none =
    let later = none-tail (same_name e.0 q) e.1 (block_with es q) none in
    set-with-case t e es w q (t e.0) (none-head (same_name e.0 q) e.1 (block_with es q) none) later (set-with t es w q later)

set-apart-case :
    (t : Name → Bool) (e : Name × BlockView) (es : NamedBlocks) (w l : BlockView) (d : Bool) → w.span.first ≡ l.span.first → AreApart (e ∷ es)
    → (lookup t es ≡ Some l → AreApart (set_value t es w)) → cond d (Some e.1) (lookup t es) ≡ Some l
    → AreApart (cond d ((e.0, w) ∷ es) (e ∷ set_value t es w))
set-apart-case t e es w l true same apart rest held =
    (apart.0, ap (name_from es) (same ∙ ap (λ b. b.span.first) (sym (some-is e.1 l held))) ∙ apart.1, apart.2)
set-apart-case t e es w l false same apart rest held =
    (set-with t es w e.0 apart.0, same-from t es w l e.1.span.first same held ∙ apart.1, rest held)

pub set-apart : (t : Name → Bool) (es : NamedBlocks) (w l : BlockView) → w.span.first ≡ l.span.first → lookup t es ≡ Some l → AreApart es → AreApart (set_value t es w)
set-apart t [] w l same held apart = absurd (none-some l held)
set-apart t (e ∷ es) w l same held apart = set-apart-case t e es w l (t e.0) same apart (λ found. set-apart t es w l same found apart.2) held

-- what the changes of the two maps are to the starts

pub starts-inserted :
    (old new : NamedBlocks) (s t : BTreeMap ℕ Name) (name : Name) (b : BlockView) → AreStarts old s → block_with old name ≡ None → name_from old b.span.first ≡ None
    → new ≡ insert_entry name_cmp old name b
    → ((a : ℕ) → get nat_cmp t a ≡ cond (is_eq (nat_cmp b.span.first a)) (Some name) (get nat_cmp s a)) → AreStarts new t
starts-inserted old new s t name b starts free start is moved = record {
  found = λ a.
      moved a ∙ (λ i. cond (unsigned_tied b.span.first a i) (Some name) (starts.found a i)) ∙ sym (put-from old name b a free start)
      ∙ ap (λ es. name_from es a) (sym is);
  apart = subst AreApart (sym is) (put-apart old name b free start starts.apart);
}

pub starts-removed :
    (old new : NamedBlocks) (s t : BTreeMap ℕ Name) (name : Name) (b : BlockView) → AreStarts old s → block_with old name ≡ Some b
    → new ≡ remove_entry (finds name) old
    → ((a : ℕ) → get nat_cmp t a ≡ cond (is_eq (nat_cmp b.span.first a)) None (get nat_cmp s a)) → AreStarts new t
starts-removed old new s t name b starts held is moved = record {
  found = λ a.
      moved a ∙ (λ i. cond (unsigned_tied b.span.first a i) None (starts.found a i)) ∙ sym (gone-from old name b a starts.apart held)
      ∙ ap (λ es. name_from es a) (sym is);
  apart = subst AreApart (sym is) (left-apart (finds name) old starts.apart);
}

pub starts-written :
    (old new : NamedBlocks) (s : BTreeMap ℕ Name) (name : Name) (l w : BlockView) → AreStarts old s → w.span.first ≡ l.span.first → lookup (finds name) old ≡ Some l
    → new ≡ set_value (finds name) old w → AreStarts new s
starts-written old new s name l w starts same held is = record {
  found = λ a. starts.found a ∙ sym (same-from (finds name) old w l a same held) ∙ ap (λ es. name_from es a) (sym is);
  apart = subst AreApart (sym is) (set-apart (finds name) old w l same held starts.apart);
}

pub starts-undone :
    (old new : NamedBlocks) (s : BTreeMap ℕ Name) (name : Name) (b : BlockView) → AreStarts old s → block_with old name ≡ None
    → new ≡ remove_entry (finds name) (insert_entry name_cmp old name b) → AreStarts new s
starts-undone old new s name b starts free is = subst (λ es. AreStarts es s) (sym (is ∙ undone old name b free)) starts

-- the starts that are left as they were
pub starts-still : (bs : NamedBlocks) (s t : BTreeMap ℕ Name) → AreStarts bs s → t.entries ≡ s.entries → AreStarts bs t
starts-still bs s t starts is = record {
  found = λ a. ap (λ es. lookup (λ k. is_eq (nat_cmp a k)) es) is ∙ starts.found a;
  apart = starts.apart;
}

-- what is said of either outcome, where it is known
pub ok-says : {T E : Type 0} (r : Result T E) (P : Type 0) → false ≡ is_err r → OnOk r P → P
ok-says (Ok x) P fine said = said
ok-says (Err e) P fine said = absurd (false≢true fine)

pub err-says : {T E : Type 0} (r : Result T E) (P : Type 0) → true ≡ is_err r → OnErr r P → P
err-says (Ok x) P failed said = absurd (false≢true (sym failed))
err-says (Err e) P failed said = said
