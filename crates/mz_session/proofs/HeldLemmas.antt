-- What a caller holds by name or by address, after it was given a name or has lost one.
use Rattle.std.proofs.Common.{◌≡◌, ℕ, Bool, true, false, cond, not, List, [], ◌∷◌, Option, Some, None, refl, ap, sym, ◌∙◌, inl, inr, arith}
use Rattle.std.specs.Prelude.{◌==◌, ◌⊎◌, find, filter, Contains, is_some}
use Rattle.std.specs.Option.{option_map}
use Rattle.std.proofs.Common.{eq-eqb}
use Rattle.std.proofs.lemmas.Bool.{cases_Bool, false≢true, eqb-true}
use Rattle.std.proofs.lemmas.List.Elements.{Contains-append_cases, Contains-append_right, Contains-push_cases}
use Rattle.std.proofs.lemmas.Option.{none-some}
use Rattle.mz_base.specs.Space.{Block}
use Rattle.mz_words.specs.declared.name.Name.{Name}
use Rattle.mz_lawful.specs.Names.{same_name}
use Rattle.mz_lawful.specs.Standing.{Holding, Caller, held_at, held_from}
use Rattle.mz_zone.specs.Blocks.{BlockView, block_of}
use Rattle.mz_session.specs.Names.{NamedBlocks, BeginsAt, block_with, holding_of, holding_named, name_from}
use Rattle.mz_session.specs.Changes.{AreWith}
use Rattle.mz_session.specs.Sessions.{AreHeldOnce}
use Rattle.mz_session.proofs.CountLemmas.{some-is}
use Rattle.mz_session.proofs.NameLemmas.{same-is-name, name-self, name-symm}

-- lists

pub contains-nothing : {A : Type 0} (x : A) → Contains [] x → ⊥
contains-nothing x there = let none = there.1 in omega (arith, none)

pub contains-first : {A : Type 0} (y : A) (ys : List A) (x : A) → Contains (y ∷ ys) x → (y ≡ x) ⊎ Contains ys x
contains-first y ys x there = elim (Contains-append_cases (y ∷ []) ys x there) [
  | inl here ↦ elim (Contains-push_cases [] y x here) [ inl none ↦ absurd (contains-nothing x none) | inr is ↦ inl is ]
  | inr later ↦ inr later
]

filter-first : {A : Type 0} (f : A → Bool) (y : A) (ys : List A) → filter f (y ∷ ys) ≡ cond (f y) (y ∷ filter f ys) (filter f ys)
filter-first f y ys = refl

contains-filtered : {A : Type 0} (f : A → Bool) (ys : List A) (x : A) → Contains (filter f ys) x → Contains ys x
contains-filtered f [] x there = absurd (contains-nothing x there)
contains-filtered f (y ∷ ys) x there =
    filtered-case f y ys x (f y) (λ later. Contains-append_right (y ∷ []) ys x (contains-filtered f ys x later)) there
  where
    filtered-case : {A : Type 0} (f : A → Bool) (y : A) (ys : List A) (x : A) (d : Bool) → (Contains (filter f ys) x → Contains (y ∷ ys) x) → Contains (cond d (y ∷ filter f ys) (filter f ys)) x → Contains (y ∷ ys) x
    filtered-case f y ys x true rest there = elim (contains-first y (filter f ys) x there) [ inl is ↦ (0, omega arith, is) | inr later ↦ rest later ]
    filtered-case f y ys x false rest there = rest there

find-passes : {A : Type 0} (f : A → Bool) (ys : List A) (x : A) → find f ys ≡ Some x → Contains ys x × (f x ≡ true)
find-passes f [] x found = absurd (none-some x found)
find-passes f (y ∷ ys) x found = elim (cases_Bool (f y)) [
  | inl passes ↦
      let is : y ≡ x = some-is y x (sym (ap (λ d. cond d (Some y) (find f ys)) passes) ∙ found) in
      ((0, omega arith, is), sym (ap f is) ∙ passes)
  | inr fails ↦
      let rest = find-passes f ys x (sym (ap (λ d. cond d (Some y) (find f ys)) fails) ∙ found) in
      (Contains-append_right (y ∷ []) ys x rest.0, rest.1)
]

find-none : {A : Type 0} (f : A → Bool) (ys : List A) (x : A) → find f ys ≡ None → Contains ys x → f x ≡ false
find-none f [] x none there = absurd (contains-nothing x there)
find-none f (y ∷ ys) x none there = elim (cases_Bool (f y)) [
  | inl passes ↦ absurd (none-some y (sym none ∙ ap (λ d. cond d (Some y) (find f ys)) passes))
  | inr fails ↦ elim (contains-first y ys x there) [
    | inl is ↦ sym (ap f is) ∙ fails
    | inr later ↦ find-none f ys x (sym (ap (λ d. cond d (Some y) (find f ys)) fails) ∙ none) later
  ]
]

-- what an option was made from
mapped-some : {A B : Type 0} (f : A → B) (o : Option A) (y : B) → option_map f o ≡ Some y → (x : A) × (o ≡ Some x) × (f x ≡ y)
mapped-some f None y some = absurd (none-some y some)
mapped-some f (Some x) y some = (x, refl, some-is (f x) y some)

pub not-some : {A : Type 0} (o : Option A) → is_some o ≡ false → o ≡ None
not-some None none = refl
not-some (Some x) none = absurd (false≢true (sym none))

-- by name

-- what has the name among holdings
abbrev pub held_in : List Holding → Name → Option Holding
held_in hs name = find (λ h. same_name h.name name) hs

pub held-first : (h : Holding) (hs : List Holding) (w : Name) → held_in (h ∷ hs) w ≡ cond (same_name h.name w) (Some h) (held_in hs w)
held-first h hs w = refl

holding-case :
    (name w : Name) (d : Bool) (got o : Option BlockView) → (d ≡ true → name ≡ w)
    → option_map (holding_of w) (cond d got o) ≡ cond d (option_map (holding_of name) got) (option_map (holding_of w) o)
holding-case name w true got o same = ap (λ n. option_map (holding_of n) got) (sym (same refl))
holding-case name w false got o same = refl

-- what names have where one name's block was changed
pub given-names :
    (old new : NamedBlocks) (name : Name) (got : Option BlockView) → AreWith old name got new
    → (w : Name) → cond (same_name name w) (option_map (holding_of name) got) (holding_named old w) ≡ holding_named new w
given-names old new name got with_it w =
    sym (ap (option_map (holding_of w)) (with_it.named w) ∙ holding-case name w (same_name name w) got (block_with old w) (same-is-name name w))

-- where a name keeps its block, all names do
kept-case : {A : Type 0} (d : Bool) (b : A) (o : Option A) → (d ≡ true → o ≡ Some b) → cond d (Some b) o ≡ o
kept-case true b o same = sym (same refl)
kept-case false b o same = refl

pub kept-names :
    (old new : NamedBlocks) (name : Name) (b : BlockView) → AreWith old name (Some b) new → holding_named old name ≡ Some (holding_of name b)
    → (w : Name) → holding_named old w ≡ holding_named new w
kept-names old new name b with_it held w =
    sym (kept-case (same_name name w) (holding_of name b) (holding_named old w) (λ same. ap (holding_named old) (sym (same-is-name name w same)) ∙ held))
    ∙ given-names old new name (Some b) with_it w

-- and what was taken and came back is as before
pub put-back :
    (old mid new : NamedBlocks) (name : Name) (b : BlockView) → block_with old name ≡ Some b → AreWith old name None mid → AreWith mid name (Some b) new
    → (w : Name) → block_with new w ≡ block_with old w
put-back old mid new name b held without with_it w =
    with_it.named w ∙ ap (cond (same_name name w) (Some b)) (without.named w)
    ∙ back-case (same_name name w) (block_with old w) (λ same. ap (block_with old) (sym (same-is-name name w same)) ∙ held)
  where
    back-case : (d : Bool) (o : Option BlockView) → (d ≡ true → o ≡ Some b) → cond d (Some b) (cond d None o) ≡ o
    back-case true o same = sym (same refl)
    back-case false o same = refl

-- two names aren't both another one
other-than : (x name w : Name) → same_name x name ≡ false → same_name x w ≡ true → same_name name w ≡ true → ⊥
other-than x name w other at_x at_name = false≢true (sym other ∙ ap (same_name x) (same-is-name name w at_name) ∙ at_x)

cond_none : (b : Bool) (x y : Option Holding) → (b ≡ false → x ≡ y) → cond b None x ≡ cond b None y
cond_none true x y same = refl
cond_none false x y same = same refl

-- of two tests that don't both pass, either may come first
either_first : (a b : Bool) (x y : Option Holding) → (a ≡ true → b ≡ true → ⊥) → cond a x (cond b None y) ≡ cond b None (cond a x y)
either_first true true x y apart = absurd (apart refl refl)
either_first true false x y apart = refl
either_first false b x y apart = refl

-- a name that is forgotten has no block, and the others keep theirs
pub held-forgotten : (hs : List Holding) (name w : Name) → held_in (filter (λ h. not (same_name h.name name)) hs) w ≡ cond (same_name name w) None (held_in hs w)
held-forgotten [] name w = elim (same_name name w) as (λ b. None ≡ cond b None (held_in [] w)) [ true ↦ refl | false ↦ refl ]
held-forgotten (h ∷ hs) name w =
    let rest = held-forgotten hs name w in
    let left = filter (λ x. not (same_name x.name name)) hs in
    elim (cases_Bool (same_name h.name name)) [
      | inl same ↦
          let gone : filter (λ x. not (same_name x.name name)) (h ∷ hs) ≡ left = rw same refl in
          let tests : same_name h.name w ≡ same_name name w = ap (λ x. same_name x w) (same-is-name h.name name same) in
          ap (λ x. held_in x w) gone ∙ rest
          ∙ cond_none (same_name name w) (held_in hs w) (held_in (h ∷ hs) w) (λ other. sym (held-first h hs w ∙ ap (λ b. cond b (Some h) (held_in hs w)) (tests ∙ other)))
      | inr other ↦
          let stays : filter (λ x. not (same_name x.name name)) (h ∷ hs) ≡ h ∷ left = rw other refl in
          ap (λ x. held_in x w) stays ∙ held-first h left w ∙ ap (cond (same_name h.name w) (Some h)) rest
          ∙ either_first (same_name h.name w) (same_name name w) (Some h) (held_in hs w) (other-than h.name name w other)
          ∙ ap (cond (same_name name w) None) (sym (held-first h hs w))
    ]

-- each once

not-held : (hs : List Holding) (name : Name) → held_in hs name ≡ None → (g : Holding) → Contains hs g → same_name g.name name ≡ true → ⊥
not-held [] name none g there same = contains-nothing g there
not-held (h ∷ hs) name none g there same = elim (cases_Bool (same_name h.name name)) [
  | inl here ↦ none-some h (sym none ∙ held-first h hs name ∙ ap (λ d. cond d (Some h) (held_in hs name)) here)
  | inr other ↦ elim (contains-first h hs g there) [
    | inl is ↦ false≢true (sym other ∙ ap (λ (x : Holding). same_name x.name name) is ∙ same)
    | inr later ↦ not-held hs name (sym (held-first h hs name ∙ ap (λ d. cond d (Some h) (held_in hs name)) other) ∙ none) g later same
  ]
]

-- a name that had no block is held once where it has one
pub once-more : (h : Holding) (hs : List Holding) → AreHeldOnce hs → held_in hs h.name ≡ None → AreHeldOnce (h ∷ hs)
once-more h hs once none = (not-held hs h.name none, once)

-- and those that are left are held once
pub once-left : (f : Holding → Bool) (hs : List Holding) → AreHeldOnce hs → AreHeldOnce (filter f hs)
once-left f [] once = tt
once-left f (h ∷ hs) once = left-case (f h) (once-left f hs once.1)
  where
    left-case : (d : Bool) → AreHeldOnce (filter f hs) → AreHeldOnce (cond d (h ∷ filter f hs) (filter f hs))
    left-case true rest = ((λ g there. once.0 g (contains-filtered f hs g there)), rest)
    left-case false rest = rest

-- what is held is found by its name
held-itself : (hs : List Holding) (g : Holding) → AreHeldOnce hs → Contains hs g → held_in hs g.name ≡ Some g
held-itself [] g once there = absurd (contains-nothing g there)
held-itself (h ∷ hs) g once there = elim (contains-first h hs g there) [
  | inl is ↦ held-first h hs g.name ∙ ap (λ d. cond d (Some h) (held_in hs g.name)) (ap (λ (x : Holding). same_name h.name x.name) (sym is) ∙ name-self h.name) ∙ ap Some is
  | inr later ↦ elim (cases_Bool (same_name h.name g.name)) [
    | inl same ↦ absurd (once.0 g later (name-symm g.name h.name ∙ same))
    | inr other ↦ held-first h hs g.name ∙ ap (λ d. cond d (Some h) (held_in hs g.name)) other ∙ held-itself hs g once.1 later
  ]
]

-- by address

-- where no name's block begins at the address none is found there
pub from-none : (bs : NamedBlocks) (a : ℕ) → name_from bs a ≡ None → (w : Name) (c : BlockView) → block_with bs w ≡ Some c → c.span.first ≡ a → ⊥
from-none [] a none w c named first = none-some c named
from-none (e ∷ es) a none w c named first = elim (cases_Bool (e.1.span.first == a)) [
  | inl here ↦ none-some e.0 (sym none ∙ ap (λ d. cond d (Some e.0) (name_from es a)) here)
  | inr other ↦ elim (cases_Bool (same_name e.0 w)) [
    | inl same ↦
        let is : e.1 ≡ c = some-is e.1 c (sym (ap (λ d. cond d (Some e.1) (block_with es w)) same) ∙ named) in
        false≢true (sym other ∙ eq-eqb e.1.span.first a (ap (λ (x : BlockView). x.span.first) is ∙ first))
    | inr differs ↦
        from-none es a (sym (ap (λ d. cond d (Some e.0) (name_from es a)) other) ∙ none) w c (sym (ap (λ d. cond d (Some e.1) (block_with es w)) differs) ∙ named) first
  ]
]

module _ (bs : NamedBlocks) (me : Caller) (held : (name : Name) → held_at me name ≡ holding_named bs name) (once : AreHeldOnce me.held) (a : ℕ) where
  -- a holding that is found at the address is that of a name whose block begins there
  there-named : (h : Holding) → held_from me a ≡ Some h → (c : BlockView) × (block_with bs h.name ≡ Some c) × (holding_of h.name c ≡ h) × (c.span.first ≡ a)
  there-named h found =
      let passes = find-passes (λ (x : Holding). x.block.first == a) me.held h found in
      let named = mapped-some (holding_of h.name) (block_with bs h.name) h (sym (held h.name) ∙ held-itself me.held h once passes.0) in
      (named.0, named.1, named.2, ap (λ (x : Holding). x.block.first) named.2 ∙ eqb-true h.block.first a passes.1)

  pub held-nowhere : ((w : Name) (c : BlockView) → block_with bs w ≡ Some c → c.span.first ≡ a → ⊥) → held_from me a ≡ None
  held-nowhere none = nowhere-case (held_from me a) refl
    where
      nowhere-case : (o : Option Holding) → held_from me a ≡ o → o ≡ None
      nowhere-case None is = refl
      nowhere-case (Some h) is = let there = there-named h is in absurd (none h.name there.0 there.1 there.3)

  pub held-there : (name : Name) (begins : BeginsAt bs a name) → held_from me a ≡ Some (holding_of name begins.block)
  held-there name begins = there-case (held_from me a) refl
    where
      mine : Holding
      mine = holding_of name begins.block

      is_held : find (λ x. same_name x.name name) me.held ≡ Some mine
      is_held = held name ∙ ap (option_map (holding_of name)) begins.named

      there-case : (o : Option Holding) → held_from me a ≡ o → o ≡ Some mine
      there-case None is =
          let passes = find-passes (λ (x : Holding). same_name x.name name) me.held mine is_held in
          absurd (false≢true
          (sym (find-none (λ (x : Holding). x.block.first == a) me.held mine is passes.0) ∙ eq-eqb mine.block.first a begins.first))
      there-case (Some h) is =
          let there = there-named h is in
          let same : h.name ≡ name = begins.only h.name there.0 there.1 there.3 in
          let block : there.0 ≡ begins.block = some-is there.0 begins.block (sym there.1 ∙ ap (block_with bs) same ∙ begins.named) in
          ap Some (sym there.2) ∙ ap (λ (n : Name). Some (holding_of n there.0)) same ∙ ap (λ (c : BlockView). Some (holding_of name c)) block
