-- A name that comes in, and that no name comes in twice.
use Rattle.std.proofs.Common.{◌≡◌, ℕ, ◌+◌, ◌≤◌, Bool, true, false, List, [], ◌∷◌, cond, arith, refl, sym, ap, ◌∙◌}
use Rattle.std.specs.Prelude.{◌||◌, count_by}
use Rattle.std.specs.List.{list_any}
use Rattle.std.specs.Ordering.{nat_cmp, is_eq, match_ordering}
use Rattle.std.specs.declared.cmp.Ordering.{Ordering}
use Rattle.std.specs.declared.cmp.Ordering.TheVariants.{Less, Equal, Greater}
use Rattle.std.specs.Cmp.Lexicographic.{slice_cmp}
use Rattle.std.specs.BTreeMap.{is_at}
use Rattle.std.specs.Str.{bytes_eq}
use Rattle.std.proofs.lemmas.Bool.{both_ways}
use Rattle.std.proofs.lemmas.Bool.Decides.{same_from_decides, Decides-like}
use Rattle.std.proofs.lemmas.Map.Text.{is_eq-slice_cmp}
use Rattle.std.proofs.lemmas.Slice.Eq.{bytes_eq-Decides}
use Rattle.mz_lines.specs.declared.command.Command.{Command}
use Rattle.mz_lines.specs.declared.command.Command.TheVariants.{Give}
use Rattle.mz_lines.specs.declared.line.Line.{Line}
use Rattle.mz_lines.specs.declared.line.Line.TheVariants.{Round as round, Start as start, Call as call}
use Rattle.mz_lines.specs.Lines.{gives, command_gives}
use Rattle.mz_trace.specs.declared.reader.Reader.{Reader}
use Rattle.mz_trace.specs.Given.{has_name, with_name}
use Rattle.mz_trace.specs.Readers.{added, is_given, noted}
use Rattle.mz_trace.proofs.Counting.{count_more}

-- among names
or_swap : (a b c : Bool) → (a || (b || c)) ≡ (b || (a || c))
or_swap true true c = refl
or_swap true false c = refl
or_swap false b c = refl

name_into : (o : Ordering) (p : List ℕ → Bool) (k x : List ℕ) (xs more : List (List ℕ)) → (is_eq o ≡ true → p x ≡ p k) → list_any p more ≡ (p k || list_any p xs)
    → list_any p (match_ordering o (k ∷ x ∷ xs) (x ∷ xs) (x ∷ more)) ≡ (p k || list_any p (x ∷ xs))
name_into Less p k x xs more same h = refl
name_into Equal p k x xs more same h = equal (p x) (p k) (list_any p xs) (same refl) where
  equal : (a b c : Bool) → a ≡ b → (a || c) ≡ (b || (a || c))
  equal true b c e = rw (← e) refl
  equal false b c e = rw (← e) refl
name_into Greater p k x xs more same h = ap (λ (b : Bool). p x || b) h ∙ or_swap (p x) (p k) (list_any p xs)

same_name : (name x base : List ℕ) → is_eq (slice_cmp nat_cmp name x) ≡ true → is_at (slice_cmp nat_cmp base) x ≡ is_at (slice_cmp nat_cmp base) name
same_name name x base e = ap (is_at (slice_cmp nat_cmp base)) (sym ((bytes_eq-Decides name x).0 (sym (is_eq-slice_cmp name x) ∙ e)))

among : (names : List (List ℕ)) (name base : List ℕ) → has_name (with_name names name) base ≡ (is_at (slice_cmp nat_cmp base) name || has_name names base)
among [] name base = refl
among (x ∷ xs) name base =
    name_into (slice_cmp nat_cmp name x) (is_at (slice_cmp nat_cmp base)) name x xs (with_name xs name) (same_name name x base) (among xs name base)

pub bytes_eq-sym : (xs ys : List ℕ) → bytes_eq xs ys ≡ bytes_eq ys xs
bytes_eq-sym xs ys = same_from_decides _ _ (bytes_eq-Decides xs ys) (Decides-like _ sym sym (bytes_eq-Decides ys xs))

pub name_added : (names : List (List ℕ)) (name base : List ℕ) → has_name (with_name names name) base ≡ (bytes_eq name base || has_name names base)
name_added names name base = among names name base ∙ ap (λ (b : Bool). b || has_name names base) (is_eq-slice_cmp base name ∙ bytes_eq-sym base name)

-- the name of one more line
command_noted : (k : Command) (names : List (List ℕ)) (base : List ℕ) → has_name (noted k names) base ≡ (command_gives base k || has_name names base)
command_noted (Give name to given) names base = name_added names given.base base
command_noted _ names base = refl

line_noted : (callers : ℕ) (x : Line) (r : Reader) (base : List ℕ) → has_name (added callers x r).given base ≡ (gives base x || has_name r.given base)
line_noted callers round r base = refl
line_noted callers (start y) r base = refl
line_noted callers (call c k) r base = command_noted k r.given base

-- With those before them, these lines give no name twice.
abbrev pub GivesOnce : Reader → List Line → Type 0
GivesOnce r xs = (base : List ℕ) → cond (has_name r.given base) 1 0 + count_by (gives base) xs ≤ 1

given_at : (x : Line) (r : Reader) (base : List ℕ) → gives base x ≡ true → has_name r.given base ≡ is_given r x
given_at (call c (Give name to given)) r base hit = ap (has_name r.given) (sym ((bytes_eq-Decides given.base base).0 hit))
given_at _ r base hit = absurd cc

pub once_before : (callers : ℕ) (x : Line) (xs : List Line) (r : Reader) → is_given r x ≡ false → GivesOnce (added callers x r) xs → GivesOnce r (x ∷ xs)
once_before callers x xs r new once base =
    rw (count_more (gives base) x xs)
    (apart (gives base x) (has_name r.given base) (count_by (gives base) xs) (λ hit. given_at x r base hit ∙ new) (rw (line_noted callers x r base) at (once base)))
  where
    apart : (b a : Bool) (n : ℕ) → (b ≡ true → a ≡ false) → cond (b || a) 1 0 + n ≤ 1 → cond a 1 0 + cond b (n + 1) n ≤ 1
    apart true true n h le = absurd (both_ways true (h refl) refl)
    apart true false n h le = omega arith
    apart false a n h le = le

pub once_behind : (callers : ℕ) (x : Line) (xs : List Line) (r : Reader) → GivesOnce r (x ∷ xs) → GivesOnce (added callers x r) xs
once_behind callers x xs r once base =
    rw (line_noted callers x r base) (at_most (has_name r.given base) (gives base x) (count_by (gives base) xs) (rw (count_more (gives base) x xs) at (once base)))
  where
    at_most : (a b : Bool) (n : ℕ) → cond a 1 0 + cond b (n + 1) n ≤ 1 → cond (b || a) 1 0 + n ≤ 1
    at_most true true n le = absurd (omega arith)
    at_most true false n le = le
    at_most false true n le = omega arith
    at_most false false n le = le

pub once_new : (x : Line) (xs : List Line) (r : Reader) → GivesOnce r (x ∷ xs) → is_given r x ≡ false
once_new (call c (Give name to given)) xs r once =
    let hit : bytes_eq given.base given.base ≡ true = (bytes_eq-Decides given.base given.base).1 refl in
    let le : cond (has_name r.given given.base) 1 0 + cond (bytes_eq given.base given.base) (count_by (gives given.base) xs + 1) (count_by (gives given.base) xs) ≤ 1 =
    rw (count_more (gives given.base) (call c (Give name to given)) xs) at (once given.base) in
    room (has_name r.given given.base) (count_by (gives given.base) xs) (rw hit at le)
  where
    room : (a : Bool) (n : ℕ) → cond a 1 0 + (n + 1) ≤ 1 → a ≡ false
    room true n le = absurd (omega arith)
    room false n le = refl
once_new _ xs r once = refl
