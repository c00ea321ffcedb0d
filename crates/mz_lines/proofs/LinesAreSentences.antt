-- The lines of a trace and their words determine each other, and words are a line exactly where no why of the words of a
-- line holds.
use Rattle.std.proofs.Common.{◌≡◌, ℕ, ◌<◌, ◌≤◌, ◌^◌, Bool, true, false, List, [], ◌∷◌, length, eqb, ltb, cond, arith, refl, sym, ap, ◌∙◌, lit≤, inl, inr, Option, Some, None}
use Rattle.std.specs.Prelude.{◌&&◌, ◌||◌, not, is_none, find}
use Rattle.std.specs.List.{list_any, list_all}
use Rattle.std.specs.Option.{option_map_or}
use Rattle.std.specs.Fmt.{decimal}
use Rattle.std.proofs.lemmas.Bool.{cases_Bool, and_parts, and_from, eqb-true, eqb-false, ne_eqb, le-leb, lt-ltb, ltb-true}
use Rattle.mz_base.specs.Names.{is_digit}
use Rattle.mz_words.specs.declared.kind.Word.{Word}
use Rattle.mz_words.specs.declared.kind.Kind.TheVariants.{Caller}
use Rattle.mz_words.specs.declared.table.Form.{Form}
use Rattle.mz_words.specs.declared.table.TheConstants.{COMMANDS, ROUND_LINES}
use Rattle.mz_words.specs.Numbers.{are_digits, caller_of, ◌>>=◌}
use Rattle.mz_words.specs.Lines.{are_visible, are_short}
use Rattle.mz_words.specs.Table.{kinds_of, form_among}
use Rattle.mz_words.specs.Sentences.{sentence, sentence_in, sentence_behind, read_words}
use Rattle.mz_words.specs.Flaws.{flaws, is_wrong, some_wrong}
use Rattle.mz_words.specs.Laws.{WordLaws}
use Rattle.mz_lines.specs.declared.command.Command.{Command}
use Rattle.mz_lines.specs.declared.round_line.RoundLine.{RoundLine}
use Rattle.mz_lines.specs.declared.round_line.RoundLine.TheVariants as at
use Rattle.mz_lines.specs.declared.line.Line.{Line}
use Rattle.mz_lines.specs.declared.line.Line.TheVariants.{Round, Start, Call}
use Rattle.mz_lines.specs.Commands.{command_in, command_words, command_fits}
use Rattle.mz_lines.specs.RoundLines.{start_words}
use Rattle.mz_lines.specs.Lines.{line_words, line_fits}
use Rattle.mz_lines.specs.Whys.{begins_with_digit, form_among_words, behind_first, word_whys, word_holds}
use Rattle.mz_lines.specs.LineReading.{call_in, heading_in, line_in}
use Rattle.mz_lines.specs.Whys.{word_why}
use Rattle.mz_lines.specs.Laws.{IsLine}
use Rattle.mz_lines.proofs.Options.{bind_parts, some_same, cases_option}
use Rattle.mz_lines.proofs.CommandsAreSentences.{command_again, command_spelled, command_visible, command_short, command_count, command_unread}
use Rattle.mz_lines.proofs.StartsAreSentences.{start_visible, start_short, start_count, round_again, heading_again, heading_spelled, heading_unread}

-- a number begins with a digit
digit_first : (w : List ℕ) → are_digits w ≡ true → begins_with_digit w ≡ true
digit_first [] e = absurd cc
digit_first (c ∷ cs) e = (and_parts (is_digit c) (list_all is_digit cs) e).0

pub digit-decimal : WordLaws → (n : ℕ) → n < 2 ^ 64 → begins_with_digit (decimal n) ≡ true
digit-decimal k n lt = digit_first (decimal n) (k.numbers.digits n (lt-ltb _ _ lt))

-- what is written of a line is read again
start_headed : (callers : ℕ) (x : RoundLine) → line_in callers (start_words x) ≡ heading_in callers (start_words x)
start_headed callers (at.Zone zone) = refl
start_headed callers _ = refl

pub line_again : WordLaws → (callers : ℕ) (x : Line) → callers < 2 ^ 64 → line_fits callers x ≡ true → line_in callers (line_words x) ≡ Some x
line_again k callers Round few h = round_again k callers few
line_again k callers (Start x) few h = start_headed callers x ∙ heading_again k callers x few h
line_again k callers (Call c command) few h =
    let p = and_parts (ltb c callers) (command_fits callers command) h in
    let below : c < callers = ltb-true _ _ p.0 in
    ap (λ (t : Bool). cond t (call_in callers (decimal c) (command_words command)) (heading_in callers (decimal c ∷ command_words command))) (digit-decimal k c (omega arith))
    ∙ ap (λ (o : Option ℕ). o >>= λ a. command_in callers (command_words command) >>= λ b. Some (Call a b)) (k.numbers.caller_again callers c few p.0)
    ∙ ap (λ (o : Option Command). o >>= λ b. Some (Call c b)) (command_again k callers command few p.1)

-- and what is read is written
called : (callers : ℕ) (t : List ℕ) (ts : List (List ℕ)) (x : Line) (c : ℕ) (command : Command) → line_in callers (t ∷ ts) ≡ Some x → Some (Call c command) ≡ Some x
    → (t ≡ decimal c) × (ltb c callers ≡ true) → (ts ≡ command_words command) × (command_fits callers command ≡ true) → IsLine callers (t ∷ ts) x
called callers t ts x c command read same number words =
    let e = some_same (Call c command) x same in
    record {
      read = read;
      words_are = ap line_words (sym e) ∙ ap (λ (w : List ℕ). w ∷ command_words command) (sym number.0) ∙ ap (λ (ws : List (List ℕ)). t ∷ ws) (sym words.0);
      fits = ap (line_fits callers) (sym e) ∙ and_from _ _ number.1 words.1;
    }

pub line_spelled : WordLaws → (callers : ℕ) (words : List (List ℕ)) (x : Line) → line_in callers words ≡ Some x → IsLine callers words x
line_spelled k callers [] x h = absurd cc
line_spelled k callers (t ∷ ts) x h =
    elim (cases_Bool (begins_with_digit t)) [
      | inl digit ↦
          let read : call_in callers t ts ≡ Some x = rw digit at h in
          let p = bind_parts (caller_of callers t) (λ c. command_in callers ts >>= λ d. Some (Call c d)) x read in
          let q = bind_parts (command_in callers ts) (λ d. Some (Call p.0 d)) x p.2 in
          called callers t ts x p.0 q.0 h q.2 (k.numbers.caller_spelled callers t p.0 p.1) (command_spelled k callers ts q.0 q.1)
      | inr other ↦ let s = heading_spelled k callers (t ∷ ts) x (rw other at h) in record { read = h; words_are = sym s.words; fits = s.fits }
    ]

-- what its words are made of
pub line_visible : WordLaws → (callers : ℕ) (x : Line) → callers < 2 ^ 64 → line_fits callers x ≡ true → are_visible (line_words x) ≡ true
line_visible k callers Round few h = refl
line_visible k callers (Start x) few h = start_visible k x h
line_visible k callers (Call c command) few h =
    let p = and_parts (ltb c callers) (command_fits callers command) h in
    let below : c < callers = ltb-true _ _ p.0 in
    and_from _ _ (k.numbers.visible c (lt-ltb _ _ (omega arith))) (command_visible k callers command few p.1)

pub line_short : WordLaws → (callers : ℕ) (x : Line) → callers < 2 ^ 64 → line_fits callers x ≡ true → are_short (line_words x) ≡ true
line_short k callers Round few h = refl
line_short k callers (Start x) few h = start_short k x h
line_short k callers (Call c command) few h =
    let p = and_parts (ltb c callers) (command_fits callers command) h in
    let below : c < callers = ltb-true _ _ p.0 in
    let digits = k.numbers.short c (lt-ltb _ _ (omega arith)) in
    and_from _ _ (le-leb (length (decimal c)) 21 (omega (arith, digits))) (command_short k callers command few p.1)

pub line_count : (x : Line) → length (line_words x) ≤ 6
line_count Round = lit≤ tt
line_count (Start x) = let n = start_count x in omega (arith, n)
line_count (Call c command) = let n = command_count command in omega (arith, n)

-- tests, one of which holds
or_true : (e : Bool) → (e || true) ≡ true
or_true true = refl
or_true false = refl

or_swap : (a b c d : Bool) → ((a || b) || (c || d)) ≡ ((a || c) || (b || d))
or_swap true b c d = refl
or_swap false true true d = refl
or_swap false true false d = refl
or_swap false false c d = refl

any_or : {A : Type 0} (f g : A → Bool) (ys : List A) → list_any (λ y. f y || g y) ys ≡ (list_any f ys || list_any g ys)
any_or f g [] = refl
any_or f g (y ∷ ys) = ap (λ (b : Bool). (f y || g y) || b) (any_or f g ys) ∙ or_swap (f y) (g y) (list_any f ys) (list_any g ys)

empty_or : {A : Type 0} (e : Bool) (o : Option A) → ((x : A) → o ≡ Some x → e ≡ false) → (e || is_none o) ≡ is_none o
empty_or e None h = or_true e
empty_or e (Some x) h = rw (h x refl) refl

empty_or_both : {A B : Type 0} (e : Bool) (o : Option A) (p : Option B) → ((x : A) (y : B) → o ≡ Some x → p ≡ Some y → e ≡ false) → (e || (is_none o || is_none p)) ≡ (is_none o || is_none p)
empty_or_both e None p h = or_true e
empty_or_both e (Some x) None h = or_true e
empty_or_both e (Some x) (Some y) h = rw (h x y refl refl) refl

middle_some : (a b rest : Bool) → a ≡ false → b ≡ false → rest ≡ false → (a || (b || rest)) ≡ false
middle_some a b rest e f h = rw (e, f) h

sentence_none : (f : Form) (o : Option (List Word)) → is_none (o >>= λ ws. Some (sentence f ws)) ≡ is_none o
sentence_none f None = refl
sentence_none f (Some ws) = refl

both_none : {A B C : Type 0} (o : Option A) (p : Option B) (f : A → B → C) → is_none (o >>= λ a. p >>= λ b. Some (f a b)) ≡ (is_none o || is_none p)
both_none None p f = refl
both_none (Some a) None f = refl
both_none (Some a) (Some b) f = refl

-- words that are read aren't empty
abbrev is_empty : List ℕ → Bool
is_empty t = eqb (length t) 0

not_empty : (c : ℕ) (cs : List ℕ) → is_empty (c ∷ cs) ≡ false
not_empty c cs = ne_eqb (length (c ∷ cs)) 0 (λ h. absurd (omega arith))

digit_some : (t : List ℕ) → begins_with_digit t ≡ true → is_empty t ≡ false
digit_some [] h = absurd cc
digit_some (c ∷ cs) h = not_empty c cs

command_some : (t : List ℕ) (f : Form) → form_among COMMANDS t ≡ Some f → is_empty t ≡ false
command_some [] f h = absurd cc
command_some (c ∷ cs) f h = not_empty c cs

heading_some : (t : List ℕ) (f : Form) → form_among ROUND_LINES t ≡ Some f → is_empty t ≡ false
heading_some [] f h = absurd cc
heading_some (c ∷ cs) f h = not_empty c cs

-- a line without a caller's number
rest_holds : WordLaws → (callers : ℕ) (f : Form) (ts : List (List ℕ))
    → (not (eqb (length (kinds_of f)) (length ts)) || list_any (λ y. some_wrong callers y [] (kinds_of f) ts) flaws) ≡ is_none (read_words callers [] (kinds_of f) ts)
rest_holds k callers f ts = elim (cases_Bool (eqb (length (kinds_of f)) (length ts))) [
  | inl e ↦ rw e (k.flaws.words callers [] (kinds_of f) ts (eqb-true _ _ e))
  | inr e ↦ rw (e, k.flaws.count callers [] (kinds_of f) ts (eqb-false _ _ e)) refl
]

heading_holds : WordLaws → (callers : ℕ) (t : List ℕ) (ts : List (List ℕ)) (o : Option Form) → form_among ROUND_LINES t ≡ o
    → (list_any is_empty (t ∷ ts) || (is_none o || (option_map_or (λ f. not (eqb (length (kinds_of f)) (length ts))) o false || list_any (λ y. option_map_or (λ f. some_wrong callers y [] (kinds_of f) ts) o false) flaws)))
    ≡ is_none (o >>= λ f. sentence_behind callers f ts)
heading_holds k callers t ts None e = or_true (list_any is_empty (t ∷ ts))
heading_holds k callers t ts (Some f) e =
    ap (λ (b : Bool). list_any is_empty (t ∷ ts) || b) (rest_holds k callers f ts)
    ∙ empty_or (list_any is_empty (t ∷ ts)) (read_words callers [] (kinds_of f) ts) (λ ws h. rw (heading_some t f e) (k.flaws.some callers [] (kinds_of f) ts ws h))
    ∙ sym (sentence_none f (read_words callers [] (kinds_of f) ts))

-- a line with one
caller_holds : WordLaws → (callers : ℕ) (t : List ℕ) (f : Form) (ts : List (List ℕ))
    → (not (eqb (length (kinds_of f)) (length ts)) || list_any (λ y. is_wrong callers [] y Caller t || some_wrong callers y [] (kinds_of f) ts) flaws)
    ≡ (is_none (caller_of callers t) || is_none (read_words callers [] (kinds_of f) ts))
caller_holds k callers t f ts = elim (cases_Bool (eqb (length (kinds_of f)) (length ts))) [
  | inl e ↦
      rw e
      (any_or (λ y. is_wrong callers [] y Caller t) (λ y. some_wrong callers y [] (kinds_of f) ts) flaws
      ∙ ap (λ (b : Bool). b || list_any (λ y. some_wrong callers y [] (kinds_of f) ts) flaws) (k.flaws.caller callers t)
      ∙ ap (λ (b : Bool). is_none (caller_of callers t) || b) (k.flaws.words callers [] (kinds_of f) ts (eqb-true _ _ e)))
  | inr e ↦ rw (e, k.flaws.count callers [] (kinds_of f) ts (eqb-false _ _ e)) (sym (or_true (is_none (caller_of callers t))))
]

call_holds : WordLaws → (callers : ℕ) (t u : List ℕ) (ts : List (List ℕ)) (o : Option Form) → begins_with_digit t ≡ true → form_among COMMANDS u ≡ o
    → (list_any is_empty (t ∷ u ∷ ts) || (is_none o || (option_map_or (λ f. not (eqb (length (kinds_of f)) (length ts))) o false || list_any (λ y. option_map_or (λ f. is_wrong callers [] y Caller t || some_wrong callers y [] (kinds_of f) ts) o false) flaws)))
    ≡ (is_none (caller_of callers t) || is_none (o >>= λ f. sentence_behind callers f ts))
call_holds k callers t u ts None digit e = or_true (list_any is_empty (t ∷ u ∷ ts)) ∙ sym (or_true (is_none (caller_of callers t)))
call_holds k callers t u ts (Some f) digit e =
    ap (λ (b : Bool). list_any is_empty (t ∷ u ∷ ts) || b) (caller_holds k callers t f ts)
    ∙ empty_or_both (list_any is_empty (t ∷ u ∷ ts)) (caller_of callers t) (read_words callers [] (kinds_of f) ts)
    (λ n ws read h. middle_some (is_empty t) (is_empty u) (list_any is_empty ts) (digit_some t digit) (command_some u f e) (k.flaws.some callers [] (kinds_of f) ts ws h))
    ∙ ap (λ (b : Bool). is_none (caller_of callers t) || b) (sym (sentence_none f (read_words callers [] (kinds_of f) ts)))

call_unread : WordLaws → (callers : ℕ) (t : List ℕ) (ts : List (List ℕ)) → is_none (call_in callers t ts) ≡ (is_none (caller_of callers t) || is_none (sentence_in callers COMMANDS ts))
call_unread k callers t ts =
    both_none (caller_of callers t) (command_in callers ts) Call ∙ ap (λ (b : Bool). is_none (caller_of callers t) || b) (command_unread k callers ts)

-- exactly where no why of its words holds, they are a line
abbrev any_holds : ℕ → List (List ℕ) → Bool
any_holds callers words = list_any (word_holds callers words) word_whys

-- the same, by whether the first word begins with a digit
abbrev form_at : List ℕ → List (List ℕ) → Bool → Option Form
form_at t ts digit = cond digit (form_among_words COMMANDS ts) (form_among ROUND_LINES t)

abbrev fields_at : List (List ℕ) → Bool → List (List ℕ)
fields_at ts digit = cond digit (behind_first ts) ts

abbrev holds_at : ℕ → List ℕ → List (List ℕ) → Bool → Bool
holds_at callers t ts digit =
    list_any is_empty (t ∷ ts) || (is_none (form_at t ts digit)
    || (option_map_or (λ f. not (eqb (length (kinds_of f)) (length (fields_at ts digit)))) (form_at t ts digit) false
    || list_any (λ y. option_map_or (λ f. (digit && is_wrong callers [] y Caller t) || some_wrong callers y [] (kinds_of f) (fields_at ts digit)) (form_at t ts digit) false) flaws))

as_at : (callers : ℕ) (t : List ℕ) (ts : List (List ℕ)) → any_holds callers (t ∷ ts) ≡ holds_at callers t ts (begins_with_digit t)
as_at callers t ts = refl

abbrev line_at : ℕ → List ℕ → List (List ℕ) → Bool → Option Line
line_at callers t ts digit = cond digit (call_in callers t ts) (heading_in callers (t ∷ ts))

digit_unread : WordLaws → (callers : ℕ) (t : List ℕ) (ts : List (List ℕ)) → begins_with_digit t ≡ true → holds_at callers t ts true ≡ is_none (call_in callers t ts)
digit_unread k callers t [] digit = or_true (list_any is_empty (t ∷ [])) ∙ sym (call_unread k callers t [] ∙ or_true (is_none (caller_of callers t)))
digit_unread k callers t (u ∷ ts) digit = call_holds k callers t u ts (form_among COMMANDS u) digit refl ∙ sym (call_unread k callers t (u ∷ ts))

pub unread_holds : WordLaws → (callers : ℕ) (words : List (List ℕ)) → any_holds callers words ≡ is_none (line_in callers words)
unread_holds k callers [] = refl
unread_holds k callers (t ∷ ts) = as_at callers t ts ∙ elim (cases_Bool (begins_with_digit t)) [
  | inl digit ↦ ap (holds_at callers t ts) digit ∙ digit_unread k callers t ts digit ∙ ap (λ (b : Bool). is_none (line_at callers t ts b)) (sym digit)
  | inr other ↦
      ap (holds_at callers t ts) other ∙ heading_holds k callers t ts (form_among ROUND_LINES t) refl ∙ sym (heading_unread k callers (t ∷ ts))
      ∙ ap (λ (b : Bool). is_none (line_at callers t ts b)) (sym other)
]

none_found : {A : Type 0} (p : A → Bool) (xs : List A) → is_none (find p xs) ≡ not (list_any p xs)
none_found p [] = refl
none_found p (x ∷ xs) = found_or (p x) x (find p xs) (list_any p xs) (none_found p xs) where
  found_or : {A : Type 0} (b : Bool) (x : A) (o : Option A) (any : Bool) → is_none o ≡ not any → is_none (cond b (Some x) o) ≡ not (b || any)
  found_or true x o any h = refl
  found_or false x o any h = h

none_is : {A : Type 0} (o : Option A) → is_none o ≡ true → o ≡ None
none_is None h = refl
none_is (Some x) h = absurd cc

pub read_no_why : WordLaws → (callers : ℕ) (words : List (List ℕ)) (x : Line) → line_in callers words ≡ Some x → word_why callers words ≡ None
read_no_why k callers words x read =
    none_is (word_why callers words) (none_found (word_holds callers words) word_whys ∙ ap not (unread_holds k callers words ∙ ap is_none read))

pub no_why_read : WordLaws → (callers : ℕ) (words : List (List ℕ)) → word_why callers words ≡ None → (x : Line) × (line_in callers words ≡ Some x)
no_why_read k callers words none = elim (cases_option (line_in callers words)) [
  | inl unread ↦
      let some : is_none (word_why callers words) ≡ false = none_found (word_holds callers words) word_whys ∙ ap not (unread_holds k callers words ∙ ap is_none unread) in
      let not_some : true ≡ false = sym (ap is_none none) ∙ some in absurd cc
  | inr read ↦ read
]
