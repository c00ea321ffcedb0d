-- What is kept of the lines so far is what the whys of the next line ask of their words.
use Rattle.std.proofs.Common.{◌≡◌, ℕ, ◌+◌, ◌<◌, ◌^◌, Bool, true, false, List, [], ◌∷◌, cond, eqb, arith, refl, sym, ap, ◌∙◌, inl, inr, Option, Some, None, Result, Err, length}
use Rattle.std.specs.Prelude.{◌||◌, count_by}
use Rattle.std.specs.List.{list_any, filter_map}
use Rattle.std.specs.Option.{option_map_or, option_or}
use Rattle.std.specs.Result.{result_err}
use Rattle.std.specs.Str.{bytes_eq}
use Rattle.std.specs.Fmt.{decimal}
use Rattle.std.proofs.lemmas.Bool.{and_parts, cases_Bool, leb-false, ltb-true}
use Rattle.std.proofs.lemmas.List.Folds.{find-append}
use Rattle.mz_words.specs.Kinds.{word_text}
use Rattle.mz_words.specs.Lines.{Cut, words_of, is_plain}
use Rattle.mz_lines.specs.declared.command.Command.{Command}
use Rattle.mz_lines.specs.declared.command.Command.TheVariants.{Give}
use Rattle.mz_lines.specs.declared.line.Line.{Line}
use Rattle.mz_lines.specs.declared.line.Line.TheVariants.{Round as round, Start as start, Call as call}
use Rattle.mz_lines.specs.declared.round_line.RoundLine.TheVariants as at
use Rattle.mz_lines.specs.declared.why.Why.{Why}
use Rattle.mz_lines.specs.declared.why.Why.TheVariants.{NotPlain, OutOfPlace, GivenBefore}
use Rattle.mz_lines.specs.Commands.{command_words}
use Rattle.mz_lines.specs.Laws.{LineLaws, IsLine}
use Rattle.mz_lines.specs.LineReading.{line_in}
use Rattle.mz_lines.specs.Lines.{line_words, line_fits}
use Rattle.mz_lines.specs.Whys.{begins_with_digit, is_callers, word_why, word_whys}
use Rattle.mz_trace.specs.declared.open_round.OpenRound.{OpenRound}
use Rattle.mz_trace.specs.declared.reader.Reader.{Reader}
use Rattle.mz_trace.specs.Faults.{BadLine, bad_later, begins_round, given_in, has_callers_line, holds, is_given_before, is_out_of_place, later, why_of}
use Rattle.mz_trace.specs.Given.{has_name}
use Rattle.mz_trace.specs.Readers.{CanAdd, added, cut_why, is_given, is_misplaced, noted, place_why, reading, with_start, with_words, words_why}
use Rattle.mz_trace.proofs.Counting.{count_more}
use Rattle.mz_trace.proofs.NamesAreNoted.{bytes_eq-sym, name_added}

abbrev Before : Type 0
Before = List (List (List ℕ))

abbrev stood : List ℕ → Before → Bool
stood base before = list_any (bytes_eq (64 ∷ base)) (filter_map given_in before)

-- lines with these words have been read, the last first
pub record HasRead (before : Before) (r : Reader) : Type 0 where
  pub begun : r.begun ≡ count_by begins_round before
  pub calling : r.calling ≡ has_callers_line before
  pub given : (base : List ℕ) → has_name r.given base ≡ stood base before

-- and one more
at_start : (before : Before) (words : List (List ℕ)) (r : Reader) (o : OpenRound) → begins_round words ≡ false → is_callers words ≡ false → given_in words ≡ None → HasRead before r → HasRead (words ∷ before) (record r { «open» = o })
at_start before words r o begins calls gives h = record {
  begun = rw (count_more begins_round words before, begins) h.begun;
  calling = rw (begins, calls) h.calling;
  given = λ base. rw gives (h.given base);
}

given_call : (c : ℕ) (k : Command) (names : List (List ℕ)) (base : List ℕ) (before : Before) → has_name names base ≡ stood base before
    → has_name (noted k names) base ≡ stood base ((decimal c ∷ command_words k) ∷ before)
unfolding word_text
given_call c (Give name to given) names base before e = name_added names given.base base ∙ rw e (ap (λ (b : Bool). b || stood base before) (bytes_eq-sym given.base base))
given_call c _ names base before e = e

digit : LineLaws → (callers c : ℕ) (k : Command) → callers < 2 ^ 64 → line_fits callers (call c k) ≡ true → begins_with_digit (decimal c) ≡ true
digit laws callers c k few fit = let below : c < callers = ltb-true _ _ (and_parts _ _ fit).0 in laws.lines.digit c (omega arith)

has_read : LineLaws → (callers : ℕ) (x : Line) (before : Before) (r : Reader) → callers < 2 ^ 64 → line_fits callers x ≡ true → HasRead before r → HasRead (line_words x ∷ before) (added callers x r)
has_read laws callers round before r few fit h = record { begun = rw (count_more begins_round (line_words round) before, h.begun) refl; calling = refl; given = h.given }
has_read laws callers (start (at.Zone z)) before r few fit h = at_start before (line_words (start (at.Zone z))) r (with_start (at.Zone z) r.open) refl refl refl h
has_read laws callers (start y) before r few fit h = at_start before (line_words (start y)) r (with_start y r.open) refl refl refl h
has_read laws callers (call c k) before r few fit h = record {
  begun = rw (count_more begins_round (line_words (call c k)) before) h.begun;
  calling = rw (digit laws callers c k few fit) refl;
  given = λ base. given_call c k r.given base before (h.given base);
}

-- the whys of a line's place
or_none : (b : Bool) → (b || false) ≡ b
or_none true = refl
or_none false = refl

misplaced : LineLaws → (callers : ℕ) (x : Line) (before : Before) (r : Reader) → callers < 2 ^ 64 → line_fits callers x ≡ true → HasRead before r → is_out_of_place before (line_words x) ≡ is_misplaced r x
misplaced laws callers round before r few fit h = rw (← h.begun) refl
misplaced laws callers (start (at.Zone z)) before r few fit h = rw (← h.begun, ← h.calling) refl
misplaced laws callers (start y) before r few fit h = rw (← h.begun, ← h.calling) refl
misplaced laws callers (call c k) before r few fit h = rw (← h.begun, digit laws callers c k few fit) (or_none (eqb r.begun 0))

given_before : (x : Line) (before : Before) (r : Reader) → HasRead before r → is_given_before before (line_words x) ≡ is_given r x
unfolding word_text
given_before round before r h = refl
given_before (start (at.Zone z)) before r h = refl
given_before (start y) before r h = refl
given_before (call c (Give name to given)) before r h = sym (h.given given.base)
given_before (call c k) before r h = refl

-- the first why of a line
abbrev place_before : Before → List (List ℕ) → Option Why
place_before before words = cond (is_out_of_place before words) (Some OutOfPlace) (cond (is_given_before before words) (Some GivenBefore) None)

place : LineLaws → (callers : ℕ) (x : Line) (before : Before) (r : Reader) → callers < 2 ^ 64 → line_fits callers x ≡ true → HasRead before r → place_before before (line_words x) ≡ place_why r x
place laws callers x before r few fit h = rw (misplaced laws callers x before r few fit h, given_before x before r h) refl

same_words : LineLaws → (callers : ℕ) (before : Before) (words : List (List ℕ)) (r : Reader) → callers < 2 ^ 64 → HasRead before r → option_or (word_why callers words) (place_before before words) ≡ words_why callers r words
same_words laws callers before words r few h = by_line (line_in callers words) (word_why callers words) refl refl where
  by_line : (o : Option Line) (why : Option Why) → line_in callers words ≡ o → word_why callers words ≡ why → option_or (word_why callers words) (place_before before words) ≡ words_why callers r words
  by_line (Some x) why read is =
      let l = laws.lines.spelled callers words x read in
      rw (read, laws.lines.good callers words x read) (rw (← l.words_are) (place laws callers x before r few l.fits h))
  by_line None (Some y) read is = rw (read, is) refl
  by_line None None read is = let other = laws.lines.read callers words is in let bad : None ≡ Some other.0 = sym read ∙ other.1 in absurd cc

pub same_why : LineLaws → (callers : ℕ) (before : Before) (l : Cut) (r : Reader) → callers < 2 ^ 64 → HasRead before r → why_of (later callers before) l ≡ cut_why callers r l
same_why laws callers before l r few h =
    elim (cases_Bool (is_plain l)) [
      | inl plain ↦ rw plain (find-append (λ y. holds y (later callers before) l) word_whys (OutOfPlace ∷ GivenBefore ∷ []) ∙ same_words laws callers before (words_of l.text) r few h)
      | inr other ↦ rw other refl
    ]

-- a line of which none holds
pub record IsGood (callers : ℕ) (r : Reader) (l : Cut) : Type 0 where
  pub plain : is_plain l ≡ true
  pub line : Line
  pub is : IsLine callers (words_of l.text) line
  pub place : place_why r line ≡ None

pub good_line : LineLaws → (callers : ℕ) (r : Reader) (l : Cut) → cut_why callers r l ≡ None → IsGood callers r l
good_line laws callers r l e = by_line (is_plain l) (line_in callers (words_of l.text)) refl refl where
  by_line : (plain : Bool) (o : Option Line) → is_plain l ≡ plain → line_in callers (words_of l.text) ≡ o → IsGood callers r l
  by_line true (Some x) plain read = record { plain = plain; line = x; is = laws.lines.spelled callers (words_of l.text) x read; place = rw (plain, read) at e }
  by_line true None plain read =
      let other = laws.lines.read callers (words_of l.text) (rw (plain, read) at e) in let bad : None ≡ Some other.0 = sym read ∙ other.1 in absurd cc
  by_line false o plain read = let bad : Some NotPlain ≡ None = rw plain at e in absurd cc

-- the first bad line
abbrev pub bad_at : ℕ → Why → BadLine
bad_at n y = (n, y)

pub same_bad : {X : Type 0} (n : ℕ) (o : Option Why) (b : Option BadLine) (r : Result X BadLine) → (o ≡ None → b ≡ result_err r) → option_map_or (λ y. Some (bad_at n y)) o b ≡ result_err (option_map_or (λ y. Err (bad_at n y)) o r)
same_bad n None b r h = h refl
same_bad n (Some y) b r h = refl

pub same_later : LineLaws → (callers : ℕ) (ls : List Cut) (before : Before) (r : Reader) (n : ℕ) → callers < 2 ^ 64 → HasRead before r → bad_later callers before n ls ≡ result_err (reading callers r n ls)
same_later laws callers [] before r n few h = refl
same_later laws callers (l ∷ ls) before r n few h =
    rw (same_why laws callers before l r few h)
    (same_bad n (cut_why callers r l) (bad_later callers (words_of l.text ∷ before) (n + 1) ls) (reading callers (with_words callers r (words_of l.text)) (n + 1) ls)
    (λ none.
    let good = good_line laws callers r l none in
    rw good.is.read (same_later laws callers ls (words_of l.text ∷ before) (added callers good.line r) (n + 1) few (rw (← good.is.words_are) (has_read laws callers good.line before r few good.is.fits h)))))

-- there is room for a line that is in its place
pub can_add : LineLaws → (callers : ℕ) (words : List (List ℕ)) (x : Line) (r : Reader) → length r.open.commands ≡ callers → Some x ≡ line_in callers words → None ≡ place_why r x → CanAdd r x
can_add laws callers words round r lists read none = leb-false 4096 _ (not_misplaced (is_misplaced r round) none) where
  not_misplaced : (a : Bool) → None ≡ cond a (Some OutOfPlace) None → a ≡ false
  not_misplaced true e = absurd cc
  not_misplaced false e = refl
can_add laws callers words (start y) r lists read none = tt
can_add laws callers words (call c k) r lists read none = rw lists (ltb-true _ _ (and_parts _ _ (laws.lines.spelled callers words (call c k) (sym read)).fits).0)
