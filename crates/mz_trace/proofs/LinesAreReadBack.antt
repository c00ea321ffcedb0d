-- Lines that are read are those of the text, and lines that keep all rules are read.
use Rattle.std.proofs.Common.{◌≡◌, ℕ, suc, ◌+◌, ◌*◌, ◌<◌, ◌≤◌, ◌^◌, Bool, true, false, List, [], ◌∷◌, map, length, leb, arith, refl, sym, ap, ◌∙◌, length-append, cond, Option, Some, None, Result}
use Rattle.std.specs.List.{list_all, join_with_byte}
use Rattle.std.specs.Option.{option_map_or}
use Rattle.std.specs.Prelude.{Ok, Err, ◌&&◌}
use Rattle.std.proofs.lemmas.Bool.{and_parts, and_from, le-leb, leb-true}
use Rattle.mz_words.specs.Lines.{Cut, cuts, words_of, is_plain, line_of, are_visible}
use Rattle.mz_lines.specs.declared.line.Line.{Line}
use Rattle.mz_lines.specs.declared.line.Line.TheVariants.{Round as round, Start as start, Call as call}
use Rattle.mz_lines.specs.declared.why.Why.{Why}
use Rattle.mz_lines.specs.declared.why.Why.TheVariants.{OutOfPlace, GivenBefore}
use Rattle.mz_lines.specs.Laws.{LineLaws}
use Rattle.mz_lines.specs.LineReading.{line_in}
use Rattle.mz_lines.specs.Lines.{line_words, line_fits}
use Rattle.mz_trace.specs.declared.reader.Reader.{Reader}
use Rattle.mz_trace.specs.Texts.{lines_text}
use Rattle.mz_trace.specs.Given.{has_name}
use Rattle.mz_trace.specs.Readers.{added, cut_why, is_given, is_misplaced, place_why, reading, with_words}
use Rattle.mz_trace.proofs.LineIsKept.{bad_at, good_line}
use Rattle.mz_trace.proofs.LinesAreInPlace.{all_added, InPlace}
use Rattle.mz_trace.proofs.NamesAreNoted.{GivesOnce, once_before, once_behind, once_new}

-- a line of words
abbrev pub cut_line : Line → Cut
cut_line x = line_of (line_words x)

-- which is plain
abbrev within : ℕ → List (List ℕ) → Bool
within most words = list_all (λ w. leb (length w) most) words

pub length-join : (most : ℕ) (ws : List (List ℕ)) → within most ws ≡ true → length (join_with_byte 32 ws) ≤ length ws * (most + 1)
length-join most [] h = omega arith
length-join most (w ∷ []) h = let s = leb-true (length w) most (and_parts (leb (length w) most) true h).0 in omega (arith, s)
length-join most (w ∷ v ∷ ws) h =
    let p = and_parts (leb (length w) most) (within most (v ∷ ws)) h in
    let s = leb-true (length w) most p.0 in
    let l = length-append w (32 ∷ join_with_byte 32 (v ∷ ws)) in
    let r = length-join most (v ∷ ws) p.1 in
    let m : suc (suc (length ws)) * (most + 1) ≡ (most + 1) + suc (length ws) * (most + 1) = omega arith in
    omega (arith, s, l, r, m)

pub plain_words : LineLaws → (ws : List (List ℕ)) → are_visible ws ≡ true → length (join_with_byte 32 ws) ≤ 255 → is_plain (line_of ws) ≡ true
plain_words laws ws h le = and_from (leb (length (join_with_byte 32 ws)) 255) _ (le-leb _ _ le) (laws.words.lines.printable ws h)

pub ended_of : (l : Cut) → is_plain l ≡ true → l.ended ≡ true
ended_of l plain = (and_parts l.ended (leb (length l.text) 255) (and_parts (l.ended && leb (length l.text) 255) _ plain).0).0

pub words_again : LineLaws → (ws : List (List ℕ)) → 0 < length ws → are_visible ws ≡ true → words_of (join_with_byte 32 ws) ≡ ws
words_again laws [] some h = absurd (omega arith)
words_again laws (w ∷ ws) some h = laws.words.lines.words w ws h

line_some : (x : Line) → 0 < length (line_words x)
line_some round = omega arith
line_some (start y) = omega arith
line_some (call c command) = omega arith

-- lines that are read
pub record IsReadFrom (callers : ℕ) (r : Reader) (ls : List Cut) (s : Reader) : Type 0 where
  pub lines : List Line
  pub cut : ls ≡ map cut_line lines
  pub each : list_all (line_fits callers) lines ≡ true
  pub place : InPlace callers r lines
  pub once : GivesOnce r lines
  pub kept : s ≡ all_added callers r lines

pub read_on : {X : Type 0} (n : ℕ) (o : Option Why) (rest : Result X (ℕ × Why)) (s : X) → option_map_or (λ y. Err (bad_at n y)) o rest ≡ Ok s → (o ≡ None) × (rest ≡ Ok s)
read_on n None rest s e = (refl, e)
read_on n (Some y) rest s e = absurd cc

in_place : (r : Reader) (x : Line) → place_why r x ≡ None → (is_misplaced r x ≡ false) × (is_given r x ≡ false)
in_place r x e = neither (is_misplaced r x) (is_given r x) e where
  neither : (a b : Bool) → cond a (Some OutOfPlace) (cond b (Some GivenBefore) None) ≡ None → (a ≡ false) × (b ≡ false)
  neither true b e = absurd cc
  neither false true e = absurd cc
  neither false false e = (refl, refl)

pub read_is_text : LineLaws → (callers : ℕ) (ls : List Cut) (r : Reader) (n : ℕ) (s : Reader) → reading callers r n ls ≡ Ok s → IsReadFrom callers r ls s
read_is_text laws callers [] r n s e = record { lines = []; cut = refl; each = refl; place = tt; once = λ base. at_most (has_name r.given base); kept = cc } where
  at_most : (b : Bool) → cond b 1 0 + 0 ≤ 1
  at_most true = omega arith
  at_most false = omega arith
read_is_text laws callers (l ∷ ls) r n s e =
    let both = read_on n (cut_why callers r l) (reading callers (with_words callers r (words_of l.text)) (n + 1) ls) s e in
    let good = good_line laws callers r l both.0 in
    let place = in_place r good.line good.place in
    let others = read_is_text laws callers ls (added callers good.line r) (n + 1) s (rw good.is.read at both.1) in
    let here : l ≡ cut_line good.line = laws.words.lines.ended l (ended_of l good.plain) ∙ ap line_of (sym good.is.words_are) in
    record {
      lines = good.line ∷ others.lines;
      cut = ap (λ (c : Cut). c ∷ ls) here ∙ ap (λ (cs : List Cut). cut_line good.line ∷ cs) others.cut;
      each = and_from _ _ good.is.fits others.each;
      place = (place.0, others.place);
      once = once_before callers good.line others.lines r place.1 others.once;
      kept = others.kept;
    }

-- and lines that keep all rules
line_is_read : (callers : ℕ) (r : Reader) (n : ℕ) (l : Cut) (ls : List Cut) (x : Line) → is_plain l ≡ true → line_in callers (words_of l.text) ≡ Some x → place_why r x ≡ None
    → reading callers r n (l ∷ ls) ≡ reading callers (added callers x r) (n + 1) ls
line_is_read callers r n l ls x plain read place = rw (plain, read, place) refl

pub text_is_read : LineLaws → (callers : ℕ) (xs : List Line) (r : Reader) (n : ℕ) → callers < 2 ^ 64 → list_all (line_fits callers) xs ≡ true → InPlace callers r xs → GivesOnce r xs
    → reading callers r n (map cut_line xs) ≡ Ok (all_added callers r xs)
text_is_read laws callers [] r n few fit place once = refl
text_is_read laws callers (x ∷ xs) r n few fit place once =
    let both = and_parts (line_fits callers x) (list_all (line_fits callers) xs) fit in
    let seen = laws.lines.visible callers x few both.0 in
    let short : length (join_with_byte 32 (line_words x)) ≤ 255 = let f = laws.lines.few x in let l = length-join 21 (line_words x) (laws.lines.short callers x few both.0) in omega (arith, f, l) in
    line_is_read callers r n (cut_line x) (map cut_line xs) x (plain_words laws (line_words x) seen short)
    (ap (line_in callers) (words_again laws (line_words x) (line_some x) seen) ∙ laws.lines.again callers x few both.0) (rw (place.0, once_new x xs r once) refl)
    ∙ text_is_read laws callers xs (added callers x r) (n + 1) few both.1 place.1 (once_behind callers x xs r once)

-- the text of lines is cut into them
pub cut_lines : LineLaws → (callers : ℕ) (xs : List Line) → callers < 2 ^ 64 → list_all (line_fits callers) xs ≡ true → cuts (lines_text xs) ≡ map cut_line xs
cut_lines laws callers [] few fit = refl
cut_lines laws callers (x ∷ xs) few fit =
    let both = and_parts (line_fits callers x) (list_all (line_fits callers) xs) fit in
    laws.words.lines.cut (line_words x) (lines_text xs) (laws.lines.visible callers x few both.0) ∙ ap (λ (cs : List Cut). cut_line x ∷ cs) (cut_lines laws callers xs few both.1)
