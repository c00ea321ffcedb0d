-- What a trace text has whose lines are all built, and which line of a text is the first that isn't.
use Rattle.std.proofs.Common.{◌≡◌, ◌∙◌, ◌<◌, ◌≤◌, ℕ, zero, suc, ◌+◌, ◌^◌, Bool, true, false, List, [], ◌∷◌, ◌++◌, map, length, Result, Ok, Err, Option, Some, None, refl, ap, sym, subst, arith, length-append, append-nil, append_assoc, eq-eqb, ltb-true, if◌then◌else◌}
use Rattle.std.specs.Prelude.{◌==◌, not, option_map}
use Rattle.std.specs.List.{list_all, position, join_with_byte}
use Rattle.std.proofs.lemmas.Bool.{and_parts}
use Rattle.std.proofs.lemmas.Option.{none-some, same_Some}
use Rattle.std.proofs.lemmas.List.Folds.{list_all-append}
use Rattle.mz_base.specs.declared.profile.Profile.{Profile}
use Rattle.mz_trace.specs.declared.round.Round.{Round}
use Rattle.mz_trace.specs.declared.trace.Trace.{Trace}
use Rattle.mz_lines.specs.declared.line.Line.{Line}
use Rattle.mz_lines.specs.declared.line.Line.TheVariants as line
use Rattle.mz_lines.specs.Lines.{line_words, line_fits}
use Rattle.mz_trace.specs.Rounds.{Call, call_line, commands_by, lists_from, calls_from, IsRound, AreRounds, none, more, round_lines, lines_of_rounds, HaveLists}
use Rattle.mz_trace.specs.Texts.{first_words, lines_text, IsTraceText, lines_of}
use Rattle.mz_lines.specs.Spaces.{space_words}
use Rattle.mz_words.specs.Lines.{line_text}
use Rattle.mz_run.specs.declared.built.Unbuilt.{Unbuilt}
use Rattle.mz_run.proofs.BuiltLemmas.{built_numbers}
use Rattle.mz_run.specs.Built.{is_built_space, is_built_line, unbuilt_line, IsBuilt, HasUnbuilt}
use Rattle.mz_run.specs.Passing.{passed}
use Rattle.mz_run.specs.Top.{most_bytes, IsRunOutput}
use Rattle.mz_run.proofs.PassLemmas.{stop_of, stop_is_position, passed_all}

-- calls that are all of caller 0 are its own
own_calls : (calls : List Call) → list_all (line_fits 1) (map call_line calls) ≡ true → map (λ c. (0, c)) (commands_by 0 calls) ≡ calls
own_calls [] h = refl
own_calls (c ∷ cs) h =
    let both = and_parts (line_fits 1 (call_line c)) (list_all (line_fits 1) (map call_line cs)) h in
    let caller = ltb-true c.0 1 (and_parts _ _ both.0).0 in
    let zero_is : c.0 ≡ 0 = omega (arith, caller) in
    let test : (c.0 == 0) ≡ true = eq-eqb c.0 0 zero_is in
    rw test (ap (λ k. (k, c.1) ∷ map (λ d. (0, d)) (commands_by 0 cs)) (sym zero_is) ∙ ap (λ ds. c ∷ ds) (own_calls cs both.1))

-- a round of one caller is in normal form
own_round : (lines : List Line) (r : Round) → IsRound 1 lines r → list_all (line_fits 1) lines ≡ true → lines ≡ round_lines r
own_round lines r is fit =
    let parts : list_all (line_fits 1) (map line.Start r.lines ++ map call_line is.calls) ≡ true = subst (λ (ls : List Line). list_all (line_fits 1) ls ≡ true) is.parts fit in
    let calls = (and_parts _ _ (sym (list_all-append (line_fits 1) (map line.Start r.lines) (map call_line is.calls)) ∙ parts)).1 in
    let own : calls_from 0 r.commands ≡ is.calls =
    ap (calls_from 0) is.lists ∙ append-nil (map (λ c. (0, c)) (commands_by 0 is.calls)) ∙ own_calls is.calls calls in
    is.parts ∙ ap (λ cs. line.Round ∷ (map line.Start r.lines ++ map call_line cs)) (sym own)

-- one more round
more_lines : (rs : List Round) (r : Round) → lines_of_rounds (rs ++ r ∷ []) ≡ lines_of_rounds rs ++ round_lines r
more_lines [] r = append-nil (round_lines r)
more_lines (q ∷ rs) r = ap (λ ls. round_lines q ++ ls) (more_lines rs r) ∙ sym (append_assoc (round_lines q) (lines_of_rounds rs) (round_lines r))

-- rounds of one caller are in normal form
own_rounds : (lines : List Line) (rs : List Round) → AreRounds 1 lines rs → list_all (line_fits 1) lines ≡ true → lines ≡ lines_of_rounds rs
own_rounds [] [] none fit = refl
own_rounds _ _ (more front back before r fronts is) fit =
    let both = and_parts _ _ (sym (list_all-append (line_fits 1) front back) ∙ fit) in
    ap (λ ls. ls ++ back) (own_rounds front before fronts both.0) ∙ ap (λ ls. lines_of_rounds before ++ ls) (own_round back r is both.1)
    ∙ sym (more_lines before r)

-- a list for each caller
count_lists : (first callers : ℕ) (calls : List Call) → length (lists_from first callers calls) ≡ callers
count_lists first zero calls = refl
count_lists first (suc n) calls = let rest = count_lists (first + 1) n calls in omega arith

more_lists : (callers : ℕ) (rs : List Round) (r : Round) → HaveLists callers rs → length r.commands ≡ callers → HaveLists callers (rs ++ r ∷ [])
more_lists callers [] r lists here = (here, tt)
more_lists callers (q ∷ rs) r lists here = (lists.0, more_lists callers rs r lists.1 here)

have_lists : (callers : ℕ) (lines : List Line) (rs : List Round) → AreRounds callers lines rs → HaveLists callers rs
have_lists callers _ _ none = tt
have_lists callers _ _ (more front back before r fronts is) =
    more_lists callers before r (have_lists callers front before fronts) (ap length is.lists ∙ count_lists 0 callers is.calls)

-- in a space that is built, the lines of a text are those of the normal form
pub same_lines : (bytes : List ℕ) (t : Trace) (text : IsTraceText bytes t) → is_built_space t.profile ≡ true → text.lines ≡ lines_of t
same_lines bytes t text built =
    let one = (built_numbers t.profile built).callers in
    own_rounds text.lines t.rounds (subst (λ (n : ℕ). AreRounds n text.lines t.rounds) one text.rounds)
    (subst (λ (n : ℕ). list_all (line_fits n) text.lines ≡ true) one text.kept.each)

same_choice : (b : Bool) (x y z : Option ℕ) → (b ≡ true → x ≡ y) → (if b then x else z) ≡ (if b then y else z)
same_choice true x y z h = h refl
same_choice false x y z h = refl

-- the first line that isn't built, in a space that is
abbrev later_unbuilt : List Line → Option ℕ
later_unbuilt lines = option_map (λ k. k + 3) (position (λ l. not (is_built_line l)) lines)

-- so that the first line that isn't built is the same
pub same_unbuilt : (bytes : List ℕ) (t : Trace) (text : IsTraceText bytes t) → unbuilt_line t.profile text.lines ≡ unbuilt_line t.profile (lines_of t)
same_unbuilt bytes t text =
    same_choice (is_built_space t.profile) _ _ (Some 2)
    (λ built. ap later_unbuilt (same_lines bytes t text built))

-- the first line that isn't built, by passing over the lines of a space that is built
pub unbuilt_passed :
    (p : Profile) (lines : List Line) (r : Result ℕ Unbuilt) → is_built_space p ≡ true → r ≡ passed 3 lines → stop_of r ≡ unbuilt_line p lines
unbuilt_passed p lines r built is = rw built (ap stop_of is ∙ stop_is_position 3 lines)

-- each line has a line feed
line_count : (l : Line) → 0 < length (line_text (line_words l))
line_count l = omega (arith, length-append (join_with_byte 32 (line_words l)) (10 ∷ []))

count_bytes : (lines : List Line) → length lines ≤ length (lines_text lines)
count_bytes [] = omega arith
count_bytes (l ∷ ls) =
    let rest = count_bytes ls in
    omega (arith, length-append (line_text (line_words l)) (lines_text ls), line_count l)

-- the number of a line fits
pub lines_fit :
    (bytes : List ℕ) (t : Trace) → IsTraceText bytes t → length bytes ≤ most_bytes → is_built_space t.profile ≡ true → 3 + length (lines_of t) < 2 ^ 64
lines_fit bytes t text few built =
    let front = line_text first_words ++ line_text (space_words t.profile) in
    omega (arith, ap length (same_lines bytes t text built), count_bytes text.lines, ap length text.spelled, length-append front (lines_text text.lines), few)

is_none_choice : (b : Bool) (x : Option ℕ) → (if b then x else Some 2) ≡ None → (b ≡ true) × (x ≡ None)
is_none_choice true x h = (refl, h)
is_none_choice false x h = cc

never_stopped : (r : Result ℕ Unbuilt) → stop_of r ≡ None → (n : ℕ) × (r ≡ Ok n)
never_stopped (Ok n) h = (n, refl)
never_stopped (Err u) h = cc

-- a trace without such a line is built
pub text_built : (bytes : List ℕ) (t : Trace) → IsTraceText bytes t → unbuilt_line t.profile (lines_of t) ≡ None → IsBuilt t
text_built bytes t text built =
    let parts = is_none_choice (is_built_space t.profile) _ built in
    let passes = never_stopped (passed 3 (lines_of t)) (stop_is_position 3 (lines_of t) ∙ parts.1) in
    record {
      space = parts.0;
      lines = passed_all 3 passes.0 (lines_of t) passes.1;
      lists = have_lists t.profile.callers text.lines t.rounds text.rounds;
    }

-- As a text is one of at most one trace, that line is the same in each reading of the bytes.
module _ (one_trace : (bytes : List ℕ) (t u : Trace) → IsTraceText bytes t → IsTraceText bytes u → t ≡ u) where
  unbuilt_of : (bytes : List ℕ) (t u : Trace) (text : IsTraceText bytes t) (other : IsTraceText bytes u) → unbuilt_line t.profile text.lines ≡ unbuilt_line u.profile other.lines
  unbuilt_of bytes t u text other =
      same_unbuilt bytes t text ∙ ap (λ x. unbuilt_line x.profile (lines_of x)) (one_trace bytes t u text other) ∙ sym (same_unbuilt bytes u other)

  pub unbuilt_is_one : (bytes : List ℕ) (m n : ℕ) → HasUnbuilt bytes m → HasUnbuilt bytes n → m ≡ n
  unbuilt_is_one bytes m n h k = same_Some m n (sym h.first ∙ unbuilt_of bytes h.trace k.trace h.text k.text ∙ k.first)

  pub never_run : (bytes output : List ℕ) (line : ℕ) → HasUnbuilt bytes line → IsRunOutput bytes output → ⊥
  never_run bytes output line h run = none-some line (sym run.built ∙ unbuilt_of bytes run.trace h.trace run.text h.text ∙ h.first)
