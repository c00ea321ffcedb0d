-- What reading a text comes to is the trace that it is a text of, or its first bad line.
use Rattle.std.proofs.Common.{◌≡◌, ℕ, ◌<◌, ◌≤◌, ◌^◌, Bool, true, false, List, [], ◌∷◌, ◌++◌, map, length, arith, refl, sym, ap, subst, ◌∙◌, append_assoc, Option, Some, None, codes, Result}
use Rattle.std.specs.Prelude.{Ok, Err, MatchResult, IfOk, OnOk, IfErr, ◌↔◌}
use Rattle.std.specs.List.{list_all, join_with_byte}
use Rattle.std.specs.Option.{option_map_or}
use Rattle.std.specs.Result.{result_err, result_map_both}
use Rattle.std.specs.Str.{bytes_eq}
use Rattle.std.proofs.lemmas.Slice.Eq.{bytes_eq-Decides}
use Rattle.mz_base.specs.Limits.{IsWithinLimits}
use Rattle.mz_base.specs.declared.profile.Profile.{Profile}
use Rattle.mz_words.specs.Lines.{Cut, cuts, words_of, is_plain, line_text, line_of}
use Rattle.mz_lines.specs.declared.line.Line.{Line}
use Rattle.mz_lines.specs.declared.why.Why.{Why}
use Rattle.mz_lines.specs.declared.why.Why.TheVariants.{NotPlain, NotTrace, NotSpace}
use Rattle.mz_lines.specs.Laws.{LineLaws}
use Rattle.mz_lines.specs.Lines.{line_fits}
use Rattle.mz_lines.specs.Spaces.{space_words, profile_in}
use Rattle.mz_lines.specs.Whys.{why_number}
use Rattle.mz_trace.specs.declared.fault.TraceFault.{TraceFault}
use Rattle.mz_trace.specs.declared.fault.TraceFault.TheVariants.{Bad, NoMemory}
use Rattle.mz_trace.specs.declared.reader.Reader.{Reader}
use Rattle.mz_trace.specs.declared.round.Round.{Round}
use Rattle.mz_trace.specs.declared.trace.Trace.{Trace}
use Rattle.mz_trace.specs.Rounds.{AreRounds}
use Rattle.mz_trace.specs.Texts.{lines_text, first_words, text_of, IsTrace, IsTraceText, HasTrace}
use Rattle.mz_trace.specs.Faults.{BadLine, Fails, TellsBadLine, bad_line, bad_line_of, callers_in, bad_later, first, second, why_of}
use Rattle.mz_trace.specs.Readers.{ComesTo, fresh, made, numbers_of, reading, rounds_in, second_in, text_behind, text_read, text_second}
use Rattle.mz_trace.proofs.GoodLinesMakeRounds.{nothing, all_stand, are_rounds}
use Rattle.mz_trace.proofs.LineIsKept.{bad_at, same_bad, same_later}
use Rattle.mz_trace.proofs.LinesAreInPlace.{all_added, all_counted, rounds_go}
use Rattle.mz_trace.proofs.LinesAreReadBack.{cut_line, cut_lines, ended_of, length-join, plain_words, read_is_text, read_on, text_is_read, words_again}
use Rattle.mz_trace.proofs.NamesAreNoted.{GivesOnce}
use Rattle.mz_trace.proofs.NormalFormIsText.{text_is_trace}

abbrev trace_of : Profile → List Round → Trace
trace_of p rounds = record { profile = p; rounds = rounds }

-- the lines of a text
abbrev all_cuts : Profile → List Line → List Cut
all_cuts p xs = line_of first_words ∷ line_of (space_words p) ∷ map cut_line xs

few_callers : (p : Profile) → IsWithinLimits p → p.callers < 2 ^ 64
few_callers p h = let most = h.callers.1 in omega (arith, most)

cuts_of_text : LineLaws → (p : Profile) (xs : List Line) → IsWithinLimits p → list_all (line_fits p.callers) xs ≡ true → cuts (text_of p xs) ≡ all_cuts p xs
cuts_of_text laws p xs h e =
    ap cuts (append_assoc (line_text first_words) (line_text (space_words p)) (lines_text xs))
    ∙ laws.words.lines.cut first_words (line_text (space_words p) ++ lines_text xs) refl
    ∙ ap (λ (cs : List Cut). line_of first_words ∷ cs) (laws.words.lines.cut (space_words p) (lines_text xs) (laws.profiles.visible p h) ∙ ap (λ (cs : List Cut). line_of (space_words p) ∷ cs) (cut_lines laws p.callers xs (few_callers p h) e))

-- the first two of them
first_is : LineLaws → (l : Cut) → why_of first l ≡ None → l ≡ line_of first_words
first_is laws l e = by_bytes (is_plain l) (bytes_eq l.text (codes "mzone-trace 1")) refl refl where
  by_bytes : (a b : Bool) → is_plain l ≡ a → bytes_eq l.text (codes "mzone-trace 1") ≡ b → l ≡ line_of first_words
  by_bytes true true plain same = laws.words.lines.ended l (ended_of l plain) ∙ ap (λ (t : List ℕ). line_of (words_of t)) ((bytes_eq-Decides l.text (codes "mzone-trace 1")).0 same)
  by_bytes true false plain same = let bad : Some NotTrace ≡ None = rw (plain, same) at e in absurd cc
  by_bytes false b plain same = let bad : Some NotPlain ≡ None = rw plain at e in absurd cc

second_is : LineLaws → (m : Cut) (p : Profile) → second_in m ≡ Ok p → (m ≡ line_of (space_words p)) × IsWithinLimits p
second_is laws m p e = by_profile (is_plain m) (profile_in (words_of m.text)) refl refl where
  by_profile : (a : Bool) (o : Option Profile) → is_plain m ≡ a → profile_in (words_of m.text) ≡ o → (m ≡ line_of (space_words p)) × IsWithinLimits p
  by_profile true (Some q) plain space =
      let same : Ok q ≡ Ok p = rw (plain, space) at e in
      let read : profile_in (words_of m.text) ≡ Some p = space ∙ cc in
      let spelled = laws.profiles.spelled (words_of m.text) p read in
      (laws.words.lines.ended m (ended_of m plain) ∙ ap line_of spelled.0, spelled.1)
  by_profile true None plain space = let bad : Err NotSpace ≡ Ok p = rw (plain, space) at e in absurd cc
  by_profile false o plain space = let bad : Err NotPlain ≡ Ok p = rw plain at e in absurd cc

second_of : (m : Cut) (p : Profile) → is_plain m ≡ true → profile_in (words_of m.text) ≡ Some p → second_in m ≡ Ok p
second_of m p plain space = rw (plain, space) refl

second_read : LineLaws → (p : Profile) → IsWithinLimits p → second_in (line_of (space_words p)) ≡ Ok p
second_read laws p h =
    let seen = laws.profiles.visible p h in
    let short : length (join_with_byte 32 (space_words p)) ≤ 255 = let l = length-join 20 (space_words p) (laws.short_profiles p h) in omega (arith, l) in
    second_of (line_of (space_words p)) p (plain_words laws (space_words p) seen short) (ap profile_in (words_again laws (space_words p) (omega arith) seen) ∙ laws.profiles.again p h)

-- a text that is read is one of the trace
read_made :
    LineLaws → (bytes : List ℕ) (l m : Cut) (ls : List Cut) (p : Profile) (s : Reader) → cuts bytes ≡ l ∷ m ∷ ls → why_of first l ≡ None → second_in m ≡ Ok p
    → reading p.callers (fresh p.callers) 3 ls ≡ Ok s → IsTraceText bytes (made p s)
read_made laws bytes l m ls p s cut one two three =
    let second_line = second_is laws m p two in
    let from = read_is_text laws p.callers ls (fresh p.callers) 3 s three in
    let ended = all_added p.callers (fresh p.callers) from.lines in
    let counted = all_counted p.callers from.lines (fresh p.callers) from.place (record { count = refl; few = omega arith }) in
    let count : length (rounds_in ended) ≤ 4096 = let c = counted.count in let f = counted.few in omega (arith, c, f) in
    record {
      lines = from.lines;
      spelled =
          laws.words.lines.same bytes (text_of p from.lines)
          (cut ∙ ap (λ (c : Cut). c ∷ m ∷ ls) (first_is laws l one) ∙ ap (λ (c : Cut). line_of first_words ∷ c ∷ ls) second_line.0
          ∙ ap (λ (cs : List Cut). line_of first_words ∷ line_of (space_words p) ∷ cs) from.cut ∙ sym (cuts_of_text laws p from.lines second_line.1 from.each));
      kept = record { limits = second_line.1; each = from.each; given_once = λ base. let once = from.once base in omega (arith, once) };
      rounds = subst (λ (x : Reader). AreRounds p.callers from.lines (rounds_in x)) (sym from.kept) (are_rounds p.callers ended from.lines (all_stand p.callers from.lines (fresh p.callers) [] from.each from.place (nothing refl refl refl)));
      few = subst (λ (x : Reader). length (rounds_in x) ≤ 4096) (sym from.kept) count;
    }

pub read_text : LineLaws → (bytes : List ℕ) (t : Trace) → text_read (cuts bytes) ≡ Ok t → IsTraceText bytes t
read_text laws bytes t e = by_lines (cuts bytes) refl e where
  by_reading : (l m : Cut) (ls : List Cut) (p : Profile) (o : Result Reader BadLine) → cuts bytes ≡ l ∷ m ∷ ls → why_of first l ≡ None → second_in m ≡ Ok p → reading p.callers (fresh p.callers) 3 ls ≡ o
      → result_map_both (made p) (λ b. b) o ≡ Ok t → IsTraceText bytes t
  by_reading l m ls p (Ok s) cut one two three is = let same : made p s ≡ t = cc in subst (λ (u : Trace). IsTraceText bytes u) same (read_made laws bytes l m ls p s cut one two three)
  by_reading l m ls p (Err b) cut one two three is = absurd cc

  by_profile : (l m : Cut) (ls : List Cut) (o : Result Profile Why) → cuts bytes ≡ l ∷ m ∷ ls → why_of first l ≡ None → second_in m ≡ o → text_behind o ls ≡ Ok t → IsTraceText bytes t
  by_profile l m ls (Ok p) cut one two is = by_reading l m ls p (reading p.callers (fresh p.callers) 3 ls) cut one two refl is
  by_profile l m ls (Err y) cut one two is = absurd cc

  by_lines : (ls : List Cut) → cuts bytes ≡ ls → text_read ls ≡ Ok t → IsTraceText bytes t
  by_lines [] cut is = absurd cc
  by_lines (l ∷ []) cut is = let two = (read_on 1 (why_of first l) (text_second []) t is).1 in absurd cc
  by_lines (l ∷ m ∷ ls) cut is = let both = read_on 1 (why_of first l) (text_second (m ∷ ls)) t is in by_profile l m ls (second_in m) cut both.0 refl both.1

-- and a text of a trace is read as that trace
pub text_has_read : LineLaws → (bytes : List ℕ) (t : Trace) → IsTraceText bytes t → text_read (cuts bytes) ≡ Ok t
text_has_read laws bytes t h =
    let p = t.profile in
    let go = rounds_go p.callers h.lines t.rounds h.kept.each h.rounds h.few in
    let once : GivesOnce (fresh p.callers) h.lines = λ base. let o = h.kept.given_once base in omega (arith, o) in
    let read = text_is_read laws p.callers h.lines (fresh p.callers) 3 (few_callers p h.kept.limits) h.kept.each go.0 once in
    ap (λ (bs : List ℕ). text_read (cuts bs)) h.spelled ∙ ap text_read (cuts_of_text laws p h.lines h.kept.limits h.kept.each) ∙ rw (second_read laws p h.kept.limits, read) (ap (λ (rs : List Round). Ok (trace_of p rs)) go.1)

-- The first bad line is the one at which reading stops.
same_second : LineLaws → (m : Cut) (ls : List Cut) → option_map_or (λ y. Some (bad_at 2 y)) (why_of second m) (bad_later (callers_in m) [] 3 ls) ≡ result_err (text_behind (second_in m) ls)
same_second laws m ls = by_profile (is_plain m) (profile_in (words_of m.text)) refl refl where
  still : {X Y : Type 0} (f : X → Y) (r : Result X BadLine) → result_err r ≡ result_err (result_map_both f (λ b. b) r)
  still f (Ok x) = refl
  still f (Err b) = refl

  by_profile : (a : Bool) (o : Option Profile) → is_plain m ≡ a → profile_in (words_of m.text) ≡ o
      → option_map_or (λ y. Some (bad_at 2 y)) (why_of second m) (bad_later (callers_in m) [] 3 ls) ≡ result_err (text_behind (second_in m) ls)
  by_profile true (Some p) plain space =
      let few = few_callers p (laws.profiles.spelled (words_of m.text) p space).1 in
      rw (plain, space) (same_later laws p.callers ls [] (fresh p.callers) 3 few (record { begun = refl; calling = refl; given = λ base. refl }) ∙ still (made p) (reading p.callers (fresh p.callers) 3 ls))
  by_profile true None plain space = rw (plain, space) refl
  by_profile false o plain space = rw plain refl

same_bad_line : LineLaws → (ls : List Cut) → bad_line ls ≡ result_err (text_read ls)
same_bad_line laws [] = refl
same_bad_line laws (l ∷ []) = same_bad 1 (why_of first l) (Some (2, NotSpace)) (text_second []) (λ none. refl)
same_bad_line laws (l ∷ m ∷ ls) = same_bad 1 (why_of first l) _ (text_second (m ∷ ls)) (λ none. same_second laws m ls)

-- a text has one trace, and none exactly where it has a bad line
pub one_trace : LineLaws → (bytes : List ℕ) (t u : Trace) → IsTraceText bytes t → IsTraceText bytes u → t ≡ u
one_trace laws bytes t u h g = let both : Ok t ≡ Ok u = sym (text_has_read laws bytes t h) ∙ text_has_read laws bytes u g in cc

pub without_bad_line : LineLaws → (bytes : List ℕ) → (bad_line_of bytes ≡ None) ↔ HasTrace bytes
without_bad_line laws bytes =
    (λ none. by_result (text_read (cuts bytes)) refl (sym (same_bad_line laws (cuts bytes)) ∙ none), λ h. same_bad_line laws (cuts bytes) ∙ ap result_err (text_has_read laws bytes h.0 h.1))
  where
    by_result : (o : Result Trace BadLine) → text_read (cuts bytes) ≡ o → result_err (text_read (cuts bytes)) ≡ None → HasTrace bytes
    by_result (Ok t) is none = (t, read_text laws bytes t is)
    by_result (Err b) is none = let bad : Some b ≡ None = rw is at none in absurd cc

-- what is answered
pub record Answers (bytes : List ℕ) (r : Result Trace TraceFault) : Type 0 where
  pub found : IfOk r (λ t. IsTraceText bytes t)
  pub only : (t : Trace) → IsTraceText bytes t → MatchResult r (λ u. u ≡ t) (λ e. e ≡ NoMemory)
  pub good : OnOk r (bad_line_of bytes ≡ None)
  pub bad : IfErr r (Fails (bad_line_of bytes))
  pub trace : IfOk r IsTrace

tells : (bad : Option BadLine) (line why : ℕ) → numbers_of bad ≡ Some (line, why) → TellsBadLine bad line why
tells None line why e = absurd cc
tells (Some b) line why e =
    let same : (b.0, why_number b.1) ≡ (line, why) = cc in
    record { first = b.1; bad_line = ap (λ (n : ℕ). Some (bad_at n b.1)) (ap (λ (p : ℕ × ℕ). p.0) same); number = sym (ap (λ (p : ℕ × ℕ). p.1) same) }

pub answers : LineLaws → (bytes : List ℕ) (r : Result Trace TraceFault) → ComesTo (text_read (cuts bytes)) r → Answers bytes r
answers laws bytes (Ok t) h = record {
  found = read_text laws bytes t h;
  only = λ u text. one_trace laws bytes t u (read_text laws bytes t h) text;
  good = same_bad_line laws (cuts bytes) ∙ ap result_err h;
  bad = tt;
  trace = text_is_trace bytes t (read_text laws bytes t h);
}
answers laws bytes (Err NoMemory) h = record { found = tt; only = λ t text. refl; good = tt; bad = tt; trace = tt }
answers laws bytes (Err (Bad line why)) h = record {
  found = tt;
  only = λ t text. let none : None ≡ Some (line, why) = ap (λ (o : Result Trace BadLine). numbers_of (result_err o)) (sym (text_has_read laws bytes t text)) ∙ h in absurd cc;
  good = tt;
  bad = rw (same_bad_line laws (cuts bytes)) (tells (result_err (text_read (cuts bytes))) line why h);
  trace = tt;
}
