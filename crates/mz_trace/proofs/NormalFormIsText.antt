-- The normal form of a trace is a text of it.
use Rattle.std.proofs.Common.{◌≡◌, ℕ, zero, suc, ◌+◌, ◌<◌, Bool, true, false, List, [], ◌∷◌, ◌++◌, map, length, eqb, cond, arith, refl, sym, ap, subst, ◌∙◌, append_assoc}
use Rattle.std.specs.Prelude.{not, count_by, replicate, slice_index_or, slice_set, ◌&&◌}
use Rattle.std.specs.List.{list_all}
use Rattle.std.proofs.lemmas.List.{append-nil, length-replicate, map-append}
use Rattle.std.proofs.lemmas.Bool.{and_parts, or_parts, ne_eqb, eq-eqb, ltb-true}
use Rattle.mz_lines.specs.declared.command.Command.{Command}
use Rattle.mz_lines.specs.declared.round_line.RoundLine.{RoundLine}
use Rattle.mz_trace.specs.declared.open_round.OpenRound.{OpenRound}
use Rattle.mz_trace.specs.declared.reader.Reader.{Reader}
use Rattle.mz_trace.specs.declared.round.Round.{Round}
use Rattle.mz_trace.specs.declared.trace.Trace.{Trace}
use Rattle.mz_lines.specs.declared.line.Line.{Line}
use Rattle.mz_lines.specs.Lines.{line_fits, gives}
use Rattle.mz_trace.specs.Rounds.{Call, call_line, commands_by, lists_from, IsRound, AreRounds, none, more, calls_from, round_lines, lines_of_rounds, HaveLists}
use Rattle.mz_trace.specs.Texts.{IsTraceText, IsTrace, normal_text}
use Rattle.mz_lines.specs.declared.line.Line.TheVariants.{Round as round, Start as start, Call as call}
use Rattle.mz_trace.proofs.RoundsGrow.{length-lists_from}
use Rattle.mz_trace.proofs.PrintedLines.{lines_of_rounds-push}
use Rattle.mz_trace.specs.Readers.{added, blank, fresh, is_misplaced, rounded, rounds_in, with_call, with_start}
use Rattle.mz_trace.proofs.Counting.{count_more, count_by-append, count_by-push}
use Rattle.mz_trace.proofs.LinesAreInPlace.{InPlace, all_added, lists_added, rounds_go, some_begun}

abbrev of_caller : ℕ → List Command → List Call
of_caller caller cs = map (λ c. (caller, c)) cs

-- a caller's commands among those of all
own_commands : (caller : ℕ) (cs : List Command) (rest : List Call) → commands_by caller (of_caller caller cs ++ rest) ≡ cs ++ commands_by caller rest
own_commands caller [] rest = refl
own_commands caller (c ∷ cs) rest = rw (eq-eqb caller caller refl) (ap (λ (x : List Command). c ∷ x) (own_commands caller cs rest))

other_commands : (caller other : ℕ) (cs : List Command) (rest : List Call) → (other ≡ caller → ⊥) → commands_by caller (of_caller other cs ++ rest) ≡ commands_by caller rest
other_commands caller other [] rest apart = refl
other_commands caller other (c ∷ cs) rest apart = rw (ne_eqb other caller apart) (other_commands caller other cs rest apart)

no_commands : (caller first : ℕ) (lists : List (List Command)) → caller < first → commands_by caller (calls_from first lists) ≡ []
no_commands caller first [] lt = refl
no_commands caller first (cs ∷ lists) lt = other_commands caller first cs (calls_from (first + 1) lists) (λ e. absurd (omega (arith, e))) ∙ no_commands caller (first + 1) lists (omega arith)

other_lists : (first n other : ℕ) (cs : List Command) (rest : List Call) → other < first → lists_from first n (of_caller other cs ++ rest) ≡ lists_from first n rest
other_lists first zero other cs rest lt = refl
other_lists first (suc n) other cs rest lt = rw (other_commands first other cs rest (λ e. absurd (omega (arith, e))), other_lists (first + 1) n other cs rest (omega arith)) refl

lists_again : (first : ℕ) (lists : List (List Command)) → lists_from first (length lists) (calls_from first lists) ≡ lists
lists_again first [] = refl
lists_again first (cs ∷ lists) =
    rw (own_commands first cs (calls_from (first + 1) lists), no_commands first (first + 1) lists (omega arith), append-nil cs, other_lists (first + 1) (length lists) first cs (calls_from (first + 1) lists) (omega arith), lists_again (first + 1) lists) refl

-- the lines of rounds in normal form make those rounds
normal_round : (callers : ℕ) (r : Round) → length r.commands ≡ callers → IsRound callers (round_lines r) r
normal_round callers r e = record { calls = calls_from 0 r.commands; parts = refl; lists = rw (← e) (sym (lists_again 0 r.commands)) }

normal_more : (callers : ℕ) (rs : List Round) (front : List Line) (before : List Round) → HaveLists callers rs → AreRounds callers front before → AreRounds callers (front ++ lines_of_rounds rs) (before ++ rs)
normal_more callers [] front before h a = rw (append-nil front, append-nil before) a
normal_more callers (r ∷ rs) front before h a =
    subst (λ (ls : List Line). AreRounds callers ls (before ++ (r ∷ rs))) (append_assoc front (round_lines r) (lines_of_rounds rs))
    (subst (λ (ts : List Round). AreRounds callers ((front ++ round_lines r) ++ lines_of_rounds rs) ts) (append_assoc before (r ∷ []) rs)
    (normal_more callers rs (front ++ round_lines r) (before ++ r ∷ []) h.1 (more front (round_lines r) before r a (normal_round callers r h.0))))

pub normal_is_text : (t : Trace) → IsTrace t → IsTraceText (normal_text t) t
normal_is_text t h = record {
  lines = lines_of_rounds t.rounds;
  spelled = refl;
  kept = h.kept;
  rounds = normal_more t.profile.callers t.rounds [] [] h.lists none;
  few = h.few;
}

pub printed_is_text : (t : Trace) (bytes : List ℕ) → bytes ≡ normal_text t → IsTrace t → IsTraceText bytes t
printed_is_text t bytes e h = subst (λ (bs : List ℕ). IsTraceText bs t) (sym e) (normal_is_text t h)

-- the normal form of a round counts its lines, and those of one more command
abbrev calls_in : ℕ → List (List Command) → List Line
calls_in first lists = map call_line (calls_from first lists)

no_calls : (first n : ℕ) → calls_from first (replicate n []) ≡ []
no_calls first zero = refl
no_calls first (suc n) = no_calls (first + 1) n

count_caller : (p : Line → Bool) (first : ℕ) (cs : List Command) (lists : List (List Command)) → count_by p (calls_in first (cs ∷ lists)) ≡ count_by p (map call_line (of_caller first cs)) + count_by p (calls_in (first + 1) lists)
count_caller p first cs lists =
    ap (count_by p) (map-append call_line (of_caller first cs) (calls_from (first + 1) lists)) ∙ count_by-append p (map call_line (of_caller first cs)) (calls_in (first + 1) lists)

count_own : (p : Line → Bool) (caller : ℕ) (cs : List Command) (k : Command) → count_by p (map call_line (of_caller caller (cs ++ k ∷ []))) ≡ count_by p (map call_line (of_caller caller cs)) + cond (p (call caller k)) 1 0
count_own p caller cs k =
    ap (count_by p) (ap (map call_line) (map-append (λ (c : Command). (caller, c)) cs (k ∷ [])) ∙ map-append call_line (of_caller caller cs) ((caller, k) ∷ []))
    ∙ count_by-push p (map call_line (of_caller caller cs)) (call caller k)

count_set : (p : Line → Bool) (first : ℕ) (lists : List (List Command)) (i : ℕ) (k : Command) → i < length lists
    → count_by p (calls_in first (slice_set lists i (slice_index_or lists i [] ++ k ∷ []))) ≡ count_by p (calls_in first lists) + cond (p (call (first + i) k)) 1 0
count_set p first [] i k lt = absurd (omega arith)
count_set p first (cs ∷ lists) zero k lt =
    let e : first + 0 ≡ first = omega arith in
    let a = count_caller p first (cs ++ k ∷ []) lists in
    let b = count_caller p first cs lists in
    let d = count_own p first cs k in
    rw e (omega (arith, a, b, d))
count_set p first (cs ∷ lists) (suc i) k lt =
    let e : first + suc i ≡ first + 1 + i = omega arith in
    let a = count_caller p first cs (slice_set lists i (slice_index_or lists i [] ++ k ∷ [])) in
    let b = count_caller p first cs lists in
    let d = count_set p (first + 1) lists i k (omega arith) in
    rw e (omega (arith, a, b, d))

-- and rounds count theirs
abbrev of_round : (Line → Bool) → List RoundLine → List (List Command) → ℕ
of_round p lines lists = cond (p round) 1 0 + (count_by p (map start lines) + count_by p (calls_in 0 lists))

abbrev of_rounds : (Line → Bool) → List Round → ℕ
of_rounds p rs = count_by p (lines_of_rounds rs)

count_last : (p : Line → Bool) (rs : List Round) (w : OpenRound) → of_rounds p (rs ++ rounded w ∷ []) ≡ of_rounds p rs + of_round p w.lines w.commands
count_last p rs w =
    let a = ap (count_by p) (lines_of_rounds-push rs (rounded w)) ∙ count_by-append p (lines_of_rounds rs) (round_lines (rounded w)) in
    let b = count_by-append p (round ∷ []) (map start w.lines ++ calls_in 0 w.commands) in
    let c = count_by-append p (map start w.lines) (calls_in 0 w.commands) in
    let d = count_by-push p [] round in
    omega (arith, a, b, c, d)

count_added : (p : Line → Bool) (callers : ℕ) (x : Line) (r : Reader) → line_fits callers x ≡ true → length r.open.commands ≡ callers → is_misplaced r x ≡ false
    → of_rounds p (rounds_in (added callers x r)) ≡ of_rounds p (rounds_in r) + cond (p x) 1 0
count_added p callers round r fit lists place =
    let a = count_last p (rounds_in r) (blank callers) in
    let none : count_by p (calls_in 0 (replicate callers [])) ≡ 0 = ap (λ (cs : List Call). count_by p (map call_line cs)) (no_calls 0 callers) in
    rw (some_begun r) (omega (arith, a, none))
count_added p callers (start y) r fit lists place =
    let a = count_last p r.rounds (with_start y r.open) in
    let b = count_last p r.rounds r.open in
    let d = ap (count_by p) (map-append start r.open.lines (y ∷ [])) ∙ count_by-push p (map start r.open.lines) (start y) in
    let some : eqb r.begun 0 ≡ false = (or_parts _ _ place).0 in
    rw some (omega (arith, a, b, d))
count_added p callers (call c k) r fit lists place =
    let e : 0 + c ≡ c = omega arith in
    let below : c < length r.open.commands = rw lists (ltb-true _ _ (and_parts _ _ fit).0) in
    let a = count_last p r.rounds (with_call c k r.open) in
    let b = count_last p r.rounds r.open in
    let d = rw e at (count_set p 0 r.open.commands c k below) in
    let some : eqb r.begun 0 ≡ false = place in
    rw some (omega (arith, a, b, d))

count_all : (p : Line → Bool) (callers : ℕ) (xs : List Line) (r : Reader) → list_all (line_fits callers) xs ≡ true → length r.open.commands ≡ callers → InPlace callers r xs
    → of_rounds p (rounds_in (all_added callers r xs)) ≡ of_rounds p (rounds_in r) + count_by p xs
count_all p callers [] r fit lists place = omega arith
count_all p callers (x ∷ xs) r fit lists place =
    let both = and_parts (line_fits callers x) (list_all (line_fits callers) xs) fit in
    let a = count_added p callers x r both.0 lists place.0 in
    let b = count_all p callers xs (added callers x r) both.1 (lists_added callers x r lists) place.1 in
    let d = count_by-append p (x ∷ []) xs in
    let e = count_by-push p [] x in
    omega (arith, a, b, d, e)

-- all pass where none fails
none_fails : (q : Line → Bool) (xs : List Line) → list_all q xs ≡ true → count_by (λ x. not (q x)) xs ≡ 0
none_fails q [] e = refl
none_fails q (x ∷ xs) e = let both = and_parts (q x) (list_all q xs) e in count_more (λ y. not (q y)) x xs ∙ rw both.0 (none_fails q xs both.1)

all_pass : (q : Line → Bool) (xs : List Line) → count_by (λ x. not (q x)) xs ≡ 0 → list_all q xs ≡ true
all_pass q [] e = refl
all_pass q (x ∷ xs) e = passes (q x) (all_pass q xs) (sym (count_more (λ y. not (q y)) x xs) ∙ e) where
  passes : (b : Bool) → (count_by (λ y. not (q y)) xs ≡ 0 → list_all q xs ≡ true) → cond (not b) (count_by (λ y. not (q y)) xs + 1) (count_by (λ y. not (q y)) xs) ≡ 0 → (b && list_all q xs) ≡ true
  passes true f h = f h
  passes false f h = absurd (omega arith)

have_more : (callers : ℕ) (rs : List Round) (r : Round) → HaveLists callers rs → length r.commands ≡ callers → HaveLists callers (rs ++ r ∷ [])
have_more callers [] r h e = (e, tt)
have_more callers (s ∷ rs) r h e = (h.0, have_more callers rs r h.1 e)

have_lists : (callers : ℕ) (ls : List Line) (rs : List Round) → AreRounds callers ls rs → HaveLists callers rs
have_lists callers ls rs none = tt
have_lists callers ls rs (more front back before r are is) = have_more callers before r (have_lists callers front before are) (rw is.lists (length-lists_from 0 callers is.calls))

pub text_is_trace : (bytes : List ℕ) (t : Trace) → IsTraceText bytes t → IsTrace t
text_is_trace bytes t h =
    let c = t.profile.callers in
    let go = rounds_go c h.lines t.rounds h.kept.each h.rounds h.few in
    let same : (p : Line → Bool) → of_rounds p t.rounds ≡ count_by p h.lines = λ p. ap (of_rounds p) (sym go.1) ∙ (let all = count_all p c h.lines (fresh c) h.kept.each (length-replicate c []) go.0 in omega (arith, all)) in
    record {
      kept = record {
        limits = h.kept.limits;
        each = all_pass (line_fits c) (lines_of_rounds t.rounds) (same (λ x. not (line_fits c x)) ∙ none_fails (line_fits c) h.lines h.kept.each);
        given_once = λ base. rw (same (gives base)) (h.kept.given_once base);
      };
      lists = have_lists c h.lines t.rounds h.rounds;
      few = h.few;
    }
