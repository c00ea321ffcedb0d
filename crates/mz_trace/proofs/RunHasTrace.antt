-- The trace of a run is a trace: the rules of runs repeat those of traces.
use Rattle.std.proofs.Common.{◌≡◌, ℕ, ◌+◌, ◌<◌, ◌≤◌, Bool, true, List, [], ◌∷◌, ◌++◌, map, length, eqb, cond, arith, refl, sym, ap, ◌∙◌}
use Rattle.std.specs.Prelude.{count_by, ◌&&◌}
use Rattle.std.specs.List.{list_all, flat_map}
use Rattle.std.proofs.lemmas.List.{map-append, length-map}
use Rattle.std.proofs.lemmas.List.Folds.{list_all-append}
use Rattle.std.proofs.lemmas.Bool.{and_parts, and_from, lt-ltb, eqb-true}
use Rattle.mz_lines.specs.declared.command.Command.{Command}
use Rattle.mz_trace.specs.declared.run.StartRecord.{StartRecord}
use Rattle.mz_trace.specs.declared.run.CallRecord.{CallRecord}
use Rattle.mz_trace.specs.declared.run.RunRound.{RunRound}
use Rattle.mz_trace.specs.declared.run.Run.{Run}
use Rattle.mz_lines.specs.declared.line.Line.{Line}
use Rattle.mz_lines.specs.RoundLines.{start_fits}
use Rattle.mz_lines.specs.Commands.{command_fits}
use Rattle.mz_lines.specs.Lines.{line_fits, gives, command_gives}
use Rattle.mz_trace.specs.Rounds.{call_line, calls_from, round_lines, lines_of_rounds, HaveLists}
use Rattle.mz_trace.specs.RunForms.{entry_fits, start_record_fits, call_record_fits, round_fits, IsRun}
use Rattle.mz_lines.specs.Answers.{answer_fits}
use Rattle.mz_trace.specs.RunTexts.{round_of, trace_of}
use Rattle.mz_trace.specs.Texts.{IsTrace}
use Rattle.mz_lines.specs.declared.line.Line.TheVariants.{Round as round, Start as start, Call as call}
use Rattle.mz_trace.proofs.Counting.{count_more, count_by-append}

-- the parts of three tests
and_three : (a b c : Bool) → (a && b && c) ≡ true → (a ≡ true) × (b ≡ true) × (c ≡ true)
and_three a b c h = let out = and_parts (a && b) c h in let front = and_parts a b out.0 in (front.0, front.1, out.1)

abbrev all_fit : ℕ → List (List CallRecord) → Bool
all_fit callers lists = list_all (λ calls. list_all (call_record_fits callers) calls) lists

abbrev commands : List CallRecord → List Command
commands ds = map (λ d. d.command) ds

abbrev starts : List StartRecord → List Line
starts ds = map start (map (λ d. d.line) ds)

-- the lines of one caller, and of callers from one on
abbrev own_lines : ℕ → List CallRecord → List Line
own_lines c ds = map call_line (map (λ k. (c, k)) (commands ds))

abbrev call_lines : ℕ → List (List CallRecord) → List Line
call_lines first lists = map call_line (calls_from first (map commands lists))

call_lines-cons : (first : ℕ) (ds : List CallRecord) (lists : List (List CallRecord)) → call_lines first (ds ∷ lists) ≡ own_lines first ds ++ call_lines (first + 1) lists
call_lines-cons first ds lists = map-append call_line (map (λ k. (first, k)) (commands ds)) (calls_from (first + 1) (map commands lists))

-- each line is one of a trace
starts_fit : (callers : ℕ) (ds : List StartRecord) → list_all start_record_fits ds ≡ true → list_all (line_fits callers) (starts ds) ≡ true
starts_fit callers [] h = refl
starts_fit callers (d ∷ ds) h =
    let p = and_parts (start_record_fits d) (list_all start_record_fits ds) h in
    let q = and_three (start_fits d.line) (list_all entry_fits d.steps) (answer_fits d.answer) p.0 in
    and_from _ _ q.0 (starts_fit callers ds p.1)

own_fit : (callers c : ℕ) (ds : List CallRecord) → c < callers → list_all (call_record_fits callers) ds ≡ true → list_all (line_fits callers) (own_lines c ds) ≡ true
own_fit callers c [] below h = refl
own_fit callers c (d ∷ ds) below h =
    let p = and_parts (call_record_fits callers d) (list_all (call_record_fits callers) ds) h in
    let q = and_three (command_fits callers d.command) (list_all entry_fits d.steps) (answer_fits d.answer) p.0 in
    and_from _ _ (and_from _ _ (lt-ltb _ _ below) q.0) (own_fit callers c ds below p.1)

calls_fit : (callers first : ℕ) (lists : List (List CallRecord)) → first + length lists ≤ callers → all_fit callers lists ≡ true → list_all (line_fits callers) (call_lines first lists) ≡ true
calls_fit callers first [] room h = refl
calls_fit callers first (ds ∷ lists) room h =
    let p = and_parts (list_all (call_record_fits callers) ds) (all_fit callers lists) h in
    ap (list_all (line_fits callers)) (call_lines-cons first ds lists)
    ∙ list_all-append (line_fits callers) (own_lines first ds) (call_lines (first + 1) lists)
    ∙ and_from _ _ (own_fit callers first ds (omega arith) p.0) (calls_fit callers (first + 1) lists (omega arith) p.1)

round_lines_fit : (callers : ℕ) (r : RunRound) → round_fits callers r ≡ true → list_all (line_fits callers) (round_lines (round_of r)) ≡ true
round_lines_fit callers r h =
    let p = and_three (list_all start_record_fits r.starts) (all_fit callers r.callers) (eqb (length r.callers) callers) h in
    let count : length r.callers ≡ callers = eqb-true (length r.callers) callers p.2 in
    list_all-append (line_fits callers) (starts r.starts) (call_lines 0 r.callers)
    ∙ and_from _ _ (starts_fit callers r.starts p.0) (calls_fit callers 0 r.callers (omega (arith, count)) p.1)

lines_fit : (callers : ℕ) (rs : List RunRound) → list_all (round_fits callers) rs ≡ true → list_all (line_fits callers) (lines_of_rounds (map round_of rs)) ≡ true
lines_fit callers [] h = refl
lines_fit callers (r ∷ rs) h =
    let p = and_parts (round_fits callers r) (list_all (round_fits callers) rs) h in
    list_all-append (line_fits callers) (round_lines (round_of r)) (lines_of_rounds (map round_of rs))
    ∙ and_from _ _ (round_lines_fit callers r p.0) (lines_fit callers rs p.1)

-- the lines give a block under a name as often as the commands
starts_give : (base : List ℕ) (ds : List StartRecord) → count_by (gives base) (starts ds) ≡ 0
starts_give base [] = refl
starts_give base (d ∷ ds) = count_more (gives base) (start d.line) (starts ds) ∙ starts_give base ds

own_give : (base : List ℕ) (c : ℕ) (ds : List CallRecord) → count_by (gives base) (own_lines c ds) ≡ count_by (command_gives base) (commands ds)
own_give base c [] = refl
own_give base c (d ∷ ds) =
    count_more (gives base) (call c d.command) (own_lines c ds)
    ∙ ap (λ n. cond (command_gives base d.command) (n + 1) n) (own_give base c ds)
    ∙ sym (count_more (command_gives base) d.command (commands ds))

calls_give : (base : List ℕ) (first : ℕ) (lists : List (List CallRecord)) → count_by (gives base) (call_lines first lists) ≡ count_by (command_gives base) (flat_map commands lists)
calls_give base first [] = refl
calls_give base first (ds ∷ lists) =
    let a = count_by-append (gives base) (own_lines first ds) (call_lines (first + 1) lists) in
    let b = count_by-append (command_gives base) (commands ds) (flat_map commands lists) in
    let here = own_give base first ds in
    let others = calls_give base (first + 1) lists in
    ap (count_by (gives base)) (call_lines-cons first ds lists) ∙ omega (arith, a, b, here, others)

abbrev round_commands : RunRound → List Command
round_commands r = flat_map commands r.callers

round_gives : (base : List ℕ) (r : RunRound) → count_by (gives base) (round_lines (round_of r)) ≡ count_by (command_gives base) (round_commands r)
round_gives base r =
    let a = count_by-append (gives base) (starts r.starts) (call_lines 0 r.callers) in
    let none = starts_give base r.starts in
    let calls = calls_give base 0 r.callers in
    count_more (gives base) round (starts r.starts ++ call_lines 0 r.callers) ∙ omega (arith, a, none, calls)

lines_give : (base : List ℕ) (rs : List RunRound) → count_by (gives base) (lines_of_rounds (map round_of rs)) ≡ count_by (command_gives base) (flat_map round_commands rs)
lines_give base [] = refl
lines_give base (r ∷ rs) =
    let a = count_by-append (gives base) (round_lines (round_of r)) (lines_of_rounds (map round_of rs)) in
    let b = count_by-append (command_gives base) (round_commands r) (flat_map round_commands rs) in
    let here = round_gives base r in
    let others = lines_give base rs in
    omega (arith, a, b, here, others)

-- each round has a list for each caller
have_lists : (callers : ℕ) (rs : List RunRound) → list_all (round_fits callers) rs ≡ true → HaveLists callers (map round_of rs)
have_lists callers [] h = tt
have_lists callers (r ∷ rs) h =
    let p = and_parts (round_fits callers r) (list_all (round_fits callers) rs) h in
    let q = and_three (list_all start_record_fits r.starts) (all_fit callers r.callers) (eqb (length r.callers) callers) p.0 in
    (length-map r.callers commands ∙ eqb-true (length r.callers) callers q.2, have_lists callers rs p.1)

pub trace_of_run : (r : Run) → IsRun r → IsTrace (trace_of r)
trace_of_run r h = record {
  kept = record {
    limits = h.limits;
    each = lines_fit r.profile.callers r.rounds h.each;
    given_once = λ base. let same = lines_give base r.rounds in let once = h.given_once base in omega (arith, same, once);
  };
  lists = have_lists r.profile.callers r.rounds h.each;
  few = let few = h.few in omega (arith, few, length-map r.rounds round_of);
}
