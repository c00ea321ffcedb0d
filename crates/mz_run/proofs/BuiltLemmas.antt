-- The rounds of a trace whose lines are all built.
use Rattle.std.proofs.Common.{◌≡◌, ℕ, Bool, true, List, [], ◌∷◌, ◌++◌, length, refl, subst, arith}
use Rattle.std.specs.Prelude.{IsTrue, ◌&&◌, ◌==◌, map}
use Rattle.std.specs.List.{list_all}
use Rattle.std.proofs.lemmas.Bool.{and_parts, and_from, false≢true, eqb-true}
use Rattle.mz_base.specs.declared.profile.Profile.{Profile}
use Rattle.mz_lines.specs.declared.command.Command.{Command}
use Rattle.mz_trace.specs.declared.round.Round.{Round}
use Rattle.mz_lines.specs.declared.round_line.RoundLine.{RoundLine}
use Rattle.mz_trace.specs.declared.trace.Trace.{Trace}
use Rattle.mz_lines.specs.declared.line.Line.{Line}
use Rattle.mz_lines.specs.declared.line.Line.TheVariants as line
use Rattle.mz_trace.specs.Rounds.{HaveLists, call_line, calls_from, round_lines, lines_of_rounds}
use Rattle.mz_session.specs.Sessions.{IsForOne}
use Rattle.mz_run.specs.Built.{is_built_space, is_built_command, is_built_line, is_built_round, IsBuilt}

-- of a list in two parts, all of each
all_parts : (p : Line → Bool) (xs ys : List Line) → list_all p (xs ++ ys) ≡ true → (list_all p xs ≡ true) × (list_all p ys ≡ true)
all_parts p [] ys all = (refl, all)
all_parts p (x ∷ xs) ys all =
    let first = and_parts (p x) (list_all p (xs ++ ys)) all in
    let rest = all_parts p xs ys first.1 in
    (and_from (p x) (list_all p xs) first.0 rest.0, rest.1)

no_starts : (xs : List RoundLine) → list_all is_built_line (map line.Start xs) ≡ true → (length xs == 0) ≡ true
no_starts [] all = refl
no_starts (x ∷ xs) all = absurd (false≢true all)

built_calls : (cs : List Command) → list_all is_built_line (map call_line (map (λ c. (0, c)) cs ++ [])) ≡ true → list_all is_built_command cs ≡ true
built_calls [] all = refl
built_calls (c ∷ cs) all =
    let parts = and_parts (is_built_command c) (list_all is_built_line (map call_line (map (λ d. (0, d)) cs ++ []))) all in
    and_from (is_built_command c) (list_all is_built_command cs) parts.0 (built_calls cs parts.1)

one_list :
    (lists : List (List Command)) → length lists ≡ 1 → list_all is_built_line (map call_line (calls_from 0 lists)) ≡ true
    → ((length lists == 1) && list_all (list_all is_built_command) lists) ≡ true
one_list [] one all = absurd (omega arith)
one_list (cs ∷ []) one all = and_from (list_all is_built_command cs) true (built_calls cs all) refl
one_list (cs ∷ ds ∷ lists) one all = absurd (omega arith)

assoc_and : (x y z : Bool) → x ≡ true → (y && z) ≡ true → ((x && y) && z) ≡ true
assoc_and x y z first rest = rw first rest

built_rounds : (rs : List Round) → HaveLists 1 rs → list_all is_built_line (lines_of_rounds rs) ≡ true → list_all is_built_round rs ≡ true
built_rounds [] lists all = refl
built_rounds (r ∷ rs) lists all =
    let parts = all_parts is_built_line (round_lines r) (lines_of_rounds rs) all in
    let inner = all_parts is_built_line (map line.Start r.lines) (map call_line (calls_from 0 r.commands)) parts.0 in
    let here : is_built_round r ≡ true = assoc_and (length r.lines == 0) (length r.commands == 1) (list_all (list_all is_built_command) r.commands) (no_starts r.lines inner.0) (one_list r.commands lists.0 inner.1) in
    and_from (is_built_round r) (list_all is_built_round rs) here (built_rounds rs lists.1 parts.1)

-- the numbers of a space that is built
pub built_numbers : (p : Profile) → is_built_space p ≡ true → IsForOne p
built_numbers p built =
    let both = and_parts (p.callers == 1) (p.zones == 1) built in
    record { callers = eqb-true p.callers 1 both.0; zones = eqb-true p.zones 1 both.1 }

-- each round of a trace that is built
pub rounds_built : (t : Trace) → IsBuilt t → IsTrue (list_all is_built_round t.rounds)
rounds_built t built = built_rounds t.rounds (subst (λ (n : ℕ). HaveLists n t.rounds) (built_numbers t.profile built.space).callers built.lists) built.lines
