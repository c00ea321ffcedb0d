-- Which commands can still come behind others, and that those of a trace can.
use Rattle.std.proofs.Common.{◌≡◌, ◌∙◌, ℕ, ◌+◌, ◌<◌, ◌≤◌, Bool, true, false, cond, List, [], ◌∷◌, ◌++◌, map, refl, ap, sym, subst, inl, inr, arith, append-nil, eq-eqb}
use Rattle.std.specs.Prelude.{count_by, nat_lt, ◌||◌, ◌&&◌}
use Rattle.std.specs.List.{flat_map, list_all}
use Rattle.std.specs.Str.{bytes_eq}
use Rattle.std.proofs.lemmas.Bool.{and_parts, and_from, cases_Bool, false≢true, ltb-true}
use Rattle.std.proofs.lemmas.List.Folds.{list_all-append}
use Rattle.std.proofs.lemmas.List.Sums.{sum_by-append, sum_by-cons}
use Rattle.mz_events.specs.Changes.{one_for}
use Rattle.mz_base.specs.declared.profile.Profile.{Profile}
use Rattle.mz_base.specs.Names.{is_base_name}
use Rattle.mz_words.specs.declared.name.Name.{Name}
use Rattle.mz_words.specs.declared.name.GivenName.{GivenName}
use Rattle.mz_words.specs.Kinds.{word_fits}
use Rattle.mz_words.specs.Names.{name_fits}
use Rattle.mz_lines.specs.declared.command.Command.{Command}
use Rattle.mz_lines.specs.declared.command.Command.TheVariants.{Give}
use Rattle.mz_lines.specs.declared.round_line.RoundLine.{RoundLine}
use Rattle.mz_lines.specs.declared.line.Line.TheVariants as line
use Rattle.mz_lines.specs.Commands.{command_fits}
use Rattle.mz_lines.specs.Lines.{command_gives, gives, line_fits}
use Rattle.mz_trace.specs.declared.round.Round.{Round}
use Rattle.mz_trace.specs.declared.trace.Trace.{Trace}
use Rattle.mz_trace.specs.declared.run.CallRecord.{CallRecord}
use Rattle.mz_trace.specs.declared.run.RunRound.{RunRound}
use Rattle.mz_trace.specs.RunTexts.{round_of}
use Rattle.mz_trace.specs.Rounds.{call_line, calls_from, round_lines, lines_of_rounds}
use Rattle.mz_trace.specs.Texts.{IsTrace}
use Rattle.mz_session.specs.Sessions.{SessionView, IsOpened, is_given}
use Rattle.mz_run.specs.Built.{IsBuilt}
use Rattle.mz_run.specs.Coming.{CanCome, commands_in, commands_in_rounds}
use Rattle.mz_run.specs.Turns.{Turn, Turns, RoundTurns}
use Rattle.mz_run.proofs.BuiltLemmas.{built_numbers}
use Rattle.mz_run.proofs.PassLemmas.{list_lines}
use Rattle.mz_run.proofs.RunIsLawful.{round_is}

-- how many commands give a block under a name, in parts

gifts-cons : (name : List ℕ) (c : Command) (cs : List Command) → count_by (command_gives name) (c ∷ cs) ≡ one_for (command_gives name c) + count_by (command_gives name) cs
gifts-cons name c cs = sum_by-cons (λ x. cond (command_gives name x) 1 0) c cs

gifts-append : (name : List ℕ) (xs ys : List Command) → count_by (command_gives name) (xs ++ ys) ≡ count_by (command_gives name) xs + count_by (command_gives name) ys
gifts-append name xs ys = sum_by-append (λ x. cond (command_gives name x) 1 0) xs ys

one_for_either : (t s g : Bool) → (t ≡ true → (s || g) ≡ true) → one_for t ≤ one_for s + one_for g
one_for_either false s g either = omega arith
one_for_either true true g either = omega arith
one_for_either true false true either = omega arith
one_for_either true false false either = absurd (false≢true (either refl))

one_for_less : (t s : Bool) → (t ≡ true → s ≡ true) → one_for t ≤ one_for s
one_for_less false s less = omega arith
one_for_less true s less = let is = ap one_for (less refl) in omega arith

-- under which names blocks were given, behind what commands do

turns_give : (s : SessionView) (ds : List CallRecord) (t : SessionView) → Turns s ds t → (name : List ℕ)
    → one_for (is_given t name) ≤ one_for (is_given s name) + count_by (command_gives name) (map (λ d. d.command) ds)
turns_give s [] t same name = let is = ap (λ x. one_for (is_given x name)) same in omega arith
turns_give s (d ∷ ds) t (u, turn, rest) name =
    let here = one_for_either (is_given u name) (is_given s name) (command_gives name d.command) (turn.served.given name) in
    let later = turns_give u ds t rest name in
    let parts = gifts-cons name d.command (map (λ x. x.command) ds) in
    omega arith

round_gives : (s : SessionView) (r : RunRound) (t : SessionView) → RoundTurns s r t → (name : List ℕ)
    → one_for (is_given t name) ≤ one_for (is_given s name) + count_by (command_gives name) (commands_in (round_of r))
round_gives s r t round name =
    let commands = map (λ (d : CallRecord). d.command) round.calls in
    let here = turns_give s round.calls round.served round.turns name in
    let later = one_for_less (is_given t name) (is_given round.served name) (round.delivers.given name) in
    let own : commands_in (round_of r) ≡ commands = ap (λ x. commands_in (round_of x)) (round_is s r t round) ∙ append-nil commands in
    let count = ap (count_by (command_gives name)) own in
    omega arith

-- which commands can come

pub come_first : (s : SessionView) (xs ys : List Command) → CanCome s (xs ++ ys) → CanCome s xs
come_first s xs ys can = record {
  each = (and_parts _ _ (sym (list_all-append (command_fits 1) xs ys) ∙ can.each)).0;
  given_once = λ name. let whole = can.given_once name in let parts = gifts-append name xs ys in omega arith;
}

come_behind : (s t : SessionView) (xs ys : List Command) → ((name : List ℕ) → one_for (is_given t name) ≤ one_for (is_given s name) + count_by (command_gives name) xs) → CanCome s (xs ++ ys) → CanCome t ys
come_behind s t xs ys given can = record {
  each = (and_parts _ _ (sym (list_all-append (command_fits 1) xs ys) ∙ can.each)).1;
  given_once = λ name. let whole = can.given_once name in let parts = gifts-append name xs ys in let now = given name in omega arith;
}

pub come_behind_turn : (s : SessionView) (d : CallRecord) (t : SessionView) (c : Command) (cs : List Command) → Turn s d t → d.command ≡ c → CanCome s (c ∷ cs) → CanCome t cs
come_behind_turn s d t c cs turn is can =
    come_behind s t (d.command ∷ []) cs (turns_give s (d ∷ []) t (t, turn, refl)) (subst (λ x. CanCome s (x ∷ cs)) (sym is) can)

pub come_behind_round : (s : SessionView) (r : RunRound) (t : SessionView) (q : Round) (rs : List Round) → RoundTurns s r t → round_of r ≡ q → CanCome s (commands_in q ++ commands_in_rounds rs) → CanCome t (commands_in_rounds rs)
come_behind_round s r t q rs round is can =
    come_behind s t (commands_in (round_of r)) (commands_in_rounds rs) (round_gives s r t round) (subst (λ x. CanCome s (commands_in x ++ commands_in_rounds rs)) (sym is) can)

-- A block can be given where such a command can come: to the one caller, and under a new name.

bytes-self : (bs : List ℕ) → bytes_eq bs bs ≡ true
bytes-self [] = refl
bytes-self (b ∷ bs) = and_from _ _ (eq-eqb b b refl) (bytes-self bs)

to_one : (name : Name) (to : ℕ) (given : GivenName) → command_fits 1 (Give name to given) ≡ true → to ≡ 0
unfolding word_fits
to_one name to given fits =
    let rest = (and_parts (name_fits name) (nat_lt to 1 && (is_base_name given.base && true)) fits).1 in
    let below : to < 1 = ltb-true to 1 (and_parts (nat_lt to 1) (is_base_name given.base && true) rest).0 in
    omega (arith, below)

pub give_to_one : (s : SessionView) (name : Name) (to : ℕ) (given : GivenName) → CanCome s (Give name to given ∷ []) → to ≡ 0
give_to_one s name to given can = to_one name to given (and_parts _ _ can.each).0

pub give_is_new : (s : SessionView) (name : Name) (to : ℕ) (given : GivenName) → CanCome s (Give name to given ∷ []) → is_given s given.base ≡ false
give_is_new s name to given can = elim (cases_Bool (is_given s given.base)) [
  | inl known ↦
      let one = ap one_for known in
      let other = ap one_for (bytes-self given.base) in
      let parts = gifts-cons given.base (Give name to given) [] in
      let whole = can.given_once given.base in
      absurd (omega arith)
  | inr new ↦ new
]

-- the commands of a trace, in the order of its lines

list_fits : (caller : ℕ) (cs : List Command) → list_all (line_fits 1) (map (line.Call caller) cs) ≡ true → list_all (command_fits 1) cs ≡ true
list_fits caller [] fit = refl
list_fits caller (c ∷ cs) fit =
    let parts = and_parts (line_fits 1 (line.Call caller c)) _ fit in
    and_from (command_fits 1 c) _ (and_parts _ _ parts.0).1 (list_fits caller cs parts.1)

lists_fit : (caller : ℕ) (lists : List (List Command)) → list_all (line_fits 1) (map call_line (calls_from caller lists)) ≡ true → list_all (command_fits 1) (flat_map (λ cs. cs) lists) ≡ true
lists_fit caller [] fit = refl
lists_fit caller (cs ∷ lists) fit =
    let parts = and_parts _ _ (sym (list_all-append (line_fits 1) (map (line.Call caller) cs) (map call_line (calls_from (caller + 1) lists))) ∙ (ap (list_all (line_fits 1)) (sym (list_lines caller cs lists)) ∙ fit)) in
    list_all-append (command_fits 1) cs (flat_map (λ cs. cs) lists) ∙ and_from _ _ (list_fits caller cs parts.0) (lists_fit (caller + 1) lists parts.1)

rounds_fit : (rs : List Round) → list_all (line_fits 1) (lines_of_rounds rs) ≡ true → list_all (command_fits 1) (commands_in_rounds rs) ≡ true
rounds_fit [] fit = refl
rounds_fit (r ∷ rs) fit =
    let parts = and_parts (list_all (line_fits 1) (round_lines r)) _ (sym (list_all-append (line_fits 1) (round_lines r) (lines_of_rounds rs)) ∙ fit) in
    let calls = and_parts _ _ (sym (list_all-append (line_fits 1) (map line.Start r.lines) (map call_line (calls_from 0 r.commands))) ∙ parts.0) in
    list_all-append (command_fits 1) (commands_in r) (commands_in_rounds rs) ∙ and_from _ _ (lists_fit 0 r.commands calls.1) (rounds_fit rs parts.1)

-- and how many of these give a block under a name

starts_give : (name : List ℕ) (xs : List RoundLine) → count_by (gives name) (map line.Start xs) ≡ 0
starts_give name [] = refl
starts_give name (x ∷ xs) = starts_give name xs

list_gives : (name : List ℕ) (caller : ℕ) (cs : List Command) → count_by (gives name) (map (line.Call caller) cs) ≡ count_by (command_gives name) cs
list_gives name caller [] = refl
list_gives name caller (c ∷ cs) =
    let parts = sum_by-cons (λ x. cond (gives name x) 1 0) (line.Call caller c) (map (line.Call caller) cs) in
    let rest = list_gives name caller cs in
    let whole = gifts-cons name c cs in
    omega arith

lists_give : (name : List ℕ) (caller : ℕ) (lists : List (List Command)) → count_by (gives name) (map call_line (calls_from caller lists)) ≡ count_by (command_gives name) (flat_map (λ cs. cs) lists)
lists_give name caller [] = refl
lists_give name caller (cs ∷ lists) =
    let first = list_gives name caller cs in
    let rest = lists_give name (caller + 1) lists in
    let lines = ap (count_by (gives name)) (list_lines caller cs lists) in
    let parts = sum_by-append (λ x. cond (gives name x) 1 0) (map (line.Call caller) cs) (map call_line (calls_from (caller + 1) lists)) in
    let whole = gifts-append name cs (flat_map (λ cs. cs) lists) in
    omega arith

pub rounds_give : (name : List ℕ) (rs : List Round) → count_by (gives name) (lines_of_rounds rs) ≡ count_by (command_gives name) (commands_in_rounds rs)
rounds_give name [] = refl
rounds_give name (r ∷ rs) =
    let starts = starts_give name r.lines in
    let calls = lists_give name 0 r.commands in
    let rest = rounds_give name rs in
    let parts = sum_by-append (λ x. cond (gives name x) 1 0) (round_lines r) (lines_of_rounds rs) in
    let inner = sum_by-append (λ x. cond (gives name x) 1 0) (map line.Start r.lines) (map call_line (calls_from 0 r.commands)) in
    let whole = gifts-append name (commands_in r) (commands_in_rounds rs) in
    omega arith

-- before the first command no block was given
none_given : (p : Profile) (s : SessionView) → IsOpened p s → (name : List ℕ) → is_given s name ≡ false
none_given p s opened name =
    ap (λ bs. is_given (record s { blocks = bs }) name) opened.blocks ∙ ap (λ gs. is_given (record s { blocks = []; parcels = gs }) name) opened.parcels

-- so all commands of a trace can come then
pub trace_comes : (t : Trace) (s : SessionView) → IsTrace t → IsBuilt t → IsOpened t.profile s → CanCome s (commands_in_rounds t.rounds)
trace_comes t s is_trace built opened =
    let one = (built_numbers t.profile built.space).callers in
    record {
      each = rounds_fit t.rounds (subst (λ (n : ℕ). list_all (line_fits n) (lines_of_rounds t.rounds) ≡ true) one is_trace.kept.each);
      given_once = λ name.
          let none = ap one_for (none_given t.profile s opened name) in
          let once = is_trace.kept.given_once name in
          let count = rounds_give name t.rounds in
          omega arith;
    }

-- the commands of a run are those of its trace
lists_told : (lists : List (List CallRecord)) → flat_map (λ calls. map (λ d. d.command) calls) lists ≡ flat_map (λ cs. cs) (map (λ calls. map (λ d. d.command) calls) lists)
lists_told [] = refl
lists_told (ds ∷ lists) = ap (λ cs. map (λ d. d.command) ds ++ cs) (lists_told lists)

pub commands_told : (rounds : List RunRound) → flat_map (λ round. flat_map (λ calls. map (λ d. d.command) calls) round.callers) rounds ≡ commands_in_rounds (map round_of rounds)
commands_told [] = refl
commands_told (r ∷ rs) = ap (λ cs. cs ++ flat_map (λ round. flat_map (λ calls. map (λ d. d.command) calls) round.callers) rs) (lists_told r.callers) ∙ ap (λ cs. commands_in (round_of r) ++ cs) (commands_told rs)
