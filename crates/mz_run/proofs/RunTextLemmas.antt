-- A run that turns made is one that has a text: its commands are those of the trace, and what is told has numbers that a line can have.
use Rattle.std.proofs.Common.{◌≡◌, true, List, [], ◌∷◌, ◌++◌, map, length, refl, ap, sym, subst, ◌∙◌, arith}
use Rattle.std.specs.Prelude.{count_by}
use Rattle.std.specs.List.{flat_map, list_all}
use Rattle.std.proofs.lemmas.Bool.{and_parts, and_from}
use Rattle.std.proofs.lemmas.List.{length-map}
use Rattle.std.proofs.lemmas.List.Folds.{list_all-append}
use Rattle.mz_base.specs.Space.{Block}
use Rattle.mz_events.specs.Places.{Spot, place_of}
use Rattle.mz_events.specs.declared.place.Place.{Place}
use Rattle.mz_events.specs.declared.place.Place.TheVariants.{Pages, Tiny, TinyDepot, Small, SmallDepot, Large, Nano}
use Rattle.mz_events.specs.State.{State}
use Rattle.mz_record.specs.Listing.{range_of, blocks_by_address}
use Rattle.mz_lawful.specs.Standing.{Standing}
use Rattle.mz_lawful.specs.Tail.{listed, listing_of}
use Rattle.mz_trace.specs.declared.run.CallRecord.{CallRecord}
use Rattle.mz_trace.specs.declared.run.RunRound.{RunRound}
use Rattle.mz_trace.specs.declared.trace.Trace.{Trace}
use Rattle.mz_words.specs.Ranges.{is_listed_range}
use Rattle.mz_lines.specs.Commands.{command_fits}
use Rattle.mz_lines.specs.Lines.{command_gives, line_fits}
use Rattle.mz_trace.specs.Rounds.{call_line, round_lines, lines_of_rounds}
use Rattle.mz_trace.specs.RunTexts.{round_of}
use Rattle.mz_trace.specs.RunForms.{entry_fits, call_record_fits, round_fits, IsRun}
use Rattle.mz_lines.specs.Answers.{answer_fits}
use Rattle.mz_trace.specs.Texts.{IsTrace}
use Rattle.mz_session.specs.Sessions.{SessionView}
use Rattle.mz_run.specs.Built.{IsBuilt}
use Rattle.mz_run.specs.Coming.{commands_in_rounds}
use Rattle.mz_run.specs.Turns.{is_told, Turns, RoundsTurn}
use Rattle.mz_run.proofs.BuiltLemmas.{built_numbers}
use Rattle.mz_run.proofs.ComingLemmas.{rounds_give, commands_told}
use Rattle.mz_run.proofs.RunIsLawful.{round_with, round_is}

-- all records of the rounds
abbrev joined : List (List CallRecord) → List CallRecord
joined lists = flat_map (λ records. records) lists

turns_told : (v : SessionView) (ds : List CallRecord) (u : SessionView) → Turns v ds u → list_all is_told ds ≡ true
turns_told v [] u same = refl
turns_told v (d ∷ ds) u (w, turn, rest) = and_from (is_told d) (list_all is_told ds) turn.told (turns_told w ds u rest)

-- rounds that turns made, by their records
record Shape (rounds : List RunRound) : Type 0 where
  pub lists : List (List CallRecord)
  pub rounds_are : rounds ≡ map round_with lists
  pub tells : list_all is_told (joined lists) ≡ true

shape : (v : SessionView) (rounds : List RunRound) (u : SessionView) → RoundsTurn v rounds u → Shape rounds
shape v [] u same = record { lists = []; rounds_are = refl; tells = refl }
shape v (r ∷ rs) u (w, here, rest) =
    let later = shape w rs u rest in
    record {
      lists = here.calls ∷ later.lists;
      rounds_are = ap (λ x. x ∷ rs) (round_is v r w here) ∙ ap (λ xs. round_with here.calls ∷ xs) later.rounds_are;
      tells = list_all-append is_told here.calls (joined later.lists) ∙ and_from _ _ (turns_told v here.calls here.served here.turns) later.tells;
    }

-- the commands of a round, as lines
commands_fit : (ds : List CallRecord) → list_all (line_fits 1) (map call_line (map (λ c. (0, c)) (map (λ d. d.command) ds) ++ [])) ≡ true → list_all (λ d. command_fits 1 d.command) ds ≡ true
commands_fit [] h = refl
commands_fit (d ∷ ds) h =
    let parts = and_parts (line_fits 1 (call_line (0, d.command))) _ h in
    and_from (command_fits 1 d.command) (list_all (λ x. command_fits 1 x.command) ds) parts.0 (commands_fit ds parts.1)

record_fits : (ds : List CallRecord) → list_all (λ d. command_fits 1 d.command) ds ≡ true → list_all is_told ds ≡ true → list_all (call_record_fits 1) ds ≡ true
record_fits [] commands tells = refl
record_fits (d ∷ ds) commands tells =
    let c = and_parts (command_fits 1 d.command) (list_all (λ x. command_fits 1 x.command) ds) commands in
    let t = and_parts (is_told d) (list_all is_told ds) tells in
    let parts = and_parts (list_all entry_fits d.steps) (answer_fits d.answer) t.0 in
    and_from (call_record_fits 1 d) (list_all (call_record_fits 1) ds) (and_from _ _ (and_from _ _ c.0 parts.0) parts.1) (record_fits ds c.1 t.1)

rounds_fit : (lists : List (List CallRecord)) → list_all (line_fits 1) (lines_of_rounds (map round_of (map round_with lists))) ≡ true → list_all is_told (joined lists) ≡ true
    → list_all (round_fits 1) (map round_with lists) ≡ true
rounds_fit [] lines tells = refl
rounds_fit (ds ∷ lists) lines tells =
    let r = round_of (round_with ds) in
    let parts = and_parts (list_all (line_fits 1) (round_lines r)) _ (sym (list_all-append (line_fits 1) (round_lines r) (lines_of_rounds (map round_of (map round_with lists)))) ∙ lines) in
    let tell = and_parts (list_all is_told ds) (list_all is_told (joined lists)) (sym (list_all-append is_told ds (joined lists)) ∙ tells) in
    let calls = record_fits ds (commands_fit ds parts.0) tell.0 in
    and_from (round_fits 1 (round_with ds)) (list_all (round_fits 1) (map round_with lists)) (rw calls refl) (rounds_fit lists parts.1 tell.1)

-- the run
module _ (t : Trace) (is_trace : IsTrace t) (built : IsBuilt t) where
  run_with_text : (lists : List (List CallRecord)) → map round_of (map round_with lists) ≡ t.rounds → list_all is_told (joined lists) ≡ true
      → IsRun (record { profile = t.profile; rounds = map round_with lists })
  run_with_text lists told_as_trace tells =
      let one : t.profile.callers ≡ 1 = (built_numbers t.profile built.space).callers in
      let lines : list_all (line_fits 1) (lines_of_rounds (map round_of (map round_with lists))) ≡ true =
      ap (λ rs. list_all (line_fits 1) (lines_of_rounds rs)) told_as_trace ∙ ap (λ n. list_all (line_fits n) (lines_of_rounds t.rounds)) (sym one) ∙ is_trace.kept.each in
      let each = rounds_fit lists lines tells in
      let count : length (map round_with lists) ≡ length t.rounds = sym (length-map (map round_with lists) round_of) ∙ ap length told_as_trace in
      let few = is_trace.few in
      record {
        limits = is_trace.kept.limits;
        each = ap (λ n. list_all (round_fits n) (map round_with lists)) one ∙ each;
        given_once = λ base.
            let once = is_trace.kept.given_once base in
            let told = ap (count_by (command_gives base)) (commands_told (map round_with lists) ∙ ap commands_in_rounds told_as_trace) in
            let count = rounds_give base t.rounds in
            omega arith;
        few = omega (arith, count, few);
      }

  pub run_has_text : (rounds : List RunRound) (v u : SessionView) → RoundsTurn v rounds u → map round_of rounds ≡ t.rounds → IsRun (record { profile = t.profile; rounds = rounds })
  run_has_text rounds v u turns told_as_trace =
      let s = shape v rounds u turns in
      let run = run_with_text s.lists (ap (map round_of) (sym s.rounds_are) ∙ told_as_trace) s.tells in
      subst (λ (x : List RunRound). IsRun (record { profile = t.profile; rounds = x })) (sym s.rounds_are) run

-- what is listed has ranges that can be listed

listed_place : (k : Place) → is_listed_range (range_of k) ≡ true
listed_place Pages = refl
listed_place (Tiny z m) = refl
listed_place (TinyDepot z) = refl
listed_place (Small z m) = refl
listed_place (SmallDepot z) = refl
listed_place (Large z) = refl
listed_place Nano = refl

ranges_of : (v : Standing) (xs : List (Spot × Block)) → list_all (λ l. is_listed_range l.range) (map (listed v) xs) ≡ true
ranges_of v [] = refl
ranges_of v (x ∷ xs) = and_from _ _ (listed_place (place_of x.0)) (ranges_of v xs)

pub ranges_are_listed : (v : Standing) (s : State) → list_all (λ l. is_listed_range l.range) (listing_of v s) ≡ true
ranges_are_listed v s = ranges_of v (blocks_by_address s)
