-- Lines one after the other, and that lines which make rounds are in their places and make those rounds.
use Rattle.std.proofs.Common.{◌≡◌, ℕ, ◌+◌, ◌<◌, ◌≤◌, true, false, List, [], ◌∷◌, ◌++◌, map, length, eqb, ltb, arith, refl, sym, ap, ◌∙◌, append_assoc, length-append}
use Rattle.std.proofs.Math.ListN.{length-set}
use Rattle.std.specs.List.{list_all}
use Rattle.std.proofs.lemmas.Bool.{and_parts, or_parts, lt-leb, leb-false, ltb-true, ne_eqb}
use Rattle.std.proofs.lemmas.List.{append-nil, length-replicate}
use Rattle.std.proofs.lemmas.List.Folds.{list_all-append}
use Rattle.mz_lines.specs.declared.command.Command.{Command}
use Rattle.mz_lines.specs.declared.round_line.RoundLine.{RoundLine}
use Rattle.mz_lines.specs.declared.line.Line.{Line}
use Rattle.mz_lines.specs.declared.line.Line.TheVariants.{Round as round, Start as start, Call as call}
use Rattle.mz_lines.specs.Lines.{line_fits}
use Rattle.mz_trace.specs.declared.round.Round.{Round}
use Rattle.mz_trace.specs.declared.reader.Reader.{Reader}
use Rattle.mz_trace.specs.Rounds.{Call, call_line, lists_from, IsRound, AreRounds, none, more}
use Rattle.mz_trace.specs.Readers.{added, blank, fresh, is_misplaced, rounded, rounds_in}
use Rattle.mz_trace.proofs.RoundsGrow.{lists_from-nil, pushed}

-- what is kept of lines
abbrev pub all_added : ℕ → Reader → List Line → Reader
all_added callers r [] = r
all_added callers r (x ∷ xs) = all_added callers (added callers x r) xs

all_added-append : (callers : ℕ) (r : Reader) (xs ys : List Line) → all_added callers r (xs ++ ys) ≡ all_added callers (all_added callers r xs) ys
all_added-append callers r [] ys = refl
all_added-append callers r (x ∷ xs) ys = all_added-append callers (added callers x r) xs ys

-- each line stands in its place
abbrev pub InPlace : ℕ → Reader → List Line → Type 0
InPlace callers r [] = Unit {0}
InPlace callers r (x ∷ xs) = (is_misplaced r x ≡ false) × InPlace callers (added callers x r) xs

in_place-append : (callers : ℕ) (r : Reader) (xs ys : List Line) → InPlace callers r xs → InPlace callers (all_added callers r xs) ys → InPlace callers r (xs ++ ys)
in_place-append callers r [] ys p q = q
in_place-append callers r (x ∷ xs) ys p q = (p.0, in_place-append callers (added callers x r) xs ys p.1 q)

-- a round was begun, and each caller has a list
pub some_begun : (r : Reader) → eqb (r.begun + 1) 0 ≡ false
some_begun r = ne_eqb (r.begun + 1) 0 (λ e. absurd (omega (arith, e)))

pub lists_added : (callers : ℕ) (x : Line) (r : Reader) → length r.open.commands ≡ callers → length (added callers x r).open.commands ≡ callers
lists_added callers round r e = length-replicate callers []
lists_added callers (start y) r e = e
lists_added callers (call c k) r e = simp length-set e

-- the rounds are counted
pub record IsCounted (r : Reader) : Type 0 where
  pub count : length (rounds_in r) ≡ r.begun
  pub few : r.begun ≤ 4096

same_count : (rs : List Round) (a b : Round) → length (rs ++ a ∷ []) ≡ length (rs ++ b ∷ [])
same_count rs a b = length-append rs (a ∷ []) ∙ sym (length-append rs (b ∷ []))

one_counted : (callers : ℕ) (x : Line) (r : Reader) → is_misplaced r x ≡ false → IsCounted r → IsCounted (added callers x r)
one_counted callers round r place h =
    let l = length-append (rounds_in r) (rounded (blank callers) ∷ []) in
    let c = h.count in
    record { count = rw (some_begun r) (omega (arith, l, c)); few = let below = leb-false 4096 r.begun place in omega (arith, below) }
one_counted callers (start y) r place h =
    let some : eqb r.begun 0 ≡ false = (or_parts _ _ place).0 in
    record { count = rw some (same_count r.rounds _ (rounded r.open) ∙ rw some at h.count); few = h.few }
one_counted callers (call c k) r place h = record { count = rw place (same_count r.rounds _ (rounded r.open) ∙ rw place at h.count); few = h.few }

pub all_counted : (callers : ℕ) (xs : List Line) (r : Reader) → InPlace callers r xs → IsCounted r → IsCounted (all_added callers r xs)
all_counted callers [] r place h = h
all_counted callers (x ∷ xs) r place h = all_counted callers xs (added callers x r) place.1 (one_counted callers x r place.0 h)

-- lines at the start of a round, and commands
abbrev with_lines : Reader → List RoundLine → Reader
with_lines r lines = record r { «open» = record { lines = lines; commands = r.open.commands } }

starts_go : (callers : ℕ) (ss : List RoundLine) (r : Reader) → r.calling ≡ false → eqb r.begun 0 ≡ false
    → InPlace callers r (map start ss) × (all_added callers r (map start ss) ≡ with_lines r (r.open.lines ++ ss))
starts_go callers [] r quiet some = (tt, ap (with_lines r) (sym (append-nil r.open.lines)))
starts_go callers (s ∷ ss) r quiet some =
    let rest = starts_go callers ss (added callers (start s) r) quiet some in
    ((rw (some, quiet) refl, rest.0), rest.1 ∙ ap (with_lines r) (append_assoc r.open.lines (s ∷ []) ss))

abbrev behind : Reader → List (List Command) → List Round
behind r lists = let last : Round = record { lines = r.open.lines; commands = lists } in r.rounds ++ last ∷ []

calls_go : (callers : ℕ) (ks done : List Call) (r : Reader) → list_all (line_fits callers) (map call_line ks) ≡ true → eqb r.begun 0 ≡ false → r.open.commands ≡ lists_from 0 callers done
    → InPlace callers r (map call_line ks) × (rounds_in (all_added callers r (map call_line ks)) ≡ behind r (lists_from 0 callers (done ++ ks)))
calls_go callers [] done r fit some lists = (tt, rw (some, append-nil done) (ap (behind r) lists))
calls_go callers (k ∷ ks) done r fit some lists =
    let both = and_parts (line_fits callers (call_line k)) (list_all (line_fits callers) (map call_line ks)) fit in
    let below : k.0 < callers = ltb-true k.0 callers (and_parts (ltb k.0 callers) _ both.0).0 in
    let rest = calls_go callers ks (done ++ k ∷ []) (added callers (call_line k) r) both.1 some (rw lists (sym (pushed callers k.0 k.1 done below))) in
    ((some, rest.0), rest.1 ∙ ap (λ (cs : List Call). behind r (lists_from 0 callers cs)) (append_assoc done (k ∷ []) ks))

-- a round, and rounds
round_goes : (callers : ℕ) (r : Reader) (ls : List Line) (w : Round) → list_all (line_fits callers) ls ≡ true → IsRound callers ls w → r.begun < 4096
    → InPlace callers r ls × (rounds_in (all_added callers r ls) ≡ rounds_in r ++ w ∷ [])
round_goes callers r ls w e h lt =
    let fit : list_all (line_fits callers) (map start w.lines ++ map call_line h.calls) ≡ true = rw h.parts at e in
    let both = and_parts _ _ (sym (list_all-append (line_fits callers) (map start w.lines) (map call_line h.calls)) ∙ fit) in
    let first = added callers round r in
    let some = some_begun r in
    let s = starts_go callers w.lines first refl some in
    let k = calls_go callers h.calls [] (with_lines first w.lines) both.1 some (sym (lists_from-nil 0 callers)) in
    rw h.parts (
      (lt-leb 4096 r.begun lt, in_place-append callers first (map start w.lines) (map call_line h.calls) s.0 (rw s.1 k.0)),
      ap rounds_in (all_added-append callers first (map start w.lines) (map call_line h.calls)) ∙ rw s.1 (k.1 ∙ ap (behind (with_lines first w.lines)) (sym h.lists)),
    )

pub rounds_go : (callers : ℕ) (ls : List Line) (rs : List Round) → list_all (line_fits callers) ls ≡ true → AreRounds callers ls rs → length rs ≤ 4096
    → InPlace callers (fresh callers) ls × (rounds_in (all_added callers (fresh callers) ls) ≡ rs)
rounds_go callers ls rs fit none le = (tt, refl)
rounds_go callers ls rs fit (more front back before w are is) le =
    let both = and_parts _ _ (sym (list_all-append (line_fits callers) front back) ∙ fit) in
    let l = length-append before (w ∷ []) in
    let earlier = rounds_go callers front before both.0 are (omega (arith, l, le)) in
    let reached = all_added callers (fresh callers) front in
    let count : length before ≡ reached.begun = rw earlier.1 at (all_counted callers front (fresh callers) earlier.0 (record { count = refl; few = omega arith })).count in
    let last = round_goes callers reached back w both.1 is (omega (arith, count, l, le)) in (
      in_place-append callers (fresh callers) front back earlier.0 last.0,
      ap rounds_in (all_added-append callers (fresh callers) front back) ∙ last.1 ∙ ap (λ (x : List Round). x ++ w ∷ []) earlier.1,
    )
