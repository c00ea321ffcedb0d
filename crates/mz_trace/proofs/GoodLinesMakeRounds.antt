-- Lines in their places make the rounds that are read from them.
use Rattle.std.proofs.Common.{◌≡◌, ℕ, true, false, List, [], ◌∷◌, ◌++◌, eqb, refl, append_assoc}
use Rattle.std.specs.List.{list_all}
use Rattle.std.proofs.lemmas.Bool.{and_parts, both_ways, or_parts, ltb-true}
use Rattle.std.proofs.lemmas.List.{append-nil}
use Rattle.mz_lines.specs.declared.line.Line.{Line}
use Rattle.mz_lines.specs.declared.line.Line.TheVariants.{Round as round, Start as start, Call as call}
use Rattle.mz_lines.specs.Lines.{line_fits}
use Rattle.mz_trace.specs.declared.reader.Reader.{Reader}
use Rattle.mz_trace.specs.Rounds.{IsRound, AreRounds, none, more}
use Rattle.mz_trace.specs.Readers.{added, is_misplaced, rounded, rounds_in}
use Rattle.mz_trace.proofs.LinesAreInPlace.{InPlace, all_added, some_begun}
use Rattle.mz_trace.proofs.RoundsGrow.{round_begins, round_starts, round_calls}

-- a round is open: the lines before it make the rounds before it, and the others make the round
pub record IsOpen (callers : ℕ) (r : Reader) (ls : List Line) : Type 0 where
  pub begun : eqb r.begun 0 ≡ false
  pub front : List Line
  pub back : List Line
  pub parts : ls ≡ front ++ back
  pub are : AreRounds callers front r.rounds
  pub is : IsRound callers back (rounded r.open)
  pub idle : r.calling ≡ false → is.calls ≡ []

pub data Stands (callers : ℕ) (r : Reader) (ls : List Line) : Type 0 where
  nothing : eqb r.begun 0 ≡ true → r.rounds ≡ [] → ls ≡ [] → Stands callers r ls
  opened : IsOpen callers r ls → Stands callers r ls

pub are_rounds : (callers : ℕ) (r : Reader) (ls : List Line) → Stands callers r ls → AreRounds callers ls (rounds_in r)
are_rounds callers r ls (nothing begun rs e) = rw (begun, rs, e) none
are_rounds callers r ls (opened o) = rw (o.begun, o.parts) (more o.front o.back r.rounds (rounded r.open) o.are o.is)

-- one more line
one_stands : (callers : ℕ) (x : Line) (r : Reader) (ls : List Line) → line_fits callers x ≡ true → is_misplaced r x ≡ false → Stands callers r ls → Stands callers (added callers x r) (ls ++ x ∷ [])
one_stands callers round r ls fit place s = opened (record {
  begun = some_begun r;
  front = ls;
  back = round ∷ [];
  parts = refl;
  are = are_rounds callers r ls s;
  is = round_begins callers;
  idle = λ h. refl;
})
one_stands callers (start y) r ls fit place (nothing begun rs e) = absurd (both_ways _ (or_parts _ _ place).0 begun)
one_stands callers (start y) r ls fit place (opened o) = opened (record {
  begun = o.begun;
  front = o.front;
  back = o.back ++ start y ∷ [];
  parts = rw o.parts (append_assoc o.front o.back (start y ∷ []));
  are = o.are;
  is = round_starts callers o.back r.open y o.is (o.idle (or_parts _ _ place).1);
  idle = λ h. refl;
})
one_stands callers (call c k) r ls fit place (nothing begun rs e) = absurd (both_ways _ place begun)
one_stands callers (call c k) r ls fit place (opened o) = opened (record {
  begun = o.begun;
  front = o.front;
  back = o.back ++ call c k ∷ [];
  parts = rw o.parts (append_assoc o.front o.back (call c k ∷ []));
  are = o.are;
  is = round_calls callers o.back r.open c k (ltb-true _ _ (and_parts _ _ fit).0) o.is;
  idle = λ h. absurd (both_ways true h refl);
})

pub all_stand : (callers : ℕ) (xs : List Line) (r : Reader) (ls : List Line) → list_all (line_fits callers) xs ≡ true → InPlace callers r xs → Stands callers r ls → Stands callers (all_added callers r xs) (ls ++ xs)
all_stand callers [] r ls fit place s = rw (append-nil ls) s
all_stand callers (x ∷ xs) r ls fit place s =
    let both = and_parts (line_fits callers x) (list_all (line_fits callers) xs) fit in
    rw append_assoc at (all_stand callers xs (added callers x r) (ls ++ x ∷ []) both.1 place.1 (one_stands callers x r ls both.0 place.0 s))
