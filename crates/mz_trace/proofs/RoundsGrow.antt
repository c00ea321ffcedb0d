-- The rounds that lines make, with one more line behind them.
use Rattle.std.proofs.Common.{◌≡◌, ℕ, zero, suc, ◌+◌, ◌<◌, Bool, true, false, List, [], ◌∷◌, ◌++◌, map, length, eqb, cond, arith, refl, sym, ap, ◌∙◌, append_assoc}
use Rattle.std.specs.Prelude.{replicate, slice_set, slice_index_or}
use Rattle.std.proofs.lemmas.List.{append-nil, map-append}
use Rattle.std.proofs.lemmas.Bool.{ne_eqb, eq-eqb}
use Rattle.mz_lines.specs.declared.command.Command.{Command}
use Rattle.mz_lines.specs.declared.round_line.RoundLine.{RoundLine}
use Rattle.mz_trace.specs.declared.open_round.OpenRound.{OpenRound}
use Rattle.mz_lines.specs.declared.line.Line.{Line}
use Rattle.mz_trace.specs.Rounds.{Call, call_line, commands_by, lists_from, IsRound}
use Rattle.mz_trace.specs.Readers.{blank, rounded, with_start, with_call}
use Rattle.mz_lines.specs.declared.line.Line.TheVariants.{Round as round, Start as start, Call as call}

-- no commands
pub lists_from-nil : (first n : ℕ) → lists_from first n [] ≡ replicate n []
lists_from-nil first zero = refl
lists_from-nil first (suc n) = ap (λ (x : List (List Command)). [] ∷ x) (lists_from-nil (first + 1) n)

pub length-lists_from : (first n : ℕ) (cs : List Call) → length (lists_from first n cs) ≡ n
length-lists_from first zero cs = refl
length-lists_from first (suc n) cs = ap suc (length-lists_from (first + 1) n cs)

-- one more command, behind the others
commands_by-push : (caller c : ℕ) (k : Command) (cs : List Call) → commands_by caller (cs ++ (c, k) ∷ []) ≡ commands_by caller cs ++ cond (eqb c caller) (k ∷ []) []
commands_by-push caller c k [] = refl
commands_by-push caller c k (d ∷ cs) = pushed (eqb d.0 caller) (commands_by-push caller c k cs) where
  pushed : (b : Bool) → commands_by caller (cs ++ (c, k) ∷ []) ≡ commands_by caller cs ++ cond (eqb c caller) (k ∷ []) []
      → cond b (d.1 ∷ commands_by caller (cs ++ (c, k) ∷ [])) (commands_by caller (cs ++ (c, k) ∷ [])) ≡ cond b (d.1 ∷ commands_by caller cs) (commands_by caller cs) ++ cond (eqb c caller) (k ∷ []) []
  pushed true e = ap (λ (x : List Command). d.1 ∷ x) e
  pushed false e = e

others : (caller c : ℕ) (k : Command) (cs : List Call) → (c ≡ caller → ⊥) → commands_by caller (cs ++ (c, k) ∷ []) ≡ commands_by caller cs
others caller c k cs other = commands_by-push caller c k cs ∙ rw (ne_eqb c caller other) (append-nil (commands_by caller cs))

own : (caller : ℕ) (k : Command) (cs : List Call) → commands_by caller (cs ++ (caller, k) ∷ []) ≡ commands_by caller cs ++ k ∷ []
own caller k cs = commands_by-push caller caller k cs ∙ rw (eq-eqb caller caller refl) refl

all_others : (first n c : ℕ) (k : Command) (cs : List Call) → c < first → lists_from first n (cs ++ (c, k) ∷ []) ≡ lists_from first n cs
all_others first zero c k cs lt = refl
all_others first (suc n) c k cs lt = rw (others first c k cs (λ e. absurd (omega arith)), all_others (first + 1) n c k cs (omega arith)) refl

lists_from-push :
    (first n i : ℕ) (k : Command) (cs : List Call) → i < n
    → lists_from first n (cs ++ (first + i, k) ∷ []) ≡ slice_set (lists_from first n cs) i (slice_index_or (lists_from first n cs) i [] ++ k ∷ [])
lists_from-push first zero i k cs lt = absurd (omega arith)
lists_from-push first (suc n) zero k cs lt =
    let e : first + 0 ≡ first = omega arith in
    rw e (rw (own first k cs, all_others (first + 1) n first k cs (omega arith)) refl)
lists_from-push first (suc n) (suc i) k cs lt =
    let e : first + suc i ≡ first + 1 + i = omega arith in
    rw e (rw (others first (first + 1 + i) k cs (λ h. absurd (omega arith)), lists_from-push (first + 1) n i k cs (omega arith)) refl)

pub pushed : (callers c : ℕ) (k : Command) (cs : List Call) → c < callers
    → lists_from 0 callers (cs ++ (c, k) ∷ []) ≡ slice_set (lists_from 0 callers cs) c (slice_index_or (lists_from 0 callers cs) c [] ++ k ∷ [])
pushed callers c k cs lt = let e : 0 + c ≡ c = omega arith in rw e at (lists_from-push 0 callers c k cs lt)

-- a round that begins, with a line at its start, with a command
abbrev pub round_begins : (callers : ℕ) → IsRound callers (round ∷ []) (rounded (blank callers))
round_begins callers = record { calls = []; parts = refl; lists = sym (lists_from-nil 0 callers) }

abbrev pub round_starts : (callers : ℕ) (ls : List Line) (r : OpenRound) (x : RoundLine) (h : IsRound callers ls (rounded r)) → h.calls ≡ [] → IsRound callers (ls ++ start x ∷ []) (rounded (with_start x r))
round_starts callers ls r x h idle = record {
  calls = [];
  parts = rw (h.parts, idle) (rw (append-nil (map start r.lines), map-append start r.lines (x ∷ [])) (ap (λ (t : List Line). round ∷ t) (sym (append-nil (map start r.lines ++ start x ∷ [])))));
  lists = rw idle at h.lists;
}

pub round_calls : (callers : ℕ) (ls : List Line) (r : OpenRound) (c : ℕ) (k : Command) → c < callers → IsRound callers ls (rounded r) → IsRound callers (ls ++ call c k ∷ []) (rounded (with_call c k r))
round_calls callers ls r c k lt h = record {
  calls = h.calls ++ (c, k) ∷ [];
  parts = rw h.parts (ap (λ (t : List Line). round ∷ t) (append_assoc (map start r.lines) (map call_line h.calls) (call c k ∷ []) ∙ ap (λ (t : List Line). map start r.lines ++ t) (sym (map-append call_line h.calls ((c, k) ∷ [])))));
  lists = rw (h.lists, pushed callers c k h.calls lt) refl;
}
