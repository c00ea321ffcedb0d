-- What makes a turn, and how turns follow one another.
use Rattle.std.proofs.Common.{◌≡◌, ℕ, ◌+◌, ◌-◌, ◌<◌, arith, length-append, true, List, [], ◌∷◌, ◌++◌, length, map, take, drop, get_or, refl, ap, sym, subst, ◌∙◌}
use Rattle.std.specs.Prelude.{IsTrue}
use Rattle.std.proofs.Math.Seq.{drop-append_seam}
use Rattle.std.proofs.lemmas.List.{map-append, take_more, take_all}
use Rattle.mz_events.specs.declared.entry.Entry.{Entry}
use Rattle.mz_lines.specs.declared.answer.Answer.{Answer}
use Rattle.mz_lines.specs.declared.command.Command.{Command}
use Rattle.mz_trace.specs.declared.run.RunEntry.{RunEntry}
use Rattle.mz_trace.specs.declared.run.CallRecord.{CallRecord}
use Rattle.mz_trace.specs.declared.run.RunRound.{RunRound}
use Rattle.mz_session.specs.Sessions.{SessionView}
use Rattle.mz_session.specs.Serving.{Serves}
use Rattle.mz_run.specs.Built.{is_built_command}
use Rattle.mz_run.specs.Turns.{is_told, step_of, Turn, Turns, RoundTurns, RoundsTurn}

-- a command that was served, with what is told of it
pub turn_made : (s t : SessionView) (command : Command) (a b : Answer) (steps : List RunEntry) → IsTrue (is_built_command command) → a ≡ b → (served : Serves s command b t) → steps ≡ map step_of served.entries
    → is_told (record { command = command; steps = steps; answer = a }) ≡ true → Turn s (record { command = command; steps = steps; answer = a }) t
turn_made s t command a b steps built same served are told =
    let made : is_told (record { command = command; steps = steps; answer = b }) ≡ true → Turn s (record { command = command; steps = steps; answer = b }) t =
    λ fits. record { built = built; told = fits; served = served; steps = are } in
    subst (λ x. is_told (record { command = command; steps = steps; answer = x }) ≡ true → Turn s (record { command = command; steps = steps; answer = x }) t) (sym same) made told

-- some turns, and then one more
pub Turns-push : (v : SessionView) (ds : List CallRecord) (d : CallRecord) (u w : SessionView) → Turns v ds u → Turn u d w → Turns v (ds ++ d ∷ []) w
Turns-push v [] d u w h k = (w, subst (λ (s : SessionView). Turn s d w) (sym h) k, refl)
Turns-push v (e ∷ es) d u w h k = (h.0, h.1, Turns-push h.0 es d u w h.2 k)

-- some rounds, and then one more
pub RoundsTurn-push : (v : SessionView) (rs : List RunRound) (r : RunRound) (u w : SessionView) → RoundsTurn v rs u → RoundTurns u r w → RoundsTurn v (rs ++ r ∷ []) w
RoundsTurn-push v [] r u w h k = (w, subst (λ (s : SessionView). RoundTurns s r w) (sym h) k, refl)
RoundsTurn-push v (q ∷ qs) r u w h k = (h.0, h.1, RoundsTurn-push h.0 qs r u w h.2 k)

-- what is told of the first of some commands, and of one more
pub told-more :
    {D C : Type 0} (f : D → C) (ds : List D) (d : D) (cs : List C) (i : ℕ) (c : C) → i < length cs → c ≡ get_or cs i c
    → map f ds ≡ take i cs → f d ≡ c → map f (ds ++ d ∷ []) ≡ take (i + 1) cs
told-more f ds d cs i c within at before own =
    map-append f ds (d ∷ []) ∙ ap (λ l. l ++ f d ∷ []) before ∙ ap (λ x. take i cs ++ x ∷ []) (own ∙ at) ∙ sym (take_more cs i c within)

-- the entries behind those from before
pub behind : (old now es : List Entry) (n : ℕ) → n ≡ length old → now ≡ old ++ es → take (length now - n) (drop n now) ≡ es
behind old now es n count is =
    let rest : drop n now ≡ es = ap (λ k. drop k now) count ∙ (ap (λ l. drop (length old) l) is ∙ drop-append_seam old es) in
    let left = ap length rest in
    let all = ap length is ∙ length-append old es in
    take_all (length now - n) (drop n now) (omega (arith, left, all, count)) ∙ rest
