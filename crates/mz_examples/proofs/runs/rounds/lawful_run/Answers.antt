use Rattle.std.proofs.Common.{◌≡◌, ℕ, arith, ap, length}
use Rattle.mz_trace.specs.declared.trace.Trace.{Trace}
use Rattle.mz_examples.proofs.RunTests.{size_answered}
use Rattle.mz_events.specs.State.{look_up, write}
use Rattle.mz_base.specs.Lists.{insert_by}
use Rattle.mz_events.specs.Room.{best_fit}
use Rattle.mz_events.specs.Effect.{write_all, after}
use Rattle.mz_events.specs.Rules.{keeps}
use Rattle.mz_events.specs.History.{after_all, by_ticket, first_breach}
use Rattle.mz_examples.proofs.runs.rounds.lawful_run.Goals as goal

pub returns-clause-answer : goal.returns-clause-answer
unfolding look_up write insert_by best_fit write_all after keeps after_all by_ticket first_breach
returns-clause-answer c = λ same. let sizes : ◌≡◌ {A = ℕ} 128 112 = ap size_answered same in omega (arith, sizes)

pub returns-clause-trace : goal.returns-clause-trace
unfolding look_up write insert_by best_fit write_all after keeps after_all by_ticket first_breach
returns-clause-trace c = λ run. let rounds : ◌≡◌ {A = ℕ} 2 1 = ap (λ (t : Trace). length t.rounds) run.trace in omega (arith, rounds)
