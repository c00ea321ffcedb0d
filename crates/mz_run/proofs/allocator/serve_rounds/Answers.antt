use Rattle.std.proofs.Common.{◌+◌, List, ◌∷◌, ap, sym, subst, ◌∙◌, map, drop}
use Rattle.std.proofs.lemmas.List.{drop_more}
use Rattle.mz_trace.specs.declared.run.RunRound.{RunRound}
use Rattle.mz_trace.specs.RunTexts.{round_of}
use Rattle.mz_run.specs.Coming.{CanCome, commands_in, commands_in_rounds}
use Rattle.mz_run.specs.Turns.{RoundsTurn}
use Rattle.mz_run.proofs.ComingLemmas.{come_first, come_behind_round}
use Rattle.mz_run.proofs.TurnLemmas.{RoundsTurn-push, told-more}
use Rattle.mz_run.proofs.allocator.serve_rounds.Goals as goal

pub serve_round-requires-clause-can : goal.serve_round-requires-clause-can
serve_round-requires-clause-can g c κs within =
    let rs = c.args.rounds.now in
    let i = c.loop-round.round-index in
    let round = c.round-item.result in
    come_first c.loop-round.session (commands_in round) (commands_in_rounds (drop (i + 1) rs))
    (subst (λ l. CanCome c.loop-round.session (commands_in_rounds l)) (drop_more rs i round c.loop-round-test.true ∙ ap (λ x. x ∷ drop (i + 1) rs) (sym c.round-item.is)) c.loop-round.invariant.can)

pub loop-round-preserved : goal.loop-round-preserved
loop-round-preserved g c = record {
  turns = subst (λ (l : List RunRound). RoundsTurn c.args.session.now l c.serve_round.new.session) (sym c.in_ok-push.ensures.items)
      (RoundsTurn-push c.args.session.now c.loop-round.served.items c.in_ok-outcome.outcome c.loop-round.session c.serve_round.new.session c.loop-round.invariant.turns c.in_ok-outcome.ensures.turns);
  kept = c.in_ok-outcome.ensures.kept;
  can = let rs = c.args.rounds.now in
      let i = c.loop-round.round-index in
      let round = c.round-item.result in
      come_behind_round c.loop-round.session c.in_ok-outcome.outcome c.serve_round.new.session round (drop (i + 1) rs) c.in_ok-outcome.ensures.turns c.in_ok-outcome.ensures.round
      (subst (λ l. CanCome c.loop-round.session (commands_in_rounds l)) (drop_more rs i round c.loop-round-test.true ∙ ap (λ x. x ∷ drop (i + 1) rs) (sym c.round-item.is)) c.loop-round.invariant.can);
  rounds = ap (λ l. map round_of l) c.in_ok-push.ensures.items
      ∙ told-more (λ (r : RunRound). round_of r) c.loop-round.served.items c.in_ok-outcome.outcome c.args.rounds.now c.loop-round.round-index c.round-item.result
      c.loop-round-test.true c.round-item.is c.loop-round.invariant.rounds c.in_ok-outcome.ensures.round;
}
