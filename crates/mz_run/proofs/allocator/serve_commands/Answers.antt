use Rattle.std.proofs.Common.{◌+◌, List, [], ◌∷◌, ap, sym, subst, ◌∙◌, map, drop}
use Rattle.std.proofs.lemmas.List.{drop_more}
use Rattle.mz_trace.specs.declared.run.CallRecord.{CallRecord}
use Rattle.mz_run.specs.Coming.{CanCome}
use Rattle.mz_run.specs.Turns.{Turns}
use Rattle.mz_run.proofs.ComingLemmas.{come_first, come_behind_turn}
use Rattle.mz_run.proofs.TurnLemmas.{Turns-push, told-more}
use Rattle.mz_run.proofs.allocator.serve_commands.Goals as goal

pub serve_command-requires-clause-can : goal.serve_command-requires-clause-can
serve_command-requires-clause-can g c =
    let cs = c.args.commands.now in
    let i = c.loop-index.index in
    let command = c.index-commands-index.result in
    come_first c.loop-index.session (command ∷ []) (drop (i + 1) cs)
    (subst (CanCome c.loop-index.session) (drop_more cs i command c.loop-index-test.true ∙ ap (λ x. x ∷ drop (i + 1) cs) (sym c.index-commands-index.is)) c.loop-index.invariant.can)

pub loop-index-preserved : goal.loop-index-preserved
loop-index-preserved g c = record {
  turns = subst (λ (l : List CallRecord). Turns c.args.session.now l c.serve_command.new.session) (sym c.in_ok-push.ensures.items)
      (Turns-push c.args.session.now c.loop-index.records.items c.in_ok-record.record c.loop-index.session c.serve_command.new.session c.loop-index.invariant.turns c.in_ok-record.ensures.turn);
  kept = c.in_ok-record.ensures.turn.served.kept;
  can = let cs = c.args.commands.now in
      let i = c.loop-index.index in
      let command = c.index-commands-index.result in
      come_behind_turn c.loop-index.session c.in_ok-record.record c.serve_command.new.session command (drop (i + 1) cs) c.in_ok-record.ensures.turn c.in_ok-record.ensures.command
      (subst (CanCome c.loop-index.session) (drop_more cs i command c.loop-index-test.true ∙ ap (λ x. x ∷ drop (i + 1) cs) (sym c.index-commands-index.is)) c.loop-index.invariant.can);
  commands = ap (λ l. map (λ (d : CallRecord). d.command) l) c.in_ok-push.ensures.items
      ∙ told-more (λ (d : CallRecord). d.command) c.loop-index.records.items c.in_ok-record.record c.args.commands.now c.loop-index.index c.index-commands-index.result
      c.loop-index-test.true c.index-commands-index.is c.loop-index.invariant.commands c.in_ok-record.ensures.command;
}
