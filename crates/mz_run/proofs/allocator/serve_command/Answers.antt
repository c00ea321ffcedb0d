use Rattle.std.proofs.Common.{map, length, ap, ◌∙◌}
use Rattle.std.specs.List.{list_all}
use Rattle.std.proofs.lemmas.Bool.{and_from}
use Rattle.mz_lines.specs.Answers.{answer_fits}
use Rattle.mz_trace.specs.RunForms.{entry_fits}
use Rattle.mz_run.specs.Turns.{step_of}
use Rattle.mz_run.proofs.TurnLemmas.{turn_made, behind}
use Rattle.mz_run.proofs.allocator.serve_command.Goals as goal

pub returns-clause-turn : goal.returns-clause-turn
returns-clause-turn g c =
    let served = c.in_ok-answer_to.ensures in
    turn_made c.args.session.now c.answer_to.new.session c.args.command.now c.answer-answer.result c.in_ok-answer_to.field-0 c.of.result c.requires.built c.answer-answer.ensures.same served
    (c.of.ensures ∙ (c.in_ok-steps.ensures.steps ∙ ap (map step_of) (behind c.args.session.now.at.book.seen c.history.result.now served.entries (length c.history-before.result.now) (ap length c.history-before.ensures) (c.history.ensures ∙ served.seen))))
    (and_from (list_all entry_fits c.of.result) (answer_fits c.answer-answer.result)
    (ap (list_all entry_fits) c.of.ensures ∙ c.in_ok-steps.ensures.told) (ap answer_fits c.answer-answer.ensures.same ∙ c.answer-answer.ensures.fits))
