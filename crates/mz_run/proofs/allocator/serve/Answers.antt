use Rattle.std.proofs.Common.{List, ap, sym, subst, ◌∙◌}
use Rattle.std.specs.Prelude.{IsTrue}
use Rattle.std.specs.List.{list_all}
use Rattle.mz_events.specs.State.{opening}
use Rattle.mz_events.specs.History.{after_all}
use Rattle.mz_trace.specs.declared.round.Round.{Round}
use Rattle.mz_trace.specs.declared.run.RunRound.{RunRound}
use Rattle.mz_trace.specs.declared.tail.Figures.{Figures}
use Rattle.mz_trace.specs.declared.tail.Listed.{Listed}
use Rattle.mz_trace.specs.declared.trace.Trace.{Trace}
use Rattle.mz_words.specs.Ranges.{is_listed_range}
use Rattle.mz_trace.specs.RunForms.{IsRun}
use Rattle.mz_trace.specs.TailTexts.{listed_fits}
use Rattle.mz_lawful.specs.LawfulRun.{IsLawfulRun, last_standing}
use Rattle.mz_lawful.specs.Tail.{tail_of}
use Rattle.mz_run.specs.Built.{is_built_round}
use Rattle.mz_run.proofs.BuiltLemmas.{built_numbers, rounds_built}
use Rattle.mz_run.proofs.RunIsLawful.{run_is_lawful, none_coming, stands_last, tail_is}
use Rattle.mz_run.proofs.ComingLemmas.{trace_comes}
use Rattle.mz_run.specs.Coming.{CanCome, commands_in_rounds}
use Rattle.mz_run.proofs.RunTextLemmas.{run_has_text, ranges_are_listed}
use Rattle.mz_run.proofs.allocator.serve.Goals as goal

pub open-requires-clause-for_one : goal.open-requires-clause-for_one
open-requires-clause-for_one g c = built_numbers c.args.trace.now.profile c.requires.built.space

pub serve_rounds-requires-clause-built : goal.serve_rounds-requires-clause-built
serve_rounds-requires-clause-built g c κs within =
    subst (λ (l : List Round). IsTrue (list_all is_built_round l)) (sym c.as_slice.ensures) (rounds_built c.args.trace.now c.requires.built)

pub serve_rounds-requires-clause-kept : goal.serve_rounds-requires-clause-kept
serve_rounds-requires-clause-kept g c κs within = c.in_ok-session.ensures.kept

pub serve_rounds-requires-clause-can : goal.serve_rounds-requires-clause-can
serve_rounds-requires-clause-can g c κs within =
    subst (λ (l : List Round). CanCome c.in_ok-session.session (commands_in_rounds l)) (sym c.as_slice.ensures)
    (trace_comes c.args.trace.now c.in_ok-session.session c.requires.trace c.requires.built c.in_ok-session.ensures)

pub tail-requires-clause-kept : goal.tail-requires-clause-kept
tail-requires-clause-kept g c = c.in_ok-rounds.ensures.kept

pub tail-requires-clause-delivered : goal.tail-requires-clause-delivered
tail-requires-clause-delivered g c =
    none_coming c.in_ok-session.session c.serve_rounds.new.session c.in_ok-rounds.rounds.items c.in_ok-session.ensures.parcels c.in_ok-rounds.ensures.turns

pub listing-requires : goal.listing-requires
listing-requires g c =
    let t : Trace = c.args.trace.now in
    let rounds = c.in_ok-rounds.rounds.items in
    let v = c.in_ok-session.session in
    let u = c.serve_rounds.new.session in
    let opened = c.in_ok-session.ensures in
    let turns = c.in_ok-rounds.ensures.turns in
    let lawful = c.tail.ensures.each in
    let w = last_standing (record { profile = t.profile; rounds = rounds }) in
    let stands = stands_last c.of_runs.ensures t rounds v u opened turns lawful in
    ap (list_all (λ (l : Listed). is_listed_range l.range)) (c.as_slice-2.ensures ∙ ap (λ (f : Figures). f.listing) (c.in_ok-figures.ensures.tail w stands))
    ∙ ranges_are_listed w (after_all u.at.book.profile opening u.at.book.seen)

pub returns-clause-lawful : goal.returns-clause-lawful
returns-clause-lawful g c =
    let t : Trace = c.args.trace.now in
    let rounds = c.in_ok-rounds.rounds.items in
    let v = c.in_ok-session.session in
    let u = c.serve_rounds.new.session in
    let opened = c.in_ok-session.ensures in
    let turns = c.in_ok-rounds.ensures.turns in
    let lawful = c.tail.ensures.each in
    let told = c.in_ok-rounds.ensures.rounds ∙ c.as_slice.ensures in
    subst (λ (l : List RunRound). IsLawfulRun t (record { profile = t.profile; rounds = l })) (sym c.of.ensures)
    (run_is_lawful c.of_runs.ensures t rounds v u opened turns lawful told c.tail.ensures.lawful)

pub returns-clause-tail : goal.returns-clause-tail
returns-clause-tail g c =
    let t : Trace = c.args.trace.now in
    let rounds = c.in_ok-rounds.rounds.items in
    let v = c.in_ok-session.session in
    let u = c.serve_rounds.new.session in
    let opened = c.in_ok-session.ensures in
    let turns = c.in_ok-rounds.ensures.turns in
    let lawful = c.tail.ensures.each in
    tail_is c.of_runs.ensures t rounds v u opened turns lawful c.in_ok-figures.figures c.in_ok-figures.ensures.tail
    ∙ ap (λ (l : List RunRound). tail_of (record { profile = t.profile; rounds = l })) (sym c.of.ensures)

pub returns-clause-has_text : goal.returns-clause-has_text
returns-clause-has_text g c =
    let t : Trace = c.args.trace.now in
    let rounds = c.in_ok-rounds.rounds.items in
    let told = c.in_ok-rounds.ensures.rounds ∙ c.as_slice.ensures in (
      subst (λ (l : List RunRound). IsRun (record { profile = t.profile; rounds = l })) (sym c.of.ensures)
          (run_has_text t c.requires.trace c.requires.built rounds c.in_ok-session.session c.serve_rounds.new.session c.in_ok-rounds.ensures.turns told),
      record { each = ap (list_all listed_fits) (sym c.as_slice-2.ensures) ∙ c.listing.ensures; numbers = c.numbers.ensures },
    )
