use Rattle.std.proofs.Common.{ap, sym, ◌∙◌, subst, take, slice_index_or, arith}
use Rattle.std.proofs.lemmas.List.{take_more, take_all}
use Rattle.mz_events.specs.declared.entry.Entry.{Entry}
use Rattle.mz_events.specs.declared.event.Event.TheVariants.{Take}
use Rattle.mz_events.specs.declared.place.Place.TheVariants.{Pages}
use Rattle.mz_events.specs.State.{opening}
use Rattle.mz_events.specs.History.{after_all}
use Rattle.mz_lawful.specs.Tail.{statistics_of}
use Rattle.mz_session.specs.Counting.{CanCount, statistics_with}
use Rattle.mz_session.proofs.StatisticsLemmas.{can_count, counted, lawful_front, at_first}
use Rattle.mz_session.proofs.statistics.statistics.Goals as goal

abbrev nothing : Entry
nothing = record { ticket = 0; caller = 0; event = Take Pages 0 0 }

pub loop-entry-init : goal.loop-entry-init
loop-entry-init c = at_first c.args.p.now ∙ sym (ap (statistics_of c.args.p.now) (c.of_statistics.ensures.after_none c.args.p.now opening))

pub count-requires : goal.count-requires
count-requires c =
    let h = c.args.history.now in
    let i = c.loop-entry.entry-index in
    let e = slice_index_or h i nothing in
    let lawful = lawful_front c.of_statistics.ensures c.args.p.now h i nothing c.loop-entry-test.true c.requires.lawful in
    subst (λ v. CanCount v e.event) (sym c.loop-entry.invariant) (can_count c.of_statistics.ensures c.args.p.now c.requires.limits (take i h) e lawful)

pub loop-entry-preserved : goal.loop-entry-preserved
loop-entry-preserved c =
    let h = c.args.history.now in
    let i = c.loop-entry.entry-index in
    let e = slice_index_or h i nothing in
    let lawful = lawful_front c.of_statistics.ensures c.args.p.now h i nothing c.loop-entry-test.true c.requires.lawful in
    c.count.ensures
    ∙ (ap (λ v. statistics_with v e.event) c.loop-entry.invariant
    ∙ (sym (counted c.of_statistics.ensures c.args.p.now c.requires.limits (take i h) e lawful)
    ∙ ap (λ es. statistics_of c.args.p.now (after_all c.args.p.now opening es)) (sym (take_more h i nothing c.loop-entry-test.true))))

pub returns : goal.returns
returns c =
    let over = c.loop-entry-test.false in
    c.loop-entry.invariant ∙ ap (λ es. statistics_of c.args.p.now (after_all c.args.p.now opening es)) (take_all c.loop-entry.entry-index c.args.history.now (omega (arith, over)))
