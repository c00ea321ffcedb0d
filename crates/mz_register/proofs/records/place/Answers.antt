use Rattle.std.proofs.Common.{arith, ◌∙◌, length-set}
use Rattle.mz_events.specs.declared.entry.Entry.{Entry}
use Rattle.mz_events.specs.declared.event.Event.TheVariants.{Take}
use Rattle.mz_events.specs.declared.place.Place.TheVariants.{Pages}
use Rattle.mz_register.proofs.MergeLemmas.{next_ok, next_placed, next_kept, at_length}
use Rattle.mz_register.proofs.records.place.Goals as goal

abbrev blank : Entry
blank = record { ticket = 0; caller = 0; event = Take Pages 0 0 }

pub index_mut-requires : goal.index_mut-requires
index_mut-requires c =
    let n = next_ok c.requires.0 c.args.history.now.items c.args.noted.now c.loop-e.e-index blank c.requires.1 c.loop-e-test.true in
    let b = n.0 in
    let s = c.requires.1.sized in
    let l = c.loop-e.invariant.len in
    omega (arith, c.loop-e.history.ok.0)

pub loop-e-preserved : goal.loop-e-preserved
loop-e-preserved c =
    let inv = c.loop-e.invariant in
    record {
      placed = next_placed c.requires.0 c.args.history.now.items c.loop-e.history.items c.args.noted.now c.loop-e.e-index blank c.requires.1 c.loop-e-test.true inv.len inv.placed;
      kept = λ all i e p at old. next_kept all c.args.history.now.items c.loop-e.history.items c.args.noted.now c.loop-e.e-index blank p c.loop-e-test.true inv.len i e at (inv.kept all i e p at old);
      len = length-set c.loop-e.history.items _ _ ∙ inv.len;
      capacity = inv.capacity;
    }

pub returns-clause-placed : goal.returns-clause-placed
returns-clause-placed c i e at = c.loop-e.invariant.placed i e (let l = at_length c.args.noted.now i e at in let t = c.loop-e-test.false in omega arith) at
