use Rattle.std.proofs.Common.{◌-◌, ap, sym, ◌∙◌, arith, get_or, Some}
use Rattle.mz_events.specs.Room.{better}
use Rattle.mz_holding.specs.HeldRuns.{run_of_extent}
use Rattle.mz_holding.proofs.FitLemmas.{best_none, best_taken, best_passed}
use Rattle.mz_holding.proofs.placing.best_fit.Goals as goal

pub loop-i-init : goal.loop-i-init
loop-i-init c = record { within = omega arith; best = best_none c.args.cached.now c.args.pages }

pub loop-i-preserved-then-fits : goal.loop-i-preserved-then-fits
loop-i-preserved-then-fits c =
    let within = c.loop-i.invariant.within in
    record {
      within = omega arith;
      best =
          ap Some (c.better.ensures ∙ ap (better (run_of_extent (get_or c.args.cached.now (c.loop-i.i - 1) (record { first = 0; len = 0 })))) c.loop-i.invariant.best)
          ∙ best_taken c.args.cached.now c.loop-i.i c.args.pages (record { first = 0; len = 0 }) c.loop-i-test.true c.loop-i.invariant.within (sym c.fits.ensures ∙ c.if-fits.true);
    }

pub loop-i-preserved : goal.loop-i-preserved
loop-i-preserved c =
    let within = c.loop-i.invariant.within in
    record {
      within = omega arith;
      best = c.loop-i.invariant.best ∙ best_passed c.args.cached.now c.loop-i.i c.args.pages (record { first = 0; len = 0 }) c.loop-i-test.true c.loop-i.invariant.within (sym c.fits.ensures ∙ c.if-fits.false);
    }
