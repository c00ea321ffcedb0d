use Rattle.std.proofs.Common.{sym, ◌∙◌, subst}
use Rattle.mz_events.specs.Standing.{IsOf}
use Rattle.mz_keeper_tests.proofs.Blocks.{free_stays}
use Rattle.mz_keeper_tests.proofs.magazine.bench.Bench.free.Goals as goal

pub invariant_of-self-in-Ok : goal.invariant_of-self-in-Ok
invariant_of-self-in-Ok g c =
    let i = c.self.inside in
    let stays = free_stays i.magazine.depot i.magazine c.free.new.self _ c.in-Ok.ensures.1 in
    let same = sym c.take.ensures.space in
    (subst (λ o. IsOf o c.take.new.self) (sym stays.0) (subst (λ x. IsOf i.magazine.space x) same c.self.invariant.0), stays.1 ∙ c.self.invariant.1, λ k d low. c.self.invariant.2 k d low ∙ same)
