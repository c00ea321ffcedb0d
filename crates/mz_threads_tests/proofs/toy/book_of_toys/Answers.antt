use Rattle.std.proofs.Common.{map, ap, sym, subst, ◌∙◌}
use Rattle.mz_base.specs.Limits.{IsWithinLimits}
use Rattle.mz_threads_tests.specs.Toys.{toy, toy_profile}
use Rattle.mz_book.specs.Plain.{StandAtFirst}
use Rattle.mz_threads_tests.proofs.ToyLemmas.{toys_stand, toy_limits, keeping_is}
use Rattle.mz_threads_tests.proofs.toy.book_of_toys.Goals as goal

pub new-requires-clause-limits : goal.new-requires-clause-limits
new-requires-clause-limits c = subst IsWithinLimits (sym c.profile-p.ensures) toy_limits

pub new-requires-clause-stand : goal.new-requires-clause-stand
new-requires-clause-stand c =
    let vs = c.in_ok-toys.field-0 in
    subst (λ p. StandAtFirst p (map (λ v. toy v.number) vs.items)) (sym c.profile-p.ensures) (subst (StandAtFirst toy_profile) (sym (keeping_is (λ v. v.number) vs.items ∙ ap (map toy) c.in_ok-toys.ensures)) toys_stand)
