use Rattle.std.proofs.Common.{◌≡◌, length, arith, ap, refl, ◌∙◌}
use Rattle.std.proofs.lemmas.List.{length-replicate}
use Rattle.mz_lists.proofs.WordLemmas.{unset_in_zero}
use Rattle.mz_lists.proofs.heads.Heads.make.Goals as goal

pub invariant_of-result : goal.invariant_of-result
invariant_of-result c =
    let count : length c.in_ok-places.places.items ≡ c.args.lists = ap length c.in_ok-places.ensures.zeros ∙ length-replicate _ _ in
    let few = c.requires.few in
    record { few = omega arith; above = λ j h. unset_in_zero c.new.result j c.new.ensures }

pub returns-clause-none : goal.returns-clause-none
returns-clause-none c = λ j h. rw (unset_in_zero c.new.result j c.new.ensures) refl
