use Rattle.std.proofs.Common.{◌%◌, refl, ap, lit<}
use Rattle.mz_keeper_tests.proofs.region.a_region_is_filled_to_its_last_quantum_and_again.Goals as goal

pub new-requires-2 : goal.new-requires-2
new-requires-2 g c = (lit< tt, ((4, refl), (c.in_ok-new.ensures.len, ap (λ a. a % 1048576) c.in_ok-new.ensures.first)))
