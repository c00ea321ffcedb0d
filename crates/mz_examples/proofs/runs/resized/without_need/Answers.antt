use Rattle.std.proofs.Common.{arith, refl, sym, ◌++◌, Some}
use Rattle.std.proofs.lemmas.Bool.{false≢true}
use Rattle.mz_base.specs.Space.{block_at}
use Rattle.mz_examples.specs.Examples.{profile_of}
use Rattle.mz_examples.specs.RunsResized.{asks, makes_a, moves_to_least, makes_c, moves_c}
use Rattle.mz_examples.proofs.ResizedTests.{ends_then_moves, hemmed_at, wastes_then}
use Rattle.mz_events.specs.State.{look_up, write}
use Rattle.mz_base.specs.Lists.{insert_by}
use Rattle.mz_events.specs.Room.{best_fit}
use Rattle.mz_events.specs.Effect.{write_all, after}
use Rattle.mz_events.specs.Rules.{keeps}
use Rattle.mz_events.specs.History.{after_all, by_ticket, first_breach}
use Rattle.mz_examples.proofs.runs.resized.without_need.Goals as goal

pub returns-clause-shrink : goal.returns-clause-shrink
unfolding look_up write insert_by best_fit write_all after keeps after_all by_ticket first_breach
returns-clause-shrink c = λ done. let more = (hemmed_at (profile_of 64) (makes_a ++ moves_to_least) (asks 4 4 0 (block_at 0 48) 10) (record { asked = omega arith; ranges = refl; not_large = λ same. (cc); in_region = refl }) (ends_then_moves (profile_of 64) (makes_a ++ moves_to_least) (asks 4 4 0 (block_at 0 48) 10) (moves_to_least) (Some (block_at 48 16)) done refl)).0 in omega (arith, more)

pub returns-clause-lawful_large : goal.returns-clause-lawful_large
unfolding look_up write insert_by best_fit write_all after keeps after_all by_ticket first_breach
returns-clause-lawful_large c = (c.lawful_without_breach.ensures (profile_of 64) (makes_c ++ moves_c)).0 refl

pub returns-clause-large : goal.returns-clause-large
unfolding look_up write insert_by best_fit write_all after keeps after_all by_ticket first_breach
returns-clause-large c = λ done. false≢true (sym (wastes_then (profile_of 64) (makes_c ++ moves_c) (asks 3 3 0 (block_at 0 81920) 50000) refl refl (omega arith) refl (ends_then_moves (profile_of 64) (makes_c ++ moves_c) (asks 3 3 0 (block_at 0 81920) 50000) (moves_c) (Some (block_at 81920 65536)) done refl)))
