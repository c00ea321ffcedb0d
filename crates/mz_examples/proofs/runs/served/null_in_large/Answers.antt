use Rattle.std.proofs.Common.{refl, [], ◌∷◌, take, drop}
use Rattle.mz_events.specs.declared.event.Event.TheVariants as event
use Rattle.mz_examples.specs.Examples.{profile_of, entry_of, large}
use Rattle.mz_record.specs.Served as way
use Rattle.mz_examples.specs.RunsServed.{request_by}
use Rattle.mz_examples.proofs.MeetsTest.{meets}
use Rattle.mz_examples.specs.RunsServed.{no_nine_pages}
use Rattle.mz_examples.proofs.ServedTests.{null_is_settled}
use Rattle.mz_events.specs.State.{look_up, write}
use Rattle.mz_base.specs.Lists.{insert_by}
use Rattle.mz_events.specs.Room.{best_fit}
use Rattle.mz_events.specs.Effect.{write_all, after}
use Rattle.mz_events.specs.Rules.{keeps}
use Rattle.mz_events.specs.History.{after_all, by_ticket, first_breach}
use Rattle.mz_examples.proofs.runs.served.null_in_large.Goals as goal

pub returns-clause-lawful : goal.returns-clause-lawful
unfolding look_up write insert_by best_fit write_all after keeps after_all by_ticket first_breach
returns-clause-lawful c = (c.lawful_without_breach.ensures (profile_of 8) no_nine_pages).0 refl

pub returns-clause-none : goal.returns-clause-none
unfolding look_up write insert_by best_fit write_all after keeps after_all by_ticket first_breach
returns-clause-none c = way.null_in_large (entry_of 4 (event.Full large 9 1)) (entry_of 7 (event.Dry 0 9 1)) (take 2 (drop 5 no_nine_pages)) refl refl refl (refl, meets refl refl, tt) (record { event = refl; no_duty = refl }) refl

pub returns-clause-duty_left : goal.returns-clause-duty_left
unfolding look_up write insert_by best_fit write_all after keeps after_all by_ticket first_breach
returns-clause-duty_left c = λ s. let settled = null_is_settled (profile_of 8) no_nine_pages (request_by 0 140000) (entry_of 4 (event.Full large 9 1) ∷ []) (entry_of 5 (event.Dry 0 9 1)) s in (cc)

pub returns-clause-greatest : goal.returns-clause-greatest
unfolding look_up write insert_by best_fit write_all after keeps after_all by_ticket first_breach
returns-clause-greatest c = way.null_in_large (entry_of 0 (event.Full large 1125899906842624 1)) (entry_of 1 (event.Dry 0 1125899906842624 1)) [] refl refl refl tt (record { event = refl; no_duty = refl }) refl
