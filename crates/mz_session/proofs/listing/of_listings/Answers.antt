use Rattle.mz_events.specs.State.{opening}
use Rattle.mz_session.proofs.listing.of_listings.Goals as goal

pub returns : goal.returns
returns c = record {
  counted = c.live_blocks_stand_once.ensures.once;
  in_order = c.live_blocks_stand_once.ensures.in_order;
  in_zones = c.runs_are_in_zones.ensures;
  separate = c.separation.ensures;
  ascending = c.live_blocks_are_ascending.ensures;
  runs_fit = c.runs_fit_the_space.ensures;
  forms = c.live_blocks_have_their_forms.ensures;
  once = λ p es. c.spots_stand_once.ensures.after_entries p opening es c.spots_stand_once.ensures.at_first;
  by_spot = c.lists_are_by_spot.ensures;
}
