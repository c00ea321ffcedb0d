use Rattle.mz_events.specs.State.{opening}
use Rattle.mz_session.proofs.statistics.of_statistics.Goals as goal

pub returns : goal.returns
returns c = record {
  joined = c.lawful_entries_split.ensures.joined;
  one = c.lawful_entries_split.ensures.one;
  after_one = c.states_split.ensures.one;
  after_joined = c.states_split.ensures.joined;
  after_none = c.states_split.ensures.none;
  sums = c.live_sums_after_an_event.ensures;
  greatest = c.greatest_after_an_event.ensures;
  fits = c.when_an_event_fits.ensures;
  touched = c.what_an_event_leaves.ensures.touched;
  untouched = c.what_an_event_leaves.ensures.untouched;
  separate = c.separation.ensures;
  ascending = c.live_blocks_are_ascending.ensures;
  bytes_fit = c.live_bytes_fit_the_space.ensures;
  runs_fit = c.runs_fit_the_space.ensures;
  once = λ p es. c.spots_stand_once.ensures.after_entries p opening es c.spots_stand_once.ensures.at_first;
  by_spot = c.lists_are_by_spot.ensures;
}
