use Rattle.mz_book.proofs.laws.histories.of_histories.Goals as goal

pub returns : goal.returns
returns c = record {
  touched = c.what_an_event_leaves.ensures.touched;
  untouched = c.what_an_event_leaves.ensures.untouched;
  touched_is_read = c.what_an_event_reads.ensures.touched_is_read;
  spots = c.what_an_event_reads.ensures.same_spot;
  none = c.lawful_entries_split.ensures.none;
  one = c.lawful_entries_split.ensures.one;
  joined = c.lawful_entries_split.ensures.joined;
  after_none = c.states_split.ensures.none;
  after_one = c.states_split.ensures.one;
  after_joined = c.states_split.ensures.joined;
  counted = c.states_split.ensures.counted;
  zones = c.zones_after_an_event.ensures.others;
  opened = c.zones_after_an_event.ensures.opened;
  shut = c.zones_after_an_event.ensures.shut;
  separate = c.separation.ensures;
  ascending = c.live_blocks_are_ascending.ensures;
  runs_fit = c.runs_fit_the_space.ensures;
  forms = c.live_blocks_have_their_forms.ensures;
  once_first = c.spots_stand_once.ensures.at_first;
  once = c.spots_stand_once.ensures.after_entries;
  by_spot = c.lists_are_by_spot.ensures;
  fits = c.when_an_event_fits.ensures;
  history = c.tickets_are_indices.ensures.history;
  known_through = c.others_leave_what_is_held.ensures;
}
