use Rattle.std.proofs.Common.{ap, ◌∙◌}
use Rattle.mz_book.specs.Keepers.{place_at, is_among}
use Rattle.mz_desk.proofs.laws.histories.of_histories.Goals as goal

pub returns : goal.returns
returns c = record {
  untouched = c.what_an_event_leaves.ensures.untouched;
  one = c.lawful_entries_split.ensures.one;
  joined = c.lawful_entries_split.ensures.joined;
  after_one = c.states_split.ensures.one;
  after_joined = c.states_split.ensures.joined;
  counted = c.states_split.ensures.counted;
  own_joined = c.own_entries_and_hands.ensures.own;
  hand_joined = c.own_entries_and_hands.ensures.through;
  hand_own = c.hands_after_an_event.ensures.own;
  hand_since = c.owners_after_entries.ensures.hands;
  handed_more = c.owners_after_entries.ensures.more;
  known_through = c.others_leave_what_is_held.ensures;
  held_at = λ p held k l. c.held_places.ensures.place p held (place_at p k) (c.numbers_of_keepers.ensures.not_nano p k) ∙ ap (is_among held) (c.numbers_of_keepers.ensures.back p k l);
  sizes = λ p es j x ok h. (c.live_blocks_are_ascending.ensures p es ok).sizes j x h;
  noted = c.notes_keep_hands.ensures;
  slot_live = c.slots_are_in_one_hand.ensures.live;
  slot_once = c.slots_are_in_one_hand.ensures.one;
  light_taken = c.lights_that_are_held.ensures.taken;
  light_given = c.lights_that_are_held.ensures.given_back;
}
