use Rattle.std.proofs.Common.{◌≡◌, ◌<◌, ◌++◌, sym, ap, ◌∙◌, subst}
use Rattle.std.specs.List.{All}
use Rattle.mz_events.specs.State.{opening, is_open}
use Rattle.mz_events.specs.History.{after_all}
use Rattle.mz_book.specs.declared.pair.Pair.{Pair}
use Rattle.mz_book.specs.Pairs.{hand_among}
use Rattle.mz_book.specs.Account.{Account, state_of}
use Rattle.mz_register.proofs.OwnerLemmas.{owners_since, zones_since}
use Rattle.mz_register.proofs.laws.hand_in.what_was_handed_in.Goals as goal

pub returns-clause-hands : goal.returns-clause-hands
returns-clause-hands g c s t passes h k = ap (hand_among k) h.pairs ∙ c.owners_after_entries.ensures.hands k s.pairs h.later

pub returns-clause-owners : goal.returns-clause-owners
returns-clause-owners g c s t passes h below = subst (All (λ (x : Pair). x.caller < s.profile.callers)) (sym h.pairs) (owners_since s.profile.callers s.pairs h.later below h.below)

pub returns-clause-zones : goal.returns-clause-zones
returns-clause-zones g c s t passes h z =
    ap (λ (u : Account). is_open (state_of u) z) h.after
    ∙ (ap (λ u. is_open u z) (c.states_split.ensures.joined s.profile opening s.seen h.later)
    ∙ zones_since c.zones_after_an_event.ensures.others s.profile (state_of s) h.later h.zones z)
