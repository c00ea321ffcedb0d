use Rattle.mz_events.specs.State.{opening}
use Rattle.mz_events.specs.History.{after_all}
use Rattle.mz_book.proofs.WordLemmas.{words_idle}
use Rattle.mz_book.specs.Owners.{pairs_told}
use Rattle.mz_book.proofs.plain.PlainBook.act_as.Goals as goal

pub invariant_of-self-clause-caller_in : goal.invariant_of-self-clause-caller_in
invariant_of-self-clause-caller_in g c = c.requires.caller

pub invariant_of-self-clause-words : goal.invariant_of-self-clause-words
invariant_of-self-clause-words g c =
    let b = c.args.self.now in
    words_idle b.profile (after_all b.profile opening b.history.items) b.caller c.args.caller (pairs_told b.quanta.items b.history.items) (pairs_told b.quanta.items b.history.items) b.slots.items c.requires.nothing_held.lights b.words
