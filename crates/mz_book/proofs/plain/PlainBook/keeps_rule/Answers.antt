use Rattle.std.specs.Prelude.{length}
use Rattle.mz_events.specs.State.{opening}
use Rattle.mz_events.specs.History.{after_all}
use Rattle.mz_book.specs.Plain.{few_entries}
use Rattle.mz_book.proofs.NanoLemmas.{word_of_light}
use Rattle.mz_book.specs.Owners.{pairs_told}
use Rattle.mz_book.proofs.plain.PlainBook.keeps_rule.Goals as goal

pub returns : goal.returns
returns g c =
    let b = c.args.self.now in
    record {
      few = few_entries (length b.history.items) b.limit b.within b.few;
      in_one_hand = b.in_one_hand;
      of_class = b.of_class;
      lit_is_owned = λ i j li lj lit live. word_of_light b.profile (after_all b.profile opening b.history.items) b.caller (pairs_told b.quanta.items b.history.items) b.slots.items i j b.words li lj lit live;
    }
