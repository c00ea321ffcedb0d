use Rattle.std.proofs.Common.{◌≡◌, ◌<◌, ◌+◌, ◌*◌, length, get_or, arith, ap, sym, ◌∙◌}
use Rattle.mz_events.specs.State.{opening}
use Rattle.mz_events.specs.History.{after_all}
use Rattle.mz_book.proofs.HomeLemmas.{get_or_any}
use Rattle.mz_book.proofs.WordLemmas.{word_told}
use Rattle.mz_book.specs.Owners.{pairs_told}
use Rattle.mz_book.proofs.plain.PlainBook.slot_word.Goals as goal

pub word_place-requires-clause-block : goal.word_place-requires-clause-block
word_place-requires-clause-block g c = let b = c.args.self.now in omega (arith, c.requires.block, b.limits.nano.1)

pub index-requires : goal.index-requires
index-requires g c = let b = c.args.self.now in omega (arith, c.word_place.ensures, b.slot_count, b.slots.ok.0, c.requires.block, c.requires.slot)

pub returns : goal.returns
returns g c =
    let b = c.args.self.now in
    let ws = b.slots.items in
    let in_range : c.args.b * 1024 + c.args.j < length ws = omega (arith, b.slot_count, c.requires.block, c.requires.slot) in
    let w : get_or ws (c.args.b * 1024 + c.args.j) 0 ≡ c.index.result.now = get_or_any ws (c.args.b * 1024 + c.args.j) 0 c.index.result.now in_range ∙ (ap (λ i. get_or ws i c.index.result.now) (sym c.word_place.ensures) ∙ sym c.index.ensures) in
    sym w ∙ word_told b.profile (after_all b.profile opening b.history.items) b.caller (pairs_told b.quanta.items b.history.items) ws c.args.b c.args.j b.words c.requires.block c.requires.slot
