use Rattle.std.proofs.Common.{◌≡◌, ◌<◌, ◌+◌, ◌*◌, length, true, List, set, length-set, arith, sym, ap, ◌∙◌, subst}
use Rattle.std.specs.Prelude.{nat_lt}
use Rattle.mz_events.specs.State.{opening}
use Rattle.mz_events.specs.History.{after_all}
use Rattle.mz_events.specs.Changes.{one_for}
use Rattle.mz_book.specs.declared.light.Light.{Light}
use Rattle.mz_book.specs.Pairs.{hand_among}
use Rattle.mz_book.specs.Lights.{lights_from, is_slot_live, has_slot}
use Rattle.mz_book.specs.Account.{Account}
use Rattle.mz_book.specs.Rule.{AreWords}
use Rattle.mz_book.specs.Plain.{plain_account, site_of}
use Rattle.mz_book.proofs.LightLemmas.{slot_in, slot_unlit}
use Rattle.mz_book.proofs.WordLemmas.{words_set, lit_live, free_word, one_for_few}
use Rattle.mz_book.specs.Owners.{pairs_told}
use Rattle.mz_book.proofs.plain.PlainBookBook.release_light.Goals as goal

pub word_place-requires-clause-block : goal.word_place-requires-clause-block
word_place-requires-clause-block g c = let b = c.args.self.now in let i = slot_in b.profile.nano c.args.l b.slots.items b.slot_count c.requires.held in omega (arith, i.0, b.limits.nano.1)

pub word_place-requires-clause-slot : goal.word_place-requires-clause-slot
word_place-requires-clause-slot g c = let b = c.args.self.now in (slot_in b.profile.nano c.args.l b.slots.items b.slot_count c.requires.held).1

pub index_mut-requires : goal.index_mut-requires
index_mut-requires g c = let b = c.args.self.now in let i = slot_in b.profile.nano c.args.l b.slots.items b.slot_count c.requires.held in omega (arith, i.0, i.1, c.word_place.ensures, b.slot_count, b.slots.ok.0)

pub invariant_of-self-clause-slot_count : goal.invariant_of-self-clause-slot_count
invariant_of-self-clause-slot_count g c = let b = c.args.self.now in length-set b.slots.items c.word_place.result c.word_of.result ∙ b.slot_count

pub invariant_of-self-clause-words : goal.invariant_of-self-clause-words
invariant_of-self-clause-words g c =
    let b = c.args.self.now in
    let l = c.args.l in
    let st = after_all b.profile opening b.history.items in
    let ws = b.slots.items in
    let i = slot_in b.profile.nano l ws b.slot_count c.requires.held in
    let live : is_slot_live b.profile st l.block l.slot ≡ c.args.live = lit_live c.of_histories.ensures b.profile b.history.items b.lawful b.caller (pairs_told b.quanta.items b.history.items) ws l.block l.slot b.in_one_hand b.words i.0 i.1 c.requires.held ∙ sym c.requires.tells in
    let v : c.word_of.result ≡ one_for (is_slot_live b.profile st l.block l.slot) = c.word_of.ensures ∙ ap one_for (sym live) in
    let h = words_set b.profile st b.caller (pairs_told b.quanta.items b.history.items) ws l.block l.slot (one_for (is_slot_live b.profile st l.block l.slot)) i.0 i.1 b.slot_count (free_word b.caller (is_slot_live b.profile st l.block l.slot) (has_slot b.profile (hand_among b.caller (pairs_told b.quanta.items b.history.items)) l.block l.slot)) b.words in
    subst (λ k. AreWords b.profile st b.caller (pairs_told b.quanta.items b.history.items) (set ws k c.word_of.result)) (sym c.word_place.ensures) (subst (λ x. AreWords b.profile st b.caller (pairs_told b.quanta.items b.history.items) (set ws (l.block * 1024 + l.slot) x)) (sym v) h)

pub returns : goal.returns
returns g c =
    let b = c.args.self.now in
    let l = c.args.l in
    let ws = b.slots.items in
    let i = slot_in b.profile.nano l ws b.slot_count c.requires.held in
    let few : nat_lt c.word_of.result 2 ≡ true = ap (λ x. nat_lt x 2) c.word_of.ensures ∙ one_for_few c.args.live in
    let in_range : l.block * 1024 + l.slot < length ws = omega (arith, b.slot_count, i.0, i.1) in
    let s = plain_account b.profile b.caller (site_of (g.V.Keep.keeping b.site.value)) b.history.items b.limit b.held.items (pairs_told b.quanta.items b.history.items) b.classes.items b.slots.items b.holds b.founds b.found in
    let f : List Light → Account = λ ls. record s { lights = ls } in
    record { after = ap f (ap (λ k. lights_from 0 (set ws k c.word_of.result)) c.word_place.ensures ∙ slot_unlit l.block l.slot c.word_of.result ws i.1 in_range few) }
