use Rattle.std.proofs.Common.{◌≡◌, ◌<◌, List, [], length, arith, sym, ap, ◌∙◌, subst}
use Rattle.mz_events.specs.State.{opening}
use Rattle.mz_events.specs.History.{after_all}
use Rattle.mz_events.specs.Hands.{hand_through}
use Rattle.mz_book.specs.declared.pair.Pair.{Pair}
use Rattle.mz_book.specs.Account.{Account}
use Rattle.mz_book.specs.Pairs.{given}
use Rattle.mz_book.specs.Owners.{quantum_at, pairs_told}
use Rattle.mz_book.specs.Rule.{AreInOneHand}
use Rattle.mz_book.specs.Plain.{plain_account, site_of}
use Rattle.mz_book.proofs.OwnerLemmas.{hand_given}
use Rattle.mz_book.proofs.QuantumLemmas.{apart, give_inside, told_give}
use Rattle.mz_book.proofs.WordLemmas.{words_idle}
use Rattle.mz_book.proofs.plain.PlainBook.give.Goals as goal

pub set_owner-requires : goal.set_owner-requires
set_owner-requires g c =
    let b = c.args.self.now in
    let i = give_inside c.of_histories.ensures b.profile (c.live_bytes_fit_the_space.ensures b.profile) b.history.items b.lawful b.quanta.items b.in_one_hand c.args.from c.args.a c.requires.there in
    omega (arith, i, b.quantum_count, b.quanta.ok.0)

pub invariant_of-self-clause-quantum_count : goal.invariant_of-self-clause-quantum_count
invariant_of-self-clause-quantum_count g c =
    let b = c.args.self.now in
    omega (arith, b.quantum_count, b.quanta.ok.0, c.set_owner.new.quanta.ok.0, c.set_owner.ensures.len)

pub invariant_of-self-clause-in_one_hand : goal.invariant_of-self-clause-in_one_hand
invariant_of-self-clause-in_one_hand g c =
    let b = c.args.self.now in
    let L = c.of_histories.ensures in
    let fit = c.live_bytes_fit_the_space.ensures b.profile in
    let st = after_all b.profile opening b.history.items in
    let i = give_inside L b.profile fit b.history.items b.lawful b.quanta.items b.in_one_hand c.args.from c.args.a c.requires.there in
    let l : quantum_at c.args.a < length b.quanta.items = omega (arith, i, b.quantum_count) in
    let told : pairs_told c.set_owner.new.quanta.items b.history.items ≡ given c.args.from c.args.to c.args.a (pairs_told b.quanta.items b.history.items) =
    ap (λ u. pairs_told u b.history.items) c.set_owner.ensures.items ∙ told_give b.quanta.items c.args.from c.args.to c.args.a (hand_through [] b.history.items) l (apart L b.profile fit b.history.items b.lawful b.quanta.items b.in_one_hand) c.requires.there in
    subst (λ ps. AreInOneHand st ps) (sym told) (hand_given st c.args.from c.args.to c.args.a (pairs_told b.quanta.items b.history.items) b.in_one_hand)

pub invariant_of-self-clause-words : goal.invariant_of-self-clause-words
invariant_of-self-clause-words g c =
    let b = c.args.self.now in
    words_idle b.profile (after_all b.profile opening b.history.items) b.caller b.caller (pairs_told b.quanta.items b.history.items) (pairs_told c.set_owner.new.quanta.items b.history.items) b.slots.items c.requires.nothing_held.lights b.words

pub returns : goal.returns
returns g c =
    let b = c.args.self.now in
    let L = c.of_histories.ensures in
    let fit = c.live_bytes_fit_the_space.ensures b.profile in
    let i = give_inside L b.profile fit b.history.items b.lawful b.quanta.items b.in_one_hand c.args.from c.args.a c.requires.there in
    let l : quantum_at c.args.a < length b.quanta.items = omega (arith, i, b.quantum_count) in
    let told : pairs_told c.set_owner.new.quanta.items b.history.items ≡ given c.args.from c.args.to c.args.a (pairs_told b.quanta.items b.history.items) =
    ap (λ u. pairs_told u b.history.items) c.set_owner.ensures.items ∙ told_give b.quanta.items c.args.from c.args.to c.args.a (hand_through [] b.history.items) l (apart L b.profile fit b.history.items b.lawful b.quanta.items b.in_one_hand) c.requires.there in
    let s = plain_account b.profile b.caller (site_of (g.V.Keep.keeping b.site.value)) b.history.items b.limit b.held.items (pairs_told b.quanta.items b.history.items) b.classes.items b.slots.items b.holds b.founds b.found in
    let f : List Pair → Account = λ ps. record s { pairs = ps } in
    record { after = ap f told }
