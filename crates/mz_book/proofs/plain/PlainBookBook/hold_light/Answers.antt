use Rattle.std.proofs.Common.{◌≡◌, ◌<◌, ◌+◌, ◌*◌, length, ℕ, Some, false, cond, List, get_or, set, length-set, arith, sym, ap, ◌∙◌, refl, subst}
use Rattle.std.specs.Prelude.{nat_lt}
use Rattle.std.proofs.lemmas.Bool.Decides.{nat_tests}
use Rattle.mz_events.specs.State.{opening}
use Rattle.mz_events.specs.History.{after_all}
use Rattle.mz_events.specs.Changes.{one_for}
use Rattle.mz_book.specs.declared.light.Light.{Light}
use Rattle.mz_book.specs.declared.light.Asked.TheVariants.{HoldLight}
use Rattle.mz_book.specs.Lights.{light_at, add_light, lights_from, is_slot_live}
use Rattle.mz_book.specs.Account.{Account}
use Rattle.mz_book.specs.Rule.{AreWords}
use Rattle.mz_book.specs.Plain.{plain_account, site_of}
use Rattle.mz_book.proofs.HomeLemmas.{get_or_any}
use Rattle.mz_book.proofs.LightLemmas.{slot_lit}
use Rattle.mz_book.proofs.WordLemmas.{words_set, asked_few, is_free, tells, not_owned, held_word, only_idle}
use Rattle.mz_book.specs.Owners.{pairs_told}
use Rattle.mz_book.proofs.plain.PlainBookBook.hold_light.Goals as goal

pub word_place-place-requires-clause-block : goal.word_place-place-requires-clause-block
word_place-place-requires-clause-block g c = let b = c.args.self.now in omega (arith, c.requires.below, b.limits.nano.1)

pub word_place-place-requires-clause-slot : goal.word_place-place-requires-clause-slot
word_place-place-requires-clause-slot g c =
    let b = c.args.self.now in
    asked_few c.of_histories.ensures b.profile b.history.items b.lawful b.caller (pairs_told b.quanta.items b.history.items) b.classes.items c.args.b c.args.j c.args.expect b.in_one_hand c.requires.kind c.requires.settled c.requires.there c.requires.owned

pub index-word-requires : goal.index-word-requires
index-word-requires g c =
    let b = c.args.self.now in
    let lj = asked_few c.of_histories.ensures b.profile b.history.items b.lawful b.caller (pairs_told b.quanta.items b.history.items) b.classes.items c.args.b c.args.j c.args.expect b.in_one_hand c.requires.kind c.requires.settled c.requires.there c.requires.owned in
    omega (arith, c.word_place-place.ensures, b.slot_count, b.slots.ok.0, c.requires.below, lj)

pub index_mut-requires : goal.index_mut-requires
index_mut-requires g c =
    let b = c.args.self.now in
    let lj = asked_few c.of_histories.ensures b.profile b.history.items b.lawful b.caller (pairs_told b.quanta.items b.history.items) b.classes.items c.args.b c.args.j c.args.expect b.in_one_hand c.requires.kind c.requires.settled c.requires.there c.requires.owned in
    omega (arith, c.word_place-place.ensures, b.slot_count, b.slots.ok.0, c.requires.below, lj)

pub invariant_of-self-clause-slot_count : goal.invariant_of-self-clause-slot_count
invariant_of-self-clause-slot_count g c = let b = c.args.self.now in length-set b.slots.items c.word_place-place.result (2 + c.from.result) ∙ b.slot_count

pub invariant_of-self-clause-words : goal.invariant_of-self-clause-words
invariant_of-self-clause-words g c =
    let b = c.args.self.now in
    let L = c.of_histories.ensures in
    let st = after_all b.profile opening b.history.items in
    let ws = b.slots.items in
    let lj = asked_few L b.profile b.history.items b.lawful b.caller (pairs_told b.quanta.items b.history.items) b.classes.items c.args.b c.args.j c.args.expect b.in_one_hand c.requires.kind c.requires.settled c.requires.there c.requires.owned in
    let at : c.word_place-place.result ≡ c.args.b * 1024 + c.args.j = c.word_place-place.ensures in
    let in_range : c.args.b * 1024 + c.args.j < length ws = omega (arith, b.slot_count, c.requires.below, lj) in
    let w : get_or ws (c.args.b * 1024 + c.args.j) 0 ≡ c.args.expect = get_or_any ws (c.args.b * 1024 + c.args.j) 0 c.index-word.result.now in_range ∙ (ap (λ i. get_or ws i c.index-word.result.now) (sym at) ∙ (sym c.index-word.ensures ∙ c.if-word-expect.true)) in
    let h = words_set b.profile st b.caller (pairs_told b.quanta.items b.history.items) ws c.args.b c.args.j (2 + b.caller) c.requires.below lj b.slot_count
    (held_word L b.profile b.history.items b.lawful b.caller (pairs_told b.quanta.items b.history.items) ws c.args.b c.args.j c.args.expect b.in_one_hand b.words c.requires.below lj c.requires.kind c.requires.free c.requires.owned w) b.words in
    subst (λ i. AreWords b.profile st b.caller (pairs_told b.quanta.items b.history.items) (set ws i (2 + c.from.result))) (sym at) (subst (λ v. AreWords b.profile st b.caller (pairs_told b.quanta.items b.history.items) (set ws (c.args.b * 1024 + c.args.j) (2 + v))) (sym c.from.ensures) h)

pub returns-then-word-expect-clause-holds : goal.returns-then-word-expect-clause-holds
returns-then-word-expect-clause-holds g c =
    let b = c.args.self.now in
    let L = c.of_histories.ensures in
    let st = after_all b.profile opening b.history.items in
    let ws = b.slots.items in
    let lj = asked_few L b.profile b.history.items b.lawful b.caller (pairs_told b.quanta.items b.history.items) b.classes.items c.args.b c.args.j c.args.expect b.in_one_hand c.requires.kind c.requires.settled c.requires.there c.requires.owned in
    let at : c.word_place-place.result ≡ c.args.b * 1024 + c.args.j = c.word_place-place.ensures in
    let in_range : c.args.b * 1024 + c.args.j < length ws = omega (arith, b.slot_count, c.requires.below, lj) in
    let w : get_or ws (c.args.b * 1024 + c.args.j) 0 ≡ c.args.expect = get_or_any ws (c.args.b * 1024 + c.args.j) 0 c.index-word.result.now in_range ∙ (ap (λ i. get_or ws i c.index-word.result.now) (sym at) ∙ (sym c.index-word.ensures ∙ c.if-word-expect.true)) in
    let free = is_free L b.profile b.history.items b.lawful b.caller (pairs_told b.quanta.items b.history.items) ws c.args.b c.args.j c.args.expect b.in_one_hand b.words c.requires.below lj c.requires.kind c.requires.free c.requires.owned in
    let tell = tells L b.profile b.history.items b.lawful b.caller (pairs_told b.quanta.items b.history.items) ws c.args.b c.args.j c.args.expect b.in_one_hand b.words c.requires.below lj c.requires.kind c.requires.free c.requires.owned in
    let many : nat_lt (2 + b.caller) 2 ≡ false = grind (arith, nat_tests) in
    let s = plain_account b.profile b.caller (site_of (g.V.Keep.keeping b.site.value)) b.history.items b.limit b.held.items (pairs_told b.quanta.items b.history.items) b.classes.items b.slots.items b.holds b.founds b.found in
    let f : List Light → Account = λ ls. record s { lights = ls } in
    let lit : lights_from 0 (set ws c.word_place-place.result (2 + c.from.result)) ≡ add_light (light_at c.args.b c.args.j) (lights_from 0 ws) =
    ap (λ i. lights_from 0 (set ws i (2 + c.from.result))) at ∙ (ap (λ v. lights_from 0 (set ws (c.args.b * 1024 + c.args.j) (2 + v))) c.from.ensures ∙ slot_lit c.args.b c.args.j (2 + b.caller) ws lj in_range free many) in
    record {
      light = refl;
      idle = λ e. not_owned L b.profile b.history.items b.lawful b.caller (pairs_told b.quanta.items b.history.items) ws c.args.b c.args.j c.args.expect b.in_one_hand b.words c.requires.below lj c.requires.kind c.requires.free c.requires.owned (w ∙ e);
      alone = λ y. ap (λ q. cond q (2 + b.caller) (one_for (is_slot_live b.profile st c.args.b c.args.j))) c.requires.free ∙ (sym tell ∙ w);
      after = ap f lit;
    }

pub returns-clause-holds : goal.returns-clause-holds
returns-clause-holds g c =
    let b = c.args.self.now in
    let L = c.of_histories.ensures in
    let st = after_all b.profile opening b.history.items in
    let ws = b.slots.items in
    let lj = asked_few L b.profile b.history.items b.lawful b.caller (pairs_told b.quanta.items b.history.items) b.classes.items c.args.b c.args.j c.args.expect b.in_one_hand c.requires.kind c.requires.settled c.requires.there c.requires.owned in
    let at : c.word_place-place.result ≡ c.args.b * 1024 + c.args.j = c.word_place-place.ensures in
    let in_range : c.args.b * 1024 + c.args.j < length ws = omega (arith, b.slot_count, c.requires.below, lj) in
    let w : get_or ws (c.args.b * 1024 + c.args.j) 0 ≡ c.index-word.result.now = get_or_any ws (c.args.b * 1024 + c.args.j) 0 c.index-word.result.now in_range ∙ (ap (λ i. get_or ws i c.index-word.result.now) (sym at) ∙ sym c.index-word.ensures) in
    let tell = tells L b.profile b.history.items b.lawful b.caller (pairs_told b.quanta.items b.history.items) ws c.args.b c.args.j c.args.expect b.in_one_hand b.words c.requires.below lj c.requires.kind c.requires.free c.requires.owned in
    let s = plain_account b.profile b.caller (site_of (g.V.Keep.keeping b.site.value)) b.history.items b.limit b.held.items (pairs_told b.quanta.items b.history.items) b.classes.items b.slots.items b.holds b.founds b.found in
    let f : ℕ → Account = λ n. record s { founds = n; found = Some (HoldLight c.args.b c.args.j c.args.expect) } in
    record {
      idle = only_idle L b.profile b.history.items b.lawful b.caller (pairs_told b.quanta.items b.history.items) ws c.args.b c.args.j c.args.expect b.in_one_hand b.words c.requires.below lj c.requires.kind c.requires.free c.requires.owned (λ e. c.if-word-expect.false (sym w ∙ e));
      other = c.if-word-expect.false;
      alone = λ y. ap (λ q. cond q (2 + b.caller) (one_for (is_slot_live b.profile st c.args.b c.args.j))) c.requires.free ∙ (sym tell ∙ w);
      after = ap f c.saturating_add-self.ensures;
    }
