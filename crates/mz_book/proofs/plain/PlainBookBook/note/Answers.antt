use Rattle.std.proofs.Common.{◌≡◌, ◌<◌, ◌-◌, [], length, ℕ, false, List, ◌∷◌, ◌++◌, arith, sym, ap, ◌∙◌, refl, subst, append-nil, length-append}
use Rattle.std.proofs.lemmas.List.Elements.{All-nil}
use Rattle.mz_base.specs.Space.{Block}
use Rattle.mz_events.specs.State.{State, opening, value_at, is_open}
use Rattle.mz_events.specs.History.{AreLawful, after_all}
use Rattle.mz_events.specs.Effect.{after}
use Rattle.mz_events.specs.Hands.{own}
use Rattle.mz_events.specs.Holding.{IsAway}
use Rattle.mz_events.specs.declared.entry.Entry.{Entry}
use Rattle.mz_book.specs.Keepers.{keeper_count, keeper_spot, is_among, is_held}
use Rattle.mz_book.specs.declared.pair.Pair.{Pair}
use Rattle.mz_book.specs.Pairs.{pairs_after}
use Rattle.mz_book.specs.Account.{Account, entry_at}
use Rattle.mz_book.specs.Rule.{AreInOneHand, AreOfClass, AreWords}
use Rattle.mz_book.specs.Plain.{plain_account, site_of}
use Rattle.mz_book.proofs.QuantumLemmas.{note_inside, told_noted}
use Rattle.mz_book.proofs.HomeLemmas.{note_home}
use Rattle.mz_book.proofs.PlainLemmas.{note_fits, note_class, note_words, note_one, note_far, either, zones_then}
use Rattle.mz_book.proofs.OwnLemmas.{own_more}
use Rattle.mz_book.specs.Owners.{pairs_told, quanta_after}
use Rattle.mz_book.proofs.plain.PlainBookBook.note.Goals as goal

pub own-requires : goal.own-requires
own-requires g c =
    let b = c.args.self.now in
    let L = c.of_histories.ensures in
    let fits = note_fits L b.profile b.caller (site_of (g.V.Keep.keeping b.site.value)) b.history.items b.limit b.held.items (pairs_told b.quanta.items b.history.items) b.classes.items b.slots.items b.holds b.founds b.found b.limits b.caller_in b.lawful b.in_one_hand b.class_most b.of_class b.words c.args.e c.requires in
    note_inside L b.profile (c.live_bytes_fit_the_space.ensures b.profile) b.history.items b.lawful b.quanta.items b.in_one_hand b.quantum_count b.caller c.args.e fits (λ x. c.live_blocks_after_an_event.ensures b.profile b.history.items b.caller c.args.e x b.lawful fits)

pub invariant_of-self-clause-lawful : goal.invariant_of-self-clause-lawful
invariant_of-self-clause-lawful g c =
    let b = c.args.self.now in
    let L = c.of_histories.ensures in
    let es = b.history.items in
    let e = entry_at c.len-ticket.result b.caller c.args.e in
    let fits = note_fits L b.profile b.caller (site_of (g.V.Keep.keeping b.site.value)) es b.limit b.held.items (pairs_told b.quanta.items b.history.items) b.classes.items b.slots.items b.holds b.founds b.found b.limits b.caller_in b.lawful b.in_one_hand b.class_most b.of_class b.words c.args.e c.requires in
    let n : c.len-ticket.result ≡ (after_all b.profile opening es).entries = omega (arith, c.len-ticket.ensures, b.history.ok.0, L.counted b.profile opening es) in
    let more : AreLawful b.profile opening (es ++ e ∷ []) = (L.joined b.profile opening es (e ∷ [])).1 (b.lawful, (L.one b.profile (after_all b.profile opening es) e).1 (record { in_turn = n; fits = fits })) in
    rw c.push_reserved.ensures.items more

pub invariant_of-self-clause-within : goal.invariant_of-self-clause-within
invariant_of-self-clause-within g c =
    let b = c.args.self.now in
    let l = ap length c.push_reserved.ensures.items ∙ length-append b.history.items _ in
    let r = c.requires.room in
    omega arith

pub invariant_of-self-clause-home : goal.invariant_of-self-clause-home
invariant_of-self-clause-home g c =
    let b = c.args.self.now in
    let L = c.of_histories.ensures in
    let e = entry_at c.len-ticket.result b.caller c.args.e in
    let s = after_all b.profile opening b.history.items in
    let t = after_all b.profile opening c.push_reserved.new.self.items in
    let last = ap (after_all b.profile opening) c.push_reserved.ensures.items ∙ (L.after_joined b.profile opening b.history.items (e ∷ []) ∙ L.after_one b.profile s e) in
    let same : (k : ℕ) → k < keeper_count b.profile → is_among b.held.items k ≡ false → value_at s (keeper_spot b.profile k) ≡ value_at t (keeper_spot b.profile k) = λ k l f.
    sym (ap (λ (u : State). value_at u (keeper_spot b.profile k)) last
    ∙ L.untouched b.profile s b.caller c.args.e (keeper_spot b.profile k) (note_far L b.profile b.caller (site_of (g.V.Keep.keeping b.site.value)) b.history.items b.limit b.held.items (pairs_told b.quanta.items b.history.items) b.classes.items b.slots.items b.holds b.founds b.found b.limits b.caller_in b.lawful b.in_one_hand b.class_most b.of_class b.words c.args.e k c.requires l f)) in
    note_home g.V.Keep.keeping (site_of (g.V.Keep.keeping b.site.value)) b.profile s t b.held.items b.keepers.items same b.home

pub invariant_of-self-clause-in_one_hand : goal.invariant_of-self-clause-in_one_hand
invariant_of-self-clause-in_one_hand g c =
    let b = c.args.self.now in
    let L = c.of_histories.ensures in
    let e = entry_at c.len-ticket.result b.caller c.args.e in
    let s = after_all b.profile opening b.history.items in
    let last = ap (after_all b.profile opening) c.push_reserved.ensures.items ∙ (L.after_joined b.profile opening b.history.items (e ∷ []) ∙ L.after_one b.profile s e) in
    let fits = note_fits L b.profile b.caller (site_of (g.V.Keep.keeping b.site.value)) b.history.items b.limit b.held.items (pairs_told b.quanta.items b.history.items) b.classes.items b.slots.items b.holds b.founds b.found b.limits b.caller_in b.lawful b.in_one_hand b.class_most b.of_class b.words c.args.e c.requires in
    let h = note_one L b.profile b.caller (site_of (g.V.Keep.keeping b.site.value)) b.history.items b.limit b.held.items (pairs_told b.quanta.items b.history.items) b.classes.items b.slots.items b.holds b.founds b.found b.limits b.caller_in b.lawful b.in_one_hand b.class_most b.of_class b.words c.args.e c.requires (λ x. c.live_blocks_after_an_event.ensures b.profile b.history.items b.caller c.args.e x b.lawful fits) in
    let live = λ (x : Block). c.live_blocks_after_an_event.ensures b.profile b.history.items b.caller c.args.e x b.lawful fits in
    let told : pairs_told c.own.new.quanta.items c.push_reserved.new.self.items ≡ pairs_after b.caller (pairs_told b.quanta.items b.history.items) c.args.e =
    ap (λ u. pairs_told u c.push_reserved.new.self.items) c.own.ensures.items ∙ (ap (pairs_told (quanta_after b.caller b.quanta.items c.args.e)) c.push_reserved.ensures.items
    ∙ told_noted L b.profile (c.live_bytes_fit_the_space.ensures b.profile) b.history.items b.lawful b.quanta.items b.in_one_hand b.quantum_count b.caller c.len-ticket.result c.args.e fits live c.requires.in_hand) in
    subst (λ ps. AreInOneHand (after_all b.profile opening c.push_reserved.new.self.items) ps) (sym told) (subst (λ u. AreInOneHand u (pairs_after b.caller (pairs_told b.quanta.items b.history.items) c.args.e)) (sym last) h)

pub invariant_of-self-clause-of_class : goal.invariant_of-self-clause-of_class
invariant_of-self-clause-of_class g c =
    let b = c.args.self.now in
    let L = c.of_histories.ensures in
    let e = entry_at c.len-ticket.result b.caller c.args.e in
    let s = after_all b.profile opening b.history.items in
    let last = ap (after_all b.profile opening) c.push_reserved.ensures.items ∙ (L.after_joined b.profile opening b.history.items (e ∷ []) ∙ L.after_one b.profile s e) in
    let h = note_class L b.profile b.caller (site_of (g.V.Keep.keeping b.site.value)) b.history.items b.limit b.held.items (pairs_told b.quanta.items b.history.items) b.classes.items b.slots.items b.holds b.founds b.found b.limits b.caller_in b.lawful b.in_one_hand b.class_most b.of_class b.words c.args.e c.requires in
    subst (λ u. AreOfClass b.profile u b.classes.items) (sym last) h

pub invariant_of-self-clause-words : goal.invariant_of-self-clause-words
invariant_of-self-clause-words g c =
    let b = c.args.self.now in
    let L = c.of_histories.ensures in
    let e = entry_at c.len-ticket.result b.caller c.args.e in
    let s = after_all b.profile opening b.history.items in
    let last = ap (after_all b.profile opening) c.push_reserved.ensures.items ∙ (L.after_joined b.profile opening b.history.items (e ∷ []) ∙ L.after_one b.profile s e) in
    let h = note_words L b.profile b.caller (site_of (g.V.Keep.keeping b.site.value)) b.history.items b.limit b.held.items (pairs_told b.quanta.items b.history.items) b.classes.items b.slots.items b.holds b.founds b.found b.limits b.caller_in b.lawful b.in_one_hand b.class_most b.of_class b.words c.args.e c.requires in
    let fits = note_fits L b.profile b.caller (site_of (g.V.Keep.keeping b.site.value)) b.history.items b.limit b.held.items (pairs_told b.quanta.items b.history.items) b.classes.items b.slots.items b.holds b.founds b.found b.limits b.caller_in b.lawful b.in_one_hand b.class_most b.of_class b.words c.args.e c.requires in
    let live = λ (x : Block). c.live_blocks_after_an_event.ensures b.profile b.history.items b.caller c.args.e x b.lawful fits in
    let told : pairs_told c.own.new.quanta.items c.push_reserved.new.self.items ≡ pairs_after b.caller (pairs_told b.quanta.items b.history.items) c.args.e =
    ap (λ u. pairs_told u c.push_reserved.new.self.items) c.own.ensures.items ∙ (ap (pairs_told (quanta_after b.caller b.quanta.items c.args.e)) c.push_reserved.ensures.items
    ∙ told_noted L b.profile (c.live_bytes_fit_the_space.ensures b.profile) b.history.items b.lawful b.quanta.items b.in_one_hand b.quantum_count b.caller c.len-ticket.result c.args.e fits live c.requires.in_hand) in
    subst (λ ps. AreWords b.profile (after_all b.profile opening c.push_reserved.new.self.items) b.caller ps b.slots.items) (sym told) (subst (λ u. AreWords b.profile u b.caller (pairs_after b.caller (pairs_told b.quanta.items b.history.items) c.args.e) b.slots.items) (sym last) h)

pub returns : goal.returns
returns g c =
    let b = c.args.self.now in
    let L = c.of_histories.ensures in
    let n = c.len-ticket.result in
    let e = entry_at n b.caller c.args.e in
    let es = b.history.items in
    let st = after_all b.profile opening es in
    let s = plain_account b.profile b.caller (site_of (g.V.Keep.keeping b.site.value)) b.history.items b.limit b.held.items (pairs_told b.quanta.items b.history.items) b.classes.items b.slots.items b.holds b.founds b.found in
    let f : List Entry → List Entry → List Pair → ℕ → Account = λ h o d r. record s { seen = h; noted = o; pairs = d; spare = r } in
    let seen : c.push_reserved.new.self.items ≡ (es ++ []) ++ e ∷ [] = c.push_reserved.ensures.items ∙ ap (λ x. x ++ e ∷ []) (sym (append-nil es)) in
    let noted : own b.caller c.push_reserved.new.self.items ≡ own b.caller es ++ e ∷ [] = ap (own b.caller) c.push_reserved.ensures.items ∙ own_more b.caller es e refl in
    let l = ap length c.push_reserved.ensures.items ∙ length-append es (e ∷ []) in
    let spare : b.limit - length c.push_reserved.new.self.items ≡ b.limit - length es - 1 = omega arith in
    let last : after_all b.profile opening c.push_reserved.new.self.items ≡ after b.profile st b.caller c.args.e = ap (after_all b.profile opening) c.push_reserved.ensures.items ∙ (L.after_joined b.profile opening es (e ∷ []) ∙ L.after_one b.profile st e) in
    let fits = note_fits L b.profile b.caller (site_of (g.V.Keep.keeping b.site.value)) b.history.items b.limit b.held.items (pairs_told b.quanta.items b.history.items) b.classes.items b.slots.items b.holds b.founds b.found b.limits b.caller_in b.lawful b.in_one_hand b.class_most b.of_class b.words c.args.e c.requires in
    let live = λ (x : Block). c.live_blocks_after_an_event.ensures b.profile b.history.items b.caller c.args.e x b.lawful fits in
    let told : pairs_told c.own.new.quanta.items c.push_reserved.new.self.items ≡ pairs_after b.caller (pairs_told b.quanta.items b.history.items) c.args.e =
    ap (λ u. pairs_told u c.push_reserved.new.self.items) c.own.ensures.items ∙ (ap (pairs_told (quanta_after b.caller b.quanta.items c.args.e)) c.push_reserved.ensures.items
    ∙ told_noted L b.profile (c.live_bytes_fit_the_space.ensures b.profile) b.history.items b.lawful b.quanta.items b.in_one_hand b.quantum_count b.caller c.len-ticket.result c.args.e fits live c.requires.in_hand) in
    record {
      others = [];
      away = All-nil (IsAway b.profile b.caller (is_held b.profile b.held.items));
      alone = λ y. refl;
      ticket = (c.len-ticket.ensures ∙ b.history.ok.0) ∙ ap length (sym (append-nil es));
      after = ap (λ h. f h (own b.caller c.push_reserved.new.self.items) (pairs_told c.own.new.quanta.items c.push_reserved.new.self.items) (b.limit - length c.push_reserved.new.self.items)) seen
          ∙ (ap (λ o. f ((es ++ []) ++ e ∷ []) o (pairs_told c.own.new.quanta.items c.push_reserved.new.self.items) (b.limit - length c.push_reserved.new.self.items)) noted
          ∙ (ap (λ d. f ((es ++ []) ++ e ∷ []) (own b.caller es ++ e ∷ []) d (b.limit - length c.push_reserved.new.self.items)) told
          ∙ ap (f ((es ++ []) ++ e ∷ []) (own b.caller es ++ e ∷ []) (pairs_after b.caller (pairs_told b.quanta.items b.history.items) c.args.e)) spare));
      learns = λ j h. ap (λ (u : State). value_at u j) last ∙ either L b.profile st b.caller c.args.e j;
      zones = λ y. ap (λ (u : State). is_open u y) last ∙ zones_then L b.profile st b.caller c.args.e y;
    }
