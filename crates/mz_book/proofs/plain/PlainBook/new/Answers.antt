use Rattle.std.proofs.Common.{◌≡◌, ℕ, ◌-◌, ◌*◌, ◌<◌, [], List, length, get_or, Some, Option, ap, sym, ◌∙◌, subst, arith}
use Rattle.std.specs.Prelude.{map, replicate, nat_le}
use Rattle.std.specs.List.{list_all}
use Rattle.std.proofs.lemmas.List.{length-map}
use Rattle.mz_base.specs.Site.{Site}
use Rattle.mz_events.specs.declared.entry.Entry.{Entry}
use Rattle.mz_events.specs.State.{State, opening}
use Rattle.mz_events.specs.History.{after_all}
use Rattle.mz_events.specs.Hands.{own}
use Rattle.mz_book.specs.declared.light.Light.{Light}
use Rattle.mz_book.specs.declared.pair.Pair.{Pair}
use Rattle.mz_book.specs.Lights.{lights_from}
use Rattle.mz_book.specs.Account.{Account}
use Rattle.mz_book.specs.Owners.{pairs_told}
use Rattle.mz_book.specs.Rule.{AreHome, AreInOneHand, AreOfClass, AreWords}
use Rattle.mz_book.specs.Plain.{opening_account, site_of, last_site}
use Rattle.mz_book.proofs.HomeLemmas.{open_home, last_site_is, lawful_none, open_live, open_hands}
use Rattle.mz_book.proofs.LightLemmas.{no_lights}
use Rattle.mz_book.proofs.WordLemmas.{no_words, no_classes, no_class}
use Rattle.mz_book.proofs.plain.PlainBook.new.Goals as goal

pub invariant_of-result-clause-caller_in : goal.invariant_of-result-clause-caller_in
invariant_of-result-clause-caller_in g c = c.requires.limits.callers.0

pub invariant_of-result-clause-lawful : goal.invariant_of-result-clause-lawful
invariant_of-result-clause-lawful g c = rw c.new.ensures.items (lawful_none c.args.p.now)

pub invariant_of-result-clause-within : goal.invariant_of-result-clause-within
invariant_of-result-clause-within g c = omega (arith, ap length c.new.ensures.items)

pub invariant_of-result-clause-sized : goal.invariant_of-result-clause-sized
invariant_of-result-clause-sized g c = ap length c.in_ok-keepers.ensures ∙ (length-map c.args.keepers.items Some ∙ (sym (length-map c.args.keepers.items g.V.Keep.keeping) ∙ c.requires.stand.count))

pub invariant_of-result-clause-held_room : goal.invariant_of-result-clause-held_room
invariant_of-result-clause-held_room g c = omega (arith, c.in_ok-held.ensures.capacity, c.len.ensures, c.args.keepers.ok.0, length-map c.args.keepers.items g.V.Keep.keeping, c.requires.stand.count)

pub invariant_of-result-clause-home : goal.invariant_of-result-clause-home
invariant_of-result-clause-home g c =
    let p = c.args.p.now in
    let vs = c.args.keepers.items in
    let keeping = g.V.Keep.keeping in
    let h = open_home keeping p vs c.requires.stand in
    let some : 0 < length vs = omega (arith, length-map vs keeping, c.requires.stand.count) in
    let last : last_site (map keeping vs) ≡ site_of (keeping c.of-site.result.value) =
    last_site_is keeping vs c.index.result.now some ∙ ap (λ v. site_of (keeping v)) (ap (λ i. get_or vs i c.index.result.now) (omega (arith, c.args.keepers.ok.0, c.len-last.ensures)) ∙ (sym c.index.ensures ∙ sym c.of-site.ensures)) in
    let at : Site → List (Option g.row.V.Denot) → List ℕ → State → Type 0 = λ x ks held st. AreHome keeping x p st held ks in
    let a = subst (λ x. at x (map Some vs) [] (after_all p opening [])) last h in
    let b = subst (λ ks. at (site_of (keeping c.of-site.result.value)) ks [] (after_all p opening [])) (sym c.in_ok-keepers.ensures) a in
    let d = subst (λ held. at (site_of (keeping c.of-site.result.value)) c.in_ok-keepers.keepers.items held (after_all p opening [])) (sym c.in_ok-held.ensures.items) b in
    subst (λ es. at (site_of (keeping c.of-site.result.value)) c.in_ok-keepers.keepers.items c.in_ok-held.held.items (after_all p opening es)) (sym c.new.ensures.items) d

pub invariant_of-result-clause-in_one_hand : goal.invariant_of-result-clause-in_one_hand
invariant_of-result-clause-in_one_hand g c =
    let p = c.args.p.now in
    subst (λ es. AreInOneHand (after_all p opening es) (pairs_told c.in_ok-quanta.quanta.items es)) (sym c.new.ensures.items) (open_hands p)

pub invariant_of-result-clause-quantum_count : goal.invariant_of-result-clause-quantum_count
invariant_of-result-clause-quantum_count g c = sym c.in_ok-quanta.quanta.ok.0 ∙ c.in_ok-quanta.ensures.len

pub invariant_of-result-clause-class_count : goal.invariant_of-result-clause-class_count
invariant_of-result-clause-class_count g c = sym c.in_ok-classes.classes.ok.0 ∙ c.in_ok-classes.ensures.len

pub invariant_of-result-clause-class_most : goal.invariant_of-result-clause-class_most
invariant_of-result-clause-class_most g c = ap (λ cs. list_all (λ d. nat_le d 16) cs) (c.in_ok-classes.ensures.items_if_clones_equal (λ y e. e)) ∙ no_classes c.args.p.now.nano

pub invariant_of-result-clause-of_class : goal.invariant_of-result-clause-of_class
invariant_of-result-clause-of_class g c =
    let p = c.args.p.now in
    subst (λ es. AreOfClass p (after_all p opening es) c.in_ok-classes.classes.items) (sym c.new.ensures.items) (no_class p (after_all p opening []) c.in_ok-classes.classes.items (open_live p))

pub invariant_of-result-clause-slot_count : goal.invariant_of-result-clause-slot_count
invariant_of-result-clause-slot_count g c = sym c.in_ok-slots.slots.ok.0 ∙ c.in_ok-slots.ensures.len

pub invariant_of-result-clause-words : goal.invariant_of-result-clause-words
invariant_of-result-clause-words g c =
    let p = c.args.p.now in
    let zeros = c.in_ok-slots.ensures.items_if_clones_equal (λ y e. e) in
    subst (λ es. AreWords p (after_all p opening es) 0 (pairs_told c.in_ok-quanta.quanta.items es) c.in_ok-slots.slots.items) (sym c.new.ensures.items)
    (subst (λ ws. AreWords p (after_all p opening []) 0 [] ws) (sym zeros) (no_words p (after_all p opening []) 0 [] (p.nano * 1024) (open_live p)))

pub returns : goal.returns
returns g c =
    let p = c.args.p.now in
    let vs = c.args.keepers.items in
    let keeping = g.V.Keep.keeping in
    let some : 0 < length vs = omega (arith, length-map vs keeping, c.requires.stand.count) in
    let last : last_site (map keeping vs) ≡ site_of (keeping c.of-site.result.value) =
    last_site_is keeping vs c.index.result.now some ∙ ap (λ v. site_of (keeping v)) (ap (λ i. get_or vs i c.index.result.now) (omega (arith, c.args.keepers.ok.0, c.len-last.ensures)) ∙ (sym c.index.ensures ∙ sym c.of-site.ensures)) in
    let s = opening_account p (last_site (map keeping vs)) in
    let f : Site → List Entry → List ℕ → List Pair → List ℕ → List Light → Account = λ x es held ps cs ls. record s { site = x; seen = es; noted = own 0 es; spare = 0 - length es; held = held; pairs = ps; settled = cs; lights = ls } in
    let x = site_of (keeping c.of-site.result.value) in
    let dark : lights_from 0 c.in_ok-slots.slots.items ≡ [] = ap (lights_from 0) (c.in_ok-slots.ensures.items_if_clones_equal (λ y e. e)) ∙ no_lights 0 (p.nano * 1024) in
    ap (λ es. f x es c.in_ok-held.held.items (pairs_told c.in_ok-quanta.quanta.items es) c.in_ok-classes.classes.items (lights_from 0 c.in_ok-slots.slots.items)) c.new.ensures.items
    ∙ (ap (λ held. f x [] held [] c.in_ok-classes.classes.items (lights_from 0 c.in_ok-slots.slots.items)) c.in_ok-held.ensures.items
    ∙ (ap (λ cs. f x [] [] [] cs (lights_from 0 c.in_ok-slots.slots.items)) (c.in_ok-classes.ensures.items_if_clones_equal (λ y e. e))
    ∙ (ap (λ ls. f x [] [] [] (replicate p.nano 0) ls) dark
    ∙ ap (λ y. f y [] [] [] (replicate p.nano 0) []) (sym last))))
