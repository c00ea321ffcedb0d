use Rattle.std.proofs.Common.{ℕ, List, [], Option, length, reverse, arith, refl, sym, ap, ◌∙◌, subst}
use Rattle.mz_events.specs.declared.entry.Entry.{Entry}
use Rattle.mz_book.specs.Keepers.{keeper_count}
use Rattle.mz_book.specs.declared.light.Light.{Light}
use Rattle.mz_book.specs.Account.{Account}
use Rattle.mz_book.specs.Lights.{is_slot_live}
use Rattle.mz_book.specs.Parts.{site_in, state_in, account_in}
use Rattle.mz_book.specs.Rule.{AreHome}
use Rattle.mz_desk.specs.declared.view.Opening.{Opening}
use Rattle.mz_desk.specs.Keys.{opened_as}
use Rattle.mz_desk.specs.Needs.{Seated}
use Rattle.mz_register.specs.Passes.{IsRested, IsKnowing, keys, bare}
use Rattle.mz_register.specs.Opened.{AreDealt}
use Rattle.mz_register.specs.HandIn.{unspared}
use Rattle.mz_register.proofs.FitLemmas.{none_lit_apart}
use Rattle.mz_register.proofs.WordLemmas.{can_open, few_keepers, word_length}
use Rattle.mz_register.proofs.FirstLemmas.{first_rested, first_knowing, all_opened}
use Rattle.mz_register.proofs.register.Register.of_parts.Goals as goal

pub new-requires : goal.new-requires
new-requires g c =
    let x = c.args.parts in
    c.open.ensures (opened_as g.V.Keep.keeping (record { profile = x.profile; history = x.history; quanta = x.quanta; classes = x.classes; site = x.site })) c.as_slice.result.now x.keepers.items
    (can_open g.V.Keep.keeping x c.requires c.as_slice.result.now (c.as_slice.ensures.value ∙ c.in-Ok.ensures))

pub invariant_of-register-clause-limits : goal.invariant_of-register-clause-limits
invariant_of-register-clause-limits g c = c.requires.limits

pub invariant_of-register-clause-count : goal.invariant_of-register-clause-count
invariant_of-register-clause-count g c = c.len-keepers.ensures ∙ (c.args.parts.keepers.ok.0 ∙ c.requires.keepers)

pub invariant_of-register-clause-few : goal.invariant_of-register-clause-few
invariant_of-register-clause-few g c = let e = c.len-keepers.ensures ∙ (c.args.parts.keepers.ok.0 ∙ c.requires.keepers) in let f = few_keepers c.args.parts.profile c.requires.limits in omega arith

pub invariant_of-register-clause-words : goal.invariant_of-register-clause-words
invariant_of-register-clause-words g c =
    let x = c.args.parts in
    let n = word_length (length x.history.items) (length x.keepers.items) x.classes.items x.slots.items in
    let e = ap length (c.as_slice.ensures.value ∙ c.in-Ok.ensures) in
    let t = c.in-Ok-new.ensures.ok.0 in
    let k = c.requires.keepers in let l = c.requires.class_count in let s = c.requires.slot_count in
    omega arith

pub invariant_of-register-clause-slots : goal.invariant_of-register-clause-slots
invariant_of-register-clause-slots g c = c.in-Ok-new.ensures.ok.1 ∙ c.requires.keepers

pub invariant_of-register-clause-profile : goal.invariant_of-register-clause-profile
invariant_of-register-clause-profile g c = ap (λ (o : Opening g.row.V.Denot). o.profile) c.in-Ok-new.ensures.ok.5

pub invariant_of-register-clause-history : goal.invariant_of-register-clause-history
invariant_of-register-clause-history g c = ap (λ (o : Opening g.row.V.Denot). o.history.items) c.in-Ok-new.ensures.ok.5

pub invariant_of-register-clause-quanta : goal.invariant_of-register-clause-quanta
invariant_of-register-clause-quanta g c = ap (λ (o : Opening g.row.V.Denot). o.quanta.items) c.in-Ok-new.ensures.ok.5

pub invariant_of-register-clause-classes : goal.invariant_of-register-clause-classes
invariant_of-register-clause-classes g c = ap (λ (o : Opening g.row.V.Denot). o.classes.items) c.in-Ok-new.ensures.ok.5

pub invariant_of-register-clause-site : goal.invariant_of-register-clause-site
invariant_of-register-clause-site g c = ∣ ap (λ (o : Opening g.row.V.Denot). o.site) c.in-Ok-new.ensures.ok.5 ∣₁

pub invariant_of-register-clause-caller : goal.invariant_of-register-clause-caller
invariant_of-register-clause-caller g c = c.requires.caller

pub invariant_of-register-clause-quantum_count : goal.invariant_of-register-clause-quantum_count
invariant_of-register-clause-quantum_count g c = c.requires.quanta

pub invariant_of-register-clause-class_count : goal.invariant_of-register-clause-class_count
invariant_of-register-clause-class_count g c = c.requires.class_count

pub invariant_of-register-clause-slot_count : goal.invariant_of-register-clause-slot_count
invariant_of-register-clause-slot_count g c = c.requires.slot_count

pub invariant_of-first-clause-rested : goal.invariant_of-first-clause-rested
invariant_of-first-clause-rested g c =
    let x = c.args.parts in
    let key = opened_as g.V.Keep.keeping (record { profile = x.profile; history = x.history; quanta = x.quanta; classes = x.classes; site = x.site }) in
    subst (λ (hs : List ℕ). IsRested c.in-Ok-new.seat.me.0 0 c.new-in-Ok-new.result.items hs) (sym c.requires.held) (subst (λ (es : List Entry). IsRested c.in-Ok-new.seat.me.0 0 es []) (sym c.new-in-Ok-new.ensures.items)
    (subst (λ (m : Seated g.row.V.Denot). IsRested m.0 0 [] []) (sym c.in-Ok-new.ensures.ok.4) (first_rested key)))

pub invariant_of-first-clause-knowing : goal.invariant_of-first-clause-knowing
invariant_of-first-clause-knowing g c = subst (λ (m : Seated g.row.V.Denot). IsKnowing m.0) (sym c.in-Ok-new.ensures.ok.4) (first_knowing g.V.Keep.keeping c.args.parts c.requires)

pub invariant_of-first-clause-carried : goal.invariant_of-first-clause-carried
invariant_of-first-clause-carried g c = ap (λ (m : Seated g.row.V.Denot). keys m.1) c.in-Ok-new.ensures.ok.4 ∙ ap reverse (sym c.requires.held)

pub invariant_of-first-clause-none_inside : goal.invariant_of-first-clause-none_inside
invariant_of-first-clause-none_inside g c = ap (λ (m : Seated g.row.V.Denot). bare m.1) c.in-Ok-new.ensures.ok.4

pub invariant_of-first-clause-room : goal.invariant_of-first-clause-room
invariant_of-first-clause-room g c = let e = ap (λ (m : Seated g.row.V.Denot). keeper_count m.0.profile) c.in-Ok-new.ensures.ok.4 in let r = c.requires.held_room in omega arith

pub returns-in-Ok-new-clause-ok : goal.returns-in-Ok-new-clause-ok
returns-in-Ok-new-clause-ok g c =
    let x = c.args.parts in
    let d = subst (λ (o : Opening g.row.V.Denot). AreDealt c.in-Ok-new.table.shared.table_id (opened_as g.V.Keep.keeping o) x.profile.callers c.deal-passes.result.items) c.in-Ok-new.ensures.ok.5 c.deal-passes.ensures in
    all_opened g.V.Keep.keeping x c.in-Ok-new.table.shared.table_id c.deal-passes.result.items d

pub returns-clause-err : goal.returns-clause-err
returns-clause-err g c =
    let x = c.args.parts in
    let f = c.requires in
    let e = c.in-Err.ensures.err in (
      record {
        limits = f.limits;
        caller = f.caller;
        lawful = f.lawful;
        within = f.within;
        limited = f.limited;
        few = f.few;
        quanta = f.quanta;
        keepers = ap length e ∙ f.keepers;
        held = f.held;
        held_room = f.held_room;
        home = subst (λ (ks : List (Option g.row.V.Denot)). AreHome g.V.Keep.keeping (site_in g.V.Keep.keeping x) x.profile (state_in x) [] ks) (sym e) f.home;
        in_one_hand = f.in_one_hand;
        class_count = f.class_count;
        class_most = f.class_most;
        of_class = f.of_class;
        slot_count = f.slot_count;
        words = f.words;
      },
      refl,
    )

pub returns-in-Ok-new-clause-former : goal.returns-in-Ok-new-clause-former
returns-in-Ok-new-clause-former g c =
    let x = c.args.parts in
    let s = unspared (account_in g.V.Keep.keeping x) in
    let f : List Light → Account = λ ls. record s { lights = ls } in
    sym (ap f (none_lit_apart x.profile.nano x.slots.items (λ b j. is_slot_live x.profile (state_in x) b j) c.requires.slot_count c.requires.words))
