use Rattle.std.proofs.Common.{◌≡◌, ◌⊎◌, ⊎_elim, inl, inr, ℕ, ◌+◌, ◌<◌, true, List, [], ◌∷◌, ◌++◌, length, get_or, Some, Vec, arith, sym, ap, ◌∙◌, subst, length-append}
use Rattle.std.specs.Prelude.{slice_get}
use Rattle.std.specs.List.{All}
use Rattle.std.specs.Vec.{vec_capacity}
use Rattle.std.specs.declared.alloc.Global.{Global}
use lib.ListN.{get_elem?}
use Rattle.core.specs.Mem.Slots.{slots_items}
use Rattle.mz_base.specs.declared.profile.Profile.{Profile}
use Rattle.mz_events.specs.declared.entry.Entry.{Entry}
use Rattle.mz_events.specs.Hands.{own}
use Rattle.mz_events.specs.Standing.{Keeping}
use Rattle.mz_book.specs.declared.parts.Parts.{Parts}
use Rattle.mz_book.specs.Keepers.{keeper_count}
use Rattle.mz_book.specs.Pairs.{hand_among}
use Rattle.mz_book.specs.Account.{Account}
use Rattle.mz_book.specs.Owners.{pairs_told}
use Rattle.mz_book.specs.Handed.{pairs_since, quanta_since, GoesOn}
use Rattle.mz_book.specs.Parts.{site_in, account_in}
use Rattle.mz_desk.specs.declared.view.View.{View}
use Rattle.mz_desk.specs.Words.{class_word}
use Rattle.mz_desk.specs.Views.{knows_class}
use Rattle.mz_desk.specs.Keys.{opened_as}
use Rattle.mz_desk.specs.Rule.{Homes}
use Rattle.mz_desk.specs.Ending.{Ended}
use Rattle.mz_register.specs.declared.pass.Pass.{Pass}
use Rattle.mz_register.specs.declared.register.Register.{Register}
use Rattle.mz_register.specs.Accounts.{pass_account}
use Rattle.mz_register.specs.Merged.{CanWrite}
use Rattle.mz_register.specs.HandIn.{former, IsIdleOf, IsPassOf, IsKnownToOne, HandsIn}
use Rattle.mz_register.proofs.CountLemmas.{all_noted}
use Rattle.mz_register.proofs.JoinLemmas.{its_held}
use Rattle.mz_register.proofs.HandInLemmas.{some_below, known_to, all_in, idle0, one_moved, each_end, each_noted, moved_noted}
use Rattle.mz_register.proofs.WriteLemmas.{can_write, steady_all}
use Rattle.mz_register.proofs.FitLemmas.{Comes, fits, none_held, spare_none}
use Rattle.mz_register.proofs.AtEnd.{last, at_end}
use Rattle.mz_register.proofs.register.Register.into_parts.Given as given
use Rattle.mz_register.proofs.register.Register.into_parts.Goals as goal

pub close-closed-requires-clause-all : goal.close-closed-requires-clause-all
close-closed-requires-clause-all g c =
    let r = c.args.self in
    all_in r.table.shared.table_id r.opening.profile c.args.passes.items c.requires.all c.join_all-seat.result.0 c.join_all-seat.result.1.items c.join_all-seat.result.2 c.join_all-seat.ensures

pub write-requires-clause-can : goal.write-requires-clause-can
write-requires-clause-can g c =
    let r = c.args.self in
    let p = r.opening.profile in
    let passes = c.args.passes.items in
    let t = c.join_all-seat.result in
    let i = c.join_all-seat.ensures in
    let e = at_end g.V.Keep.keeping r passes t.0 t.1.items t.2 i c.close-closed.result c.close-closed.ensures in
    let noted = each_noted r.table.shared.table_id p passes c.requires.all t.0 t.1.items t.2 i g.V.Keep.keeping (opened_as g.V.Keep.keeping r.opening) (slots_items c.close-closed.result.words) c.close-closed.ensures.homes e in
    let moved = moved_noted r.table.shared.table_id p passes c.requires.all t.0 t.1.items t.2 i g.V.Keep.keeping (opened_as g.V.Keep.keeping r.opening) (slots_items c.close-closed.result.words) c.close-closed.ensures.homes e in
    let in_front = one_moved r.table.shared.table_id p passes c.requires.all t.0 t.1.items t.2 i in
    let goes = c.owners_after_entries.ensures.owners p r.opening.history.items e.later r.opening.quanta.items e.lawful r.quantum_count e.opened e.handed in (
      e.later,
      subst (CanWrite r.opening.history.items r.opening.quanta.items e.later) (sym (c.as_slice.ensures.value)) (can_write p r.opening.history.items e.later r.opening.quanta.items (i.first ∷ (i.front ++ i.back)) c.join_all-seat.result.1.items r.limits in_front i.records (λ j d at. c.tickets_are_indices.ensures.index p _ (r.opening.history.items ++ e.later) e.lawful j d at) e.below moved goes),
      sym (all_noted p.callers passes e.later c.requires.all.one e.below noted) ∙ sym c.requires.count,
    )

module _ (g : given.Over) (c : goal.After-drop-records g) where
  abbrev r : Register g.row.V.Denot
  r = c.args.self

  abbrev p : Profile
  p = r.opening.profile

  abbrev keeping : g.row.V.Denot → Keeping
  keeping = g.V.Keep.keeping

  abbrev before : List Entry
  before = r.opening.history.items

  abbrev quanta : List ℕ
  quanta = r.opening.quanta.items

  abbrev passes : List (Pass g.row.V.Denot)
  passes = c.args.passes.items

  abbrev words : List ℕ
  words = slots_items c.close-closed.result.words

  abbrev end : View
  end = last keeping r passes c.join_all-seat.result.0 c.join_all-seat.result.1.items c.join_all-seat.result.2 c.join_all-seat.ensures c.close-closed.result c.close-closed.ensures

  abbrev homes : Homes g.row.V.Denot
  homes = c.close-closed.ensures.homes

  abbrev e : Ended keeping (opened_as keeping r.opening) end words homes
  e = at_end keeping r passes c.join_all-seat.result.0 c.join_all-seat.result.1.items c.join_all-seat.result.2 c.join_all-seat.ensures c.close-closed.result c.close-closed.ensures

  goes : GoesOn p quanta before e.later
  goes = c.owners_after_entries.ensures.owners p before e.later quanta e.lawful r.quantum_count e.opened e.handed

  -- what each pass noted
  noted : (k : ℕ) (x : Pass g.row.V.Denot) → slice_get passes k ≡ Some x → x.noted.items ≡ own x.seat.me.0.caller e.later
  noted = each_noted r.table.shared.table_id p passes c.requires.all c.join_all-seat.result.0 c.join_all-seat.result.1.items c.join_all-seat.result.2 c.join_all-seat.ensures keeping (opened_as keeping r.opening) words homes e

  can : CanWrite before quanta e.later c.as_slice.result.now
  can = subst (CanWrite before quanta e.later) (sym c.as_slice.ensures.value) (can_write p before e.later quanta (c.join_all-seat.ensures.first ∷ (c.join_all-seat.ensures.front ++ c.join_all-seat.ensures.back)) c.join_all-seat.result.1.items r.limits (one_moved r.table.shared.table_id p passes c.requires.all c.join_all-seat.result.0 c.join_all-seat.result.1.items c.join_all-seat.result.2 c.join_all-seat.ensures) c.join_all-seat.ensures.records
      (λ j d at. c.tickets_are_indices.ensures.index p _ (before ++ e.later) e.lawful j d at) e.below
      (moved_noted r.table.shared.table_id p passes c.requires.all c.join_all-seat.result.0 c.join_all-seat.result.1.items c.join_all-seat.result.2 c.join_all-seat.ensures keeping (opened_as keeping r.opening) words homes e) goes)

  long : length e.later ≡ c.args.more
  long = sym (all_noted p.callers passes e.later c.requires.all.one e.below noted) ∙ sym c.requires.count

  abbrev x : Parts g.row.V.Denot
  x = record {
    profile = p;
    caller = r.rest.caller;
    history = c.write.new.history;
    limit = c.len.result;
    held = c.join_all-seat.result.2;
    keepers = c.take_keepers.result;
    quanta = c.write.new.quanta;
    classes = c.read_words.new.row;
    slots = c.read_words-2.new.row;
    holds = r.rest.holds;
    founds = r.rest.founds;
    found = r.rest.found;
    site = r.opening.site;
  }

  written : (x.history.items ≡ before ++ e.later) × (x.quanta.items ≡ quanta_since quanta e.later)
  written = c.write.ensures.written e.later can long

  first_idle : IsIdleOf r.table.shared.table_id p (pass_account c.join_all-seat.ensures.first)
  first_idle = idle0 r.table.shared.table_id p passes c.requires.all c.join_all-seat.result.0 c.join_all-seat.result.1.items c.join_all-seat.result.2 c.join_all-seat.ensures

  came : Comes keeping x before quanta r.opening.classes.items end words homes e
  came = record {
    limits = r.limits;
    caller = r.caller;
    goes = goes;
    count = r.quantum_count;
    history = written.0;
    owners = written.1;
    owned = let l = c.write.ensures.len in omega (arith, c.write.new.quanta.ok.0, r.opening.quanta.ok.0);
    limit = c.len.ensures ∙ c.write.new.history.ok.0;
    limited = let n = ap length written.0 in let a = length-append before e.later in let l = long in let k = c.write.ensures.capacity in let h = c.requires.history in omega (arith, c.len.ensures, c.write.new.history.ok.0);
    few = let n = ap length written.0 in let a = length-append before e.later in let l = long in let h = c.requires.few in omega (arith, c.len.ensures, c.write.new.history.ok.0);
    held = ap (λ (v : Vec ℕ Global). v.items) c.join_all-seat.ensures.held_is ∙ its_held r.table.shared.table_id p c.join_all-seat.ensures.first first_idle;
    held_room = let k = c.join_all-seat.ensures.first.room in let q = ap keeper_count first_idle.of.profile in let h = ap (λ (v : Vec ℕ Global). vec_capacity v) c.join_all-seat.ensures.held_is in omega arith;
    keepers = let l = c.take_keepers.ensures.len in let z = c.close-closed.ensures.slots in let s = r.slots in omega (arith, c.take_keepers.result.ok.0);
    same = λ k y h. ap (λ ks. get_elem? ks k) c.take_keepers.ensures.items ∙ c.close-closed.ensures.same k y h;
    class_count = let l = c.read_words.ensures.len in let n = r.class_count in omega (arith, c.read_words.new.row.ok.0, r.opening.classes.ok.0);
    classes = λ i l. c.read_words.ensures.each i (let n = r.class_count in omega (arith, r.opening.classes.ok.0)) ∙ ap (λ (k : ℕ). get_or words (k + 1 + i) 0) r.count;
    slot_count = let l = c.read_words-2.ensures.len in let n = r.slot_count in omega (arith, c.read_words-2.new.row.ok.0, r.rest.slots.ok.0);
    slots = λ i l. c.read_words-2.ensures.each i (let n = r.slot_count in omega (arith, r.rest.slots.ok.0)) ∙ ap (λ (k : ℕ). get_or words (k + 1 + p.nano + i) 0) r.count;
  }

  -- the pairs that are told now
  told_now : pairs_told x.quanta.items x.history.items ≡ pairs_since (pairs_told quanta before) e.later
  told_now = ap (pairs_told x.quanta.items) written.0 ∙ (ap (λ qs. pairs_told qs (before ++ e.later)) written.1 ∙ goes.told)

  abbrev t : Account
  t = account_in keeping x

  each : (k : ℕ) (y : Pass g.row.V.Denot) → slice_get passes k ≡ Some y → IsPassOf (former keeping r) e.later t (pass_account y)
  each k y at =
      let d = each_end r.table.shared.table_id p passes c.requires.all c.join_all-seat.result.0 c.join_all-seat.result.1.items c.join_all-seat.result.2 c.join_all-seat.ensures keeping (opened_as keeping r.opening) words homes e k y at in
      record {
        rest = d.rest;
        seen = d.seen;
        noted = d.noted_is;
        hand = ap (hand_among y.seat.me.0.caller) told_now ∙ (c.owners_after_entries.ensures.hands y.seat.me.0.caller (pairs_told quanta before) e.later ∙ sym d.hand);
        settled = λ b n.
            let s = some_below y.seat.me.0.settled b n in
            let q = y.rested.sized ∙ ap (λ (u : Profile). u.nano) (c.requires.all.each k y at).of.profile in
            let l : b < p.nano = omega arith in
            came.classes b l ∙ d.settled b l n;
      }

  hands : HandsIn (former keeping r) passes t
  hands = record {
    later = e.later;
    after = λ i. record {
      name = [];
      profile = p;
      caller = r.rest.caller;
      site = site_in keeping x;
      between = true;
      held = [];
      seen = written.0 i;
      noted = own r.rest.caller (written.0 i);
      pairs = pairs_told x.quanta.items x.history.items;
      spare = spare_none keeping x before quanta r.opening.classes.items end words homes e came i;
      holds = r.rest.holds;
      lights = none_held keeping x before quanta r.opening.classes.items end words homes e came i;
      settled = x.classes.items;
      founds = r.rest.founds;
      found = r.rest.found;
    };
    lawful = e.lawful;
    below = e.below;
    zones = steady_all p.callers e.later passes c.requires.all.one e.below noted;
    pairs = told_now;
    classes = λ b n.
        let s = some_below r.opening.classes.items b n in
        let q = r.class_count in
        let l : b < p.nano = omega (arith, r.opening.classes.ok.0) in
        came.classes b l ∙ e.classes.stays b l n;
    told = λ b n.
        let s = some_below x.classes.items b n in
        let q = came.class_count in
        let l : b < p.nano = omega arith in
        let word : get_or x.classes.items b 0 ≡ class_word p words b = came.classes b l in
        subst (λ (k : ℕ). (k ≡ get_or r.opening.classes.items b 0) ⊎ IsKnownToOne passes b k) (sym word)
        (⊎_elim
        (λ (y : class_word p words b ≡ get_or r.opening.classes.items b 0). inl y)
        (λ (y : knows_class end b (class_word p words b) ≡ true). inr (known_to r.table.shared.table_id p passes c.requires.all c.join_all-seat.result.0 c.join_all-seat.result.1.items c.join_all-seat.result.2 c.join_all-seat.ensures b (class_word p words b) y))
        (e.told b l (λ z. n (word ∙ z))));
    each = each;
  }

pub returns-clause-fit : goal.returns-clause-fit
returns-clause-fit g c = fits (keeping g c) (x g c) (before g c) (quanta g c) (r g c).opening.classes.items (end g c) (words g c) (homes g c) (e g c) (came g c)

pub returns-clause-account : goal.returns-clause-account
returns-clause-account g c = hands g c
