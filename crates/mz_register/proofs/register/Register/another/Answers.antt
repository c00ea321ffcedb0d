use Rattle.std.proofs.Common.{◌≡◌, ℕ, ◌+◌, ◌-◌, ◌<◌, List, [], ◌∷◌, Option, length, reverse, arith, refl, sym, ap, ◌∙◌, subst}
use Rattle.mz_base.specs.declared.profile.Profile.{Profile}
use Rattle.mz_events.specs.declared.entry.Entry.{Entry}
use Rattle.mz_book.specs.Keepers.{keeper_count}
use Rattle.mz_desk.specs.declared.view.View.{View}
use Rattle.mz_desk.specs.Views.{site_at}
use Rattle.mz_desk.specs.Keys.{opened_as}
use Rattle.mz_desk.specs.Needs.{Seated}
use Rattle.mz_register.specs.Passes.{table_numbers, IsRested, IsKnowing, keys, bare}
use Rattle.mz_register.specs.Opened.{IsGiver}
use Rattle.mz_register.proofs.OpenLemmas.{rested_giver, knowing_giver, next_giver, rested_given, knowing_given, given_hand}
use Rattle.mz_register.proofs.register.Register.another.Goals as goal

pub invariant_of-first-clause-rested : goal.invariant_of-first-clause-rested
invariant_of-first-clause-rested g c =
    let p = c.args.first.now in
    subst (λ (m : Seated g.row.V.Denot). IsRested m.0 p.caller p.noted.items p.held.items) (sym c.split_seat-seat.ensures.2) (rested_giver p.seat.me.0 p.caller p.noted.items p.held.items p.rested)

pub invariant_of-first-clause-knowing : goal.invariant_of-first-clause-knowing
invariant_of-first-clause-knowing g c = let p = c.args.first.now in subst (λ (m : Seated g.row.V.Denot). IsKnowing m.0) (sym c.split_seat-seat.ensures.2) (knowing_giver p.seat.me.0 p.knowing)

pub invariant_of-first-clause-carried : goal.invariant_of-first-clause-carried
invariant_of-first-clause-carried g c = ap (λ (m : Seated g.row.V.Denot). keys m.1) c.split_seat-seat.ensures.2 ∙ c.args.first.now.carried

pub invariant_of-first-clause-none_inside : goal.invariant_of-first-clause-none_inside
invariant_of-first-clause-none_inside g c = ap (λ (m : Seated g.row.V.Denot). bare m.1) c.split_seat-seat.ensures.2 ∙ c.args.first.now.none_inside

pub invariant_of-first-clause-room : goal.invariant_of-first-clause-room
invariant_of-first-clause-room g c = let e = ap (λ (m : Seated g.row.V.Denot). keeper_count m.0.profile) c.split_seat-seat.ensures.2 in let r = c.args.first.now.room in omega arith

pub invariant_of-result-clause-rested : goal.invariant_of-result-clause-rested
invariant_of-result-clause-rested g c =
    let q = c.requires.first.giver in
    let r = rested_given c.args.first.now.seat.me.0 c.args.caller q.live q.given in
    subst (λ (hs : List ℕ). IsRested c.split_seat-seat.result.me.0 c.args.caller c.new.result.items hs) (sym c.requires.held.empty) (subst (λ (es : List Entry). IsRested c.split_seat-seat.result.me.0 c.args.caller es []) (sym c.new.ensures.items)
    (subst (λ (m : Seated g.row.V.Denot). IsRested m.0 c.args.caller [] []) (sym c.split_seat-seat.ensures.4) r))

pub invariant_of-result-clause-knowing : goal.invariant_of-result-clause-knowing
invariant_of-result-clause-knowing g c =
    let p = c.args.first.now in
    let q = c.requires.first.giver in
    let e = ap (λ (x : Profile). x.callers) (q.profile ∙ c.args.self.now.profile) in
    let n = q.given in
    let m = c.requires.more.1 in
    subst (λ (m : Seated g.row.V.Denot). IsKnowing m.0) (sym c.split_seat-seat.ensures.4) (knowing_given p.seat.me.0 (q.start ∙ sym q.seen) (omega arith) p.knowing)

pub invariant_of-result-clause-carried : goal.invariant_of-result-clause-carried
invariant_of-result-clause-carried g c = ap (λ (m : Seated g.row.V.Denot). keys m.1) c.split_seat-seat.ensures.4 ∙ ap reverse (sym c.requires.held.empty)

pub invariant_of-result-clause-none_inside : goal.invariant_of-result-clause-none_inside
invariant_of-result-clause-none_inside g c = ap (λ (m : Seated g.row.V.Denot). bare m.1) c.split_seat-seat.ensures.4

pub invariant_of-result-clause-room : goal.invariant_of-result-clause-room
invariant_of-result-clause-room g c =
    let q = c.requires.first.giver in
    let e = ap (λ (m : Seated g.row.V.Denot). keeper_count m.0.profile) c.split_seat-seat.ensures.4 in
    let k = ap keeper_count (q.profile ∙ c.args.self.now.profile) in
    let r = c.requires.held.room in
    omega arith

pub returns-clause-first : goal.returns-clause-first
returns-clause-first g c =
    let q = c.requires.first in
    let key = opened_as g.V.Keep.keeping c.args.self.now.table.shared.key in
    record {
      table = c.split_seat-seat.ensures.0 ∙ q.table;
      giver = subst (λ (m : Seated g.row.V.Denot). IsGiver key (c.args.caller + 1) m.0) (sym c.split_seat-seat.ensures.2) (next_giver key c.args.caller c.args.first.now.seat.me.0 c.requires.more.0 q.giver);
      noted = q.noted;
      limit = q.limit;
      holds = q.holds;
      founds = q.founds;
      found = q.found;
    }

pub returns-clause-new : goal.returns-clause-new
returns-clause-new g c =
    let q = c.requires.first.giver in
    let key = opened_as g.V.Keep.keeping c.args.self.now.table.shared.key in
    let m = c.split_seat-seat.ensures.4 in
    let v : c.split_seat-seat.result.me.0 ≡ Rattle.mz_desk.specs.Seats.given_view c.args.first.now.seat.me.0 = ap (λ (x : Seated g.row.V.Denot). x.0) m in
    record {
      name = ap table_numbers (c.split_seat-seat.ensures.3 ∙ c.requires.first.table);
      profile = ap (λ (z : View). z.profile) v ∙ q.profile;
      caller = ap (λ (z : View). z.caller) v ∙ q.given;
      site = ap (λ (z : View). site_at z.space) v ∙ ap site_at q.space;
      between = refl;
      held = ap (λ (z : View). z.held) v;
      seen = ap (λ (z : View). z.seen) v ∙ q.start;
      noted = ap (λ (z : View). z.noted) v;
      hand = ap (λ (z : View). Rattle.mz_book.specs.Pairs.hand_among z.caller z.pairs) v ∙ given_hand key c.args.caller c.args.first.now.seat.me.0 q;
      spare = omega arith;
      holds = refl;
      lights = ap (λ (z : View). z.lights) v;
      settled = ap (λ (z : View). z.settled) v ∙ ap (λ (x : Profile). Rattle.std.proofs.Common.replicate x.nano 0) q.profile;
      founds = refl;
      found = refl;
    }
