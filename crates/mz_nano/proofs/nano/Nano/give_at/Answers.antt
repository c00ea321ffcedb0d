use Rattle.std.proofs.Common.{ℕ, refl, sym, ap, ◌∙◌, subst}
use Rattle.mz_nano.specs.declared.seat.NanoSeat.{NanoSeat}
use Rattle.mz_nano.specs.declared.view.View.{View}
use Rattle.mz_nano.specs.Lists.{In}
use Rattle.mz_nano.specs.Rule.{held}
use Rattle.mz_nano.specs.StepEffects.{Standing}
use Rattle.mz_nano.specs.SeatLists.{BelongsTo, hand_of}
use Rattle.mz_nano.proofs.nano.Nano.give_at.Goals as goal

pub give_slot-requires-clause-mine : goal.give_slot-requires-clause-mine
give_slot-requires-clause-mine c = subst (λ (s : NanoSeat). (x : ℕ) × In (held c.args.block c.args.slot x) (hand_of s)) (sym c.index_mut.ensures.value) (c.requires.can c.index_mut.result.now).2

pub returns : goal.returns
returns c =
    let o = c.index_mut.result.now in
    let sits = subst (BelongsTo c.args.self.now) (sym c.index_mut.ensures.value) (c.requires.can o).0 in
    let x = c.give_slot.ensures in
    let left = x.given.1 in
    let right = x.given.2 in
    record {
      gives = record {
        before = o;
        after = c.give_slot.new.s;
        changed = record { there = sym c.index_mut.ensures.value; now = refl; one = (x.table.0 ∙ sits.0, ap (λ (v : View). v.geometry) left ∙ sits.1); counts = x.counts };
        hand = ap (λ (v : View). v.hand) left;
        parts = ap (λ (v : View). v.parts) left;
        two = (x.table.1 ∙ sits.0, ap (λ (m : Standing). m.0.geometry) right ∙ sits.1);
        at_rest = x.at_rest;
        gift = ap (λ (m : Standing). m.0.hand) right;
        part = ap (λ (m : Standing). m.0.parts) right;
      };
    }
