use Rattle.std.proofs.Common.{refl, sym, ap, ◌∙◌, subst}
use Rattle.mz_nano.specs.declared.view.View.{View}
use Rattle.mz_nano.specs.StepEffects.{Standing}
use Rattle.mz_nano.specs.CallEffects.{IsAtRest}
use Rattle.mz_nano.specs.SeatLists.{BelongsTo}
use Rattle.mz_nano.proofs.nano.Nano.lend_at.Goals as goal

pub returns : goal.returns
returns c =
    let o = c.index_mut.result.now in
    let sits = subst (BelongsTo c.args.self.now) (sym c.index_mut.ensures.value) (c.requires.can o).0 in
    let x = c.lend.ensures in
    let left = x.lent.0 in
    let right = x.lent.1 in
    record {
      lends = record {
        before = o;
        after = c.lend.new.s;
        changed = record { there = sym c.index_mut.ensures.value; now = refl; one = (x.table.0 ∙ sits.0, ap (λ (v : View). v.geometry) left ∙ sits.1); counts = x.counts };
        hand = ap (λ (v : View). v.hand) left;
        parts = ap (λ (v : View). v.parts) left;
        two = (x.table.1 ∙ sits.0, ap (λ (m : Standing). m.0.geometry) right ∙ sits.1);
        at_rest = subst IsAtRest (sym right) record { live = refl; outs = refl; claims = refl; carried = refl; hand = refl };
        gift = ap (λ (m : Standing). m.0.hand) right;
        part = ap (λ (m : Standing). m.0.parts) right;
      };
    }
