use Rattle.std.proofs.Common.{refl, sym, ap, ◌∙◌, subst}
use Rattle.mz_nano.specs.declared.view.View.{View}
use Rattle.mz_nano.specs.SeatLists.{BelongsTo}
use Rattle.mz_nano.proofs.nano.Nano.take_in_at.Goals as goal

pub returns : goal.returns
returns c =
    let o = c.index_mut.result.now in
    let sits = subst (BelongsTo c.args.self.now) (sym c.index_mut.ensures.value) (c.requires.can o) in
    let x = c.take_in.ensures in
    let view = x.taken.1 in
    record {
      takes = record {
        before = o;
        after = c.take_in.new.s;
        changed = record { there = sym c.index_mut.ensures.value; now = refl; one = (x.table ∙ sits.0, ap (λ (v : View). v.geometry) view ∙ sits.1); counts = x.counts };
        hand = ap (λ (v : View). v.hand) view;
        parts = ap (λ (v : View). v.parts) view;
      };
    }
