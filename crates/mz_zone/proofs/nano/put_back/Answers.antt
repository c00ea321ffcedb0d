use Rattle.std.proofs.Common.{◌≡◌, List, refl, ap, ◌∙◌}
use Rattle.mz_nano.specs.declared.view.Held.{Held}
use Rattle.mz_nano.specs.Lists.{without}
use Rattle.mz_nano.specs.SlotViews.{SlotView}
use Rattle.mz_zone.proofs.nano.put_back.Goals as goal

-- the hand without the slot that was to go
put_out : (old now new : List Held) (x y : SlotView) → y ≡ x → now ≡ old → new ≡ without y.block y.slot now → new ≡ without x.block x.slot old
put_out old now new x y e h w = w ∙ (ap (λ (q : SlotView). without q.block q.slot now) e ∙ ap (without x.block x.slot) h)

pub loop-init : goal.loop-init
loop-init g c = record {
  slot = refl;
  same = record { sits = c.requires.one; number = refl; tries = refl; misses = refl; missed = refl; popped = refl };
  hand = refl;
}

pub push-requires : goal.push-requires
push-requires g c = record {
  one = c.loop.invariant.same.sits;
  mine = rw (c.loop.invariant.slot, c.loop.invariant.hand) c.requires.mine;
  place = rw c.loop.invariant.slot c.requires.place;
}

pub returns-in-Ok : goal.returns-in-Ok
returns-in-Ok g c =
    let i = c.loop.invariant in
    let n = c.push.ensures.counts in
    record {
      same = record {
        sits = c.push.ensures.one;
        number = n.4 ∙ i.same.number;
        tries = n.0 ∙ i.same.tries;
        misses = n.1 ∙ i.same.misses;
        missed = n.2 ∙ i.same.missed;
        popped = n.3 ∙ i.same.popped;
      };
      hand = put_out _ _ _ _ _ i.slot i.hand c.in-Ok.ensures.ok.hand;
    }

pub loop-preserved : goal.loop-preserved
loop-preserved g c =
    let i = c.loop.invariant in
    let n = c.push.ensures.counts in
    record {
      slot = c.in-Err.ensures.err.0 ∙ i.slot;
      same = record {
        sits = c.push.ensures.one;
        number = n.4 ∙ i.same.number;
        tries = n.0 ∙ i.same.tries;
        misses = n.1 ∙ i.same.misses;
        missed = n.2 ∙ i.same.missed;
        popped = n.3 ∙ i.same.popped;
      };
      hand = c.in-Err.ensures.err.1.hand ∙ i.hand;
    }
