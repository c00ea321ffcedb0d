use Rattle.std.proofs.Common.{arith, sym, subst}
use Rattle.mz_events.specs.declared.event.Event.{Event}
use Rattle.mz_desk.specs.Keys.{opened_as}
use Rattle.mz_desk.specs.Needs.{CanDraw}
use Rattle.mz_register.proofs.register.Register.draw_as.Goals as goal

pub fetch_add-requires : goal.fetch_add-requires
fetch_add-requires g c =
    let r = c.args.self.now in
    let seat = c.args.seat.now in
    let w = r.words in (
      c.requires.one.table,
      omega arith,
      c.draw_ticket.ensures (opened_as g.V.Keep.keeping r.table.shared.key) r.table.shared.table_id.slots seat.id seat.me g.E.WhichEvent.event (subst (λ (e : Event). CanDraw seat.me.0 e) (sym c.requires.which) c.requires.can),
    )
