use Rattle.std.proofs.Common.{arith, refl, sym, ◌∙◌, subst}
use Rattle.atomic_table.specs.Table.{rest}
use Rattle.mz_desk.specs.Keys.{opened_as}
use Rattle.mz_desk.specs.Needs.{Seated, CanFree}
use Rattle.mz_register.proofs.register.Register.put_back.Goals as goal

pub overflow_add-k : goal.overflow_add-k
overflow_add-k g c = let r = c.args.self.now in let n = c.requires.exists in let k = r.count in let f = r.few in omega arith

pub store-requires : goal.store-requires
store-requires g c =
    let r = c.args.self.now in
    let seat = c.args.seat.now in
    let q = c.requires.can in
    let x = c.exchange-old.ensures in
    let can : CanFree g.V.Keep.keeping c.exchange-old.new.seat.me c.args.k c.args.keeper = subst (λ (m : Seated g.row.V.Denot). CanFree g.V.Keep.keeping m c.args.k c.args.keeper) (sym x.3)
    record { idle = q.idle; held = q.held; others = rest seat.me.1; last = refl; stands = q.stands; calm = q.calm } in
    let w = r.words in
    let n = c.requires.exists in
    (x.0 ∙ c.requires.one.table, omega arith, c.free_lock.ensures (opened_as g.V.Keep.keeping r.table.shared.key) r.table.shared.table_id.slots c.exchange-old.new.seat.id c.args.k c.exchange-old.new.seat.me c.args.keeper can)
