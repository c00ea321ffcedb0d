use Rattle.std.proofs.Common.{◌≡◌, ℕ, List, ◌∷◌, Some, get_or, arith, sym, ap, ◌∙◌}
use Rattle.atomic_table.specs.Table.{rest}
use Rattle.mz_desk.specs.Keys.{opened_as}
use Rattle.mz_register.proofs.register.Register.take.Goals as goal

pub load-requires : goal.load-requires
load-requires g c =
    let r = c.args.self.now in
    let seat = c.args.seat.now in
    let w = r.words in
    (c.requires.one.table, omega arith, c.look.ensures (opened_as g.V.Keep.keeping r.table.shared.key) r.table.shared.table_id.slots seat.id c.args.k seat.me c.requires.can)

pub exchange-requires : goal.exchange-requires
exchange-requires g c =
    let x = c.load.ensures.2 in
    let k : get_or c.args.seat.now.me.0.taking 0 0 ≡ c.args.k = ap (λ (ks : List ℕ). get_or ks 0 0) c.requires.can.taking in
    (c.load.ensures.0 ∙ c.requires.one.table, (Some x.keeper, x.carried ∙ (ap (λ (n : ℕ). (n, Some x.keeper) ∷ c.args.seat.now.me.1) k ∙ ap (λ cs. (c.args.k, Some x.keeper) ∷ cs) (sym (ap rest x.carried)))))
