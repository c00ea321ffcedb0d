use Rattle.std.proofs.Common.{◌≡◌, ℕ, ◌+◌, ◌==◌, arith, sym, ap, ◌∙◌, subst}
use prog.Atomic.{either}
use mathlib.Core.Option.{none}
use Rattle.atomic_table.specs.Table.{step, Allows}
use Rattle.mz_book.specs.Keepers.{keeper_count}
use Rattle.mz_desk.specs.Keys.{opened_as}
use Rattle.mz_desk.specs.Rule.{Rule}
use Rattle.mz_desk.specs.Steps.{TriesLock}
use Rattle.mz_register.proofs.register.Register.try_lock.Goals as goal

pub overflow_add-k : goal.overflow_add-k
overflow_add-k g c = let r = c.args.self.now in let e = ap keeper_count c.requires.one.profile in let n = c.requires.can.exists in let k = r.count in let f = r.few in omega arith

pub compare_exchange-requires : goal.compare_exchange-requires
compare_exchange-requires g c =
    let r = c.args.self.now in
    let seat = c.args.seat.now in
    let z = r.table.shared.table_id in
    let key = opened_as g.V.Keep.keeping r.table.shared.key in
    let e : c.from.result ≡ seat.me.0.caller = c.from.ensures ∙ c.requires.caller in
    let n = c.requires.can.exists in
    let p = ap keeper_count c.requires.one.profile in
    let w = r.words in (
      c.requires.one.table,
      omega arith,
      subst (λ (x : ℕ). Allows (Rule g.V.Keep.keeping key) z.slots seat.id seat.me (c.args.k + 1) (λ y. either (y == 0) (x + 1) y) (TriesLock (step z.slots (c.args.k + 1) 0 (x + 1) none) seat.me)) (sym e) (c.take_lock.ensures key z.slots seat.id c.args.k seat.me c.requires.can),
    )
