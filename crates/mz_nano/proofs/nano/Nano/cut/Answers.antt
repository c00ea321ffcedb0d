use Rattle.std.proofs.Common.{◌≡◌, ℕ, ◌+◌, ◌*◌, arith, subst, sym, ◌∙◌}
use Rattle.atomic_table.specs.Table.{Allows, step}
use mathlib.Core.Option.{none}
use Rattle.mz_nano.specs.Rule.{Rule}
use Rattle.mz_nano.specs.StepEffects.{CutsSlot}
use Rattle.mz_nano.proofs.ClaimAllowed.{cuts}
use Rattle.mz_nano.proofs.nano.Nano.cut.Goals as goal

pub store-requires : goal.store-requires
store-requires c =
    let r = c.args.self.now in
    let seat = c.args.seat.now in
    let w = r.words in let p = r.geometry.0 in let e = c.requires.exists in
    let t : seat.me.0.geometry.blocks ≡ r.blocks = (λ k. (c.requires.geometry k).blocks) ∙ p in
    let m = c.requires.can in
    let is : seat.me.0.geometry.blocks + c.args.b * 1024 + c.args.k ≡ r.blocks + c.args.b * 1024 + c.args.k = omega arith in
    let a = cuts r.table.shared.key r.table.shared.table_id.slots seat.id seat.me c.args.b m.0 c.args.k m.1 in
    let P : ℕ → ℕ → Type 0 = λ i n. Allows (Rule r.table.shared.key) r.table.shared.table_id.slots seat.id seat.me i (λ _. n) (λ _. CutsSlot (step r.table.shared.table_id.slots i n 0 none) seat.me n) in
    (c.requires.table, omega arith, subst (λ (i : ℕ). P i c.args.next) is (subst (P (seat.me.0.geometry.blocks + c.args.b * 1024 + c.args.k)) (sym m.2) a))

pub returns-clause-me : goal.returns-clause-me
returns-clause-me c x e = c.store.ensures.2.is c.args.b x c.args.k e
