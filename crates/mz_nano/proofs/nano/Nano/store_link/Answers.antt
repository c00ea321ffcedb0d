use Rattle.std.proofs.Common.{◌≡◌, ℕ, ◌+◌, ◌*◌, arith, subst, ◌∙◌}
use Rattle.atomic_table.specs.Table.{Allows, step}
use mathlib.Core.Option.{none}
use Rattle.mz_nano.specs.Rule.{Rule}
use Rattle.mz_nano.specs.StepEffects.{StoresLink}
use Rattle.mz_nano.proofs.PushAllowed.{links}
use Rattle.mz_nano.proofs.nano.Nano.store_link.Goals as goal

pub store-requires : goal.store-requires
store-requires c =
    let r = c.args.self.now in
    let seat = c.args.seat.now in
    let w = r.words in let p = r.geometry.0 in let e = c.requires.exists in
    let t : seat.me.0.geometry.blocks ≡ r.blocks = (λ k. (c.requires.geometry k).blocks) ∙ p in
    let m = c.requires.mine in
    let is : seat.me.0.geometry.blocks + c.args.b * 1024 + c.args.slot ≡ r.blocks + c.args.b * 1024 + c.args.slot = omega arith in
    let a = links r.table.shared.key r.table.shared.table_id.slots seat.id seat.me c.args.b c.args.slot m.0 c.args.next c.requires.live m.1 c.requires.outs c.requires.small in
    (c.requires.table, omega arith, subst (λ (i : ℕ). Allows (Rule r.table.shared.key) r.table.shared.table_id.slots seat.id seat.me i (λ _. c.args.next) (λ _. StoresLink (step r.table.shared.table_id.slots i c.args.next 0 none) seat.me c.args.next)) is a)

pub returns-clause-me : goal.returns-clause-me
returns-clause-me c =
    let r = c.args.self.now in
    let seat = c.args.seat.now in
    let p = r.geometry.0 in
    let t : seat.me.0.geometry.blocks ≡ r.blocks = (λ k. (c.requires.geometry k).blocks) ∙ p in
    c.store.ensures.2.is c.args.b c.args.slot (omega arith) c.requires.exists.1
