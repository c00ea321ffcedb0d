use Rattle.std.proofs.Common.{◌≡◌, ℕ, ◌+◌, ◌*◌, arith, subst, ◌∙◌}
use Rattle.atomic_table.specs.Table.{Allows, step}
use mathlib.Core.Option.{none}
use Rattle.mz_nano.specs.Rule.{Rule}
use Rattle.mz_nano.specs.StepEffects.{LoadsLink, slot_of}
use Rattle.mz_nano.proofs.LoadSteps.{follows}
use Rattle.mz_nano.proofs.nano.Nano.load_link.Goals as goal

pub load-requires : goal.load-requires
load-requires c =
    let r = c.args.self.now in
    let seat = c.args.seat.now in
    let w = r.words in let p = r.geometry.0 in let e = c.requires.exists in let sm = c.requires.small in
    let t : seat.me.0.geometry.blocks ≡ r.blocks = (λ k. (c.requires.geometry k).blocks) ∙ p in
    let m = c.requires.known in
    let is : seat.me.0.geometry.blocks + c.args.b * 1024 + slot_of m.0 ≡ r.blocks + c.args.b * 1024 + c.args.slot = let q = m.3 in omega arith in
    let a = follows r.table.shared.key r.table.shared.table_id.slots seat.id seat.me c.args.b m.0 m.1 c.requires.live (omega arith) m.2 (let q = m.3 in omega arith) in
    (c.requires.table, omega arith, subst (λ (i : ℕ). Allows (Rule r.table.shared.key) r.table.shared.table_id.slots seat.id seat.me i (λ n. n) (LoadsLink (step r.table.shared.table_id.slots i 0 0 none) seat.me)) is a)
