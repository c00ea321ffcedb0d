use Rattle.std.proofs.Common.{◌≡◌, ℕ, ◌+◌, ◌==◌, ◌<◌, arith, sym, ap, ◌∙◌, subst}
use prog.Atomic.{either}
use mathlib.Core.Option.{none}
use Rattle.atomic_table.specs.Table.{step, Allows}
use Rattle.mz_base.specs.declared.profile.Profile.{Profile}
use Rattle.mz_desk.specs.Keys.{opened_as}
use Rattle.mz_desk.specs.Words.{slot_place}
use Rattle.mz_desk.specs.Rule.{Rule}
use Rattle.mz_desk.specs.Steps.{TriesLight}
use Rattle.mz_register.proofs.Places.{slot_in}
use Rattle.mz_register.proofs.register.Register.try_light_as.Goals as goal

pub slot_place-place-requires-clause-block : goal.slot_place-place-requires-clause-block
slot_place-place-requires-clause-block g c = let e = ap (λ (p : Profile). p.nano) c.requires.one.profile in let l = c.requires.can.block in omega arith

pub compare_exchange-requires : goal.compare_exchange-requires
compare_exchange-requires g c =
    let r = c.args.self.now in
    let seat = c.args.seat.now in
    let z = r.table.shared.table_id in
    let key = opened_as g.V.Keep.keeping r.table.shared.key in
    let e : c.from.result ≡ seat.me.0.caller = c.from.ensures ∙ c.requires.caller in
    let i : c.slot_place-place.result ≡ slot_place seat.me.0.profile c.args.b c.args.j = c.slot_place-place.ensures ∙ ap (λ (p : Profile). slot_place p c.args.b c.args.j) (sym c.requires.one.profile) in
    let l : c.args.b < r.opening.profile.nano = let y = ap (λ (p : Profile). p.nano) c.requires.one.profile in let m = c.requires.can.block in omega arith in
    let w = r.words in
    let at = c.slot_place-place.ensures in
    let s = slot_in r.opening.profile c.args.b c.args.j l c.requires.can.slot in
    let b : g.S.WhichSlot.block ≡ c.args.b = c.requires.which.0 in
    let j : g.S.WhichSlot.slot ≡ c.args.j = c.requires.which.1 in
    let A : ℕ → ℕ → ℕ → ℕ → Type 0 = λ x n u v. Allows (Rule g.V.Keep.keeping key) z.slots seat.id seat.me x (λ y. either (y == c.args.expect) (2 + n) y) (TriesLight u v (step z.slots x c.args.expect (2 + n) none) seat.me) in (
      c.requires.one.table,
      omega arith,
      subst (λ (v : ℕ). A c.slot_place-place.result c.from.result g.S.WhichSlot.block v) (sym j) (subst (λ (u : ℕ). A c.slot_place-place.result c.from.result u c.args.j) (sym b) (subst (λ (n : ℕ). A c.slot_place-place.result n c.args.b c.args.j) (sym e) (subst (λ (x : ℕ). A x seat.me.0.caller c.args.b c.args.j) (sym i)
          (c.take_light.ensures key z.slots seat.id c.args.b c.args.j c.args.expect seat.me c.requires.can)))),
    )
