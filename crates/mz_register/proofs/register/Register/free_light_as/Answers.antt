use Rattle.std.proofs.Common.{◌≡◌, ℕ, arith, sym, ap, ◌∙◌, subst}
use mathlib.Core.Option.{none}
use Rattle.atomic_table.specs.Table.{step, Allows}
use Rattle.mz_base.specs.declared.profile.Profile.{Profile}
use Rattle.mz_desk.specs.Keys.{opened_as}
use Rattle.mz_desk.specs.Words.{slot_place}
use Rattle.mz_desk.specs.Rule.{Rule}
use Rattle.mz_desk.specs.Steps.{StoresLight}
use Rattle.mz_register.proofs.Places.{slot_in}
use Rattle.mz_register.proofs.register.Register.free_light_as.Goals as goal

pub store-requires : goal.store-requires
store-requires g c =
    let r = c.args.self.now in
    let seat = c.args.seat.now in
    let z = r.table.shared.table_id in
    let key = opened_as g.V.Keep.keeping r.table.shared.key in
    let i : c.slot_place-place.result ≡ slot_place seat.me.0.profile c.args.b c.args.j = c.slot_place-place.ensures ∙ ap (λ (p : Profile). slot_place p c.args.b c.args.j) (sym c.requires.one.profile) in
    let w = r.words in
    let at = c.slot_place-place.ensures in
    let s = slot_in r.opening.profile c.args.b c.args.j c.requires.exists.0 c.requires.exists.1 in
    let A : ℕ → ℕ → ℕ → Type 0 = λ x u v. Allows (Rule g.V.Keep.keeping key) z.slots seat.id seat.me x (λ y. c.args.word) (λ y. StoresLight u v (step z.slots x c.args.word 0 none) seat.me c.args.word) in (
      c.requires.one.table,
      omega arith,
      subst (λ (v : ℕ). A c.slot_place-place.result g.S.WhichSlot.block v) (sym c.requires.which.1) (subst (λ (u : ℕ). A c.slot_place-place.result u c.args.j) (sym c.requires.which.0) (subst (λ (x : ℕ). A x c.args.b c.args.j) (sym i)
          (c.store_light.ensures key z.slots seat.id c.args.b c.args.j c.args.word seat.me c.requires.can))),
    )
