use Rattle.std.proofs.Common.{◌≡◌, ℕ, ◌==◌, ◌<◌, arith, sym, ap, ◌∙◌, subst}
use prog.Atomic.{either}
use mathlib.Core.Option.{none}
use Rattle.atomic_table.specs.Table.{step, Allows}
use Rattle.mz_base.specs.declared.profile.Profile.{Profile}
use Rattle.mz_desk.specs.Keys.{opened_as}
use Rattle.mz_desk.specs.Words.{class_place}
use Rattle.mz_desk.specs.Rule.{Rule}
use Rattle.mz_desk.specs.Steps.{TriesClass}
use Rattle.mz_register.proofs.register.Register.try_class_as.Goals as goal

pub class_place-place-requires : goal.class_place-place-requires
class_place-place-requires g c = let e = ap (λ (p : Profile). p.nano) c.requires.one.profile in let l = c.requires.can.block in omega arith

pub compare_exchange-requires : goal.compare_exchange-requires
compare_exchange-requires g c =
    let r = c.args.self.now in
    let seat = c.args.seat.now in
    let z = r.table.shared.table_id in
    let key = opened_as g.V.Keep.keeping r.table.shared.key in
    let i : c.class_place-place.result ≡ class_place seat.me.0.profile c.args.b = c.class_place-place.ensures ∙ ap (λ (p : Profile). class_place p c.args.b) (sym c.requires.one.profile) in
    let l : c.args.b < r.opening.profile.nano = let y = ap (λ (p : Profile). p.nano) c.requires.one.profile in let m = c.requires.can.block in omega arith in
    let w = r.words in
    let at = c.class_place-place.ensures in
    let A : ℕ → ℕ → Type 0 = λ x u. Allows (Rule g.V.Keep.keeping key) z.slots seat.id seat.me x (λ y. either (y == 0) c.args.class y) (TriesClass u (step z.slots x 0 c.args.class none) seat.me) in (
      c.requires.one.table,
      omega arith,
      subst (λ (u : ℕ). A c.class_place-place.result u) (sym c.requires.which) (subst (λ (x : ℕ). A x c.args.b) (sym i) (c.settle_class.ensures key z.slots seat.id c.args.b c.args.class seat.me c.requires.can)),
    )
