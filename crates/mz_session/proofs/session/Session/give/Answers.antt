use Rattle.std.proofs.Common.{◌≡◌, ◌++◌, ◌∷◌, [], None, Some, ap, sym, subst, ◌∙◌}
use Rattle.mz_lines.specs.declared.answer.Answer.TheVariants as answers
use Rattle.mz_lines.specs.declared.command.Command.TheVariants.{Give}
use Rattle.mz_session.specs.declared.parcel.Parcel.{Parcel}
use Rattle.mz_session.specs.Sessions.{SessionView}
use Rattle.mz_session.specs.Giving.{with_coming}
use Rattle.mz_session.specs.Serving.{Takes, Serves}
use Rattle.mz_session.specs.contracts.session.Session.{the_view}
use Rattle.mz_session.proofs.GivingLemmas.{serves-given, serves-not-given}
use Rattle.mz_session.proofs.session.Session.give.Goals as goal

pub returns-in_default : goal.returns-in_default
returns-in_default c =
    serves-not-given c.args.self.now c.take.new.self c.args.name c.args.to c.args.given c.requires.kept
    (subst (λ n. Takes c.args.self.now n None c.take.new.self) c.get.ensures c.in_default.ensures)

pub returns : goal.returns
returns c =
    let s : SessionView = c.args.self.now in
    let u : SessionView = c.take.new.self in
    let p : Parcel = record { name = c.args.given; block = c.in-Some.block } in
    let inside : SessionView = the_view c.self.inside in
    let takes : Takes s c.args.name (Some p.block) u = subst (λ n. Takes s n (Some p.block) u) c.get.ensures c.in-Some.ensures in
    let sent : Serves s (Give c.args.name c.args.to c.args.given) answers.Done (with_coming u (u.parcels ++ p ∷ [])) =
    serves-given s u c.args.name c.args.to p c.requires.kept c.requires.to c.requires.new takes in
    let is : with_coming u (u.parcels ++ p ∷ []) ≡ with_coming inside c.push.new.self.items =
    ap (λ x. with_coming x (x.parcels ++ p ∷ [])) (sym c.self.view_is) ∙ ap (with_coming inside) (sym c.in_ok-push.ensures.items) in
    subst (λ x. Serves s (Give c.args.name c.args.to c.args.given) answers.Done x) is sent
