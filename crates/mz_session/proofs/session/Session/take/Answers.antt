use Rattle.std.proofs.Common.{◌≡◌, ◌∙◌, Some, refl, ap, sym, subst}
use Rattle.std.specs.Prelude.{is_some}
use Rattle.std.specs.Borrow.{Bor}
use Rattle.mz_zone.specs.Blocks.{BlockView}
use Rattle.mz_session.specs.Names.{block_with}
use Rattle.mz_session.specs.Sessions.{SessionView, IsKept}
use Rattle.mz_session.specs.Serving.{Renames, Takes}
use Rattle.mz_session.specs.contracts.session.Session.{the_view}
use Rattle.mz_session.proofs.KeepLemmas.{takes, option-some}
use Rattle.mz_session.proofs.session.Session.take.Goals as goal

pub returns : goal.returns
returns c =
    let old : SessionView = the_view c.self.inside in
    let new : SessionView = record { zone = old.zone; at = old.at; blocks = c.remove.new.self; parcels = old.parcels } in
    let name = c.args.name.now in
    let some = option-some (λ (b : Bor BlockView). b.now) c.get.result (ap is_some c.in_ok-get.was) in
    let held : block_with old.blocks name ≡ Some some.0 = sym c.get.ensures ∙ some.1 in
    let kept : IsKept old = subst IsKept (sym c.self.view_is) c.requires in
    let renames : Renames old new = record { zone = refl; at = refl; parcels = refl } in
    subst (λ x. Takes x name c.remove.result new) c.self.view_is (takes old new name some.0 c.remove.result kept renames c.remove.ensures.others c.remove.ensures.block held)
