use Rattle.std.proofs.Common.{[], ◌∷◌, Some, refl, ap, sym, subst, ◌∙◌}
use Rattle.mz_zone.specs.Blocks.{BlockView}
use Rattle.mz_session.specs.Names.{block_with}
use Rattle.mz_session.specs.Changes.{AreWith}
use Rattle.mz_session.specs.Sessions.{SessionView, Keeps}
use Rattle.mz_session.specs.Serving.{Renames, Holds, IsFree}
use Rattle.mz_session.specs.contracts.session.Session.{the_view}
use Rattle.mz_session.proofs.KeepLemmas.{keeps-held, on-ok}
use Rattle.mz_session.proofs.PlaceLemmas.{no-start}
use Rattle.mz_session.proofs.session.Session.put.Goals as goal

pub insert-requires-clause-free : goal.insert-requires-clause-free
insert-requires-clause-free c = ap (λ x. block_with x.blocks c.args.name) c.self.view_is ∙ c.requires.free.unnamed

pub insert-requires-clause-start : goal.insert-requires-clause-start
insert-requires-clause-start c =
    no-start c.of_sessions.ensures (the_view c.self.inside) c.args.block [] (subst (λ x. Keeps x (c.args.block ∷ [])) (sym c.self.view_is) c.requires.kept) c.of_book.ensures

pub returns : goal.returns
returns c =
    let old : SessionView = the_view c.self.inside in
    let new : SessionView = record { zone = old.zone; at = old.at; blocks = c.insert.new.self; parcels = old.parcels } in
    let b : BlockView = c.args.block in
    let renames : Renames old new = record { zone = refl; at = refl; parcels = refl } in
    let kept = subst (λ x. Keeps x (b ∷ [])) (sym c.self.view_is) c.requires.kept in
    let free = subst (λ x. IsFree x c.args.name) (sym c.self.view_is) c.requires.free in
    on-ok c.insert.result (AreWith old.blocks c.args.name (Some b) new.blocks) (Holds c.args.self.now c.args.name b new)
    (λ with_it.
    subst (λ x. Holds x c.args.name b new) c.self.view_is (record { renames = renames; blocks = with_it; kept = keeps-held old new c.args.name b [] kept free renames with_it }))
    c.insert.ensures
