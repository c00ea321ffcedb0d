use Rattle.std.proofs.Common.{◌≡◌, Option, Some, None, Err, ap, ◌∙◌}
use Rattle.mz_zone.specs.declared.fault.ReallocFault.TheVariants as fault
use Rattle.mz_session.proofs.CountLemmas.{some-is}
use Rattle.mz_session.proofs.CallLemmas.{can-hand-in}
use Rattle.mz_session.proofs.RemakeLemmas.{asked-remade, asked-null, asked-refused}
use Rattle.mz_session.proofs.session.Session.remake.Goals as goal

pub ask-requires : goal.ask-requires
ask-requires g c = can-hand-in c.of_sessions.ensures c.args.self.now c.args.block c.requires

pub returns-in-Ok : goal.returns-in-Ok
returns-in-Ok g c =
    asked-remade c.of_sessions.ensures c.args.self.now c.ask.new.self c.args.block c.requires c.args.n c.in_ok-got.got c.in-Ok.block c.in-Ok.is c.in_ok-got.ensures c.keeps_its_place.ensures

pub returns : goal.returns
returns g c =
    let null = asked-null c.of_sessions.ensures c.args.self.now c.ask.new.self c.args.block c.requires c.args.n c.in_ok-got.got (Some c.in-Some.block) c.in-Null.null
    (c.in-Err.is ∙ ap Err (c.in-Null.is ∙ ap (λ k. fault.Null k c.in-Null.null) c.in-Some.is)) c.in_ok-got.ensures
    in
    (some-is c.in-Some.block c.args.block null.0, null.1)

pub unreachable-requires : goal.unreachable-requires
unreachable-requires g c =
    asked-refused c.args.self.now c.ask.new.self c.args.block c.requires c.args.n c.in_ok-got.got c.in_default.field-0 (c.in-Err.is ∙ ap Err c.in_default.is) c.in_ok-got.ensures

pub unreachable-requires-in_default-block : goal.unreachable-requires-in_default-block
unreachable-requires-in_default-block g c =
    let null = asked-null c.of_sessions.ensures c.args.self.now c.ask.new.self c.args.block c.requires c.args.n c.in_ok-got.got None c.in-Null.null
    (c.in-Err.is ∙ ap Err (c.in-Null.is ∙ ap (λ k. fault.Null k c.in-Null.null) c.in_default-block.is)) c.in_ok-got.ensures
    in
    none-some null.0
  where
    none-some : {A : Type 0} {x : A} → ◌≡◌ {A = Option A} None (Some x) → ⊥
    none-some is = cc
