use Rattle.std.proofs.Common.{sym, subst, Ok, Err, arith}
use Rattle.mz_lawful.specs.Names.{batch_name}
use Rattle.mz_session.specs.Sessions.{SessionView}
use Rattle.mz_session.specs.Serving.{Makes, Holds, IsFree}
use Rattle.mz_session.proofs.CommandLemmas.{free-own}
use Rattle.mz_session.proofs.InTurnLemmas.{batch-first, batch-on, batch-refused, batch-whole, batch-null, next-free}
use Rattle.mz_session.proofs.session.Session.batch.Goals as goal

pub returns-then-holds_some : goal.returns-then-holds_some
returns-then-holds_some g c = batch-refused c.args.self.now c.args.name c.args.n c.args.count c.requires c.if-holds_some.ensures

pub loop-got-init : goal.loop-got-init
loop-got-init g c = record { begun = batch-first c.args.self.now c.args.name c.args.n c.args.count c.requires c.if-holds_some.ensures }

pub make_of_batch-requires : goal.make_of_batch-requires
make_of_batch-requires g c = c.loop-got.invariant.begun.kept

pub returns-in_default-made : goal.returns-in_default-made
returns-in_default-made g c =
    let t : SessionView = c.loop-got.self in
    let u : SessionView = c.make_of_batch.new.self in
    let more = c.loop-got-test.true in
    let number = c.number.ensures.value in
    let makes : Makes t c.args.n 16 (Err c.in_default-made.field-0) u = subst (λ o. Makes t c.args.n 16 o u) c.in_default-made.is c.in_ok-made.ensures in
    batch-null c.of_sessions.ensures c.args.self.now t u c.args.name c.args.n c.args.count c.loop-got.got c.if-holds_some.ensures c.loop-got.invariant.begun (omega (arith, more, number))
    c.is_lawful.ensures c.in_default-made.field-0 makes

pub hold-requires-clause-kept : goal.hold-requires-clause-kept
hold-requires-clause-kept g c =
    let t : SessionView = c.loop-got.self in
    let makes : Makes t c.args.n 16 (Ok c.in-Ok.block) c.make_of_batch.new.self = subst (λ o. Makes t c.args.n 16 o c.make_of_batch.new.self) c.in-Ok.is c.in_ok-made.ensures in
    makes.keeps

pub hold-requires-clause-free : goal.hold-requires-clause-free
hold-requires-clause-free g c =
    let t : SessionView = c.loop-got.self in
    let u : SessionView = c.make_of_batch.new.self in
    let more = c.loop-got-test.true in
    let number = c.number.ensures.value in
    let makes : Makes t c.args.n 16 (Ok c.in-Ok.block) u = subst (λ o. Makes t c.args.n 16 o u) c.in-Ok.is c.in_ok-made.ensures in
    subst (λ i. IsFree u (batch_name c.args.name i)) (sym c.in-Some.ensures.value)
    (free-own t u (batch_name c.args.name c.loop-got.got) tt makes.notes.blocks
    (next-free c.of_sessions.ensures c.args.self.now t u c.args.name c.args.n c.args.count c.loop-got.got c.loop-got.invariant.begun (omega (arith, more, number)) c.is_lawful.ensures))

pub loop-got-preserved : goal.loop-got-preserved
loop-got-preserved g c =
    let t : SessionView = c.loop-got.self in
    let u : SessionView = c.make_of_batch.new.self in
    let w : SessionView = c.hold.new.self in
    let more = c.loop-got-test.true in
    let number = c.number.ensures.value in
    let makes : Makes t c.args.n 16 (Ok c.in-Ok.block) u = subst (λ o. Makes t c.args.n 16 o u) c.in-Ok.is c.in_ok-made.ensures in
    let holds : Holds u (batch_name c.args.name c.loop-got.got) c.in-Ok.block w =
    subst (λ i. Holds u (batch_name c.args.name i) c.in-Ok.block w) c.in-Some.ensures.value c.in_ok-hold.ensures.holds
    in
    record {
      begun = batch-on c.of_sessions.ensures c.args.self.now t u c.args.name c.args.n c.args.count c.loop-got.got c.loop-got.invariant.begun (omega (arith, more, number)) c.is_lawful.ensures
          w c.in-Ok.block makes holds;
    }

pub returns : goal.returns
returns g c =
    let least = c.loop-got-test.false in
    let number = c.number.ensures.value in
    batch-whole c.of_sessions.ensures c.args.self.now c.loop-got.self c.args.name c.args.n c.args.count c.loop-got.got c.if-holds_some.ensures c.loop-got.invariant.begun (omega (arith, least, number))
