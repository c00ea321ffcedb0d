use Rattle.std.proofs.Common.{◌<◌, arith, sym, ap, ◌∙◌, subst}
use Rattle.mz_base.specs.declared.profile.Profile.{Profile}
use Rattle.mz_book.specs.Keepers.{keeper_count}
use Rattle.mz_desk.specs.declared.view.View.{View}
use Rattle.mz_register.specs.Passes.{IsRested, keys, bare}
use Rattle.std.specs.Prelude.{nat_lt}
use Rattle.std.proofs.lemmas.Bool.{and_parts}
use Rattle.std.proofs.lemmas.Bool.Decides.{nat_tests}
use Rattle.mz_register.specs.Passes.{is_light_of}
use Rattle.mz_register.proofs.Rests.{light_among}
use Rattle.mz_register.proofs.PassLemmas.{rested_unlit, knowing_same}
use Rattle.mz_register.proofs.pass.Pass.release_light.Goals as goal

pub free_light-requires-clause-exists : goal.free_light-requires-clause-exists
free_light-requires-clause-exists g c =
    let p = c.args.self.now in
    let v = p.seat.me.0 in
    let a = light_among (is_light_of v.profile) c.args.l v.lights c.requires.can.held p.rested.lit in
    let b = and_parts (nat_lt c.args.l.block v.profile.nano) (nat_lt c.args.l.slot 1024) a in
    let e = ap (λ (q : Profile). q.nano) c.requires.of.profile in
    let lb : c.args.l.block < v.profile.nano = grind (arith, nat_tests, b.0) in
    let lj : c.args.l.slot < 1024 = grind (arith, nat_tests, b.1) in
    let x = c.block.ensures in let y = c.slot.ensures in
    (omega arith, omega arith)

pub invariant_of-self-clause-rested : goal.invariant_of-self-clause-rested
invariant_of-self-clause-rested g c =
    let p = c.args.self.now in
    subst (λ (z : View). IsRested z p.caller p.noted.items p.held.items) (sym c.free_light.ensures.stores.view) (rested_unlit p.seat.me.0 p.caller c.block.result c.slot.result p.noted.items p.held.items p.rested)

pub invariant_of-self-clause-carried : goal.invariant_of-self-clause-carried
invariant_of-self-clause-carried g c = ap keys c.free_light.ensures.stores.carried ∙ c.args.self.now.carried

pub invariant_of-self-clause-none_inside : goal.invariant_of-self-clause-none_inside
invariant_of-self-clause-none_inside g c = ap bare c.free_light.ensures.stores.carried ∙ c.args.self.now.none_inside

pub invariant_of-self-clause-room : goal.invariant_of-self-clause-room
invariant_of-self-clause-room g c = let e = ap (λ (z : View). keeper_count z.profile) c.free_light.ensures.stores.view in let r = c.args.self.now.room in omega arith

pub invariant_of-self-clause-knowing : goal.invariant_of-self-clause-knowing
invariant_of-self-clause-knowing g c =
    let e = c.free_light.ensures.stores.view in
    knowing_same c.args.self.now.seat.me.0 _ (ap (λ (z : View). z.profile) e) (ap (λ (z : View). z.caller) e) (ap (λ (z : View). z.seen) e) (ap (λ (z : View). z.noted) e) (ap (λ (z : View). z.pairs) e) c.args.self.now.knowing
