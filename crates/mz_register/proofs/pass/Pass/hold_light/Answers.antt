use Rattle.std.proofs.Common.{◌-◌, ◌∷◌, length, Some, arith, sym, ap, ◌∙◌, subst}
use Rattle.mz_book.specs.Keepers.{keeper_count}
use Rattle.mz_desk.specs.declared.view.View.{View}
use Rattle.mz_desk.specs.Views.{view_account}
use Rattle.mz_register.specs.Passes.{table_numbers, IsRested, keys, bare}
use Rattle.mz_base.specs.declared.profile.Profile.{Profile}
use Rattle.mz_book.specs.Exchanges.{slot_place, clash_of}
use Rattle.mz_register.specs.Accounts.{pass_account, exchanges_of}
use Rattle.mz_register.specs.Orderly.{orderly}
use Rattle.mz_register.proofs.PassLemmas.{rested_lit, knowing_same}
use Rattle.mz_register.proofs.pass.Pass.hold_light.Goals as goal

pub try_light-word-requires-clause-can : goal.try_light-word-requires-clause-can
try_light-word-requires-clause-can g c =
    let p = c.args.self.now in
    let q = c.requires.can in
    record { live = p.rested.live; block = q.below; slot = c.lights_are_of_slots.ensures (pass_account p) c.args.b c.args.j c.args.expect (orderly p) q; kind = q.kind; free = q.free; owned = q.owned }

pub returns-then-word-expect-clause-holds : goal.returns-then-word-expect-clause-holds
returns-then-word-expect-clause-holds g c =
    let p = c.args.self.now in
    let t = c.try_light-word.ensures.tries in
    let e = c.if-word-expect.true in
    record {
      light = c.taken.ensures;
      idle = λ z. t.idle e z;
      alone = λ h. absurd (Rattle.std.proofs.lemmas.Bool.false≢true h);
      after = λ i. view_account (t.got e i) (table_numbers (c.try_light-word.ensures.table i)) (p.limit - length p.noted.items) p.holds p.founds p.found;
    }

pub returns-clause-holds : goal.returns-clause-holds
returns-clause-holds g c =
    let p = c.args.self.now in
    let t = c.try_light-word.ensures.tries in
    let e = c.if-word-expect.false in
    record {
      idle = t.never e;
      other = e;
      alone = λ h. absurd (Rattle.std.proofs.lemmas.Bool.false≢true h);
      after = λ i. view_account (t.missed e i) (table_numbers (c.try_light-word.ensures.table i)) (p.limit - length p.noted.items) p.holds (c.saturating_add-self.ensures i) (Some (Rattle.mz_book.specs.declared.light.Asked.TheVariants.HoldLight c.args.b c.args.j c.args.expect));
    }

pub invariant_of-self-clause-rested : goal.invariant_of-self-clause-rested
invariant_of-self-clause-rested g c =
    let p = c.args.self.now in
    let q = c.requires.can in
    subst (λ (z : View). IsRested z p.caller p.noted.items p.held.items) (sym (c.try_light-word.ensures.tries.got c.if-word-expect.true)) (rested_lit p.seat.me.0 p.caller c.args.b c.args.j p.noted.items p.held.items _ q.below (c.lights_are_of_slots.ensures (pass_account p) c.args.b c.args.j c.args.expect (orderly p) q) p.rested)

pub invariant_of-self-clause-carried : goal.invariant_of-self-clause-carried
invariant_of-self-clause-carried g c = ap keys c.try_light-word.ensures.tries.carried ∙ c.args.self.now.carried

pub invariant_of-self-clause-none_inside : goal.invariant_of-self-clause-none_inside
invariant_of-self-clause-none_inside g c = ap bare c.try_light-word.ensures.tries.carried ∙ c.args.self.now.none_inside

pub invariant_of-self-clause-room : goal.invariant_of-self-clause-room
invariant_of-self-clause-room g c = let e = ap (λ (z : View). keeper_count z.profile) (c.try_light-word.ensures.tries.got c.if-word-expect.true) in let r = c.args.self.now.room in omega arith

pub invariant_of-self-clause-knowing : goal.invariant_of-self-clause-knowing
invariant_of-self-clause-knowing g c =
    let e = (c.try_light-word.ensures.tries.got c.if-word-expect.true) in
    knowing_same c.args.self.now.seat.me.0 _ (ap (λ (z : View). z.profile) e) (ap (λ (z : View). z.caller) e) (ap (λ (z : View). z.seen) e) (ap (λ (z : View). z.noted) e) (ap (λ (z : View). z.pairs) e) c.args.self.now.knowing

pub returns-clause-clash : goal.returns-clause-clash
returns-clause-clash g c =
    let v = c.args.self.now.seat.me.0 in
    let n = c.try_light-word.result in
    λ _. ap exchanges_of (c.try_light-word.ensures.tries.missed c.if-word-expect.false) ∙ ap (λ (q : Profile). record (exchanges_of v) { clashes = clash_of (slot_place q c.args.b c.args.j) c.args.expect n ∷ v.clashes }) (sym c.requires.of.profile)
