use Rattle.std.proofs.Common.{◌≡◌, ◌-◌, ◌∷◌, length, get_or, Some, arith, sym, ap, ◌∙◌, subst, inl, inr, ⊎_elim}
use Rattle.mz_book.specs.Keepers.{keeper_count}
use Rattle.mz_desk.specs.declared.view.View.{View}
use Rattle.mz_desk.specs.Views.{view_account}
use Rattle.mz_register.specs.Passes.{table_numbers, IsRested, keys, bare}
use Rattle.mz_base.specs.declared.profile.Profile.{Profile}
use Rattle.mz_book.specs.Exchanges.{class_place, clash_of}
use Rattle.mz_register.specs.Accounts.{pass_account, exchanges_of}
use Rattle.mz_book.specs.declared.light.Asked.TheVariants.{Settle}
use Rattle.std.proofs.lemmas.Bool.{false≢true}
use Rattle.mz_register.proofs.PassLemmas.{rested_class, knowing_same}
use Rattle.mz_register.proofs.pass.Pass.settle.Goals as goal
use Rattle.mz_register.proofs.pass.Pass.settle.Goals.{then-word-eq0-via-then-word-eq0, then-word-eq0-via-else-word-eq0+then-word-class}

pub invariant_of-self-clause-rested : goal.invariant_of-self-clause-rested
invariant_of-self-clause-rested g c =
    let p = c.args.self.now in
    subst (λ (z : View). IsRested z p.caller p.noted.items p.held.items) (sym (c.try_class-word.ensures.tries.first c.if-word-eq0.true)) (rested_class p.seat.me.0 p.caller c.args.b c.args.class p.noted.items p.held.items _ _ c.requires.can.most p.rested)

pub invariant_of-self-clause-carried : goal.invariant_of-self-clause-carried
invariant_of-self-clause-carried g c = ap keys c.try_class-word.ensures.tries.carried ∙ c.args.self.now.carried

pub invariant_of-self-clause-none_inside : goal.invariant_of-self-clause-none_inside
invariant_of-self-clause-none_inside g c = ap bare c.try_class-word.ensures.tries.carried ∙ c.args.self.now.none_inside

pub invariant_of-self-clause-room : goal.invariant_of-self-clause-room
invariant_of-self-clause-room g c = let e = ap (λ (z : View). keeper_count z.profile) (c.try_class-word.ensures.tries.first c.if-word-eq0.true) in let r = c.args.self.now.room in omega arith

pub invariant_of-self-clause-knowing : goal.invariant_of-self-clause-knowing
invariant_of-self-clause-knowing g c =
    let e = (c.try_class-word.ensures.tries.first c.if-word-eq0.true) in
    knowing_same c.args.self.now.seat.me.0 _ (ap (λ (z : View). z.profile) e) (ap (λ (z : View). z.caller) e) (ap (λ (z : View). z.seen) e) (ap (λ (z : View). z.noted) e) (ap (λ (z : View). z.pairs) e) c.args.self.now.knowing

pub invariant_of-self-then-word-class-clause-rested : goal.invariant_of-self-then-word-class-clause-rested
invariant_of-self-then-word-class-clause-rested g c =
    let p = c.args.self.now in
    subst (λ (z : View). IsRested z p.caller p.noted.items p.held.items) (sym (c.try_class-word.ensures.tries.again c.if-word-eq0.false c.if-word-class.true)) (rested_class p.seat.me.0 p.caller c.args.b c.args.class p.noted.items p.held.items _ _ c.requires.can.most p.rested)

pub invariant_of-self-then-word-class-clause-carried : goal.invariant_of-self-then-word-class-clause-carried
invariant_of-self-then-word-class-clause-carried g c = ap keys c.try_class-word.ensures.tries.carried ∙ c.args.self.now.carried

pub invariant_of-self-then-word-class-clause-none_inside : goal.invariant_of-self-then-word-class-clause-none_inside
invariant_of-self-then-word-class-clause-none_inside g c = ap bare c.try_class-word.ensures.tries.carried ∙ c.args.self.now.none_inside

pub invariant_of-self-then-word-class-clause-room : goal.invariant_of-self-then-word-class-clause-room
invariant_of-self-then-word-class-clause-room g c = let e = ap (λ (z : View). keeper_count z.profile) (c.try_class-word.ensures.tries.again c.if-word-eq0.false c.if-word-class.true) in let r = c.args.self.now.room in omega arith

pub invariant_of-self-then-word-class-clause-knowing : goal.invariant_of-self-then-word-class-clause-knowing
invariant_of-self-then-word-class-clause-knowing g c =
    let e = (c.try_class-word.ensures.tries.again c.if-word-eq0.false c.if-word-class.true) in
    knowing_same c.args.self.now.seat.me.0 _ (ap (λ (z : View). z.profile) e) (ap (λ (z : View). z.caller) e) (ap (λ (z : View). z.seen) e) (ap (λ (z : View). z.noted) e) (ap (λ (z : View). z.pairs) e) c.args.self.now.knowing

pub returns-then-word-eq0-clause-settles : goal.returns-then-word-eq0-clause-settles
returns-then-word-eq0-clause-settles g c =
    let p = c.args.self.now in
    let t = c.try_class-word.ensures.tries in
    let s = pass_account p in
    elim c.then-word-eq0.branch [
      | then-word-eq0-via-then-word-eq0 w ↦ record {
        no_other = ⊎_elim (λ (z : get_or p.seat.me.0.settled c.args.b 0 ≡ 0). inl z) (λ (z : get_or p.seat.me.0.settled c.args.b 0 ≡ c.try_class-word.result). inl (z ∙ w.if-word-eq0.true)) t.known;
        after = ap pass_account w.self-is ∙ (λ i. view_account (t.first w.if-word-eq0.true i) (table_numbers (c.try_class-word.ensures.table i)) (p.limit - length p.noted.items) p.holds p.founds p.found);
      }
      | then-word-eq0-via-else-word-eq0+then-word-class w ↦ record {
        no_other = ⊎_elim (λ (z : get_or p.seat.me.0.settled c.args.b 0 ≡ 0). inl z) (λ (z : get_or p.seat.me.0.settled c.args.b 0 ≡ c.try_class-word.result). inr (z ∙ w.if-word-class.true)) t.known;
        after = ap pass_account w.self-is ∙ (λ i. view_account (t.again w.if-word-eq0.false w.if-word-class.true i) (table_numbers (c.try_class-word.ensures.table i)) (p.limit - length p.noted.items) p.holds p.founds p.found);
      }
    ]

pub returns-clause-settles : goal.returns-clause-settles
returns-clause-settles g c =
    let p = c.args.self.now in
    let t = c.try_class-word.ensures.tries in
    record {
      some = omega (arith, c.if-word-eq0.false);
      most = t.most;
      other = c.if-word-class.false;
      known = t.known;
      alone = λ h. absurd (false≢true h);
      after = λ i. view_account (t.other c.if-word-eq0.false c.if-word-class.false i) (table_numbers (c.try_class-word.ensures.table i)) (p.limit - length p.noted.items) p.holds (c.saturating_add-self.ensures i) (Some (Settle c.args.b c.args.class));
    }

pub returns-clause-clash : goal.returns-clause-clash
returns-clause-clash g c =
    let v = c.args.self.now.seat.me.0 in
    let n = c.try_class-word.result in
    λ _. ap exchanges_of (c.try_class-word.ensures.tries.other c.if-word-eq0.false c.if-word-class.false) ∙ ap (λ (q : Profile). record (exchanges_of v) { clashes = clash_of (class_place q c.args.b) 0 n ∷ v.clashes }) (sym c.requires.of.profile)
