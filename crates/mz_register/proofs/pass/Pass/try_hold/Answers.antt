use Rattle.std.proofs.Common.{◌≡◌, ℕ, ◌+◌, ◌-◌, List, [], ◌∷◌, ◌++◌, length, reverse, None, arith, refl, sym, ap, ◌∙◌, subst}
use Rattle.mz_book.specs.Keepers.{keeper_count}
use Rattle.mz_desk.specs.declared.view.View.{View}
use Rattle.mz_desk.specs.Views.{view_account}
use Rattle.mz_register.specs.Passes.{table_numbers, IsRested, keys, bare}
use Rattle.mz_register.specs.Accounts.{pass_account, exchanges_of}
use Rattle.std.proofs.lemmas.List.{reverse-append}
use Rattle.mz_book.specs.Account.{StandsFor}
use Rattle.mz_register.proofs.Rests.{knowing_of}
use Rattle.mz_register.proofs.AccountMoves.{gains}
use Rattle.mz_register.proofs.PassLemmas.{can_lock, few_held, rested_looked}
use Rattle.mz_register.proofs.pass.Pass.try_hold.Goals as goal

pub try_hold_once-requires-clause-can : goal.try_hold_once-requires-clause-can
try_hold_once-requires-clause-can g c = can_lock c.args.self.now c.args.k c.requires.can

pub push_reserved-requires : goal.push_reserved-requires
push_reserved-requires g c =
    let p = c.args.self.now in
    let v = p.seat.me.0 in
    let n = few_held (keeper_count v.profile) c.args.k v.held p.rested.ascending p.rested.below c.requires.can.above_held c.requires.can.exists in
    let r = p.room in
    let h = ap length p.rested.held_is in
    let o = p.held.ok.0 in
    omega arith

pub invariant_of-self-clause-rested : goal.invariant_of-self-clause-rested
invariant_of-self-clause-rested g c =
    let p = c.args.self.now in
    let v = p.seat.me.0 in
    let x = c.in-Ok.ensures.gets in
    subst (λ (hs : List ℕ). IsRested c.try_hold_once.new.seat.me.0 p.caller p.noted.items hs) (sym c.push_reserved.ensures.items) (subst (λ (z : View). IsRested z p.caller p.noted.items (p.held.items ++ c.args.k ∷ [])) (sym x.view)
    (rested_looked v p.caller c.args.k x.from x.counter p.noted.items x.others p.held.items x.clashes c.requires.can.above_held c.requires.can.exists p.rested))

pub invariant_of-self-clause-knowing : goal.invariant_of-self-clause-knowing
invariant_of-self-clause-knowing g c =
    let x = c.in-Ok.ensures.gets in
    knowing_of c.try_hold_once.new.seat.me.0 x.knows (ap (λ (z : View). length z.joined) x.view ∙ c.args.self.now.rested.none_joined)

pub invariant_of-self-clause-carried : goal.invariant_of-self-clause-carried
invariant_of-self-clause-carried g c =
    let p = c.args.self.now in
    let x = c.in-Ok.ensures.gets in
    ap keys x.carried ∙ (ap (λ (ks : List ℕ). c.args.k ∷ ks) p.carried ∙ (sym (reverse-append p.held.items (c.args.k ∷ [])) ∙ ap reverse (sym c.push_reserved.ensures.items)))

pub invariant_of-self-clause-none_inside : goal.invariant_of-self-clause-none_inside
invariant_of-self-clause-none_inside g c = let x = c.in-Ok.ensures.gets in ap bare x.carried ∙ c.args.self.now.none_inside

pub invariant_of-self-clause-room : goal.invariant_of-self-clause-room
invariant_of-self-clause-room g c = let x = c.in-Ok.ensures.gets in let e = ap (λ (z : View). keeper_count z.profile) x.view in let r = c.args.self.now.room in let k = c.push_reserved.ensures.capacity in omega arith

pub returns-in-Ok-clause-gains : goal.returns-in-Ok-clause-gains
returns-in-Ok-clause-gains g c =
    let p = c.args.self.now in
    let x = c.in-Ok.ensures.gets in (
      gains c.of_histories.ensures (pass_account p) _ c.args.k _ x.others refl x.away (λ i. view_account (x.view i) (table_numbers (c.try_hold_once.ensures.table i)) (p.limit - length p.noted.items) p.holds p.founds p.found) x.calm,
      subst (λ (z : View). StandsFor (view_account z (table_numbers p.seat.table_id) 0 0 0 None) c.args.k (g.V.Keep.keeping c.in-Ok.keeper)) (sym x.view) x.stands,
    )

pub returns-in-Ok-clause-wins : goal.returns-in-Ok-clause-wins
returns-in-Ok-clause-wins g c =
    let v = c.args.self.now.seat.me.0 in
    let x = c.in-Ok.ensures.gets in
    let w : length c.try_hold_once.new.seat.me.0.wins ≡ length v.wins + 1 = ap (λ (z : View). length z.wins) x.view ∙ omega arith in
    λ i. record { wins = w i; clashes = c.in-Ok.ensures.at_once i }

pub returns-in-Err-clause-taken : goal.returns-in-Err-clause-taken
returns-in-Err-clause-taken g c =
    let p = c.args.self.now in
    let x = c.in-Err.ensures.misses in
    record {
      some = x.some;
      most = x.most;
      other = x.other;
      clash = λ _ i. exchanges_of (x.view i);
      same = λ i. view_account (x.view i) (table_numbers (c.try_hold_once.ensures.table i)) (p.limit - length p.noted.items) p.holds p.founds p.found;
    }
