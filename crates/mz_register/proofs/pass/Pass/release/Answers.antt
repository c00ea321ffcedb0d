use Rattle.std.proofs.Common.{◌≡◌, ℕ, ◌+◌, ◌-◌, List, ◌∷◌, ◌++◌, length, reverse, Option, arith, sym, ap, ◌∙◌, subst, take, drop, length-append}
use Rattle.mz_book.specs.Keepers.{keeper_count}
use Rattle.mz_book.specs.Account.{Account, entry_at}
use Rattle.mz_desk.specs.declared.view.View.{View}
use Rattle.mz_desk.specs.Views.{view_account}
use Rattle.mz_register.specs.Passes.{table_numbers, IsRested}
use Rattle.std.proofs.lemmas.List.{reverse-append}
use Rattle.atomic_table.specs.Table.{rest}
use Rattle.mz_book.specs.Calls.{without}
use Rattle.mz_desk.specs.Views.{freed}
use Rattle.mz_register.specs.Seats.{CanPutBack}
use Rattle.mz_register.proofs.Rests.{none_of}
use Rattle.mz_register.proofs.Carried.{round, spun, front_of, keys_length, cut_asc}
use Rattle.mz_register.proofs.PassLemmas.{rested_freed, knowing_same}
use Rattle.mz_register.proofs.pass.Pass.release.Goals as goal

pub spin-requires : goal.spin-requires
spin-requires g c =
    let p = c.args.self.now in
    let k = c.args.k in
    let i = c.find-i.result in
    let hs = p.held.items in
    let o = round hs c.as_slice.result.now i k p.seat.me.1 c.as_slice.ensures.value c.find-i.ensures.within c.find-i.ensures.found p.carried p.none_inside in
    let z = o.size in let y = c.len.ensures in let x = p.held.ok.0 in omega arith

pub spin-requires-2 : goal.spin-requires-2
spin-requires-2 g c =
    let p = c.args.self.now in
    let k = c.args.k in
    let i = c.find-i.result in
    let hs = p.held.items in
    let o = round hs c.as_slice.result.now i k p.seat.me.1 c.as_slice.ensures.value c.find-i.ensures.within c.find-i.ensures.found p.carried p.none_inside in
    let n : c.len.result - 1 - i ≡ length (reverse (drop (i + 1) hs)) = ap (λ (z : ℕ). z - 1 - i) (c.len.ensures ∙ p.held.ok.0) ∙ o.behind in
    let s1 = spun p.seat.me.1 c.spin.new.seat.me.1 (reverse (drop (i + 1) hs)) (k ∷ reverse (take i hs)) (c.len.result - 1 - i) o.cut n o.bare_all c.spin.ensures.carried in
    let f = front_of c.spin.new.seat.me.1 k (reverse (take i hs) ++ reverse (drop (i + 1) hs)) s1.0 s1.1 in
    let r : c.put_back.new.seat.me.1 ≡ f.0 = c.put_back.ensures.carried ∙ ap rest f.1 in
    let a = o.ahead in omega (arith, ap length r, keys_length f.0, ap length f.2, length-append (reverse (take i hs)) (reverse (drop (i + 1) hs)))

pub put_back-requires-clause-can : goal.put_back-requires-clause-can
put_back-requires-clause-can g c =
    let p = c.args.self.now in
    let k = c.args.k in
    let i = c.find-i.result in
    let hs = p.held.items in
    let o = round hs c.as_slice.result.now i k p.seat.me.1 c.as_slice.ensures.value c.find-i.ensures.within c.find-i.ensures.found p.carried p.none_inside in
    let n : c.len.result - 1 - i ≡ length (reverse (drop (i + 1) hs)) = ap (λ (z : ℕ). z - 1 - i) (c.len.ensures ∙ p.held.ok.0) ∙ o.behind in
    let s1 = spun p.seat.me.1 c.spin.new.seat.me.1 (reverse (drop (i + 1) hs)) (k ∷ reverse (take i hs)) (c.len.result - 1 - i) o.cut n o.bare_all c.spin.ensures.carried in
    let f = front_of c.spin.new.seat.me.1 k (reverse (take i hs) ++ reverse (drop (i + 1) hs)) s1.0 s1.1 in
    let can = c.requires.can in
    subst (λ (z : View). CanPutBack g.V.Keep.keeping (z, c.spin.new.seat.me.1) k c.args.keeper) (sym c.spin.ensures.view) record {
      idle = record { live = p.rested.live; none = none_of p.seat.me.0.taking p.rested.none_taking };
      held = can.held;
      others = f.0;
      last = f.1;
      stands = c.requires.stands;
      calm = can.calm;
    }

pub invariant_of-self-clause-rested : goal.invariant_of-self-clause-rested
invariant_of-self-clause-rested g c =
    let p = c.args.self.now in
    let k = c.args.k in
    let i = c.find-i.result in
    let hs = p.held.items in
    let o = round hs c.as_slice.result.now i k p.seat.me.1 c.as_slice.ensures.value c.find-i.ensures.within c.find-i.ensures.found p.carried p.none_inside in
    let v : c.spin-2.new.seat.me.0 ≡ freed p.seat.me.0 k = c.spin-2.ensures.view ∙ (c.put_back.ensures.view ∙ ap (λ (z : View). freed z k) c.spin.ensures.view) in
    let cut : without k hs ≡ c.remove.new.self.items = ap (without k) o.is ∙ (cut_asc 0 (take i hs) (drop (i + 1) hs) k (ap (Rattle.mz_book.specs.Account.is_ascending 0) (sym o.is) ∙ (ap (Rattle.mz_book.specs.Account.is_ascending 0) (sym p.rested.held_is) ∙ p.rested.ascending)) ∙ sym c.remove.ensures.by_index.2) in
    subst (λ (xs : List ℕ). IsRested c.spin-2.new.seat.me.0 p.caller p.noted.items xs) cut (subst (λ (z : View). IsRested z p.caller p.noted.items (without k hs)) (sym v) (rested_freed p.seat.me.0 p.caller k p.noted.items hs p.rested))

pub invariant_of-self-clause-knowing : goal.invariant_of-self-clause-knowing
invariant_of-self-clause-knowing g c =
    let p = c.args.self.now in
    let k = c.args.k in
    let v : c.spin-2.new.seat.me.0 ≡ freed p.seat.me.0 k = c.spin-2.ensures.view ∙ (c.put_back.ensures.view ∙ ap (λ (z : View). freed z k) c.spin.ensures.view) in
    knowing_same p.seat.me.0 _ (ap (λ (z : View). z.profile) v) (ap (λ (z : View). z.caller) v) (ap (λ (z : View). z.seen) v) (ap (λ (z : View). z.noted) v) (ap (λ (z : View). z.pairs) v) p.knowing

pub invariant_of-self-clause-carried : goal.invariant_of-self-clause-carried
invariant_of-self-clause-carried g c =
    let p = c.args.self.now in
    let k = c.args.k in
    let i = c.find-i.result in
    let hs = p.held.items in
    let o = round hs c.as_slice.result.now i k p.seat.me.1 c.as_slice.ensures.value c.find-i.ensures.within c.find-i.ensures.found p.carried p.none_inside in
    let n : c.len.result - 1 - i ≡ length (reverse (drop (i + 1) hs)) = ap (λ (z : ℕ). z - 1 - i) (c.len.ensures ∙ p.held.ok.0) ∙ o.behind in
    let s1 = spun p.seat.me.1 c.spin.new.seat.me.1 (reverse (drop (i + 1) hs)) (k ∷ reverse (take i hs)) (c.len.result - 1 - i) o.cut n o.bare_all c.spin.ensures.carried in
    let f = front_of c.spin.new.seat.me.1 k (reverse (take i hs) ++ reverse (drop (i + 1) hs)) s1.0 s1.1 in
    let r : c.put_back.new.seat.me.1 ≡ f.0 = c.put_back.ensures.carried ∙ ap rest f.1 in
    let s2 = spun f.0 c.spin-2.new.seat.me.1 (reverse (take i hs)) (reverse (drop (i + 1) hs)) i f.2 o.ahead f.3 (c.spin-2.ensures.carried ∙ ap (λ (z : List (ℕ × Option g.row.V.Denot)). drop i z ++ take i z) r) in
    s2.0 ∙ (sym (reverse-append (take i hs) (drop (i + 1) hs)) ∙ ap reverse (sym c.remove.ensures.by_index.2))

pub invariant_of-self-clause-none_inside : goal.invariant_of-self-clause-none_inside
invariant_of-self-clause-none_inside g c =
    let p = c.args.self.now in
    let k = c.args.k in
    let i = c.find-i.result in
    let hs = p.held.items in
    let o = round hs c.as_slice.result.now i k p.seat.me.1 c.as_slice.ensures.value c.find-i.ensures.within c.find-i.ensures.found p.carried p.none_inside in
    let n : c.len.result - 1 - i ≡ length (reverse (drop (i + 1) hs)) = ap (λ (z : ℕ). z - 1 - i) (c.len.ensures ∙ p.held.ok.0) ∙ o.behind in
    let s1 = spun p.seat.me.1 c.spin.new.seat.me.1 (reverse (drop (i + 1) hs)) (k ∷ reverse (take i hs)) (c.len.result - 1 - i) o.cut n o.bare_all c.spin.ensures.carried in
    let f = front_of c.spin.new.seat.me.1 k (reverse (take i hs) ++ reverse (drop (i + 1) hs)) s1.0 s1.1 in
    let r : c.put_back.new.seat.me.1 ≡ f.0 = c.put_back.ensures.carried ∙ ap rest f.1 in
    let s2 = spun f.0 c.spin-2.new.seat.me.1 (reverse (take i hs)) (reverse (drop (i + 1) hs)) i f.2 o.ahead f.3 (c.spin-2.ensures.carried ∙ ap (λ (z : List (ℕ × Option g.row.V.Denot)). drop i z ++ take i z) r) in
    s2.1

pub invariant_of-self-clause-room : goal.invariant_of-self-clause-room
invariant_of-self-clause-room g c =
    let p = c.args.self.now in
    let k = c.args.k in
    let v : c.spin-2.new.seat.me.0 ≡ freed p.seat.me.0 k = c.spin-2.ensures.view ∙ (c.put_back.ensures.view ∙ ap (λ (z : View). freed z k) c.spin.ensures.view) in
    let e = ap (λ (z : View). keeper_count z.profile) v in let r = p.room in let q = c.remove.ensures in omega arith

pub returns-clause-releases : goal.returns-clause-releases
returns-clause-releases g c =
    let p = c.args.self.now in
    let k = c.args.k in
    let v : c.spin-2.new.seat.me.0 ≡ freed p.seat.me.0 k = c.spin-2.ensures.view ∙ (c.put_back.ensures.view ∙ ap (λ (z : View). freed z k) c.spin.ensures.view) in
    record { after = λ i. view_account (v i) (table_numbers ((c.spin-2.ensures.table ∙ (c.put_back.ensures.table ∙ c.spin.ensures.table)) i)) (p.limit - length p.noted.items) p.holds p.founds p.found }
