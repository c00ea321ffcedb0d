-- What a pass proves of its account: that it is orderly.
use Rattle.std.specs.Prelude.{◌≡◌, ℕ, ◌-◌, List, ◌++◌, length}
use Rattle.std.proofs.Common.{arith, take, sym, ap, ◌∙◌}
use Rattle.std.proofs.lemmas.List.{take-append-drop}
use Rattle.mz_events.specs.declared.entry.Entry.{Entry}
use Rattle.mz_events.specs.Hands.{own}
use Rattle.mz_book.specs.Account.{Account, IsOrderly, IsRecord}
use Rattle.mz_desk.specs.declared.view.View.{View}
use Rattle.mz_register.specs.declared.pass.Pass.{Pass}
use Rattle.mz_register.specs.Passes.{last_own}
use Rattle.mz_register.specs.Accounts.{pass_account, at_desk}

pub record_of : (v : View) → last_own v ≡ v.noted → IsRecord v.caller v.seen v.noted
record_of v e =
    let k : ℕ = length (own v.caller v.seen) - length v.noted in
    record { before = take k (own v.caller v.seen); is = sym (take-append-drop k (own v.caller v.seen)) ∙ ap (λ (es : List Entry). take k (own v.caller v.seen) ++ es) e }

pub orderly : {V : Type 0} (x : Pass V) → IsOrderly (pass_account x)
orderly x =
    let v = x.seat.me.0 in
    let r = x.rested in
    let k = x.knowing in
    record {
      limits = k.limits;
      caller = k.caller;
      lawful = k.lawful;
      recorded = record_of v k.recorded;
      ascending = r.ascending;
      below = r.below;
      few = let n = ap length r.noted_is in let w = x.within in let f = x.few in omega arith;
      counted = k.counted;
      owned = k.owned;
      settled = r.sized;
      classes = r.classes;
    }

-- and so is that of its desk
pub orderly_at : (borrow : ℕ) (s : Account) → IsOrderly s → IsOrderly (at_desk borrow s)
orderly_at borrow s o = record {
  limits = o.limits;
  caller = o.caller;
  lawful = o.lawful;
  recorded = o.recorded;
  ascending = o.ascending;
  below = o.below;
  few = o.few;
  counted = o.counted;
  owned = o.owned;
  settled = o.settled;
  classes = o.classes;
}
