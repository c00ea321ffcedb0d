use Rattle.std.proofs.Common.{◌≡◌, ◌<◌, ℕ, Some, None, is_none, List, get_or, length-set, arith, sym, ap, ◌∙◌, subst}
use Rattle.mz_events.specs.State.{opening}
use Rattle.mz_events.specs.History.{after_all}
use Rattle.mz_book.specs.Keepers.{keeper_count}
use Rattle.mz_book.specs.Account.{Account}
use Rattle.mz_book.specs.Plain.{plain_account, site_of}
use Rattle.mz_book.proofs.HeldLemmas.{ascending_without, all_without, among_below}
use Rattle.mz_book.proofs.HomeLemmas.{release_home, none_some, get_or_any}
use Rattle.mz_book.specs.Owners.{pairs_told}
use Rattle.mz_book.proofs.plain.PlainBookBook.release.Goals as goal

pub index_mut-requires : goal.index_mut-requires
index_mut-requires g c =
    let b = c.args.self.now in
    let k_in = among_below c.args.k (keeper_count b.profile) b.held.items b.below c.requires.can.held in
    let s = b.sized in
    let ok = b.keepers.ok.0 in
    omega arith

pub invariant_of-self-clause-ascending : goal.invariant_of-self-clause-ascending
invariant_of-self-clause-ascending g c = let b = c.args.self.now in rw c.leave.ensures.items (ascending_without 0 c.args.k b.held.items b.ascending)

pub invariant_of-self-clause-below : goal.invariant_of-self-clause-below
invariant_of-self-clause-below g c = let b = c.args.self.now in rw c.leave.ensures.items (all_without (keeper_count b.profile) c.args.k b.held.items b.below)

pub invariant_of-self-clause-sized : goal.invariant_of-self-clause-sized
invariant_of-self-clause-sized g c = let b = c.args.self.now in length-set b.keepers.items c.args.k c.replace-old.new.self ∙ b.sized

pub invariant_of-self-clause-home : goal.invariant_of-self-clause-home
invariant_of-self-clause-home g c =
    let b = c.args.self.now in
    let k_in = among_below c.args.k (keeper_count b.profile) b.held.items b.below c.requires.can.held in
    let h = release_home g.V.Keep.keeping (site_of (g.V.Keep.keeping b.site.value)) b.profile (after_all b.profile opening b.history.items) b.held.items b.keepers.items c.args.k c.args.v b.sized k_in c.requires.stands (ap is_none c.requires.can.calm) b.home in
    rw (c.leave.ensures.items, c.replace-old.ensures.after) h

pub unreachable-requires : goal.unreachable-requires
unreachable-requires g c =
    let b = c.args.self.now in
    let k_in = among_below c.args.k (keeper_count b.profile) b.held.items b.below c.requires.can.held in
    let is : get_or b.keepers.items c.args.k None ≡ Some c.in_default.field-0 =
    get_or_any b.keepers.items c.args.k None c.index_mut.result.now (subst (λ n. c.args.k < n) (sym b.sized) k_in) ∙ (sym c.index_mut.ensures.value ∙ (sym c.replace-old.ensures.value ∙ c.in_default.is)) in
    none_some (get_or b.keepers.items c.args.k None) c.in_default.field-0 ((b.home c.args.k k_in).1 c.requires.can.held) is

pub returns : goal.returns
returns g c =
    let b = c.args.self.now in
    let s = plain_account b.profile b.caller (site_of (g.V.Keep.keeping b.site.value)) b.history.items b.limit b.held.items (pairs_told b.quanta.items b.history.items) b.classes.items b.slots.items b.holds b.founds b.found in
    let f : List ℕ → Account = λ h. record s { held = h } in
    record { after = ap f c.leave.ensures.items }
