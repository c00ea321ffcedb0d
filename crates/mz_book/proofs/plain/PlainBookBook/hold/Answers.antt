use Rattle.std.proofs.Common.{◌≡◌, ◌<◌, [], ℕ, Some, None, List, ◌∷◌, ◌++◌, get_or, length-set, arith, sym, ap, ◌∙◌, refl, subst, append-nil}
use Rattle.std.proofs.lemmas.List.Elements.{All-nil}
use Rattle.mz_events.specs.State.{opening}
use Rattle.mz_events.specs.History.{after_all}
use Rattle.mz_events.specs.declared.entry.Entry.{Entry}
use Rattle.mz_events.specs.Holding.{IsAway}
use Rattle.mz_book.specs.Keepers.{keeper_count, is_held}
use Rattle.mz_book.specs.Account.{Account}
use Rattle.mz_book.specs.Plain.{plain_account, site_of}
use Rattle.mz_book.proofs.HeldLemmas.{above_absent, ascending_snoc, all_snoc, ascending_few}
use Rattle.mz_book.proofs.HomeLemmas.{hold_home, not_none, some_at, none_duty, get_or_any}
use Rattle.mz_book.specs.Owners.{pairs_told}
use Rattle.mz_book.proofs.plain.PlainBookBook.hold.Goals as goal

pub push_reserved-requires : goal.push_reserved-requires
push_reserved-requires g c =
    let b = c.args.self.now in
    let few = ascending_few 0 c.args.k b.held.items b.ascending c.requires.above_held (omega arith) in
    let room = b.held_room in
    let below = c.requires.exists in
    omega arith

pub invariant_of-self-clause-ascending : goal.invariant_of-self-clause-ascending
invariant_of-self-clause-ascending g c =
    let b = c.args.self.now in
    rw c.push_reserved.ensures.items (ascending_snoc 0 c.args.k b.held.items b.ascending (omega arith) c.requires.above_held)

pub invariant_of-self-clause-below : goal.invariant_of-self-clause-below
invariant_of-self-clause-below g c =
    let b = c.args.self.now in
    rw c.push_reserved.ensures.items (all_snoc (keeper_count b.profile) c.args.k b.held.items b.below c.requires.exists)

pub invariant_of-self-clause-sized : goal.invariant_of-self-clause-sized
invariant_of-self-clause-sized g c = let b = c.args.self.now in length-set b.keepers.items c.args.k c.take.new.self ∙ b.sized

pub invariant_of-self-clause-home : goal.invariant_of-self-clause-home
invariant_of-self-clause-home g c =
    let b = c.args.self.now in
    let h = hold_home g.V.Keep.keeping (site_of (g.V.Keep.keeping b.site.value)) b.profile (after_all b.profile opening b.history.items) b.held.items b.keepers.items c.args.k b.sized c.requires.exists b.home in
    rw (c.push_reserved.ensures.items, c.take.ensures.after) h

pub unreachable-requires : goal.unreachable-requires
unreachable-requires g c =
    let b = c.args.self.now in
    let at = (b.home c.args.k c.requires.exists).0 (above_absent c.args.k b.held.items c.requires.above_held) in
    let is : get_or b.keepers.items c.args.k None ≡ None =
    get_or_any b.keepers.items c.args.k None c.index_mut.result.now (subst (λ n. c.args.k < n) (sym b.sized) c.requires.exists) ∙ (sym c.index_mut.ensures.value ∙ (sym c.take.ensures.value ∙ c.in-None.is)) in
    not_none _ (get_or b.keepers.items c.args.k None) at.0 is

pub returns-clause-holds : goal.returns-clause-holds
returns-clause-holds g c =
    let b = c.args.self.now in
    let at = (b.home c.args.k c.requires.exists).0 (above_absent c.args.k b.held.items c.requires.above_held) in
    let s = plain_account b.profile b.caller (site_of (g.V.Keep.keeping b.site.value)) b.history.items b.limit b.held.items (pairs_told b.quanta.items b.history.items) b.classes.items b.slots.items b.holds b.founds b.found in
    let f : List ℕ → List Entry → ℕ → Account = λ h e n. record s { held = h; seen = e; holds = n } in
    record {
      others = [];
      away = All-nil (IsAway b.profile b.caller (is_held b.profile b.held.items));
      alone = λ y. refl;
      after = ap (λ h. f h b.history.items c.saturating_add-self.result) c.push_reserved.ensures.items
          ∙ (ap (λ e. f (b.held.items ++ c.args.k ∷ []) e c.saturating_add-self.result) (sym (append-nil b.history.items))
          ∙ ap (λ n. f (b.held.items ++ c.args.k ∷ []) (b.history.items ++ []) n) c.saturating_add-self.ensures);
      stays = λ j h. refl;
      zones = λ z. refl;
      calm = none_duty _ at.1;
    }

pub returns-clause-stands : goal.returns-clause-stands
returns-clause-stands g c =
    let b = c.args.self.now in
    let at = (b.home c.args.k c.requires.exists).0 (above_absent c.args.k b.held.items c.requires.above_held) in
    let is : get_or b.keepers.items c.args.k None ≡ Some c.in-Some.v =
    get_or_any b.keepers.items c.args.k None c.index_mut.result.now (subst (λ n. c.args.k < n) (sym b.sized) c.requires.exists) ∙ (sym c.index_mut.ensures.value ∙ (sym c.take.ensures.value ∙ c.in-Some.is)) in
    some_at _ (get_or b.keepers.items c.args.k None) c.in-Some.v at.0 is
