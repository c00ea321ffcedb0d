use Rattle.std.proofs.Common.{◌≡◌, ◌<◌, length, ℕ, Some, get_or, length-set, arith, sym, ap, ◌∙◌, refl, subst, inl, inr}
use Rattle.std.specs.Prelude.{◌⊎◌}
use Rattle.mz_events.specs.State.{opening}
use Rattle.mz_events.specs.History.{after_all}
use Rattle.mz_book.specs.declared.light.Asked.TheVariants.{Settle}
use Rattle.mz_book.specs.Account.{Account}
use Rattle.mz_book.specs.Plain.{plain_account, site_of}
use Rattle.mz_book.proofs.HomeLemmas.{get_or_any}
use Rattle.mz_book.proofs.PlainLemmas.{class_few}
use Rattle.mz_book.proofs.WordLemmas.{classes_set, same_class}
use Rattle.mz_book.specs.Owners.{pairs_told}
use Rattle.mz_book.proofs.plain.PlainBookBook.settle.Goals as goal
use Rattle.mz_book.proofs.plain.PlainBookBook.settle.Goals.{then-word-eq0-via-then-word-eq0, then-word-eq0-via-else-word-eq0+then-word-class}

pub invariant_of-self-clause-class_count : goal.invariant_of-self-clause-class_count
invariant_of-self-clause-class_count g c = let b = c.args.self.now in length-set b.classes.items c.args.b c.args.class ∙ b.class_count

pub invariant_of-self-clause-class_most : goal.invariant_of-self-clause-class_most
invariant_of-self-clause-class_most g c = let b = c.args.self.now in classes_set b.classes.items c.args.b c.args.class c.requires.most b.class_most

pub invariant_of-self-clause-of_class : goal.invariant_of-self-clause-of_class
invariant_of-self-clause-of_class g c =
    let b = c.args.self.now in
    let cs = b.classes.items in
    let below : c.args.b < length cs = subst (λ n. c.args.b < n) (sym b.class_count) c.requires.below in
    let at : get_or cs c.args.b 0 ≡ c.index-word.result.now = get_or_any cs c.args.b 0 c.index-word.result.now below ∙ sym c.index-word.ensures in
    let was : (get_or cs c.args.b 0 ≡ 0) ⊎ (get_or cs c.args.b 0 ≡ c.args.class) = elim c.then-word-eq0.branch [
      | then-word-eq0-via-then-word-eq0 w ↦ inl (at ∙ w.if-word-eq0.true)
      | then-word-eq0-via-else-word-eq0+then-word-class w ↦ inr (at ∙ w.if-word-class.true)
    ] in
    same_class b.profile (after_all b.profile opening b.history.items) cs c.args.b c.args.class b.class_count (λ j x h. (c.of_histories.ensures.ascending b.profile b.history.items b.lawful).sizes j x h) was b.of_class

pub returns-then-word-eq0-clause-settles : goal.returns-then-word-eq0-clause-settles
returns-then-word-eq0-clause-settles g c =
    let b = c.args.self.now in
    let cs = b.classes.items in
    let below : c.args.b < length cs = subst (λ n. c.args.b < n) (sym b.class_count) c.requires.below in
    let at : get_or cs c.args.b 0 ≡ c.index-word.result.now = get_or_any cs c.args.b 0 c.index-word.result.now below ∙ sym c.index-word.ensures in
    record {
      no_other = elim c.then-word-eq0.branch [
        | then-word-eq0-via-then-word-eq0 w ↦ inl (at ∙ w.if-word-eq0.true)
        | then-word-eq0-via-else-word-eq0+then-word-class w ↦ inr (at ∙ w.if-word-class.true)
      ];
      after = refl;
    }

pub returns-clause-settles : goal.returns-clause-settles
returns-clause-settles g c =
    let b = c.args.self.now in
    let cs = b.classes.items in
    let below : c.args.b < length cs = subst (λ n. c.args.b < n) (sym b.class_count) c.requires.below in
    let at : get_or cs c.args.b 0 ≡ c.index-word.result.now = get_or_any cs c.args.b 0 c.index-word.result.now below ∙ sym c.index-word.ensures in
    let few = class_few cs c.args.b b.class_most in
    let s = plain_account b.profile b.caller (site_of (g.V.Keep.keeping b.site.value)) b.history.items b.limit b.held.items (pairs_told b.quanta.items b.history.items) b.classes.items b.slots.items b.holds b.founds b.found in
    let f : ℕ → Account = λ n. record s { founds = n; found = Some (Settle c.args.b c.args.class) } in
    record {
      some = omega (arith, c.if-word-eq0.false);
      most = omega arith;
      other = c.if-word-class.false;
      known = inr at;
      alone = λ y. at;
      after = ap f c.saturating_add-self.ensures;
    }
