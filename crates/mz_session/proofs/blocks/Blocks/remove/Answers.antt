use Rattle.std.proofs.Common.{◌≡◌, ℕ, ap, sym, subst, ◌∙◌, cond, None}
use Rattle.std.specs.Ordering.{nat_cmp, is_eq}
use Rattle.std.specs.BTreeMap.{get}
use Rattle.mz_session.specs.Names.{block_with}
use Rattle.mz_session.specs.Changes.{AreWith}
use Rattle.mz_session.proofs.NameLemmas.{lookup-block, with-removed}
use Rattle.mz_session.proofs.StartLemmas.{starts-removed}
use Rattle.mz_session.proofs.blocks.Blocks.remove.Goals as goal

pub returns-clause-block : goal.returns-clause-block
returns-clause-block c =
    sym c.in_ok-block.was ∙ c.remove.ensures.value ∙ lookup-block c.self.inside.map.entries c.args.name.now ∙ ap (λ es. block_with es c.args.name.now) c.self.view_is

pub returns-clause-others : goal.returns-clause-others
returns-clause-others c =
    subst (λ es. AreWith es c.args.name.now None c.remove.new.self.entries) c.self.view_is
    (with-removed c.self.inside.map.entries c.remove.new.self.entries c.args.name.now c.remove.ensures.updates.0 c.remove.ensures.entries)

pub returns-in_err-block-clause-block : goal.returns-in_err-block-clause-block
returns-in_err-block-clause-block c =
    c.from_residual.ensures ∙ sym c.in_err-block.was ∙ c.remove.ensures.value ∙ lookup-block c.self.inside.map.entries c.args.name.now
    ∙ ap (λ es. block_with es c.args.name.now) c.self.view_is

pub returns-in_err-block-clause-others : goal.returns-in_err-block-clause-others
returns-in_err-block-clause-others c =
    subst (λ es. AreWith es c.args.name.now None c.remove.new.self.entries) c.self.view_is
    (with-removed c.self.inside.map.entries c.remove.new.self.entries c.args.name.now c.remove.ensures.updates.0 c.remove.ensures.entries)

pub invariant_of-self-2 : goal.invariant_of-self-2
invariant_of-self-2 c =
    let inside = c.self.inside.map.entries in
    let name = c.args.name.now in
    starts-removed inside c.remove.new.self.entries c.self.inside.starts c.remove-2.new.self name c.in_ok-block.block c.self.invariant
    (sym (lookup-block inside name) ∙ sym c.remove.ensures.value ∙ c.in_ok-block.was) c.remove.ensures.entries
    (subst (λ n. (a : ℕ) → get nat_cmp c.remove-2.new.self a ≡ cond (is_eq (nat_cmp n a)) None (get nat_cmp c.self.inside.starts a)) c.first.ensures c.remove-2.ensures.updates.0)
