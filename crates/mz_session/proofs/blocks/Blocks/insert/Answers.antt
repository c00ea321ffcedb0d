use Rattle.std.proofs.Common.{◌≡◌, ◌∙◌, ℕ, ap, subst, cond, Some, None}
use Rattle.std.specs.Ordering.{nat_cmp, is_eq}
use Rattle.std.specs.Map.{remove_entry}
use Rattle.std.specs.BTreeMap.{get, Updates}
use Rattle.mz_session.specs.Names.{block_with, name_from}
use Rattle.mz_session.specs.Changes.{AreWith}
use Rattle.mz_session.proofs.NameLemmas.{finds, with-inserted}
use Rattle.mz_session.proofs.StartLemmas.{starts-inserted, starts-undone, starts-still, ok-says, err-says}
use Rattle.mz_session.proofs.blocks.Blocks.insert.Goals as goal

pub returns : goal.returns
returns c =
    let name = c.args.name in
    let inside = c.self.inside.map.entries in
    let free : block_with inside name ≡ None = ap (λ es. block_with es name) c.self.view_is ∙ c.requires.free in
    subst (λ es. AreWith es name (Some c.args.block) c.insert.new.self.entries) c.self.view_is
    (with-inserted inside c.insert.new.self.entries name c.args.block free c.in_ok-insert.ensures.updates.0 c.in_ok-insert.ensures.entries)

pub invariant_of-self-else-is_err : goal.invariant_of-self-else-is_err
invariant_of-self-else-is_err c =
    let name = c.args.name in
    let inside = c.self.inside.map.entries in
    let starts = c.self.inside.starts in
    let free : block_with inside name ≡ None = ap (λ es. block_with es name) c.self.view_is ∙ c.requires.free in
    let start : name_from inside c.args.block.span.first ≡ None = ap (λ es. name_from es c.args.block.span.first) c.self.view_is ∙ c.requires.start in
    let updated = ok-says c.insert-2.result (Updates nat_cmp starts c.insert-2.new.self c.first-start.result (Some name)) c.if-is_err.ensures.value c.insert-2.ensures.updates in
    starts-inserted inside c.insert.new.self.entries starts c.insert-2.new.self name c.args.block c.self.invariant free start c.in_ok-insert.ensures.entries
    (subst (λ n. (a : ℕ) → get nat_cmp c.insert-2.new.self a ≡ cond (is_eq (nat_cmp n a)) (Some name) (get nat_cmp starts a)) c.first-start.ensures updated.0)

pub invariant_of-self-then-is_err : goal.invariant_of-self-then-is_err
invariant_of-self-then-is_err c =
    let name = c.args.name in
    let inside = c.self.inside.map.entries in
    let starts = c.self.inside.starts in
    let free : block_with inside name ≡ None = ap (λ es. block_with es name) c.self.view_is ∙ c.requires.free in
    starts-still c.remove.new.self.entries starts c.insert-2.new.self
    (starts-undone inside c.remove.new.self.entries starts name c.args.block c.self.invariant free
    (c.remove.ensures.entries ∙ ap (remove_entry (finds name)) c.in_ok-insert.ensures.entries))
    (err-says c.insert-2.result (c.insert-2.new.self.entries ≡ starts.entries) c.if-is_err.ensures.value c.insert-2.ensures.err)
