use Rattle.std.proofs.Common.{◌≡◌, ◌∙◌, ◌+◌, ◌≤◌, ap, sym, subst, Some, None, length}
use Rattle.std.specs.Prelude.{is_some, IfSome}
use Rattle.std.specs.Option.{option_map}
use Rattle.std.specs.Map.{lookup}
use Rattle.mz_zone.specs.Blocks.{BlockView, with_block_bytes}
use Rattle.mz_session.specs.Names.{block_with}
use Rattle.mz_session.specs.Changes.{AreWith, written}
use Rattle.mz_session.proofs.NameLemmas.{finds, lookup-block, with-written, with-nothing}
use Rattle.mz_session.proofs.StartLemmas.{starts-written}
use Rattle.mz_session.proofs.blocks.Blocks.write.Goals as goal

pub returns-in_default : goal.returns-in_default
returns-in_default c =
    let old = c.args.self.now in
    let name = c.args.name.now in
    let none : block_with old name ≡ None = sym (c.in_default.ensures.value ∙ lookup-block c.self.inside.map.entries name ∙ ap (λ es. block_with es name) c.self.view_is) in
    let same = ap (λ m. m.entries) c.get_mut.follows.holds-at-none ∙ c.self.view_is in
    subst (λ es. AreWith old name (option_map (λ l. with_block_bytes l (written c.args.off c.args.bytes.now l.span.bytes)) (block_with old name)) es) (sym same)
    (subst (λ o. AreWith old name (option_map (λ l. with_block_bytes l (written c.args.off c.args.bytes.now l.span.bytes)) o) old) (sym none) (with-nothing old name none))

pub returns : goal.returns
returns c =
    let old = c.args.self.now in
    let name = c.args.name.now in
    let inside = c.self.inside.map.entries in
    let block : BlockView = c.in-Some.block.now in
    let w : BlockView = c.write.new.block in
    let found : lookup (finds name) inside ≡ Some block = sym c.in-Some.ensures.value in
    let held : block_with inside name ≡ Some block = sym (lookup-block inside name) ∙ found in
    let held_old : block_with old name ≡ Some block = ap (λ es. block_with es name) (sym c.self.view_is) ∙ held in
    let holds = c.get_mut.follows.holds w in
    let with_it : AreWith inside name (Some w) (c.get_mut.follows.lender w).entries =
    with-written inside (c.get_mut.follows.lender w).entries name block w held (holds.3 (ap is_some found)).0 holds.0 in
    subst (λ o. AreWith old name (option_map (λ l. with_block_bytes l (written c.args.off c.args.bytes.now l.span.bytes)) o) (c.get_mut.follows.lender w).entries) (sym held_old)
    (subst (λ x. AreWith old name (Some x) (c.get_mut.follows.lender w).entries) c.write.ensures
    (subst (λ es. AreWith es name (Some w) (c.get_mut.follows.lender w).entries) c.self.view_is with_it))

pub write-requires : goal.write-requires
write-requires c =
    let name = c.args.name.now in
    let inside = c.self.inside.map.entries in
    let held : block_with c.args.self.now name ≡ Some c.in-Some.block.now = ap (λ es. block_with es name) (sym c.self.view_is) ∙ sym (lookup-block inside name) ∙ sym c.in-Some.ensures.value in
    subst (λ o. IfSome o (λ l. c.args.off + length c.args.bytes.now ≤ length l.span.bytes)) held c.requires

pub invariant_of-self-2 : goal.invariant_of-self-2
invariant_of-self-2 c =
    let name = c.args.name.now in
    let inside = c.self.inside.map.entries in
    let block : BlockView = c.in-Some.block.now in
    let w : BlockView = c.write.new.block in
    let found : lookup (finds name) inside ≡ Some block = sym c.in-Some.ensures.value in
    starts-written inside (c.get_mut.follows.lender w).entries c.self.inside.starts name block w c.self.invariant (ap (λ (b : BlockView). b.span.first) c.write.ensures) found
    (c.get_mut.follows.holds w).0
