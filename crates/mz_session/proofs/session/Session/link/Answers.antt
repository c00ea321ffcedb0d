use Rattle.std.proofs.Common.{◌≡◌, ◌∙◌, ◌+◌, ◌≤◌, ◌<◌, ap, sym, subst, Some, None, length}
use Rattle.std.specs.Prelude.{nat_lt, nat_le}
use Rattle.std.specs.Option.{option_map}
use Rattle.std.proofs.lemmas.Bool.{leb-true, leb-false}
use Rattle.mz_lines.specs.declared.answer.Answer.TheVariants as answers
use Rattle.mz_lines.specs.declared.command.Command.TheVariants.{Link}
use Rattle.mz_record.specs.Bytes.{low_bytes}
use Rattle.mz_lawful.specs.Standing.{caller_at}
use Rattle.mz_lawful.specs.Tasks.{with_held, refuse_if, linking}
use Rattle.mz_zone.specs.Blocks.{BlockView, with_block_bytes}
use Rattle.mz_session.specs.Names.{block_with}
use Rattle.mz_session.specs.Changes.{AreWith, written}
use Rattle.mz_session.specs.Sessions.{SessionView}
use Rattle.mz_session.specs.Serving.{setting_of, Serves}
use Rattle.mz_session.proofs.ShownLemmas.{low-bytes}
use Rattle.mz_session.proofs.RecordLemmas.{serves-refused, with-none}
use Rattle.mz_session.proofs.WrittenLemmas.{with_blocks}
use Rattle.mz_session.proofs.BytesLemmas.{serves-no-target, serves-no-room, serves-link}
use Rattle.mz_session.proofs.session.Session.link.Goals as goal

pub returns-in_default : goal.returns-in_default
returns-in_default c =
    let s : SessionView = c.args.self.now in
    let name = c.args.name in
    let none : block_with s.blocks name ≡ None = ap (λ x. block_with x.blocks name) (sym c.self.view_is) ∙ (ap (block_with c.self.inside.blocks) (sym c.get-name.ensures) ∙ sym c.in_default.ensures) in
    serves-refused s (Link name c.args.off c.args.target) answers.NotHeld c.requires
    (λ v stands. with-none s (setting_of s s v) stands name (λ h. with_held (caller_at v 0) c.args.target (λ t. refuse_if (nat_lt h.block.size (c.args.off + 8)) answers.OutOfRange (linking h.block c.args.off t.block.first))) none)

pub returns-in_default-get : goal.returns-in_default-get
returns-in_default-get c =
    let s : SessionView = c.args.self.now in
    let name = c.args.name in
    let b : BlockView = c.in-Some.block.now in
    let held : block_with s.blocks name ≡ Some b = ap (λ x. block_with x.blocks name) (sym c.self.view_is) ∙ (ap (block_with c.self.inside.blocks) (sym c.get-name.ensures) ∙ sym c.in-Some.ensures) in
    let none : block_with s.blocks c.args.target ≡ None =
    ap (λ x. block_with x.blocks c.args.target) (sym c.self.view_is) ∙ (ap (block_with c.self.inside.blocks) (sym c.get-2.ensures) ∙ sym c.in_default-get.ensures) in
    serves-no-target s c.requires name b held c.args.off c.args.target none

pub returns-then-not-has_room : goal.returns-then-not-has_room
returns-then-not-has_room c =
    let s : SessionView = c.args.self.now in
    let name = c.args.name in
    let b : BlockView = c.in-Some.block.now in
    let held : block_with s.blocks name ≡ Some b = ap (λ x. block_with x.blocks name) (sym c.self.view_is) ∙ (ap (block_with c.self.inside.blocks) (sym c.get-name.ensures) ∙ sym c.in-Some.ensures) in
    let d : BlockView = c.in-Some-get.target.now in
    let there : block_with s.blocks c.args.target ≡ Some d =
    ap (λ x. block_with x.blocks c.args.target) (sym c.self.view_is) ∙ (ap (block_with c.self.inside.blocks) (sym c.get-2.ensures) ∙ sym c.in-Some-get.ensures) in
    let beyond : length b.span.bytes < c.args.off + 8 = leb-false (c.args.off + 8) (length b.span.bytes) (ap (λ n. nat_le (c.args.off + 8) n) (sym c.size.ensures) ∙ sym c.if-not-has_room.ensures) in
    serves-no-room s c.requires name b held c.args.target d there c.args.off beyond

pub returns : goal.returns
returns c =
    let s : SessionView = c.args.self.now in
    let name = c.args.name in
    let b : BlockView = c.in-Some.block.now in
    let held : block_with s.blocks name ≡ Some b = ap (λ x. block_with x.blocks name) (sym c.self.view_is) ∙ (ap (block_with c.self.inside.blocks) (sym c.get-name.ensures) ∙ sym c.in-Some.ensures) in
    let d : BlockView = c.in-Some-get.target.now in
    let there : block_with s.blocks c.args.target ≡ Some d =
    ap (λ x. block_with x.blocks c.args.target) (sym c.self.view_is) ∙ (ap (block_with c.self.inside.blocks) (sym c.get-2.ensures) ∙ sym c.in-Some-get.ensures) in
    let within : c.args.off + 8 ≤ length b.span.bytes = leb-true (c.args.off + 8) (length b.span.bytes) (ap (λ n. nat_le (c.args.off + 8) n) (sym c.size.ensures) ∙ sym c.if-not-has_room.ensures) in
    let bs = c.write.new.self in
    let bytes = c.to_le_bytes-address.result in
    let address : bytes ≡ low_bytes 8 d.span.first = c.to_le_bytes-address.ensures ∙ low-bytes 8 c.first.result ∙ ap (low_bytes 8) c.first.ensures in
    let with_it : AreWith s.blocks name (Some (with_block_bytes b (written c.args.off (low_bytes 8 d.span.first) b.span.bytes))) bs =
    subst (λ ws. AreWith s.blocks name (Some (with_block_bytes b (written c.args.off ws b.span.bytes))) bs) address
    (subst (λ o. AreWith s.blocks name (option_map (λ x. with_block_bytes x (written c.args.off bytes x.span.bytes)) o) bs) held
    (subst (λ n. AreWith s.blocks n (option_map (λ y. with_block_bytes y (written c.args.off bytes y.span.bytes)) (block_with s.blocks n)) bs) c.get-name.ensures
    (subst (λ x. AreWith x.blocks c.get-name.result (option_map (λ y. with_block_bytes y (written c.args.off bytes y.span.bytes)) (block_with x.blocks c.get-name.result)) bs) c.self.view_is c.write.ensures))) in
    let served = serves-link s c.requires name b held c.args.target d there bs c.args.off within with_it in
    subst (λ x. Serves s (Link name c.args.off c.args.target) answers.Done (with_blocks x bs)) (sym c.self.view_is) served
