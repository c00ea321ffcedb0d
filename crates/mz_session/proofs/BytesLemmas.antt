-- Commands that say the size of a block, that show bytes of one, and that write an address into one.
use Rattle.std.proofs.Common.{◌≡◌, ℕ, ◌+◌, ◌≤◌, ◌<◌, true, List, [], Some, None, length, refl, ap, sym, subst, ◌∙◌, arith, Option}
use Rattle.std.specs.Prelude.{take, drop, nat_lt}
use Rattle.std.specs.Option.{option_map}
use Rattle.std.proofs.lemmas.Bool.{cond-true, cond-false, lt-ltb, le-ltb}
use Rattle.std.proofs.lemmas.List.{length-take-le, length-drop}
use Rattle.mz_words.specs.declared.name.Name.{Name}
use Rattle.mz_lines.specs.declared.answer.Answer.{Answer}
use Rattle.mz_lines.specs.declared.answer.Answer.TheVariants as answers
use Rattle.mz_lines.specs.declared.command.Command.{Command}
use Rattle.mz_lines.specs.declared.command.Command.TheVariants.{Size, Show, Link}
use Rattle.mz_record.specs.Bytes.{low_bytes, linked, is_shown_as}
use Rattle.mz_lawful.specs.Records.{call}
use Rattle.mz_lawful.specs.Standing.{Holding, Standing, caller_at, bytes_of}
use Rattle.mz_lawful.specs.Tasks.{refused, telling, showing, linking, with_held, refuse_if, task_of}
use Rattle.mz_zone.specs.Blocks.{BlockView, block_of, with_block_bytes}
use Rattle.mz_session.specs.Names.{NamedBlocks, block_with, holding_of}
use Rattle.mz_session.specs.Changes.{AreWith, written}
use Rattle.mz_session.specs.Sessions.{SessionView, IsKept, StandsFor}
use Rattle.mz_session.specs.Serving.{Serves, setting_of, record_of}
use Rattle.mz_session.proofs.ShownLemmas.{shown-take, shown-drop, shown-linked, length-written, length-low}
use Rattle.mz_session.proofs.RecordLemmas.{fits-by, serves-quietly, serves-refused, with-none, with-some}
use Rattle.mz_session.proofs.WrittenLemmas.{with_blocks, serves-written}

-- a command by which something is told
serves-told :
    (s : SessionView) (command : Command) (answer : Answer) → IsKept s → ((v : Standing) → StandsFor s v → task_of (setting_of s s v) (call 0 command) ≡ telling answer)
    → Serves s command answer s
serves-told s command answer kept task =
    serves-quietly s s command answer kept refl (λ w is. is)
    (λ v stands. fits-by (setting_of s s v) (record_of command [] answer) s (telling answer) (task v stands) refl refl refl refl stands)

-- the size of a name's block, and 0 where it has none
pub serves-no-size : (s : SessionView) → IsKept s → (name : Name) → block_with s.blocks name ≡ None → Serves s (Size name) (answers.Size 0) s
serves-no-size s kept name none =
    serves-told s (Size name) (answers.Size 0) kept
    (λ v stands. ap (λ (o : Option Holding). telling (answers.Size (elim o [ None ↦ 0 | Some h ↦ h.block.size ]))) (stands.held name ∙ ap (option_map (holding_of name)) none))

pub serves-size : (s : SessionView) → IsKept s → (name : Name) (b : BlockView) → block_with s.blocks name ≡ Some b → Serves s (Size name) (answers.Size (length b.span.bytes)) s
serves-size s kept name b some =
    serves-told s (Size name) (answers.Size (length b.span.bytes)) kept
    (λ v stands. ap (λ (o : Option Holding). telling (answers.Size (elim o [ None ↦ 0 | Some h ↦ h.block.size ]))) (stands.held name ∙ ap (option_map (holding_of name)) some))

module _ (s : SessionView) (kept : IsKept s) (name : Name) (b : BlockView) (block : block_with s.blocks name ≡ Some b) where
  -- bytes that aren't all there aren't shown
  pub serves-no-bytes : (off count : ℕ) → length b.span.bytes < off + count → Serves s (Show name off count) answers.OutOfRange s
  serves-no-bytes off count beyond =
      serves-refused s (Show name off count) answers.OutOfRange kept
      (λ v stands.
      with-some s (setting_of s s v) stands name (λ h. refuse_if (nat_lt h.block.size (off + count)) answers.OutOfRange (showing h.block off count)) b block
      ∙ cond-true (nat_lt (length b.span.bytes) (off + count)) (refused answers.OutOfRange) (showing (block_of b) off count) (lt-ltb (length b.span.bytes) (off + count) beyond))

  -- and the others are shown as they are
  pub serves-bytes :
      (off count : ℕ) (shown : List ℕ) → off + count ≤ length b.span.bytes → shown ≡ take count (drop off b.span.bytes)
      → Serves s (Show name off count) (answers.Bytes shown) s
  serves-bytes off count shown within is =
      let bytes = b.span.bytes in
      let many : length shown ≡ count =
      let rest = length-drop off bytes in
      ap length is ∙ length-take-le count (drop off bytes) (omega (arith, rest, within))
      in
      serves-quietly s s (Show name off count) (answers.Bytes shown) kept refl (λ w given. given)
      (λ v stands.
      let known = bytes_of (caller_at v 0) (block_of b) in
      fits-by (setting_of s s v) (record_of (Show name off count) [] (answers.Bytes shown)) s (showing (block_of b) off count)
      (with-some s (setting_of s s v) stands name (λ h. refuse_if (nat_lt h.block.size (off + count)) answers.OutOfRange (showing h.block off count)) b block
      ∙ cond-false (nat_lt (length bytes) (off + count)) (refused answers.OutOfRange) (showing (block_of b) off count) (le-ltb (length bytes) (off + count) within))
      (record { shown = shown; many = many; bytes = refl }) refl
      (subst (λ n. is_shown_as (take n (drop off known)) shown ≡ true) (sym many)
      (subst (λ xs. is_shown_as (take count (drop off known)) xs ≡ true) (sym is)
      (shown-take count (drop off known) (drop off bytes) (shown-drop off known bytes (stands.known name b block)))))
      refl stands)

  -- an address isn't written where the target isn't held
  pub serves-no-target : (off : ℕ) (target : Name) → block_with s.blocks target ≡ None → Serves s (Link name off target) answers.NotHeld s
  serves-no-target off target none =
      serves-refused s (Link name off target) answers.NotHeld kept
      (λ v stands.
      let set = setting_of s s v in
      with-some s set stands name (λ h. with_held (caller_at v 0) target (λ t. refuse_if (nat_lt h.block.size (off + 8)) answers.OutOfRange (linking h.block off t.block.first))) b block
      ∙ with-none s set stands target (λ t. refuse_if (nat_lt (length b.span.bytes) (off + 8)) answers.OutOfRange (linking (block_of b) off t.block.first)) none)

  module _ (target : Name) (d : BlockView) (there : block_with s.blocks target ≡ Some d) where
    linking-task : (bs : NamedBlocks) (v : Standing) → StandsFor s v → (off : ℕ) →
        task_of (setting_of s (with_blocks s bs) v) (call 0 (Link name off target)) ≡ refuse_if (nat_lt (length b.span.bytes) (off + 8)) answers.OutOfRange (linking (block_of b) off d.span.first)
    linking-task bs v stands off =
        let set = setting_of s (with_blocks s bs) v in
        with-some s set stands name (λ h. with_held (caller_at v 0) target (λ t. refuse_if (nat_lt h.block.size (off + 8)) answers.OutOfRange (linking h.block off t.block.first))) b block
        ∙ with-some s set stands target (λ t. refuse_if (nat_lt (length b.span.bytes) (off + 8)) answers.OutOfRange (linking (block_of b) off t.block.first)) d there

    -- nor where there is no room for it
    pub serves-no-room : (off : ℕ) → length b.span.bytes < off + 8 → Serves s (Link name off target) answers.OutOfRange s
    serves-no-room off beyond =
        serves-refused s (Link name off target) answers.OutOfRange kept
        (λ v stands.
        linking-task s.blocks v stands off
        ∙ cond-true (nat_lt (length b.span.bytes) (off + 8)) (refused answers.OutOfRange) (linking (block_of b) off d.span.first) (lt-ltb (length b.span.bytes) (off + 8) beyond))

    pub serves-link :
        (bs : NamedBlocks) (off : ℕ) → off + 8 ≤ length b.span.bytes
        → AreWith s.blocks name (Some (with_block_bytes b (written off (low_bytes 8 d.span.first) b.span.bytes))) bs
        → Serves s (Link name off target) answers.Done (with_blocks s bs)
    serves-link bs off within with_it =
        let bytes = b.span.bytes in
        let a = d.span.first in
        serves-written s bs name b (written off (low_bytes 8 a) bytes) kept block
        (length-written off (low_bytes 8 a) bytes (let n = length-low 8 a in omega (arith, n, within))) with_it
        (Link name off target) (λ v. linking (block_of b) off a) (λ v. linked off a (bytes_of (caller_at v 0) (block_of b)))
        (λ v stands.
        linking-task bs v stands off
        ∙ cond-false (nat_lt (length bytes) (off + 8)) (refused answers.OutOfRange) (linking (block_of b) off a) (le-ltb (length bytes) (off + 8) within))
        (λ v. (refl, (refl, (refl, λ x. refl))))
        (λ v stands. shown-linked off a (bytes_of (caller_at v 0) (block_of b)) bytes (stands.known name b block))
