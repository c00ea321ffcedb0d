-- What a block shows after its first bytes were cleared.
use Rattle.std.proofs.Common.{◌≡◌, ℕ, zero, suc, ◌≤◌, true, List, ◌++◌, None, Some, length, take, drop, ap, sym, subst, ◌∙◌, arith, length-append, length-drop}
use Rattle.std.specs.Prelude.{replicate, Ok}
use Rattle.std.proofs.lemmas.List.{length-replicate, drop-replicate}
use Rattle.std.proofs.Math.Seq.{take-append_seam}
use Rattle.mz_base.specs.Space.{block_at}
use Rattle.mz_record.specs.Bytes.{Bytes, fresh, cleared, is_shown_as}
use Rattle.mz_record.specs.Served.{Serves}
use Rattle.mz_rack.specs.Ways.{request_of}
use Rattle.mz_zone.specs.Blocks.{BlockView, at_its_place, with_block_bytes}
use Rattle.mz_zone.specs.Calling.{AtView}
use Rattle.mz_zone.specs.Answering.{Answers, IsCleared}
use Rattle.mz_zone.specs.ZoneLaws.{ZoneLaws}

-- n bytes 0, and bytes of which nothing is known
shown_front : (n : ℕ) (known : Bytes) (xs : List ℕ) → is_shown_as known xs ≡ true → is_shown_as (replicate n (Some 0) ++ known) (replicate n 0 ++ xs) ≡ true
shown_front zero known xs h = h
shown_front (suc n) known xs h = shown_front n known xs h

pub front_length : (n : ℕ) (bs : List ℕ) → n ≤ length bs → length (replicate n 0 ++ drop n bs) ≡ length bs
front_length n bs h = simp (length-append, length-replicate, length-drop) (omega arith)

shown_cleared : (laws : ZoneLaws) (n : ℕ) (bs : List ℕ) → n ≤ length bs → is_shown_as (cleared n (fresh (length bs))) (replicate n 0 ++ drop n bs) ≡ true
shown_cleared laws n bs h =
    let rest : drop n (fresh (length bs)) ≡ fresh (length (drop n bs)) = drop-replicate n (length bs) None ∙ ap fresh (sym (length-drop n bs)) in
    subst (λ known. is_shown_as (replicate n (Some 0) ++ known) (replicate n 0 ++ drop n bs) ≡ true) (sym rest)
    (shown_front n (fresh (length (drop n bs))) (drop n bs) (laws.unknown (drop n bs)))

-- a block with as many bytes is an answer as good
pub other_bytes :
    (v w : AtView) (z n al : ℕ) (b : BlockView) (bytes : List ℕ) → length bytes ≡ length b.span.bytes → Answers v z n al (Ok b) w
    → Answers v z n al (Ok (at_its_place b bytes)) w
other_bytes v w z n al b bytes same a = record {
  mine = a.mine;
  few = a.few;
  goes = a.goes;
  serves = subst (λ k. Serves v.book.profile w.book.seen (request_of v.book.caller z n al) a.mine (Some (block_at b.span.first k))) (sym same) a.serves;
  answer = a.answer;
  slot = a.slot;
  hand = a.hand;
  tries = a.tries;
}

pub whole_front : (b : BlockView) (bytes : List ℕ) → length bytes ≡ length b.span.bytes → with_block_bytes b bytes ≡ at_its_place b bytes
whole_front b bytes same = ap (at_its_place b) (front bytes b.span.bytes same)
  where
    front : (xs ys : List ℕ) → length xs ≡ length ys → take (length ys) (xs ++ drop (length xs) ys) ≡ xs
    front xs ys e = subst (λ k. take k (xs ++ drop (length xs) ys) ≡ xs) e (take-append_seam xs (drop (length xs) ys))

-- the block that was cleared
pub cleared_answer :
    (laws : ZoneLaws) (v w : AtView) (z n : ℕ) (b d : BlockView) → n ≤ length b.span.bytes
    → d ≡ with_block_bytes b (replicate n 0 ++ drop n b.span.bytes) → Answers v z n 16 (Ok b) w → Answers v z n 16 (Ok d) w × IsCleared n d
cleared_answer laws v w z n b d fits is a =
    let bytes : List ℕ = replicate n 0 ++ drop n b.span.bytes in
    let same : length bytes ≡ length b.span.bytes = front_length n b.span.bytes fits in
    let place : d ≡ at_its_place b bytes = is ∙ whole_front b bytes same in (
      subst (λ x. Answers v z n 16 (Ok x) w) (sym place) (other_bytes v w z n 16 b bytes same a),
      subst (λ x. IsCleared n x) (sym place) (subst (λ k. is_shown_as (cleared n (fresh k)) bytes ≡ true) (sym same) (shown_cleared laws n b.span.bytes fits)),
    )
