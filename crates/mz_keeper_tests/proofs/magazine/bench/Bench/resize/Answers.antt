use Rattle.std.proofs.Common.{◌≡◌, length, sym, ap, ◌∙◌, subst, lit<}
use Rattle.mz_base.specs.Lists.{size_at}
use Rattle.mz_events.specs.Standing.{IsOf}
use Rattle.mz_keeper_tests.proofs.Blocks.{block_of_size, some_bytes}
use Rattle.mz_keeper_tests.proofs.magazine.bench.Bench.resize.Goals as goal

pub resize-requires : goal.resize-requires
resize-requires g c =
    let i = c.self.inside in
    let s = c.in-Some.span in
    let size : size_at i.magazine.kept.live s.first ≡ length s.bytes =
    ap (size_at i.magazine.kept.live) (sym c.first.ensures.value) ∙ sym c.size_at.ensures ∙ c.if-size_at-len.false ∙ c.len.ensures.value in
    (lit< tt, (block_of_size i.magazine.kept.live s.first (length s.bytes) size (some_bytes (length s.bytes) (sym c.is_empty.ensures ∙ c.if-is_empty.false)), (subst (λ x. IsOf i.magazine.space x) (sym c.in-Some.ensures.taken) c.self.invariant.0, c.requires)))
