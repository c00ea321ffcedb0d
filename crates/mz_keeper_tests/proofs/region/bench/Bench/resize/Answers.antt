use Rattle.std.proofs.Common.{◌≡◌, length, sym, ap, ◌∙◌, lit<}
use Rattle.mz_base.specs.Lists.{size_at}
use Rattle.mz_region.specs.Views.{RegionView}
use Rattle.mz_keeper_tests.proofs.Blocks.{block_of_size, some_bytes, both_cases}
use Rattle.mz_keeper_tests.proofs.region.bench.Bench.resize.Goals as goal

pub resize-requires : goal.resize-requires
resize-requires g c =
    let live = c.self.inside.region.live in
    let s = c.in-Some.span in
    let size : size_at live s.first ≡ length s.bytes =
    ap (size_at live) (sym c.first.ensures.value) ∙ sym c.size_at.ensures ∙ c.if-size_at-len.false ∙ c.len.ensures.value in
    (lit< tt, (block_of_size live s.first (length s.bytes) size (some_bytes (length s.bytes) (sym c.is_empty.ensures ∙ c.if-is_empty.false)), (c.in-Some.ensures.taken ∙ sym c.self.invariant, c.requires)))

pub invariant_of-self-2 : goal.invariant_of-self-2
invariant_of-self-2 g c =
    let same = both_cases c.resize.result _ _ (c.resize.new.self.space ≡ c.self.inside.region.space) c.resize.ensures.resized (λ y. ap (λ (r : RegionView). r.space) y.1) (λ n. ap (λ (r : RegionView). r.space) n.1) in
    same ∙ c.self.invariant ∙ sym c.take.ensures.space
