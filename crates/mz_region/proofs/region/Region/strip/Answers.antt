use Rattle.std.proofs.Common.{◌≡◌, length, false, replicate, refl, sym, ap, ◌∙◌, arith}
use Rattle.std.proofs.lemmas.List.{nil_from_length}
use Rattle.mz_region.specs.Quanta.{blocks_of}
use Rattle.mz_region.proofs.Clear.{all_clear, none_set}
use Rattle.mz_region.proofs.region.Region.strip.Goals as goal

pub invariant_of-result : goal.invariant_of-result
invariant_of-result g c =
    let i = c.self.inside in
    let held = c.self.invariant in
    let none : i.count ≡ 0 = let zero_ = c.if-self-gt0.false in omega arith in
    let blocks = nil_from_length (blocks_of g.row.Q i.first i.begins i.in_use) (sym held.counted ∙ none) in
    let clear = all_clear g.row.Q i.first false i.begins i.in_use held.bits refl blocks in
    let long = ap (λ n. replicate n false) held.quanta in
    record { power = held.power; none_begins = clear.0 ∙ long; none_used = clear.1 ∙ long; none_lent = c.in-Ok.ensures.5 ∙ held.lent ∙ clear.1 ∙ long }

pub unreachable-requires : goal.unreachable-requires
unreachable-requires g c =
    let i = c.self.inside in
    let held = c.self.invariant in
    let none : i.count ≡ 0 = let zero_ = c.if-self-gt0.false in omega arith in
    let blocks = nil_from_length (blocks_of g.row.Q i.first i.begins i.in_use) (sym held.counted ∙ none) in
    let clear = all_clear g.row.Q i.first false i.begins i.in_use held.bits refl blocks in
    none_set (length i.in_use) i.ground.lent (held.lent ∙ clear.1) c.in-Err.ensures.0
