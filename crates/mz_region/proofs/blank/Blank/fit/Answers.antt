use Rattle.std.proofs.Common.{◌≡◌, ◌*◌, ◌%◌, length, false, refl, sym, ap, ◌∙◌, lit<, arith}
use Rattle.std.proofs.lemmas.List.{length-replicate}
use Rattle.mz_base.specs.Site.{Site}
use Rattle.mz_region.specs.Quanta.{blocks_of}
use Rattle.mz_region.proofs.Kept.{region_is, filled}
use Rattle.mz_region.proofs.Clear.{no_blocks, held_clear, clear_flags}
use Rattle.mz_region.proofs.blank.Blank.fit.Goals as goal

pub of-requires : goal.of-requires
of-requires g c =
    let i = c.self.inside in
    let blank = c.self.invariant in
    let long : length i.lent.items ≡ g.row.N = ap length blank.none_lent ∙ length-replicate g.row.N false in
    (lit< tt, (filled g.row.Q blank.power, (c.requires.whole ∙ ap (λ n. g.row.Q * n) (sym long), clear_flags g.row.N i.lent.items (length i.lent.items) blank.none_lent refl)))

pub invariant_of-result : goal.invariant_of-result
invariant_of-result g c =
    let i = c.self.inside in
    let blank = c.self.invariant in
    let first = c.first-first.ensures.value in
    let long : length i.lent.items ≡ g.row.N = ap length blank.none_lent ∙ length-replicate g.row.N false in
    let whole = c.requires.whole in
    let inside = c.first-first.ensures.inside in
    let small = c.first-first.ensures.small in
    let size : c.of.result.space.size ≡ c.args.span.space.size = ap (λ (s : Site). s.size) c.of.ensures.space in
    let held = held_clear g.row.Q g.row.N c.first-first.result i.begins i.in_use c.of.result blank.power (ap (λ n. n % (g.row.Q * g.row.N)) first ∙ c.requires.at) (omega arith) (omega arith)
    blank.none_begins blank.none_used (c.of.ensures.first ∙ sym first) (c.of.ensures.lent ∙ blank.none_lent ∙ sym blank.none_used) in
    held

pub returns-clause-live : goal.returns-clause-live
returns-clause-live g c =
    let i = c.self.inside in
    let blank = c.self.invariant in
    ap (λ l. blocks_of g.row.Q c.first-first.result l i.in_use) blank.none_begins ∙ no_blocks g.row.Q c.first-first.result g.row.N i.in_use

pub returns-clause-is : goal.returns-clause-is
returns-clause-is g c =
    let i = c.self.inside in
    let blank = c.self.invariant in
    let first = c.first-first.ensures.value in
    let long : length i.lent.items ≡ g.row.N = ap length blank.none_lent ∙ length-replicate g.row.N false in
    let whole = c.requires.whole in
    let inside = c.first-first.ensures.inside in
    let small = c.first-first.ensures.small in
    let size : c.of.result.space.size ≡ c.args.span.space.size = ap (λ (s : Site). s.size) c.of.ensures.space in
    let held = held_clear g.row.Q g.row.N c.first-first.result i.begins i.in_use c.of.result blank.power (ap (λ n. n % (g.row.Q * g.row.N)) first ∙ c.requires.at) (omega arith) (omega arith)
    blank.none_begins blank.none_used (c.of.ensures.first ∙ sym first) (c.of.ensures.lent ∙ blank.none_lent ∙ sym blank.none_used) in
    region_is g.row.Q g.row.N c.first-first.result i.begins i.in_use c.of.result 0 0 held
