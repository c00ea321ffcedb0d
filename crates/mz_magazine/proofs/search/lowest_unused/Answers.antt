use Rattle.std.proofs.Common.{◌≡◌, ℕ, false, length, Option, Some, sym, ap, ◌∙◌, arith}
use Rattle.std.specs.Prelude.{◌==◌}
use Rattle.std.specs.Option.{option_map}
use Rattle.std.specs.List.{AllWithin}
use Rattle.std.proofs.lemmas.List.Elements.{AllWithin-more, at_read}
use Rattle.mz_region.specs.Views.{RegionView}
use Rattle.std.proofs.lemmas.Bool.{ne_eqb, eq-eqb}
use Rattle.mz_magazine.proofs.Searches.{find_at, find_none}
use Rattle.mz_magazine.proofs.search.lowest_unused.Goals as goal

pub loop-member-preserved : goal.loop-member-preserved
loop-member-preserved g c =
    let P : RegionView → Type 0 = λ r. (length r.live == 0) ≡ false in
    let more = c.loop-member-test.true in
    AllWithin-more P c.args.members.now 0 c.loop-member.member-index c.loop-member.invariant (at_read c.args.members.now P c.loop-member.member-index c.member-item.result (omega arith) c.member-item.is (ap (λ n. n == 0) (sym c.count.ensures.value) ∙ ne_eqb c.count.result 0 c.if-count-eq0.false))

pub returns : goal.returns
returns g c =
    let all = c.loop-member-test.false in
    let first : Option RegionView → Option ℕ = option_map (λ r. r.first) in
    let none : AllWithin (λ (r : RegionView). (length r.live == 0) ≡ false) c.args.members.now 0 (length c.args.members.now) = λ k d low high. c.loop-member.invariant k d low (omega arith) in
    sym (ap first (find_none (λ (r : RegionView). (length r.live == 0)) c.args.members.now none))

pub returns-then-count-eq0 : goal.returns-then-count-eq0
returns-then-count-eq0 g c =
    let more = c.loop-member-test.true in
    let first : Option RegionView → Option ℕ = option_map (λ r. r.first) in
    ap Some c.first.ensures.value
    ∙ sym (ap first (find_at (λ (r : RegionView). (length r.live == 0)) c.args.members.now c.loop-member.member-index c.member-item.result (omega arith) c.member-item.is c.loop-member.invariant (ap (λ n. n == 0) (sym c.count.ensures.value) ∙ eq-eqb c.count.result 0 c.if-count-eq0.true)))
