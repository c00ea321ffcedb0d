use Rattle.std.proofs.Common.{◌≡◌, ℕ, ◌*◌, false, length, Option, Some, sym, ap, ◌∙◌, arith}
use Rattle.std.specs.Option.{option_map}
use Rattle.std.specs.List.{AllWithin}
use Rattle.std.proofs.lemmas.List.Elements.{AllWithin-more, at_read}
use Rattle.mz_region.specs.Views.{RegionView}
use Rattle.mz_magazine.specs.Members.{region_has_room}
use Rattle.mz_magazine.proofs.Searches.{find_at, find_none}
use Rattle.mz_magazine.proofs.search.lowest_with_room.Goals as goal

pub loop-member-preserved : goal.loop-member-preserved
loop-member-preserved g c =
    let P : RegionView → Type 0 = λ r. region_has_room (g.row.Q * g.row.N) (g.row.Q * c.args.n) c.args.al r ≡ false in
    let more = c.loop-member-test.true in
    AllWithin-more P c.args.members.now 0 c.loop-member.member-index c.loop-member.invariant (at_read c.args.members.now P c.loop-member.member-index c.member-item.result (omega arith) c.member-item.is (sym c.has_room.ensures ∙ c.if-has_room.false))

pub returns : goal.returns
returns g c =
    let all = c.loop-member-test.false in
    let first : Option RegionView → Option ℕ = option_map (λ r. r.first) in
    let none : AllWithin (λ (r : RegionView). region_has_room (g.row.Q * g.row.N) (g.row.Q * c.args.n) c.args.al r ≡ false) c.args.members.now 0 (length c.args.members.now) = λ k d low high. c.loop-member.invariant k d low (omega arith) in
    sym (ap first (find_none (λ (r : RegionView). region_has_room (g.row.Q * g.row.N) (g.row.Q * c.args.n) c.args.al r) c.args.members.now none))

pub returns-then-has_room : goal.returns-then-has_room
returns-then-has_room g c =
    let more = c.loop-member-test.true in
    let first : Option RegionView → Option ℕ = option_map (λ r. r.first) in
    ap Some c.first.ensures.value
    ∙ sym (ap first (find_at (λ (r : RegionView). region_has_room (g.row.Q * g.row.N) (g.row.Q * c.args.n) c.args.al r) c.args.members.now c.loop-member.member-index c.member-item.result (omega arith) c.member-item.is c.loop-member.invariant (sym c.has_room.ensures ∙ c.if-has_room.true)))
