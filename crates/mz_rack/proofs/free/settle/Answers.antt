use Rattle.std.proofs.Common.{ap, sym, ◌∙◌, Some}
use Rattle.std.specs.Option.{option_map}
use Rattle.mz_events.specs.declared.event.Event.TheVariants.{Back}
use Rattle.mz_events.specs.Places.{depot_of}
use Rattle.mz_events.specs.Duties.{empty_depot_region}
use Rattle.mz_book.specs.Account.{known}
use Rattle.mz_rack.specs.Stages.{at_depot}
use Rattle.mz_rack.proofs.GivingBack.{length_of_depot, settles_nothing}
use Rattle.mz_rack.proofs.free.settle.Goals as goal

pub give_back-requires-clause-first : goal.give_back-requires-clause-first
give_back-requires-clause-first g c =
    let L = c.of_books.ensures in
    let s = g.B.Book.account c.args.book.now in
    let w = c.args.w.now in
    let o = c.requires.owes in
    let d = depot_of w.magazine in
    let kept = (known s (at_depot w)).kept in
    let owed = c.unused.ensures s.site s.profile d kept w.pages c.requires.stands (L.depot s.profile w.magazine o.way.magazine).is_depot_of (length_of_depot w.magazine w.pages o.way.magazine o.way.region) in
    o.owes ∙ (ap (λ q. empty_depot_region q kept) o.way.depot ∙ (owed ∙ (ap (λ r. option_map (λ f. Back d f w.pages) r) c.in-Some.is ∙ ap (λ q. Some (Back q c.in-Some.first w.pages)) (sym o.way.depot))))

pub returns-in-None : goal.returns-in-None
returns-in-None g c =
    let L = c.of_books.ensures in
    let s = g.B.Book.account c.args.book.now in
    let w = c.args.w.now in
    let o = c.requires.owes in
    let d = depot_of w.magazine in
    let kept = (known s (at_depot w)).kept in
    let owed = c.unused.ensures s.site s.profile d kept w.pages c.requires.stands (L.depot s.profile w.magazine o.way.magazine).is_depot_of (length_of_depot w.magazine w.pages o.way.magazine o.way.region) in
    let calm = o.owes ∙ (ap (λ q. empty_depot_region q kept) o.way.depot ∙ (owed ∙ ap (λ r. option_map (λ f. Back d f w.pages) r) c.in-None.is)) in
    settles_nothing L s (g.B.Book.account c.release.new.self) w calm c.release.ensures.after
