use Rattle.std.proofs.Common.{refl}
use Rattle.mz_events.specs.declared.place.Place.TheVariants.{Pages, Large}
use Rattle.mz_rack.proofs.Steps.{itself, let_down, can_release, still_stands}
use Rattle.mz_rack.proofs.LargeSteps.{there_l, has_l, drop_l, has_p, drop_p}
use Rattle.mz_rack.proofs.large.let_both_go.Goals as goal

pub release-requires : goal.release-requires
release-requires g c =
    let L = c.of_books.ensures in
    let s = g.B.Book.account c.args.book.now in
    let w = c.args.w.now in
    let way = c.requires.way in
    let a = itself s _ c.requires.both.held in
    record {
      can = can_release L s _ s a Pages w.p way.pages_is refl refl (has_p L s.profile w way) c.requires.both.calm_p;
      stands = still_stands L s _ s a Pages w.p way.pages_is refl refl c.args.pages c.requires.stands_p;
    }

pub release-requires-2 : goal.release-requires-2
release-requires-2 g c =
    let L = c.of_books.ensures in
    let s = g.B.Book.account c.args.book.now in
    let t = g.B.Book.account c.release.new.self in
    let w = c.args.w.now in
    let way = c.requires.way in
    let b = let_down s _ s w.p t _ (itself s _ c.requires.both.held) c.release.ensures (drop_p L s.profile w way) in
    record {
      can = can_release L s _ t b (Large w.zone) w.l way.l refl (there_l L s.profile w way) (has_l L s.profile w way) c.requires.both.calm_l;
      stands = still_stands L s _ t b (Large w.zone) w.l way.l refl (there_l L s.profile w way) c.args.large c.requires.stands_l;
    }

pub returns : goal.returns
returns g c =
    let L = c.of_books.ensures in
    let s = g.B.Book.account c.args.book.now in
    let t = g.B.Book.account c.release.new.self in
    let w = c.args.w.now in
    let way = c.requires.way in
    let b = let_down s _ s w.p t _ (itself s _ c.requires.both.held) c.release.ensures (drop_p L s.profile w way) in
    record { after = let_down s _ t w.l _ _ b c.release-2.ensures (drop_l L s.profile w way) }
