use Rattle.std.proofs.Common.{refl}
use Rattle.mz_events.specs.declared.place.Place.TheVariants.{Pages, Large}
use Rattle.mz_events.specs.Places.{depot_of}
use Rattle.mz_rack.proofs.Steps.{plain_k, plain_d, there_d, zone_below, drop_k, has_k, drop_d, has_d, drop_l, has_l, drop_p, has_p, let_down, itself, can_release, still_stands}
use Rattle.mz_rack.proofs.serve.let_go.Goals as goal

pub release-requires-clause-can : goal.release-requires-clause-can
release-requires-clause-can g c =
    let L = c.of_books.ensures in
    let s = g.B.Book.account c.args.book.now in
    let w = c.args.w.now in
    let p = s.profile in
    let way = c.requires.way in
    let all = c.requires.all in
    let a = itself s _ all.held in
    can_release L s _ s a Pages w.p way.pages_is refl refl (has_p L p w way) all.calm_p

pub release-requires-clause-stands : goal.release-requires-clause-stands
release-requires-clause-stands g c =
    let L = c.of_books.ensures in
    let s = g.B.Book.account c.args.book.now in
    let w = c.args.w.now in
    let p = s.profile in
    let way = c.requires.way in
    let all = c.requires.all in
    let a = itself s _ all.held in
    still_stands L s _ s a Pages w.p way.pages_is refl refl c.args.pages c.requires.stands_p

pub release-requires-2-clause-can : goal.release-requires-2-clause-can
release-requires-2-clause-can g c =
    let L = c.of_books.ensures in
    let s = g.B.Book.account c.args.book.now in
    let w = c.args.w.now in
    let p = s.profile in
    let way = c.requires.way in
    let all = c.requires.all in
    let a = itself s _ all.held in
    let e = let_down s _ s w.p _ _ a c.release.ensures (drop_p L p w way) in
    can_release L s _ _ e (Large w.zone) w.l way.l refl (zone_below L p w way) (has_l L p w way) all.calm_l

pub release-requires-2-clause-stands : goal.release-requires-2-clause-stands
release-requires-2-clause-stands g c =
    let L = c.of_books.ensures in
    let s = g.B.Book.account c.args.book.now in
    let w = c.args.w.now in
    let p = s.profile in
    let way = c.requires.way in
    let all = c.requires.all in
    let a = itself s _ all.held in
    let e = let_down s _ s w.p _ _ a c.release.ensures (drop_p L p w way) in
    still_stands L s _ _ e (Large w.zone) w.l way.l refl (zone_below L p w way) c.args.large c.requires.stands_l

pub release-requires-3-clause-can : goal.release-requires-3-clause-can
release-requires-3-clause-can g c =
    let L = c.of_books.ensures in
    let s = g.B.Book.account c.args.book.now in
    let w = c.args.w.now in
    let p = s.profile in
    let way = c.requires.way in
    let all = c.requires.all in
    let a = itself s _ all.held in
    let e = let_down s _ s w.p _ _ a c.release.ensures (drop_p L p w way) in
    let f = let_down s _ _ w.l _ _ e c.release-2.ensures (drop_l L p w way) in
    can_release L s _ _ f (depot_of w.magazine) w.d way.d (plain_d L p w way) (there_d L p w way) (has_d L p w way) all.calm_d

pub release-requires-3-clause-stands : goal.release-requires-3-clause-stands
release-requires-3-clause-stands g c =
    let L = c.of_books.ensures in
    let s = g.B.Book.account c.args.book.now in
    let w = c.args.w.now in
    let p = s.profile in
    let way = c.requires.way in
    let all = c.requires.all in
    let a = itself s _ all.held in
    let e = let_down s _ s w.p _ _ a c.release.ensures (drop_p L p w way) in
    let f = let_down s _ _ w.l _ _ e c.release-2.ensures (drop_l L p w way) in
    still_stands L s _ _ f (depot_of w.magazine) w.d way.d (plain_d L p w way) (there_d L p w way) c.args.depot c.requires.stands_d

pub release-requires-4-clause-can : goal.release-requires-4-clause-can
release-requires-4-clause-can g c =
    let L = c.of_books.ensures in
    let s = g.B.Book.account c.args.book.now in
    let w = c.args.w.now in
    let p = s.profile in
    let way = c.requires.way in
    let all = c.requires.all in
    let a = itself s _ all.held in
    let e = let_down s _ s w.p _ _ a c.release.ensures (drop_p L p w way) in
    let f = let_down s _ _ w.l _ _ e c.release-2.ensures (drop_l L p w way) in
    let h = let_down s _ _ w.d _ _ f c.release-3.ensures (drop_d L p w way) in
    can_release L s _ _ h w.magazine w.k way.k (plain_k L p w way) way.exists (has_k L p w way) all.calm_k

pub release-requires-4-clause-stands : goal.release-requires-4-clause-stands
release-requires-4-clause-stands g c =
    let L = c.of_books.ensures in
    let s = g.B.Book.account c.args.book.now in
    let w = c.args.w.now in
    let p = s.profile in
    let way = c.requires.way in
    let all = c.requires.all in
    let a = itself s _ all.held in
    let e = let_down s _ s w.p _ _ a c.release.ensures (drop_p L p w way) in
    let f = let_down s _ _ w.l _ _ e c.release-2.ensures (drop_l L p w way) in
    let h = let_down s _ _ w.d _ _ f c.release-3.ensures (drop_d L p w way) in
    still_stands L s _ _ h w.magazine w.k way.k (plain_k L p w way) way.exists c.args.magazine c.requires.stands_k

pub returns : goal.returns
returns g c =
    let L = c.of_books.ensures in
    let s = g.B.Book.account c.args.book.now in
    let w = c.args.w.now in
    let p = s.profile in
    let way = c.requires.way in
    let all = c.requires.all in
    let a = itself s _ all.held in
    let e = let_down s _ s w.p _ _ a c.release.ensures (drop_p L p w way) in
    let f = let_down s _ _ w.l _ _ e c.release-2.ensures (drop_l L p w way) in
    let h = let_down s _ _ w.d _ _ f c.release-3.ensures (drop_d L p w way) in
    record { after = let_down s _ _ w.k _ _ h c.release-4.ensures (drop_k L p w way) }
