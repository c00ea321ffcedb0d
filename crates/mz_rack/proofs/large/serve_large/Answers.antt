use Rattle.std.proofs.Common.{[], sym, subst, ◌∙◌, refl, arith}
use Rattle.mz_events.specs.declared.place.Place.TheVariants.{Large}
use Rattle.mz_rack.specs.LargeStages.{IsLargeWay}
use Rattle.mz_rack.proofs.Steps.{can_hold, keeps_at, itself, can_release, still_stands, let_down}
use Rattle.mz_rack.proofs.LargeSteps.{held_large, none_fits, there_l, has_l, drop_l}
use Rattle.mz_rack.proofs.LargeServing.{served_cached, served_then}
use Rattle.mz_rack.proofs.large.serve_large.Goals as goal

pub hold-large-requires : goal.hold-large-requires
hold-large-requires g c =
    let s = g.B.Book.account c.args.book.now in
    let way = c.requires.can.way in
    let above = way.l_below in
    let below = way.p_below in
    can_hold s c.args.w.now.l [] c.requires.nothing_held (omega (arith, above, below)) refl

pub try_cache-requires : goal.try_cache-requires
try_cache-requires g c =
    let L = c.of_books.ensures in
    let s = g.B.Book.account c.args.book.now in
    let w = c.args.w.now in
    let t = g.B.Book.account c.hold-large.new.self in
    let h = held_large L w c.args.n c.args.al s t c.requires.can c.requires.nothing_held c.hold-large.ensures.holds in
    let way = h.ready.can.way in
    record {
      ready = h.ready;
      room = omega (arith, h.since.grows.adds.spare, c.requires.room);
      stands = keeps_at L t (Large w.zone) w.l way.l refl (there_l L t.profile w way) c.hold-large.result c.hold-large.ensures.stands;
    }

pub release-requires : goal.release-requires
release-requires g c =
    let L = c.of_books.ensures in
    let s = g.B.Book.account c.args.book.now in
    let w = c.args.w.now in
    let t = g.B.Book.account c.hold-large.new.self in
    let h = held_large L w c.args.n c.args.al s t c.requires.can c.requires.nothing_held c.hold-large.ensures.holds in
    let u = g.B.Book.account c.try_cache.new.book in
    let z = c.in-Ok.ensures.tried in
    let way = subst (λ p. IsLargeWay p w) (sym z.since.grows.adds.same.profile) h.ready.can.way in
    let a = itself u _ (z.held ∙ h.ready.held) in
    record {
      can = can_release L u _ u a (Large w.zone) w.l way.l refl (there_l L u.profile w way) (has_l L u.profile w way) z.calm;
      stands = still_stands L u _ u a (Large w.zone) w.l way.l refl (there_l L u.profile w way) c.try_cache.new.large c.in-Ok.ensures.stands;
    }

pub returns-in-Ok : goal.returns-in-Ok
returns-in-Ok g c =
    let L = c.of_books.ensures in
    let s = g.B.Book.account c.args.book.now in
    let w = c.args.w.now in
    let n = c.args.n in
    let al = c.args.al in
    let t = g.B.Book.account c.hold-large.new.self in
    let u = g.B.Book.account c.try_cache.new.book in
    let h = held_large L w n al s t c.requires.can c.requires.nothing_held c.hold-large.ensures.holds in
    let z = c.in-Ok.ensures.tried in
    let way = subst (λ p. IsLargeWay p w) (sym z.since.grows.adds.same.profile) h.ready.can.way in
    let a = itself u _ (z.held ∙ h.ready.held) in
    served_cached L w n al s t u _ c.in-Ok.span h z (let_down u _ u w.l _ _ a c.release.ensures (drop_l L u.profile w way))

pub from_free_pages-requires : goal.from_free_pages-requires
from_free_pages-requires g c =
    let L = c.of_books.ensures in
    let s = g.B.Book.account c.args.book.now in
    let w = c.args.w.now in
    let n = c.args.n in
    let al = c.args.al in
    let t = g.B.Book.account c.hold-large.new.self in
    let u = g.B.Book.account c.try_cache.new.book in
    let h = held_large L w n al s t c.requires.can c.requires.nothing_held c.hold-large.ensures.holds in
    let z = c.in-Err.ensures.tried in
    record {
      none = none_fits L t w n al h.ready u c.in-Err.full z;
      room = omega (arith, z.since.grows.adds.spare, h.since.grows.adds.spare, c.requires.room);
      stands = c.in-Err.ensures.stands;
    }

pub returns-in-Err : goal.returns-in-Err
returns-in-Err g c =
    let L = c.of_books.ensures in
    let s = g.B.Book.account c.args.book.now in
    let w = c.args.w.now in
    let n = c.args.n in
    let al = c.args.al in
    let t = g.B.Book.account c.hold-large.new.self in
    let u = g.B.Book.account c.try_cache.new.book in
    let h = held_large L w n al s t c.requires.can c.requires.nothing_held c.hold-large.ensures.holds in
    served_then L w n al s t u _ c.in-Err.full c.from_free_pages.result h c.in-Err.ensures.tried c.from_free_pages.ensures
