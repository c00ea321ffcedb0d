use Rattle.std.proofs.Common.{refl, ap, arith}
use Rattle.mz_events.specs.declared.place.Place.TheVariants.{Pages}
use Rattle.mz_events.specs.Places.{depot_of}
use Rattle.mz_events.specs.State.{Value}
use Rattle.mz_book.specs.Account.{known}
use Rattle.mz_rack.specs.Stages.{at_depot, at_pages}
use Rattle.mz_rack.proofs.Steps.{keeps_at, stands_then, plain_d, there_d, itself, can_release, still_stands, let_down}
use Rattle.mz_rack.proofs.Answered.{MomentLaws}
use Rattle.mz_rack.proofs.GivingBack.{can_hold_pages, holds_depot, owes_pages, regions_d, tidy_d, may_yield_d, can_give_back, is_back, lacked, may_put_back, depot_stands, pages_stand, way_then, held_then, has_pages, without_pages, settles}
use Rattle.mz_rack.proofs.free.give_back.Goals as goal

pub hold-pages-requires : goal.hold-pages-requires
hold-pages-requires g c =
    let L = c.of_books.ensures in
    let s = g.B.Book.account c.args.book.now in
    let w = c.args.w.now in
    let f = c.args.first in
    let o = c.requires.owes in
    can_hold_pages L w s o

pub yield_region-region-requires : goal.yield_region-region-requires
yield_region-region-requires g c =
    let L = c.of_books.ensures in
    let s = g.B.Book.account c.args.book.now in
    let w = c.args.w.now in
    let f = c.args.first in
    let o = c.requires.owes in
    let t = g.B.Book.account c.hold-pages.new.self in
    let k = owes_pages L w s t f o c.requires.first c.hold-pages.ensures.holds in
    let ord = g.met.B.Book.orderly c.hold-pages.new.self in
    let stands_d = stands_then s t (depot_of w.magazine) _ _ c.args.depot k.since.grows.adds.same (ap (λ (v : Value). v.kept) (k.same (at_depot w) (holds_depot L w s o))) c.requires.stands in
    may_yield_d L w s t f o k ord.lawful c.args.depot stands_d

pub note-requires : goal.note-requires
note-requires g c =
    let L = c.of_books.ensures in
    let s = g.B.Book.account c.args.book.now in
    let w = c.args.w.now in
    let f = c.args.first in
    let o = c.requires.owes in
    let t = g.B.Book.account c.hold-pages.new.self in
    let k = owes_pages L w s t f o c.requires.first c.hold-pages.ensures.holds in
    let ord = g.met.B.Book.orderly c.hold-pages.new.self in
    let stands_d = stands_then s t (depot_of w.magazine) _ _ c.args.depot k.since.grows.adds.same (ap (λ (v : Value). v.kept) (k.same (at_depot w) (holds_depot L w s o))) c.requires.stands in
    let kd = (known t (at_depot w)).kept in
    let kp = (known t at_pages).kept in
    let r = c.yield_region-region.result in
    let y = c.yield_region-region.ensures t.site t.profile (depot_of w.magazine) kd stands_d (regions_d L w s t f o k ord.lawful) (tidy_d L w s t f o k ord.lawful) in
    let can = can_give_back L w s t f o k ord.lawful ord.caller (omega (arith, k.since.grows.adds.spare, c.requires.room)) in
    can

pub put_back-requires : goal.put_back-requires
put_back-requires g c =
    let L = c.of_books.ensures in
    let s = g.B.Book.account c.args.book.now in
    let w = c.args.w.now in
    let f = c.args.first in
    let o = c.requires.owes in
    let t = g.B.Book.account c.hold-pages.new.self in
    let k = owes_pages L w s t f o c.requires.first c.hold-pages.ensures.holds in
    let ord = g.met.B.Book.orderly c.hold-pages.new.self in
    let stands_d = stands_then s t (depot_of w.magazine) _ _ c.args.depot k.since.grows.adds.same (ap (λ (v : Value). v.kept) (k.same (at_depot w) (holds_depot L w s o))) c.requires.stands in
    let kd = (known t (at_depot w)).kept in
    let kp = (known t at_pages).kept in
    let r = c.yield_region-region.result in
    let y = c.yield_region-region.ensures t.site t.profile (depot_of w.magazine) kd stands_d (regions_d L w s t f o k ord.lawful) (tidy_d L w s t f o k ord.lawful) in
    let can = can_give_back L w s t f o k ord.lawful ord.caller (omega (arith, k.since.grows.adds.spare, c.requires.room)) in
    let u = g.B.Book.account c.note.new.self in
    let i = c.note.result in
    let x = is_back L w s t f o k ord.lawful i u can c.note.ensures in
    let stands_p = keeps_at L t Pages w.p k.way.pages_is refl refl c.hold-pages.result c.hold-pages.ensures.stands in
    may_put_back L w s t f o k ord.lawful r _ y c.hold-pages.result stands_p

pub release-requires-clause-can : goal.release-requires-clause-can
release-requires-clause-can g c =
    let L = c.of_books.ensures in
    let s = g.B.Book.account c.args.book.now in
    let w = c.args.w.now in
    let f = c.args.first in
    let o = c.requires.owes in
    let t = g.B.Book.account c.hold-pages.new.self in
    let k = owes_pages L w s t f o c.requires.first c.hold-pages.ensures.holds in
    let ord = g.met.B.Book.orderly c.hold-pages.new.self in
    let stands_d = stands_then s t (depot_of w.magazine) _ _ c.args.depot k.since.grows.adds.same (ap (λ (v : Value). v.kept) (k.same (at_depot w) (holds_depot L w s o))) c.requires.stands in
    let kd = (known t (at_depot w)).kept in
    let kp = (known t at_pages).kept in
    let r = c.yield_region-region.result in
    let y = c.yield_region-region.ensures t.site t.profile (depot_of w.magazine) kd stands_d (regions_d L w s t f o k ord.lawful) (tidy_d L w s t f o k ord.lawful) in
    let can = can_give_back L w s t f o k ord.lawful ord.caller (omega (arith, k.since.grows.adds.spare, c.requires.room)) in
    let u = g.B.Book.account c.note.new.self in
    let i = c.note.result in
    let x = is_back L w s t f o k ord.lawful i u can c.note.ensures in
    let stands_p = keeps_at L t Pages w.p k.way.pages_is refl refl c.hold-pages.result c.hold-pages.ensures.stands in
    let pages_then = c.put_back.ensures t.site t.profile (depot_of w.magazine) kp stands_p y.quantum (lacked L w s t f o k ord.lawful r _ y) in
    let way = way_then L w s t f o k ord.lawful i u x in
    let a = itself u _ (held_then L w s t f o k ord.lawful i u x) in
    can_release L u _ u a Pages w.p way.pages_is refl refl (has_pages L w s t f o k ord.lawful i u x) x.calm_p

pub release-requires-clause-stands : goal.release-requires-clause-stands
release-requires-clause-stands g c =
    let L = c.of_books.ensures in
    let s = g.B.Book.account c.args.book.now in
    let w = c.args.w.now in
    let f = c.args.first in
    let o = c.requires.owes in
    let t = g.B.Book.account c.hold-pages.new.self in
    let k = owes_pages L w s t f o c.requires.first c.hold-pages.ensures.holds in
    let ord = g.met.B.Book.orderly c.hold-pages.new.self in
    let stands_d = stands_then s t (depot_of w.magazine) _ _ c.args.depot k.since.grows.adds.same (ap (λ (v : Value). v.kept) (k.same (at_depot w) (holds_depot L w s o))) c.requires.stands in
    let kd = (known t (at_depot w)).kept in
    let kp = (known t at_pages).kept in
    let r = c.yield_region-region.result in
    let y = c.yield_region-region.ensures t.site t.profile (depot_of w.magazine) kd stands_d (regions_d L w s t f o k ord.lawful) (tidy_d L w s t f o k ord.lawful) in
    let can = can_give_back L w s t f o k ord.lawful ord.caller (omega (arith, k.since.grows.adds.spare, c.requires.room)) in
    let u = g.B.Book.account c.note.new.self in
    let i = c.note.result in
    let x = is_back L w s t f o k ord.lawful i u can c.note.ensures in
    let stands_p = keeps_at L t Pages w.p k.way.pages_is refl refl c.hold-pages.result c.hold-pages.ensures.stands in
    let pages_then = c.put_back.ensures t.site t.profile (depot_of w.magazine) kp stands_p y.quantum (lacked L w s t f o k ord.lawful r _ y) in
    let way = way_then L w s t f o k ord.lawful i u x in
    let a = itself u _ (held_then L w s t f o k ord.lawful i u x) in
    still_stands L u _ u a Pages w.p way.pages_is refl refl c.put_back.new.self (pages_stand L w s t f o k ord.lawful r _ y i u x c.put_back.new.self pages_then)

pub release-requires-2-clause-can : goal.release-requires-2-clause-can
release-requires-2-clause-can g c =
    let L = c.of_books.ensures in
    let s = g.B.Book.account c.args.book.now in
    let w = c.args.w.now in
    let f = c.args.first in
    let o = c.requires.owes in
    let t = g.B.Book.account c.hold-pages.new.self in
    let k = owes_pages L w s t f o c.requires.first c.hold-pages.ensures.holds in
    let ord = g.met.B.Book.orderly c.hold-pages.new.self in
    let stands_d = stands_then s t (depot_of w.magazine) _ _ c.args.depot k.since.grows.adds.same (ap (λ (v : Value). v.kept) (k.same (at_depot w) (holds_depot L w s o))) c.requires.stands in
    let kd = (known t (at_depot w)).kept in
    let kp = (known t at_pages).kept in
    let r = c.yield_region-region.result in
    let y = c.yield_region-region.ensures t.site t.profile (depot_of w.magazine) kd stands_d (regions_d L w s t f o k ord.lawful) (tidy_d L w s t f o k ord.lawful) in
    let can = can_give_back L w s t f o k ord.lawful ord.caller (omega (arith, k.since.grows.adds.spare, c.requires.room)) in
    let u = g.B.Book.account c.note.new.self in
    let i = c.note.result in
    let x = is_back L w s t f o k ord.lawful i u can c.note.ensures in
    let stands_p = keeps_at L t Pages w.p k.way.pages_is refl refl c.hold-pages.result c.hold-pages.ensures.stands in
    let pages_then = c.put_back.ensures t.site t.profile (depot_of w.magazine) kp stands_p y.quantum (lacked L w s t f o k ord.lawful r _ y) in
    let way = way_then L w s t f o k ord.lawful i u x in
    let a = itself u _ (held_then L w s t f o k ord.lawful i u x) in
    let b = let_down u _ u w.p _ _ a c.release.ensures (without_pages L w s t f o k ord.lawful i u x) in
    can_release L u _ _ b (depot_of w.magazine) w.d way.d (plain_d L u.profile w way) (there_d L u.profile w way) o.here x.calm_d

pub release-requires-2-clause-stands : goal.release-requires-2-clause-stands
release-requires-2-clause-stands g c =
    let L = c.of_books.ensures in
    let s = g.B.Book.account c.args.book.now in
    let w = c.args.w.now in
    let f = c.args.first in
    let o = c.requires.owes in
    let t = g.B.Book.account c.hold-pages.new.self in
    let k = owes_pages L w s t f o c.requires.first c.hold-pages.ensures.holds in
    let ord = g.met.B.Book.orderly c.hold-pages.new.self in
    let stands_d = stands_then s t (depot_of w.magazine) _ _ c.args.depot k.since.grows.adds.same (ap (λ (v : Value). v.kept) (k.same (at_depot w) (holds_depot L w s o))) c.requires.stands in
    let kd = (known t (at_depot w)).kept in
    let kp = (known t at_pages).kept in
    let r = c.yield_region-region.result in
    let y = c.yield_region-region.ensures t.site t.profile (depot_of w.magazine) kd stands_d (regions_d L w s t f o k ord.lawful) (tidy_d L w s t f o k ord.lawful) in
    let can = can_give_back L w s t f o k ord.lawful ord.caller (omega (arith, k.since.grows.adds.spare, c.requires.room)) in
    let u = g.B.Book.account c.note.new.self in
    let i = c.note.result in
    let x = is_back L w s t f o k ord.lawful i u can c.note.ensures in
    let stands_p = keeps_at L t Pages w.p k.way.pages_is refl refl c.hold-pages.result c.hold-pages.ensures.stands in
    let pages_then = c.put_back.ensures t.site t.profile (depot_of w.magazine) kp stands_p y.quantum (lacked L w s t f o k ord.lawful r _ y) in
    let way = way_then L w s t f o k ord.lawful i u x in
    let a = itself u _ (held_then L w s t f o k ord.lawful i u x) in
    let b = let_down u _ u w.p _ _ a c.release.ensures (without_pages L w s t f o k ord.lawful i u x) in
    still_stands L u _ _ b (depot_of w.magazine) w.d way.d (plain_d L u.profile w way) (there_d L u.profile w way) c.yield_region-region.new.self (depot_stands L w s t f o k ord.lawful r _ y i u x c.yield_region-region.new.self y.left)

pub returns : goal.returns
returns g c =
    let L = c.of_books.ensures in
    let s = g.B.Book.account c.args.book.now in
    let w = c.args.w.now in
    let f = c.args.first in
    let o = c.requires.owes in
    let t = g.B.Book.account c.hold-pages.new.self in
    let k = owes_pages L w s t f o c.requires.first c.hold-pages.ensures.holds in
    let ord = g.met.B.Book.orderly c.hold-pages.new.self in
    let stands_d = stands_then s t (depot_of w.magazine) _ _ c.args.depot k.since.grows.adds.same (ap (λ (v : Value). v.kept) (k.same (at_depot w) (holds_depot L w s o))) c.requires.stands in
    let kd = (known t (at_depot w)).kept in
    let kp = (known t at_pages).kept in
    let r = c.yield_region-region.result in
    let y = c.yield_region-region.ensures t.site t.profile (depot_of w.magazine) kd stands_d (regions_d L w s t f o k ord.lawful) (tidy_d L w s t f o k ord.lawful) in
    let can = can_give_back L w s t f o k ord.lawful ord.caller (omega (arith, k.since.grows.adds.spare, c.requires.room)) in
    let u = g.B.Book.account c.note.new.self in
    let i = c.note.result in
    let x = is_back L w s t f o k ord.lawful i u can c.note.ensures in
    let stands_p = keeps_at L t Pages w.p k.way.pages_is refl refl c.hold-pages.result c.hold-pages.ensures.stands in
    let pages_then = c.put_back.ensures t.site t.profile (depot_of w.magazine) kp stands_p y.quantum (lacked L w s t f o k ord.lawful r _ y) in
    let way = way_then L w s t f o k ord.lawful i u x in
    let a = itself u _ (held_then L w s t f o k ord.lawful i u x) in
    let b = let_down u _ u w.p _ _ a c.release.ensures (without_pages L w s t f o k ord.lawful i u x) in
    let moments : MomentLaws = record { before = c.moments.ensures.before; after_one = c.states_split.ensures.one; after_joined = c.states_split.ensures.joined } in
    settles L w s t f o k ord.lawful i u x moments (g.B.Book.account c.release-2.new.self) (g.met.B.Book.orderly c.release-2.new.self).lawful (let_down u _ _ w.d _ _ b c.release-2.ensures refl) c.requires.first
