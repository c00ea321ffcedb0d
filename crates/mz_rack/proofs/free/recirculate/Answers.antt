use Rattle.std.proofs.Common.{◌≤◌, ap, arith}
use Rattle.mz_events.specs.Places.{depot_of}
use Rattle.mz_events.specs.State.{Value}
use Rattle.mz_book.specs.Account.{known}
use Rattle.mz_rack.specs.Stages.{at_magazine, at_depot}
use Rattle.mz_rack.proofs.Steps.{keeps_at, stands_then, plain_k, plain_d, there_d, itself, can_release, still_stands, has_k, drop_k, let_down}
use Rattle.mz_rack.proofs.Answered.{MomentLaws}
use Rattle.mz_rack.proofs.PuttingAside.{owes_both, regions_k, regions_d, tidy_k, may_yield_k, can_put_aside, is_aside, may_adopt_d, adopted_d, held_k, way_then, calm_then, stands_k, has_moved}
use Rattle.mz_rack.proofs.free.recirculate.Goals as goal

pub yield_region-region-requires : goal.yield_region-region-requires
yield_region-region-requires g c =
    let L = c.of_books.ensures in
    let s = g.B.Book.account c.args.book.now in
    let w = c.args.w.now in
    let f = c.args.first in
    let t = g.B.Book.account c.hold-depot.new.self in
    let k = owes_both L w f s t c.requires.owes c.hold-depot.ensures.holds in
    let ord = g.met.B.Book.orderly c.hold-depot.new.self in
    let stands_q = stands_then s t w.magazine _ _ c.args.magazine k.since.grows.adds.same (ap (λ (v : Value). v.kept) k.same_k) c.requires.stands in
    may_yield_k L w f s t k ord.lawful c.args.magazine stands_q

pub note-requires : goal.note-requires
note-requires g c =
    let L = c.of_books.ensures in
    let s = g.B.Book.account c.args.book.now in
    let w = c.args.w.now in
    let f = c.args.first in
    let t = g.B.Book.account c.hold-depot.new.self in
    let k = owes_both L w f s t c.requires.owes c.hold-depot.ensures.holds in
    let ord = g.met.B.Book.orderly c.hold-depot.new.self in
    let stands_q = stands_then s t w.magazine _ _ c.args.magazine k.since.grows.adds.same (ap (λ (v : Value). v.kept) k.same_k) c.requires.stands in
    let kq = (known t (at_magazine w)).kept in
    let kd = (known t (at_depot w)).kept in
    let r = c.yield_region-region.result in
    let y = c.yield_region-region.ensures t.site t.profile w.magazine kq stands_q (regions_k L w f s t k ord.lawful) (tidy_k L w f s t k ord.lawful) in
    let room : 2 ≤ t.spare = omega (arith, k.since.grows.adds.spare, c.requires.room) in
    let can = can_put_aside L w f s t k ord.lawful ord.caller (omega (arith, room)) in
    can

pub adopt-requires : goal.adopt-requires
adopt-requires g c =
    let L = c.of_books.ensures in
    let s = g.B.Book.account c.args.book.now in
    let w = c.args.w.now in
    let f = c.args.first in
    let t = g.B.Book.account c.hold-depot.new.self in
    let k = owes_both L w f s t c.requires.owes c.hold-depot.ensures.holds in
    let ord = g.met.B.Book.orderly c.hold-depot.new.self in
    let stands_q = stands_then s t w.magazine _ _ c.args.magazine k.since.grows.adds.same (ap (λ (v : Value). v.kept) k.same_k) c.requires.stands in
    let kq = (known t (at_magazine w)).kept in
    let kd = (known t (at_depot w)).kept in
    let r = c.yield_region-region.result in
    let y = c.yield_region-region.ensures t.site t.profile w.magazine kq stands_q (regions_k L w f s t k ord.lawful) (tidy_k L w f s t k ord.lawful) in
    let room : 2 ≤ t.spare = omega (arith, k.since.grows.adds.spare, c.requires.room) in
    let can = can_put_aside L w f s t k ord.lawful ord.caller (omega (arith, room)) in
    let u = g.B.Book.account c.note.new.self in
    let i = c.note.result in
    let x = is_aside L w f s t k ord.lawful i u can c.note.ensures in
    let stands_d = keeps_at L t (depot_of w.magazine) w.d k.way.d (plain_d L t.profile w k.way) (there_d L t.profile w k.way) c.hold-depot.result c.hold-depot.ensures.stands in
    may_adopt_d L w f s t k ord.lawful c.hold-depot.result stands_d r _ y i u x (g.met.B.Book.orderly c.note.new.self).lawful

pub settle-requires-clause-owes : goal.settle-requires-clause-owes
settle-requires-clause-owes g c =
    let L = c.of_books.ensures in
    let s = g.B.Book.account c.args.book.now in
    let w = c.args.w.now in
    let f = c.args.first in
    let t = g.B.Book.account c.hold-depot.new.self in
    let k = owes_both L w f s t c.requires.owes c.hold-depot.ensures.holds in
    let ord = g.met.B.Book.orderly c.hold-depot.new.self in
    let stands_q = stands_then s t w.magazine _ _ c.args.magazine k.since.grows.adds.same (ap (λ (v : Value). v.kept) k.same_k) c.requires.stands in
    let kq = (known t (at_magazine w)).kept in
    let kd = (known t (at_depot w)).kept in
    let r = c.yield_region-region.result in
    let y = c.yield_region-region.ensures t.site t.profile w.magazine kq stands_q (regions_k L w f s t k ord.lawful) (tidy_k L w f s t k ord.lawful) in
    let room : 2 ≤ t.spare = omega (arith, k.since.grows.adds.spare, c.requires.room) in
    let can = can_put_aside L w f s t k ord.lawful ord.caller (omega (arith, room)) in
    let u = g.B.Book.account c.note.new.self in
    let i = c.note.result in
    let x = is_aside L w f s t k ord.lawful i u can c.note.ensures in
    let stands_d = keeps_at L t (depot_of w.magazine) w.d k.way.d (plain_d L t.profile w k.way) (there_d L t.profile w k.way) c.hold-depot.result c.hold-depot.ensures.stands in
    x.owes

pub settle-requires-clause-room : goal.settle-requires-clause-room
settle-requires-clause-room g c =
    let L = c.of_books.ensures in
    let s = g.B.Book.account c.args.book.now in
    let w = c.args.w.now in
    let f = c.args.first in
    let t = g.B.Book.account c.hold-depot.new.self in
    let k = owes_both L w f s t c.requires.owes c.hold-depot.ensures.holds in
    let ord = g.met.B.Book.orderly c.hold-depot.new.self in
    let stands_q = stands_then s t w.magazine _ _ c.args.magazine k.since.grows.adds.same (ap (λ (v : Value). v.kept) k.same_k) c.requires.stands in
    let kq = (known t (at_magazine w)).kept in
    let kd = (known t (at_depot w)).kept in
    let r = c.yield_region-region.result in
    let y = c.yield_region-region.ensures t.site t.profile w.magazine kq stands_q (regions_k L w f s t k ord.lawful) (tidy_k L w f s t k ord.lawful) in
    let room : 2 ≤ t.spare = omega (arith, k.since.grows.adds.spare, c.requires.room) in
    let can = can_put_aside L w f s t k ord.lawful ord.caller (omega (arith, room)) in
    let u = g.B.Book.account c.note.new.self in
    let i = c.note.result in
    let x = is_aside L w f s t k ord.lawful i u can c.note.ensures in
    let stands_d = keeps_at L t (depot_of w.magazine) w.d k.way.d (plain_d L t.profile w k.way) (there_d L t.profile w k.way) c.hold-depot.result c.hold-depot.ensures.stands in
    omega (arith, room, x.since.grows.adds.spare)

pub settle-requires-clause-stands : goal.settle-requires-clause-stands
settle-requires-clause-stands g c =
    let L = c.of_books.ensures in
    let s = g.B.Book.account c.args.book.now in
    let w = c.args.w.now in
    let f = c.args.first in
    let t = g.B.Book.account c.hold-depot.new.self in
    let k = owes_both L w f s t c.requires.owes c.hold-depot.ensures.holds in
    let ord = g.met.B.Book.orderly c.hold-depot.new.self in
    let stands_q = stands_then s t w.magazine _ _ c.args.magazine k.since.grows.adds.same (ap (λ (v : Value). v.kept) k.same_k) c.requires.stands in
    let kq = (known t (at_magazine w)).kept in
    let kd = (known t (at_depot w)).kept in
    let r = c.yield_region-region.result in
    let y = c.yield_region-region.ensures t.site t.profile w.magazine kq stands_q (regions_k L w f s t k ord.lawful) (tidy_k L w f s t k ord.lawful) in
    let room : 2 ≤ t.spare = omega (arith, k.since.grows.adds.spare, c.requires.room) in
    let can = can_put_aside L w f s t k ord.lawful ord.caller (omega (arith, room)) in
    let u = g.B.Book.account c.note.new.self in
    let i = c.note.result in
    let x = is_aside L w f s t k ord.lawful i u can c.note.ensures in
    let stands_d = keeps_at L t (depot_of w.magazine) w.d k.way.d (plain_d L t.profile w k.way) (there_d L t.profile w k.way) c.hold-depot.result c.hold-depot.ensures.stands in
    adopted_d L w f s t k ord.lawful c.adopt.new.self r _ y i u x (c.adopt.ensures t.site t.profile (depot_of w.magazine) kd stands_d (regions_d L w f s t k ord.lawful) y.space)

pub release-requires-clause-can : goal.release-requires-clause-can
release-requires-clause-can g c =
    let L = c.of_books.ensures in
    let s = g.B.Book.account c.args.book.now in
    let w = c.args.w.now in
    let f = c.args.first in
    let t = g.B.Book.account c.hold-depot.new.self in
    let k = owes_both L w f s t c.requires.owes c.hold-depot.ensures.holds in
    let ord = g.met.B.Book.orderly c.hold-depot.new.self in
    let stands_q = stands_then s t w.magazine _ _ c.args.magazine k.since.grows.adds.same (ap (λ (v : Value). v.kept) k.same_k) c.requires.stands in
    let kq = (known t (at_magazine w)).kept in
    let kd = (known t (at_depot w)).kept in
    let r = c.yield_region-region.result in
    let y = c.yield_region-region.ensures t.site t.profile w.magazine kq stands_q (regions_k L w f s t k ord.lawful) (tidy_k L w f s t k ord.lawful) in
    let room : 2 ≤ t.spare = omega (arith, k.since.grows.adds.spare, c.requires.room) in
    let can = can_put_aside L w f s t k ord.lawful ord.caller (omega (arith, room)) in
    let u = g.B.Book.account c.note.new.self in
    let i = c.note.result in
    let x = is_aside L w f s t k ord.lawful i u can c.note.ensures in
    let stands_d = keeps_at L t (depot_of w.magazine) w.d k.way.d (plain_d L t.profile w k.way) (there_d L t.profile w k.way) c.hold-depot.result c.hold-depot.ensures.stands in
    let v = g.B.Book.account c.settle.new.book in
    let z = c.settle.ensures in
    let held = held_k L w f s t k ord.lawful i u v x z in
    let way = way_then L w f s t k ord.lawful i u v x z in
    let a = itself v _ held in
    can_release L v _ v a w.magazine w.k way.k (plain_k L v.profile w way) way.exists (has_k L v.profile w way) (calm_then L w f s t k ord.lawful i u v x z)

pub release-requires-clause-stands : goal.release-requires-clause-stands
release-requires-clause-stands g c =
    let L = c.of_books.ensures in
    let s = g.B.Book.account c.args.book.now in
    let w = c.args.w.now in
    let f = c.args.first in
    let t = g.B.Book.account c.hold-depot.new.self in
    let k = owes_both L w f s t c.requires.owes c.hold-depot.ensures.holds in
    let ord = g.met.B.Book.orderly c.hold-depot.new.self in
    let stands_q = stands_then s t w.magazine _ _ c.args.magazine k.since.grows.adds.same (ap (λ (v : Value). v.kept) k.same_k) c.requires.stands in
    let kq = (known t (at_magazine w)).kept in
    let kd = (known t (at_depot w)).kept in
    let r = c.yield_region-region.result in
    let y = c.yield_region-region.ensures t.site t.profile w.magazine kq stands_q (regions_k L w f s t k ord.lawful) (tidy_k L w f s t k ord.lawful) in
    let room : 2 ≤ t.spare = omega (arith, k.since.grows.adds.spare, c.requires.room) in
    let can = can_put_aside L w f s t k ord.lawful ord.caller (omega (arith, room)) in
    let u = g.B.Book.account c.note.new.self in
    let i = c.note.result in
    let x = is_aside L w f s t k ord.lawful i u can c.note.ensures in
    let stands_d = keeps_at L t (depot_of w.magazine) w.d k.way.d (plain_d L t.profile w k.way) (there_d L t.profile w k.way) c.hold-depot.result c.hold-depot.ensures.stands in
    let v = g.B.Book.account c.settle.new.book in
    let z = c.settle.ensures in
    let held = held_k L w f s t k ord.lawful i u v x z in
    let way = way_then L w f s t k ord.lawful i u v x z in
    let a = itself v _ held in
    still_stands L v _ v a w.magazine w.k way.k (plain_k L v.profile w way) way.exists c.yield_region-region.new.self (stands_k L w f s t k ord.lawful i u v x z c.yield_region-region.new.self y.left)

pub returns : goal.returns
returns g c =
    let L = c.of_books.ensures in
    let s = g.B.Book.account c.args.book.now in
    let w = c.args.w.now in
    let f = c.args.first in
    let t = g.B.Book.account c.hold-depot.new.self in
    let k = owes_both L w f s t c.requires.owes c.hold-depot.ensures.holds in
    let ord = g.met.B.Book.orderly c.hold-depot.new.self in
    let stands_q = stands_then s t w.magazine _ _ c.args.magazine k.since.grows.adds.same (ap (λ (v : Value). v.kept) k.same_k) c.requires.stands in
    let kq = (known t (at_magazine w)).kept in
    let kd = (known t (at_depot w)).kept in
    let r = c.yield_region-region.result in
    let y = c.yield_region-region.ensures t.site t.profile w.magazine kq stands_q (regions_k L w f s t k ord.lawful) (tidy_k L w f s t k ord.lawful) in
    let room : 2 ≤ t.spare = omega (arith, k.since.grows.adds.spare, c.requires.room) in
    let can = can_put_aside L w f s t k ord.lawful ord.caller (omega (arith, room)) in
    let u = g.B.Book.account c.note.new.self in
    let i = c.note.result in
    let x = is_aside L w f s t k ord.lawful i u can c.note.ensures in
    let stands_d = keeps_at L t (depot_of w.magazine) w.d k.way.d (plain_d L t.profile w k.way) (there_d L t.profile w k.way) c.hold-depot.result c.hold-depot.ensures.stands in
    let v = g.B.Book.account c.settle.new.book in
    let z = c.settle.ensures in
    let held = held_k L w f s t k ord.lawful i u v x z in
    let way = way_then L w f s t k ord.lawful i u v x z in
    let a = itself v _ held in
    let moments : MomentLaws = record { before = c.moments.ensures.before; after_one = c.states_split.ensures.one; after_joined = c.states_split.ensures.joined } in
    has_moved L w f s t k ord.lawful i u v x z moments (g.B.Book.account c.release.new.self) (g.met.B.Book.orderly c.release.new.self).lawful (let_down v _ v w.k _ _ a c.release.ensures (drop_k L v.profile w way))
