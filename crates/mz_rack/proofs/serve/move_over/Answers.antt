use Rattle.std.proofs.Common.{ap, ◌∙◌, arith}
use Rattle.mz_events.specs.Places.{depot_of}
use Rattle.mz_events.specs.State.{Value}
use Rattle.mz_book.specs.Account.{known}
use Rattle.std.specs.Prelude.{◌||◌}
use Rattle.mz_events.specs.Places.{is_depot}
use Rattle.mz_rack.specs.Stages.{at_magazine, at_depot}
use Rattle.mz_rack.proofs.Steps.{can_same, stands_then, plain_k, plain_d, there_d, drop_k, has_k, drop_d, has_d, let_down, itself, can_release, still_stands}
use Rattle.mz_rack.proofs.Moving.{can_move}
use Rattle.mz_rack.proofs.MovingOver.{tidy_depot, is_depot_too, may_yield, moved, may_adopt, adopted, has_room_then, depot_still, moved_over}
use Rattle.mz_rack.proofs.serve.move_over.Goals as goal

pub yield_region-region-requires : goal.yield_region-region-requires
yield_region-region-requires g c =
    let L = c.of_books.ensures in
    let t = g.B.Book.account c.args.book.now in
    let w = c.args.w.now in
    let n = c.args.n in
    let al = c.args.al in
    let first = c.args.first in
    let k = c.requires.both in
    let ord = g.met.B.Book.orderly c.args.book.now in
    let low = c.requires.lowest in
    may_yield L w n al t k ord.lawful first low c.args.depot c.requires.stands_d

pub note-requires : goal.note-requires
note-requires g c =
    let L = c.of_books.ensures in
    let t = g.B.Book.account c.args.book.now in
    let w = c.args.w.now in
    let n = c.args.n in
    let al = c.args.al in
    let first = c.args.first in
    let k = c.requires.both in
    let ord = g.met.B.Book.orderly c.args.book.now in
    let low = c.requires.lowest in
    let r = c.yield_region-region.result in
    let kd = (known t (at_depot w)).kept in
    let y = c.yield_region-region.ensures t.site t.profile (depot_of w.magazine) kd c.requires.stands_d (is_depot_too L w n al t k ord.lawful first low) (tidy_depot L w n al t k ord.lawful first low) in
    let can = can_move L w n al t k first ord.caller (omega (arith, c.requires.room)) low in
    can

pub adopt-requires : goal.adopt-requires
adopt-requires g c =
    let L = c.of_books.ensures in
    let t = g.B.Book.account c.args.book.now in
    let w = c.args.w.now in
    let n = c.args.n in
    let al = c.args.al in
    let first = c.args.first in
    let k = c.requires.both in
    let ord = g.met.B.Book.orderly c.args.book.now in
    let low = c.requires.lowest in
    let r = c.yield_region-region.result in
    let kd = (known t (at_depot w)).kept in
    let y = c.yield_region-region.ensures t.site t.profile (depot_of w.magazine) kd c.requires.stands_d (is_depot_too L w n al t k ord.lawful first low) (tidy_depot L w n al t k ord.lawful first low) in
    let can = can_move L w n al t k first ord.caller (omega (arith, c.requires.room)) low in
    let u = g.B.Book.account c.note.new.self in
    let m = moved L w n al t k ord.lawful first low c.note.result u can c.note.ensures in
    may_adopt L w n al t k ord.lawful first low c.args.magazine c.requires.stands_k r _ y c.note.result u m (g.met.B.Book.orderly c.note.new.self).lawful

pub make_block-span-requires-clause-ready : goal.make_block-span-requires-clause-ready
make_block-span-requires-clause-ready g c =
    let L = c.of_books.ensures in
    let t = g.B.Book.account c.args.book.now in
    let w = c.args.w.now in
    let n = c.args.n in
    let al = c.args.al in
    let first = c.args.first in
    let k = c.requires.both in
    let ord = g.met.B.Book.orderly c.args.book.now in
    let low = c.requires.lowest in
    let r = c.yield_region-region.result in
    let kd = (known t (at_depot w)).kept in
    let y = c.yield_region-region.ensures t.site t.profile (depot_of w.magazine) kd c.requires.stands_d (is_depot_too L w n al t k ord.lawful first low) (tidy_depot L w n al t k ord.lawful first low) in
    let can = can_move L w n al t k first ord.caller (omega (arith, c.requires.room)) low in
    let u = g.B.Book.account c.note.new.self in
    let m = moved L w n al t k ord.lawful first low c.note.result u can c.note.ensures in
    m.ready

pub make_block-span-requires-clause-room : goal.make_block-span-requires-clause-room
make_block-span-requires-clause-room g c =
    let L = c.of_books.ensures in
    let t = g.B.Book.account c.args.book.now in
    let w = c.args.w.now in
    let n = c.args.n in
    let al = c.args.al in
    let first = c.args.first in
    let k = c.requires.both in
    let ord = g.met.B.Book.orderly c.args.book.now in
    let low = c.requires.lowest in
    let r = c.yield_region-region.result in
    let kd = (known t (at_depot w)).kept in
    let y = c.yield_region-region.ensures t.site t.profile (depot_of w.magazine) kd c.requires.stands_d (is_depot_too L w n al t k ord.lawful first low) (tidy_depot L w n al t k ord.lawful first low) in
    let can = can_move L w n al t k first ord.caller (omega (arith, c.requires.room)) low in
    let u = g.B.Book.account c.note.new.self in
    let m = moved L w n al t k ord.lawful first low c.note.result u can c.note.ensures in
    omega (arith, m.since.grows.adds.spare, c.requires.room)

pub make_block-span-requires-clause-stands : goal.make_block-span-requires-clause-stands
make_block-span-requires-clause-stands g c =
    let L = c.of_books.ensures in
    let t = g.B.Book.account c.args.book.now in
    let w = c.args.w.now in
    let n = c.args.n in
    let al = c.args.al in
    let first = c.args.first in
    let k = c.requires.both in
    let ord = g.met.B.Book.orderly c.args.book.now in
    let low = c.requires.lowest in
    let r = c.yield_region-region.result in
    let kd = (known t (at_depot w)).kept in
    let y = c.yield_region-region.ensures t.site t.profile (depot_of w.magazine) kd c.requires.stands_d (is_depot_too L w n al t k ord.lawful first low) (tidy_depot L w n al t k ord.lawful first low) in
    let can = can_move L w n al t k first ord.caller (omega (arith, c.requires.room)) low in
    let u = g.B.Book.account c.note.new.self in
    let m = moved L w n al t k ord.lawful first low c.note.result u can c.note.ensures in
    let stands_k = adopted L w n al t k ord.lawful first low c.adopt.new.self r _ y c.note.result u m (c.adopt.ensures t.site t.profile w.magazine (known t (at_magazine w)).kept c.requires.stands_k (ap (λ b. b || is_depot w.magazine) k.can.way.magazine) y.space) in
    stands_k

pub make_block-span-requires-clause-has_room : goal.make_block-span-requires-clause-has_room
make_block-span-requires-clause-has_room g c =
    let L = c.of_books.ensures in
    let t = g.B.Book.account c.args.book.now in
    let w = c.args.w.now in
    let n = c.args.n in
    let al = c.args.al in
    let first = c.args.first in
    let k = c.requires.both in
    let ord = g.met.B.Book.orderly c.args.book.now in
    let low = c.requires.lowest in
    let r = c.yield_region-region.result in
    let kd = (known t (at_depot w)).kept in
    let y = c.yield_region-region.ensures t.site t.profile (depot_of w.magazine) kd c.requires.stands_d (is_depot_too L w n al t k ord.lawful first low) (tidy_depot L w n al t k ord.lawful first low) in
    let can = can_move L w n al t k first ord.caller (omega (arith, c.requires.room)) low in
    let u = g.B.Book.account c.note.new.self in
    let m = moved L w n al t k ord.lawful first low c.note.result u can c.note.ensures in
    has_room_then L w n al t k ord.lawful first low c.note.result u m

pub release-requires-clause-can : goal.release-requires-clause-can
release-requires-clause-can g c =
    let L = c.of_books.ensures in
    let t = g.B.Book.account c.args.book.now in
    let w = c.args.w.now in
    let n = c.args.n in
    let al = c.args.al in
    let first = c.args.first in
    let k = c.requires.both in
    let ord = g.met.B.Book.orderly c.args.book.now in
    let low = c.requires.lowest in
    let r = c.yield_region-region.result in
    let kd = (known t (at_depot w)).kept in
    let y = c.yield_region-region.ensures t.site t.profile (depot_of w.magazine) kd c.requires.stands_d (is_depot_too L w n al t k ord.lawful first low) (tidy_depot L w n al t k ord.lawful first low) in
    let can = can_move L w n al t k first ord.caller (omega (arith, c.requires.room)) low in
    let u = g.B.Book.account c.note.new.self in
    let m = moved L w n al t k ord.lawful first low c.note.result u can c.note.ensures in
    let stands_k = adopted L w n al t k ord.lawful first low c.adopt.new.self r _ y c.note.result u m (c.adopt.ensures t.site t.profile w.magazine (known t (at_magazine w)).kept c.requires.stands_k (ap (λ b. b || is_depot w.magazine) k.can.way.magazine) y.space) in
    let v = g.B.Book.account c.make_block-span.new.book in
    let x = c.make_block-span.result in
    let z = c.make_block-span.ensures.tried in
    let way = (can_same u v w n al m.ready.can z.since.grows.adds.same z.since.grows.adds.zones).way in
    let vd = depot_still L w n al t k ord.lawful first low c.note.result u v x m z in
    let a = itself v _ (z.held ∙ m.held) in
    can_release L v _ v a (depot_of w.magazine) w.d way.d (plain_d L v.profile w way) (there_d L v.profile w way) (has_d L v.profile w way) (ap (λ (q : Value). q.duty) vd ∙ m.calm_d)

pub release-requires-clause-stands : goal.release-requires-clause-stands
release-requires-clause-stands g c =
    let L = c.of_books.ensures in
    let t = g.B.Book.account c.args.book.now in
    let w = c.args.w.now in
    let n = c.args.n in
    let al = c.args.al in
    let first = c.args.first in
    let k = c.requires.both in
    let ord = g.met.B.Book.orderly c.args.book.now in
    let low = c.requires.lowest in
    let r = c.yield_region-region.result in
    let kd = (known t (at_depot w)).kept in
    let y = c.yield_region-region.ensures t.site t.profile (depot_of w.magazine) kd c.requires.stands_d (is_depot_too L w n al t k ord.lawful first low) (tidy_depot L w n al t k ord.lawful first low) in
    let can = can_move L w n al t k first ord.caller (omega (arith, c.requires.room)) low in
    let u = g.B.Book.account c.note.new.self in
    let m = moved L w n al t k ord.lawful first low c.note.result u can c.note.ensures in
    let stands_k = adopted L w n al t k ord.lawful first low c.adopt.new.self r _ y c.note.result u m (c.adopt.ensures t.site t.profile w.magazine (known t (at_magazine w)).kept c.requires.stands_k (ap (λ b. b || is_depot w.magazine) k.can.way.magazine) y.space) in
    let v = g.B.Book.account c.make_block-span.new.book in
    let x = c.make_block-span.result in
    let z = c.make_block-span.ensures.tried in
    let way = (can_same u v w n al m.ready.can z.since.grows.adds.same z.since.grows.adds.zones).way in
    let vd = depot_still L w n al t k ord.lawful first low c.note.result u v x m z in
    let a = itself v _ (z.held ∙ m.held) in
    still_stands L v _ v a (depot_of w.magazine) w.d way.d (plain_d L v.profile w way) (there_d L v.profile w way) c.yield_region-region.new.self (stands_then u v (depot_of w.magazine) _ _ c.yield_region-region.new.self z.since.grows.adds.same (ap (λ (q : Value). q.kept) vd) (stands_then t u (depot_of w.magazine) _ _ c.yield_region-region.new.self m.since.grows.adds.same m.kept_d y.left))

pub release-requires-2-clause-can : goal.release-requires-2-clause-can
release-requires-2-clause-can g c =
    let L = c.of_books.ensures in
    let t = g.B.Book.account c.args.book.now in
    let w = c.args.w.now in
    let n = c.args.n in
    let al = c.args.al in
    let first = c.args.first in
    let k = c.requires.both in
    let ord = g.met.B.Book.orderly c.args.book.now in
    let low = c.requires.lowest in
    let r = c.yield_region-region.result in
    let kd = (known t (at_depot w)).kept in
    let y = c.yield_region-region.ensures t.site t.profile (depot_of w.magazine) kd c.requires.stands_d (is_depot_too L w n al t k ord.lawful first low) (tidy_depot L w n al t k ord.lawful first low) in
    let can = can_move L w n al t k first ord.caller (omega (arith, c.requires.room)) low in
    let u = g.B.Book.account c.note.new.self in
    let m = moved L w n al t k ord.lawful first low c.note.result u can c.note.ensures in
    let stands_k = adopted L w n al t k ord.lawful first low c.adopt.new.self r _ y c.note.result u m (c.adopt.ensures t.site t.profile w.magazine (known t (at_magazine w)).kept c.requires.stands_k (ap (λ b. b || is_depot w.magazine) k.can.way.magazine) y.space) in
    let v = g.B.Book.account c.make_block-span.new.book in
    let x = c.make_block-span.result in
    let z = c.make_block-span.ensures.tried in
    let way = (can_same u v w n al m.ready.can z.since.grows.adds.same z.since.grows.adds.zones).way in
    let vd = depot_still L w n al t k ord.lawful first low c.note.result u v x m z in
    let a = itself v _ (z.held ∙ m.held) in
    let e = let_down v _ v w.d _ _ a c.release.ensures (drop_d L v.profile w way) in
    can_release L v _ _ e w.magazine w.k way.k (plain_k L v.profile w way) way.exists (has_k L v.profile w way) (ap (λ (q : Value). q.duty) z.learns)

pub release-requires-2-clause-stands : goal.release-requires-2-clause-stands
release-requires-2-clause-stands g c =
    let L = c.of_books.ensures in
    let t = g.B.Book.account c.args.book.now in
    let w = c.args.w.now in
    let n = c.args.n in
    let al = c.args.al in
    let first = c.args.first in
    let k = c.requires.both in
    let ord = g.met.B.Book.orderly c.args.book.now in
    let low = c.requires.lowest in
    let r = c.yield_region-region.result in
    let kd = (known t (at_depot w)).kept in
    let y = c.yield_region-region.ensures t.site t.profile (depot_of w.magazine) kd c.requires.stands_d (is_depot_too L w n al t k ord.lawful first low) (tidy_depot L w n al t k ord.lawful first low) in
    let can = can_move L w n al t k first ord.caller (omega (arith, c.requires.room)) low in
    let u = g.B.Book.account c.note.new.self in
    let m = moved L w n al t k ord.lawful first low c.note.result u can c.note.ensures in
    let stands_k = adopted L w n al t k ord.lawful first low c.adopt.new.self r _ y c.note.result u m (c.adopt.ensures t.site t.profile w.magazine (known t (at_magazine w)).kept c.requires.stands_k (ap (λ b. b || is_depot w.magazine) k.can.way.magazine) y.space) in
    let v = g.B.Book.account c.make_block-span.new.book in
    let x = c.make_block-span.result in
    let z = c.make_block-span.ensures.tried in
    let way = (can_same u v w n al m.ready.can z.since.grows.adds.same z.since.grows.adds.zones).way in
    let vd = depot_still L w n al t k ord.lawful first low c.note.result u v x m z in
    let a = itself v _ (z.held ∙ m.held) in
    let e = let_down v _ v w.d _ _ a c.release.ensures (drop_d L v.profile w way) in
    still_stands L v _ _ e w.magazine w.k way.k (plain_k L v.profile w way) way.exists c.make_block-span.new.magazine c.make_block-span.ensures.stands

pub returns : goal.returns
returns g c =
    let L = c.of_books.ensures in
    let t = g.B.Book.account c.args.book.now in
    let w = c.args.w.now in
    let n = c.args.n in
    let al = c.args.al in
    let first = c.args.first in
    let k = c.requires.both in
    let ord = g.met.B.Book.orderly c.args.book.now in
    let low = c.requires.lowest in
    let r = c.yield_region-region.result in
    let kd = (known t (at_depot w)).kept in
    let y = c.yield_region-region.ensures t.site t.profile (depot_of w.magazine) kd c.requires.stands_d (is_depot_too L w n al t k ord.lawful first low) (tidy_depot L w n al t k ord.lawful first low) in
    let can = can_move L w n al t k first ord.caller (omega (arith, c.requires.room)) low in
    let u = g.B.Book.account c.note.new.self in
    let m = moved L w n al t k ord.lawful first low c.note.result u can c.note.ensures in
    let stands_k = adopted L w n al t k ord.lawful first low c.adopt.new.self r _ y c.note.result u m (c.adopt.ensures t.site t.profile w.magazine (known t (at_magazine w)).kept c.requires.stands_k (ap (λ b. b || is_depot w.magazine) k.can.way.magazine) y.space) in
    let v = g.B.Book.account c.make_block-span.new.book in
    let x = c.make_block-span.result in
    let z = c.make_block-span.ensures.tried in
    let way = (can_same u v w n al m.ready.can z.since.grows.adds.same z.since.grows.adds.zones).way in
    let vd = depot_still L w n al t k ord.lawful first low c.note.result u v x m z in
    let a = itself v _ (z.held ∙ m.held) in
    let e = let_down v _ v w.d _ _ a c.release.ensures (drop_d L v.profile w way) in
    moved_over L w n al t k ord.lawful first low c.note.result u v _ x m z (let_down v _ _ w.k _ _ e c.release-2.ensures (drop_k L v.profile w way))
