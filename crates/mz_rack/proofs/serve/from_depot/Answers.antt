use Rattle.std.proofs.Common.{◌≤◌, ap, subst, arith}
use Rattle.mz_events.specs.Places.{depot_of}
use Rattle.mz_events.specs.State.{Value}
use Rattle.mz_book.specs.Account.{known}
use Rattle.mz_rack.specs.Answering.{FoundRoom}
use Rattle.mz_rack.specs.Stages.{at_depot}
use Rattle.mz_rack.proofs.Steps.{can_hold, above_d, below_d, keeps_at, stands_then, plain_d, there_d}
use Rattle.mz_rack.proofs.Moving.{held_both, can_full_depot, full_both, served_moved, served_depot_full, is_depot_of, size_in_depot, may_ask_depot}
use Rattle.mz_rack.proofs.Tidying.{tidy_of}
use Rattle.mz_rack.proofs.serve.from_depot.Goals as goal

pub hold-depot-requires : goal.hold-depot-requires
hold-depot-requires g c =
    let L = c.of_books.ensures in
    let s = g.B.Book.account c.args.book.now in
    let w = c.args.w.now in
    let n = c.args.n in
    let al = c.args.al in
    let f = c.requires.full in
    can_hold s w.d _ f.held (below_d L s.profile w f.can.way) (above_d L s.profile w f.can.way)

pub fits-requires : goal.fits-requires
fits-requires g c =
    let L = c.of_books.ensures in
    let s = g.B.Book.account c.args.book.now in
    let w = c.args.w.now in
    let n = c.args.n in
    let al = c.args.al in
    let f = c.requires.full in
    let t = g.B.Book.account c.hold-depot.new.self in
    let h = held_both L w n al s t f c.hold-depot.ensures.holds in
    let ord = g.met.B.Book.orderly c.hold-depot.new.self in
    let k = h.both in
    let way = k.can.way in
    let stands_d = keeps_at L t (depot_of w.magazine) w.d way.d (plain_d L t.profile w way) (there_d L t.profile w way) c.hold-depot.result c.hold-depot.ensures.stands in
    let stands_k = stands_then s t w.magazine _ _ c.args.magazine h.since.grows.adds.same (ap (λ (q : Value). q.kept) h.same_k) c.requires.stands in
    may_ask_depot L w n al t k c.hold-depot.result stands_d

pub move_over-requires-clause-both : goal.move_over-requires-clause-both
move_over-requires-clause-both g c =
    let L = c.of_books.ensures in
    let s = g.B.Book.account c.args.book.now in
    let w = c.args.w.now in
    let n = c.args.n in
    let al = c.args.al in
    let f = c.requires.full in
    let t = g.B.Book.account c.hold-depot.new.self in
    let h = held_both L w n al s t f c.hold-depot.ensures.holds in
    let ord = g.met.B.Book.orderly c.hold-depot.new.self in
    let k = h.both in
    let way = k.can.way in
    let stands_d = keeps_at L t (depot_of w.magazine) w.d way.d (plain_d L t.profile w way) (there_d L t.profile w way) c.hold-depot.result c.hold-depot.ensures.stands in
    let stands_k = stands_then s t w.magazine _ _ c.args.magazine h.since.grows.adds.same (ap (λ (q : Value). q.kept) h.same_k) c.requires.stands in
    let room : 35 ≤ t.spare = omega (arith, h.since.grows.adds.spare, c.requires.room) in
    k

pub move_over-requires-clause-room : goal.move_over-requires-clause-room
move_over-requires-clause-room g c =
    let L = c.of_books.ensures in
    let s = g.B.Book.account c.args.book.now in
    let w = c.args.w.now in
    let n = c.args.n in
    let al = c.args.al in
    let f = c.requires.full in
    let t = g.B.Book.account c.hold-depot.new.self in
    let h = held_both L w n al s t f c.hold-depot.ensures.holds in
    let ord = g.met.B.Book.orderly c.hold-depot.new.self in
    let k = h.both in
    let way = k.can.way in
    let stands_d = keeps_at L t (depot_of w.magazine) w.d way.d (plain_d L t.profile w way) (there_d L t.profile w way) c.hold-depot.result c.hold-depot.ensures.stands in
    let stands_k = stands_then s t w.magazine _ _ c.args.magazine h.since.grows.adds.same (ap (λ (q : Value). q.kept) h.same_k) c.requires.stands in
    let room : 35 ≤ t.spare = omega (arith, h.since.grows.adds.spare, c.requires.room) in
    omega (arith, room)

pub move_over-requires-clause-stands_k : goal.move_over-requires-clause-stands_k
move_over-requires-clause-stands_k g c =
    let L = c.of_books.ensures in
    let s = g.B.Book.account c.args.book.now in
    let w = c.args.w.now in
    let n = c.args.n in
    let al = c.args.al in
    let f = c.requires.full in
    let t = g.B.Book.account c.hold-depot.new.self in
    let h = held_both L w n al s t f c.hold-depot.ensures.holds in
    let ord = g.met.B.Book.orderly c.hold-depot.new.self in
    let k = h.both in
    let way = k.can.way in
    let stands_d = keeps_at L t (depot_of w.magazine) w.d way.d (plain_d L t.profile w way) (there_d L t.profile w way) c.hold-depot.result c.hold-depot.ensures.stands in
    let stands_k = stands_then s t w.magazine _ _ c.args.magazine h.since.grows.adds.same (ap (λ (q : Value). q.kept) h.same_k) c.requires.stands in
    let room : 35 ≤ t.spare = omega (arith, h.since.grows.adds.spare, c.requires.room) in
    stands_k

pub move_over-requires-clause-stands_d : goal.move_over-requires-clause-stands_d
move_over-requires-clause-stands_d g c =
    let L = c.of_books.ensures in
    let s = g.B.Book.account c.args.book.now in
    let w = c.args.w.now in
    let n = c.args.n in
    let al = c.args.al in
    let f = c.requires.full in
    let t = g.B.Book.account c.hold-depot.new.self in
    let h = held_both L w n al s t f c.hold-depot.ensures.holds in
    let ord = g.met.B.Book.orderly c.hold-depot.new.self in
    let k = h.both in
    let way = k.can.way in
    let stands_d = keeps_at L t (depot_of w.magazine) w.d way.d (plain_d L t.profile w way) (there_d L t.profile w way) c.hold-depot.result c.hold-depot.ensures.stands in
    let stands_k = stands_then s t w.magazine _ _ c.args.magazine h.since.grows.adds.same (ap (λ (q : Value). q.kept) h.same_k) c.requires.stands in
    let room : 35 ≤ t.spare = omega (arith, h.since.grows.adds.spare, c.requires.room) in
    stands_d

pub move_over-requires-clause-lowest : goal.move_over-requires-clause-lowest
move_over-requires-clause-lowest g c =
    let L = c.of_books.ensures in
    let s = g.B.Book.account c.args.book.now in
    let w = c.args.w.now in
    let n = c.args.n in
    let al = c.args.al in
    let f = c.requires.full in
    let t = g.B.Book.account c.hold-depot.new.self in
    let h = held_both L w n al s t f c.hold-depot.ensures.holds in
    let ord = g.met.B.Book.orderly c.hold-depot.new.self in
    let k = h.both in
    let way = k.can.way in
    let stands_d = keeps_at L t (depot_of w.magazine) w.d way.d (plain_d L t.profile w way) (there_d L t.profile w way) c.hold-depot.result c.hold-depot.ensures.stands in
    let stands_k = stands_then s t w.magazine _ _ c.args.magazine h.since.grows.adds.same (ap (λ (q : Value). q.kept) h.same_k) c.requires.stands in
    let room : 35 ≤ t.spare = omega (arith, h.since.grows.adds.spare, c.requires.room) in
    let p = c.fits.ensures t.site t.profile (depot_of w.magazine) (known t (at_depot w)).kept stands_d (is_depot_of L w n al t k) (size_in_depot L w n al t k) (tidy_of L t ord.lawful (depot_of w.magazine) (plain_d L t.profile w way) (L.depot t.profile w.magazine way.magazine).depot.not_large) in
    subst (λ o. FoundRoom (known t (at_depot w)).kept n al o) c.in-Some.is p

pub returns-in-Some : goal.returns-in-Some
returns-in-Some g c =
    let L = c.of_books.ensures in
    let s = g.B.Book.account c.args.book.now in
    let w = c.args.w.now in
    let n = c.args.n in
    let al = c.args.al in
    let f = c.requires.full in
    let t = g.B.Book.account c.hold-depot.new.self in
    let h = held_both L w n al s t f c.hold-depot.ensures.holds in
    let ord = g.met.B.Book.orderly c.hold-depot.new.self in
    let k = h.both in
    let way = k.can.way in
    let stands_d = keeps_at L t (depot_of w.magazine) w.d way.d (plain_d L t.profile w way) (there_d L t.profile w way) c.hold-depot.result c.hold-depot.ensures.stands in
    let stands_k = stands_then s t w.magazine _ _ c.args.magazine h.since.grows.adds.same (ap (λ (q : Value). q.kept) h.same_k) c.requires.stands in
    let room : 35 ≤ t.spare = omega (arith, h.since.grows.adds.spare, c.requires.room) in
    let p = c.fits.ensures t.site t.profile (depot_of w.magazine) (known t (at_depot w)).kept stands_d (is_depot_of L w n al t k) (size_in_depot L w n al t k) (tidy_of L t ord.lawful (depot_of w.magazine) (plain_d L t.profile w way) (L.depot t.profile w.magazine way.magazine).depot.not_large) in
    served_moved L w n al s t _ c.args.full c.in-Some.first c.move_over.result h c.move_over.ensures

pub note-depot_full-requires : goal.note-depot_full-requires
note-depot_full-requires g c =
    let L = c.of_books.ensures in
    let s = g.B.Book.account c.args.book.now in
    let w = c.args.w.now in
    let n = c.args.n in
    let al = c.args.al in
    let f = c.requires.full in
    let t = g.B.Book.account c.hold-depot.new.self in
    let h = held_both L w n al s t f c.hold-depot.ensures.holds in
    let ord = g.met.B.Book.orderly c.hold-depot.new.self in
    let k = h.both in
    let way = k.can.way in
    let stands_d = keeps_at L t (depot_of w.magazine) w.d way.d (plain_d L t.profile w way) (there_d L t.profile w way) c.hold-depot.result c.hold-depot.ensures.stands in
    let stands_k = stands_then s t w.magazine _ _ c.args.magazine h.since.grows.adds.same (ap (λ (q : Value). q.kept) h.same_k) c.requires.stands in
    let room : 35 ≤ t.spare = omega (arith, h.since.grows.adds.spare, c.requires.room) in
    let p = c.fits.ensures t.site t.profile (depot_of w.magazine) (known t (at_depot w)).kept stands_d (is_depot_of L w n al t k) (size_in_depot L w n al t k) (tidy_of L t ord.lawful (depot_of w.magazine) (plain_d L t.profile w way) (L.depot t.profile w.magazine way.magazine).depot.not_large) in
    let q = subst (λ o. FoundRoom (known t (at_depot w)).kept n al o) c.in-None.is p in
    let can = can_full_depot L w n al t k ord.caller (omega (arith, room)) q in
    can

pub from_pages-requires-clause-full : goal.from_pages-requires-clause-full
from_pages-requires-clause-full g c =
    let L = c.of_books.ensures in
    let s = g.B.Book.account c.args.book.now in
    let w = c.args.w.now in
    let n = c.args.n in
    let al = c.args.al in
    let f = c.requires.full in
    let t = g.B.Book.account c.hold-depot.new.self in
    let h = held_both L w n al s t f c.hold-depot.ensures.holds in
    let ord = g.met.B.Book.orderly c.hold-depot.new.self in
    let k = h.both in
    let way = k.can.way in
    let stands_d = keeps_at L t (depot_of w.magazine) w.d way.d (plain_d L t.profile w way) (there_d L t.profile w way) c.hold-depot.result c.hold-depot.ensures.stands in
    let stands_k = stands_then s t w.magazine _ _ c.args.magazine h.since.grows.adds.same (ap (λ (q : Value). q.kept) h.same_k) c.requires.stands in
    let room : 35 ≤ t.spare = omega (arith, h.since.grows.adds.spare, c.requires.room) in
    let p = c.fits.ensures t.site t.profile (depot_of w.magazine) (known t (at_depot w)).kept stands_d (is_depot_of L w n al t k) (size_in_depot L w n al t k) (tidy_of L t ord.lawful (depot_of w.magazine) (plain_d L t.profile w way) (L.depot t.profile w.magazine way.magazine).depot.not_large) in
    let q = subst (λ o. FoundRoom (known t (at_depot w)).kept n al o) c.in-None.is p in
    let can = can_full_depot L w n al t k ord.caller (omega (arith, room)) q in
    let u = g.B.Book.account c.note-depot_full.new.self in
    let b = full_both L w n al s t u c.note-depot_full.result h can c.note-depot_full.ensures in
    b.full

pub from_pages-requires-clause-room : goal.from_pages-requires-clause-room
from_pages-requires-clause-room g c =
    let L = c.of_books.ensures in
    let s = g.B.Book.account c.args.book.now in
    let w = c.args.w.now in
    let n = c.args.n in
    let al = c.args.al in
    let f = c.requires.full in
    let t = g.B.Book.account c.hold-depot.new.self in
    let h = held_both L w n al s t f c.hold-depot.ensures.holds in
    let ord = g.met.B.Book.orderly c.hold-depot.new.self in
    let k = h.both in
    let way = k.can.way in
    let stands_d = keeps_at L t (depot_of w.magazine) w.d way.d (plain_d L t.profile w way) (there_d L t.profile w way) c.hold-depot.result c.hold-depot.ensures.stands in
    let stands_k = stands_then s t w.magazine _ _ c.args.magazine h.since.grows.adds.same (ap (λ (q : Value). q.kept) h.same_k) c.requires.stands in
    let room : 35 ≤ t.spare = omega (arith, h.since.grows.adds.spare, c.requires.room) in
    let p = c.fits.ensures t.site t.profile (depot_of w.magazine) (known t (at_depot w)).kept stands_d (is_depot_of L w n al t k) (size_in_depot L w n al t k) (tidy_of L t ord.lawful (depot_of w.magazine) (plain_d L t.profile w way) (L.depot t.profile w.magazine way.magazine).depot.not_large) in
    let q = subst (λ o. FoundRoom (known t (at_depot w)).kept n al o) c.in-None.is p in
    let can = can_full_depot L w n al t k ord.caller (omega (arith, room)) q in
    let u = g.B.Book.account c.note-depot_full.new.self in
    let b = full_both L w n al s t u c.note-depot_full.result h can c.note-depot_full.ensures in
    omega (arith, b.since.grows.adds.spare, c.requires.room)

pub from_pages-requires-clause-stands_k : goal.from_pages-requires-clause-stands_k
from_pages-requires-clause-stands_k g c =
    let L = c.of_books.ensures in
    let s = g.B.Book.account c.args.book.now in
    let w = c.args.w.now in
    let n = c.args.n in
    let al = c.args.al in
    let f = c.requires.full in
    let t = g.B.Book.account c.hold-depot.new.self in
    let h = held_both L w n al s t f c.hold-depot.ensures.holds in
    let ord = g.met.B.Book.orderly c.hold-depot.new.self in
    let k = h.both in
    let way = k.can.way in
    let stands_d = keeps_at L t (depot_of w.magazine) w.d way.d (plain_d L t.profile w way) (there_d L t.profile w way) c.hold-depot.result c.hold-depot.ensures.stands in
    let stands_k = stands_then s t w.magazine _ _ c.args.magazine h.since.grows.adds.same (ap (λ (q : Value). q.kept) h.same_k) c.requires.stands in
    let room : 35 ≤ t.spare = omega (arith, h.since.grows.adds.spare, c.requires.room) in
    let p = c.fits.ensures t.site t.profile (depot_of w.magazine) (known t (at_depot w)).kept stands_d (is_depot_of L w n al t k) (size_in_depot L w n al t k) (tidy_of L t ord.lawful (depot_of w.magazine) (plain_d L t.profile w way) (L.depot t.profile w.magazine way.magazine).depot.not_large) in
    let q = subst (λ o. FoundRoom (known t (at_depot w)).kept n al o) c.in-None.is p in
    let can = can_full_depot L w n al t k ord.caller (omega (arith, room)) q in
    let u = g.B.Book.account c.note-depot_full.new.self in
    let b = full_both L w n al s t u c.note-depot_full.result h can c.note-depot_full.ensures in
    let same = b.after.grows.adds.same in
    stands_then t u w.magazine _ _ c.args.magazine same (ap (λ (q : Value). q.kept) b.same_k) stands_k

pub from_pages-requires-clause-stands_d : goal.from_pages-requires-clause-stands_d
from_pages-requires-clause-stands_d g c =
    let L = c.of_books.ensures in
    let s = g.B.Book.account c.args.book.now in
    let w = c.args.w.now in
    let n = c.args.n in
    let al = c.args.al in
    let f = c.requires.full in
    let t = g.B.Book.account c.hold-depot.new.self in
    let h = held_both L w n al s t f c.hold-depot.ensures.holds in
    let ord = g.met.B.Book.orderly c.hold-depot.new.self in
    let k = h.both in
    let way = k.can.way in
    let stands_d = keeps_at L t (depot_of w.magazine) w.d way.d (plain_d L t.profile w way) (there_d L t.profile w way) c.hold-depot.result c.hold-depot.ensures.stands in
    let stands_k = stands_then s t w.magazine _ _ c.args.magazine h.since.grows.adds.same (ap (λ (q : Value). q.kept) h.same_k) c.requires.stands in
    let room : 35 ≤ t.spare = omega (arith, h.since.grows.adds.spare, c.requires.room) in
    let p = c.fits.ensures t.site t.profile (depot_of w.magazine) (known t (at_depot w)).kept stands_d (is_depot_of L w n al t k) (size_in_depot L w n al t k) (tidy_of L t ord.lawful (depot_of w.magazine) (plain_d L t.profile w way) (L.depot t.profile w.magazine way.magazine).depot.not_large) in
    let q = subst (λ o. FoundRoom (known t (at_depot w)).kept n al o) c.in-None.is p in
    let can = can_full_depot L w n al t k ord.caller (omega (arith, room)) q in
    let u = g.B.Book.account c.note-depot_full.new.self in
    let b = full_both L w n al s t u c.note-depot_full.result h can c.note-depot_full.ensures in
    let same = b.after.grows.adds.same in
    stands_then t u (depot_of w.magazine) _ _ c.hold-depot.result same b.kept_d stands_d

pub returns-in-None : goal.returns-in-None
returns-in-None g c =
    let L = c.of_books.ensures in
    let s = g.B.Book.account c.args.book.now in
    let w = c.args.w.now in
    let n = c.args.n in
    let al = c.args.al in
    let f = c.requires.full in
    let t = g.B.Book.account c.hold-depot.new.self in
    let h = held_both L w n al s t f c.hold-depot.ensures.holds in
    let ord = g.met.B.Book.orderly c.hold-depot.new.self in
    let k = h.both in
    let way = k.can.way in
    let stands_d = keeps_at L t (depot_of w.magazine) w.d way.d (plain_d L t.profile w way) (there_d L t.profile w way) c.hold-depot.result c.hold-depot.ensures.stands in
    let stands_k = stands_then s t w.magazine _ _ c.args.magazine h.since.grows.adds.same (ap (λ (q : Value). q.kept) h.same_k) c.requires.stands in
    let room : 35 ≤ t.spare = omega (arith, h.since.grows.adds.spare, c.requires.room) in
    let p = c.fits.ensures t.site t.profile (depot_of w.magazine) (known t (at_depot w)).kept stands_d (is_depot_of L w n al t k) (size_in_depot L w n al t k) (tidy_of L t ord.lawful (depot_of w.magazine) (plain_d L t.profile w way) (L.depot t.profile w.magazine way.magazine).depot.not_large) in
    let q = subst (λ o. FoundRoom (known t (at_depot w)).kept n al o) c.in-None.is p in
    let can = can_full_depot L w n al t k ord.caller (omega (arith, room)) q in
    let u = g.B.Book.account c.note-depot_full.new.self in
    let b = full_both L w n al s t u c.note-depot_full.result h can c.note-depot_full.ensures in
    let same = b.after.grows.adds.same in
    served_depot_full L w n al s t u _ c.args.full c.note-depot_full.result c.from_pages.result h b c.from_pages.ensures
