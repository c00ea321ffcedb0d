use Rattle.std.proofs.Common.{◌≤◌, [], ap, subst, ◌∙◌, refl, arith}
use Rattle.mz_events.specs.State.{Value}
use Rattle.mz_rack.specs.Stages.{Tried}
use Rattle.mz_rack.proofs.Steps.{can_same, can_hold, below_k, keeps_at, plain_k, itself, can_release, still_stands, has_k, drop_k, let_down}
use Rattle.mz_rack.proofs.Moving.{held_one, full_one, served_one, served_full}
use Rattle.mz_rack.proofs.serve.serve.Goals as goal

pub hold-magazine-requires : goal.hold-magazine-requires
hold-magazine-requires g c =
    let L = c.of_books.ensures in
    let s = g.B.Book.account c.args.book.now in
    let w = c.args.w.now in
    let n = c.args.n in
    let al = c.args.al in
    can_hold s w.k [] c.requires.nothing_held (below_k L s.profile w c.requires.can.way) refl

pub try_block-requires-clause-ready : goal.try_block-requires-clause-ready
try_block-requires-clause-ready g c =
    let L = c.of_books.ensures in
    let s = g.B.Book.account c.args.book.now in
    let w = c.args.w.now in
    let n = c.args.n in
    let al = c.args.al in
    let t = g.B.Book.account c.hold-magazine.new.self in
    let h = held_one L w n al s t c.requires.can c.requires.nothing_held c.hold-magazine.ensures.holds in
    h.ready

pub try_block-requires-clause-room : goal.try_block-requires-clause-room
try_block-requires-clause-room g c =
    let L = c.of_books.ensures in
    let s = g.B.Book.account c.args.book.now in
    let w = c.args.w.now in
    let n = c.args.n in
    let al = c.args.al in
    let t = g.B.Book.account c.hold-magazine.new.self in
    let h = held_one L w n al s t c.requires.can c.requires.nothing_held c.hold-magazine.ensures.holds in
    let way = h.ready.can.way in
    let room : 36 ≤ t.spare = omega (arith, h.since.grows.adds.spare, c.requires.room) in
    omega (arith, room)

pub try_block-requires-clause-stands : goal.try_block-requires-clause-stands
try_block-requires-clause-stands g c =
    let L = c.of_books.ensures in
    let s = g.B.Book.account c.args.book.now in
    let w = c.args.w.now in
    let n = c.args.n in
    let al = c.args.al in
    let t = g.B.Book.account c.hold-magazine.new.self in
    let h = held_one L w n al s t c.requires.can c.requires.nothing_held c.hold-magazine.ensures.holds in
    let way = h.ready.can.way in
    keeps_at L t w.magazine w.k way.k (plain_k L t.profile w way) way.exists c.hold-magazine.result c.hold-magazine.ensures.stands

pub release-requires-clause-can : goal.release-requires-clause-can
release-requires-clause-can g c =
    let L = c.of_books.ensures in
    let s = g.B.Book.account c.args.book.now in
    let w = c.args.w.now in
    let n = c.args.n in
    let al = c.args.al in
    let t = g.B.Book.account c.hold-magazine.new.self in
    let h = held_one L w n al s t c.requires.can c.requires.nothing_held c.hold-magazine.ensures.holds in
    let way = h.ready.can.way in
    let room : 36 ≤ t.spare = omega (arith, h.since.grows.adds.spare, c.requires.room) in
    let u = g.B.Book.account c.try_block.new.book in
    let x = c.in-Ok.span in
    let z = subst (λ o. Tried t w n al o u) c.in-Ok.is c.try_block.ensures.tried in
    let way_u = (can_same t u w n al h.ready.can z.since.grows.adds.same z.since.grows.adds.zones).way in
    let a = itself u _ (z.held ∙ h.held) in
    can_release L u _ u a w.magazine w.k way_u.k (plain_k L u.profile w way_u) way_u.exists (has_k L u.profile w way_u) (ap (λ (v : Value). v.duty) z.learns)

pub release-requires-clause-stands : goal.release-requires-clause-stands
release-requires-clause-stands g c =
    let L = c.of_books.ensures in
    let s = g.B.Book.account c.args.book.now in
    let w = c.args.w.now in
    let n = c.args.n in
    let al = c.args.al in
    let t = g.B.Book.account c.hold-magazine.new.self in
    let h = held_one L w n al s t c.requires.can c.requires.nothing_held c.hold-magazine.ensures.holds in
    let way = h.ready.can.way in
    let room : 36 ≤ t.spare = omega (arith, h.since.grows.adds.spare, c.requires.room) in
    let u = g.B.Book.account c.try_block.new.book in
    let x = c.in-Ok.span in
    let z = subst (λ o. Tried t w n al o u) c.in-Ok.is c.try_block.ensures.tried in
    let way_u = (can_same t u w n al h.ready.can z.since.grows.adds.same z.since.grows.adds.zones).way in
    let a = itself u _ (z.held ∙ h.held) in
    still_stands L u _ u a w.magazine w.k way_u.k (plain_k L u.profile w way_u) way_u.exists c.try_block.new.magazine c.try_block.ensures.stands

pub returns-in-Ok : goal.returns-in-Ok
returns-in-Ok g c =
    let L = c.of_books.ensures in
    let s = g.B.Book.account c.args.book.now in
    let w = c.args.w.now in
    let n = c.args.n in
    let al = c.args.al in
    let t = g.B.Book.account c.hold-magazine.new.self in
    let h = held_one L w n al s t c.requires.can c.requires.nothing_held c.hold-magazine.ensures.holds in
    let way = h.ready.can.way in
    let room : 36 ≤ t.spare = omega (arith, h.since.grows.adds.spare, c.requires.room) in
    let u = g.B.Book.account c.try_block.new.book in
    let x = c.in-Ok.span in
    let z = subst (λ o. Tried t w n al o u) c.in-Ok.is c.try_block.ensures.tried in
    let way_u = (can_same t u w n al h.ready.can z.since.grows.adds.same z.since.grows.adds.zones).way in
    let a = itself u _ (z.held ∙ h.held) in
    served_one L w n al s t u _ x h z (let_down u _ u w.k _ _ a c.release.ensures (drop_k L u.profile w way_u))

pub from_depot-requires-clause-full : goal.from_depot-requires-clause-full
from_depot-requires-clause-full g c =
    let L = c.of_books.ensures in
    let s = g.B.Book.account c.args.book.now in
    let w = c.args.w.now in
    let n = c.args.n in
    let al = c.args.al in
    let t = g.B.Book.account c.hold-magazine.new.self in
    let h = held_one L w n al s t c.requires.can c.requires.nothing_held c.hold-magazine.ensures.holds in
    let way = h.ready.can.way in
    let room : 36 ≤ t.spare = omega (arith, h.since.grows.adds.spare, c.requires.room) in
    let u = g.B.Book.account c.try_block.new.book in
    let i = c.in-Err.full in
    let z = subst (λ o. Tried t w n al o u) c.in-Err.is c.try_block.ensures.tried in
    full_one L w n al t u i h.ready h.held z

pub from_depot-requires-clause-room : goal.from_depot-requires-clause-room
from_depot-requires-clause-room g c =
    let L = c.of_books.ensures in
    let s = g.B.Book.account c.args.book.now in
    let w = c.args.w.now in
    let n = c.args.n in
    let al = c.args.al in
    let t = g.B.Book.account c.hold-magazine.new.self in
    let h = held_one L w n al s t c.requires.can c.requires.nothing_held c.hold-magazine.ensures.holds in
    let way = h.ready.can.way in
    let room : 36 ≤ t.spare = omega (arith, h.since.grows.adds.spare, c.requires.room) in
    let u = g.B.Book.account c.try_block.new.book in
    let i = c.in-Err.full in
    let z = subst (λ o. Tried t w n al o u) c.in-Err.is c.try_block.ensures.tried in
    omega (arith, z.since.grows.adds.spare, room)

pub from_depot-requires-clause-stands : goal.from_depot-requires-clause-stands
from_depot-requires-clause-stands g c =
    let L = c.of_books.ensures in
    let s = g.B.Book.account c.args.book.now in
    let w = c.args.w.now in
    let n = c.args.n in
    let al = c.args.al in
    let t = g.B.Book.account c.hold-magazine.new.self in
    let h = held_one L w n al s t c.requires.can c.requires.nothing_held c.hold-magazine.ensures.holds in
    let way = h.ready.can.way in
    let room : 36 ≤ t.spare = omega (arith, h.since.grows.adds.spare, c.requires.room) in
    let u = g.B.Book.account c.try_block.new.book in
    let i = c.in-Err.full in
    let z = subst (λ o. Tried t w n al o u) c.in-Err.is c.try_block.ensures.tried in
    c.try_block.ensures.stands

pub returns-in-Err : goal.returns-in-Err
returns-in-Err g c =
    let L = c.of_books.ensures in
    let s = g.B.Book.account c.args.book.now in
    let w = c.args.w.now in
    let n = c.args.n in
    let al = c.args.al in
    let t = g.B.Book.account c.hold-magazine.new.self in
    let h = held_one L w n al s t c.requires.can c.requires.nothing_held c.hold-magazine.ensures.holds in
    let way = h.ready.can.way in
    let room : 36 ≤ t.spare = omega (arith, h.since.grows.adds.spare, c.requires.room) in
    let u = g.B.Book.account c.try_block.new.book in
    let i = c.in-Err.full in
    let z = subst (λ o. Tried t w n al o u) c.in-Err.is c.try_block.ensures.tried in
    served_full L w n al s t u _ i c.from_depot.result h z c.from_depot.ensures
