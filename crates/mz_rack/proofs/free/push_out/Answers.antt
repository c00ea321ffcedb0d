use Rattle.std.proofs.Common.{◌≤◌, refl, ap, arith}
use Rattle.mz_events.specs.declared.place.Place.TheVariants.{Pages, Large}
use Rattle.mz_events.specs.State.{Value}
use Rattle.mz_events.specs.Changes.{without_run}
use Rattle.mz_book.specs.Account.{known}
use Rattle.mz_large.specs.Large.{run_of_span}
use Rattle.mz_rack.specs.Stages.{at_pages}
use Rattle.mz_rack.proofs.Steps.{keeps_at, stands_then}
use Rattle.mz_rack.proofs.Answered.{MomentLaws}
use Rattle.mz_rack.proofs.LargeLemmas.{as_run, was_noted}
use Rattle.mz_rack.proofs.PushingOut.{can_hold_pages, can_push, way_t, way_u, held_u, calm_l, calm_p, kept_l, kept_p, after, oldest_t, large_t, is_lacked, large_here, pages_here, has_pushed}
use Rattle.mz_rack.proofs.free.push_out.Goals as goal

pub hold-pages-requires : goal.hold-pages-requires
hold-pages-requires g c =
    can_hold_pages c.of_books.ensures (g.B.Book.account c.args.book.now) c.args.w.now c.args.run c.requires.owes

pub note-requires : goal.note-requires
note-requires g c =
    let L = c.of_books.ensures in
    let s = g.B.Book.account c.args.book.now in
    let w = c.args.w.now in
    let x = c.args.run in
    let o = c.requires.owes in
    let t = g.B.Book.account c.hold-pages.new.self in
    let h = c.hold-pages.ensures.holds in
    let ord = g.met.B.Book.orderly c.hold-pages.new.self in
    let since = L.hold s t w.p h in
    let room : 1 ≤ t.spare = omega (arith, since.grows.adds.spare, c.requires.room) in
    let can = can_push L s w x o t h ord.caller room in
    as_run t w.zone x c.first.result c.len.result c.first.ensures.value c.len.ensures.value can

pub put_run_back-requires : goal.put_run_back-requires
put_run_back-requires g c =
    let L = c.of_books.ensures in
    let s = g.B.Book.account c.args.book.now in
    let w = c.args.w.now in
    let x = c.args.run in
    let o = c.requires.owes in
    let t = g.B.Book.account c.hold-pages.new.self in
    let h = c.hold-pages.ensures.holds in
    let ord = g.met.B.Book.orderly c.hold-pages.new.self in
    let since = L.hold s t w.p h in
    let room : 1 ≤ t.spare = omega (arith, since.grows.adds.spare, c.requires.room) in
    let can = can_push L s w x o t h ord.caller room in
    let stands = keeps_at L t Pages w.p (way_t L s w x o t h).pages_is refl refl c.hold-pages.result c.hold-pages.ensures.stands in
    record {
      space = t.site;
      profile = t.profile;
      kept = (known t at_pages).kept;
      stands = stands;
      of_space = (oldest_t L s w x o t h).space;
      lacked = is_lacked L t w.zone x (oldest_t L s w x o t h) (large_here L s w x o t h) (pages_here L s w x o t h) ord.lawful;
    }

pub let_both_go-requires : goal.let_both_go-requires
let_both_go-requires g c =
    let L = c.of_books.ensures in
    let s = g.B.Book.account c.args.book.now in
    let w = c.args.w.now in
    let x = c.args.run in
    let o = c.requires.owes in
    let t = g.B.Book.account c.hold-pages.new.self in
    let h = c.hold-pages.ensures.holds in
    let ord = g.met.B.Book.orderly c.hold-pages.new.self in
    let since = L.hold s t w.p h in
    let room : 1 ≤ t.spare = omega (arith, since.grows.adds.spare, c.requires.room) in
    let can = can_push L s w x o t h ord.caller room in
    let u = g.B.Book.account c.note.new.self in
    let i = c.note.result in
    let n = was_noted t u w.zone i x c.first.result c.len.result c.first.ensures.value c.len.ensures.value c.note.ensures in
    let same = (after L s w x o t h i u can n).grows.adds.same in
    let stands = keeps_at L t Pages w.p (way_t L s w x o t h).pages_is refl refl c.hold-pages.result c.hold-pages.ensures.stands in
    let lacked = is_lacked L t w.zone x (oldest_t L s w x o t h) (large_here L s w x o t h) (pages_here L s w x o t h) ord.lawful in
    let back = c.put_run_back.ensures t.site t.profile w.zone (known t at_pages).kept stands lacked in
    let at_t = stands_then s t (Large w.zone) _ _ c.args.large since.grows.adds.same (ap (λ (y : Value). without_run (run_of_span x) y.kept) (large_t L s w x o t h)) c.requires.stands in
    record {
      way = way_u L s w x o t h i u can n;
      both = record { held = held_u L s w x o t h i u can n; calm_l = calm_l L s w x o t h i u can n; calm_p = calm_p L s w x o t h i u can n };
      stands_l = stands_then t u (Large w.zone) _ _ c.args.large same (kept_l L s w x o t h i u can n) at_t;
      stands_p = stands_then t u Pages _ _ c.put_run_back.new.self same (kept_p L s w x o t h i u can n) back;
    }

pub returns : goal.returns
returns g c =
    let L = c.of_books.ensures in
    let s = g.B.Book.account c.args.book.now in
    let w = c.args.w.now in
    let x = c.args.run in
    let o = c.requires.owes in
    let t = g.B.Book.account c.hold-pages.new.self in
    let h = c.hold-pages.ensures.holds in
    let ord = g.met.B.Book.orderly c.hold-pages.new.self in
    let since = L.hold s t w.p h in
    let room : 1 ≤ t.spare = omega (arith, since.grows.adds.spare, c.requires.room) in
    let can = can_push L s w x o t h ord.caller room in
    let u = g.B.Book.account c.note.new.self in
    let i = c.note.result in
    let n = was_noted t u w.zone i x c.first.result c.len.result c.first.ensures.value c.len.ensures.value c.note.ensures in
    let moments : MomentLaws = record { before = c.moments.ensures.before; after_one = c.states_split.ensures.one; after_joined = c.states_split.ensures.joined } in
    let y = g.B.Book.account c.let_both_go.new.book in
    has_pushed L s w x o t h i u can n moments y (g.met.B.Book.orderly c.let_both_go.new.book).lawful c.let_both_go.ensures.after
