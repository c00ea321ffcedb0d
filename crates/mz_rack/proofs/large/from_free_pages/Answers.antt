use Rattle.std.proofs.Common.{length, sym, ap, subst, ◌∙◌, refl, arith}
use Rattle.std.proofs.lemmas.List.{append-nil}
use Rattle.mz_events.specs.declared.place.Place.TheVariants.{Pages, Large}
use Rattle.mz_events.specs.State.{Value}
use Rattle.mz_large.specs.Large.{run_of_span}
use Rattle.mz_book.specs.Account.{known}
use Rattle.mz_rack.specs.Stages.{at_pages}
use Rattle.mz_rack.specs.LargeStages.{IsLargeWay}
use Rattle.mz_rack.proofs.Steps.{can_hold, keeps_at, stands_then}
use Rattle.mz_rack.proofs.Seeking.{few_flushed}
use Rattle.mz_rack.proofs.LargeSteps.{above_p}
use Rattle.mz_rack.proofs.LargeServing.{held_pages, can_seek, seeks_still, pages_of_large, served_by_run, served_dry}
use Rattle.mz_rack.proofs.large.from_free_pages.Goals as goal

pub hold-pages-requires : goal.hold-pages-requires
hold-pages-requires g c =
    let s = g.B.Book.account c.args.book.now in
    let w = c.args.w.now in
    let r = c.requires.none.ready in
    can_hold s w.p _ r.held r.can.way.p_below (above_p c.of_books.ensures s.profile w r.can.way)

pub seek-requires : goal.seek-requires
seek-requires g c =
    let L = c.of_books.ensures in
    let s = g.B.Book.account c.args.book.now in
    let u = g.B.Book.account c.hold-pages.new.self in
    let w = c.args.w.now in
    let h = held_pages L w c.args.n c.args.al s u c.requires.none c.hold-pages.ensures.holds in
    let few = L.few_cached u.profile u.seen w.zone (g.met.B.Book.orderly c.hold-pages.new.self).lawful h.seeks.both.calm_l in
    record {
      can = can_seek L w c.args.n c.args.al u h.seeks;
      room = omega (arith, few, h.since.grows.adds.spare, c.requires.room);
      stands_l = stands_then s u (Large w.zone) _ _ c.args.large h.since.grows.adds.same (ap (λ (v : Value). v.kept) h.same_l) c.requires.stands;
      stands_p = keeps_at L u Pages w.p h.seeks.can.way.pages_is refl refl c.hold-pages.result c.hold-pages.ensures.stands;
    }

pub make_run-requires : goal.make_run-requires
make_run-requires g c =
    let L = c.of_books.ensures in
    let s = g.B.Book.account c.args.book.now in
    let u = g.B.Book.account c.hold-pages.new.self in
    let v = g.B.Book.account c.seek.new.book in
    let w = c.args.w.now in
    let h = held_pages L w c.args.n c.args.al s u c.requires.none c.hold-pages.ensures.holds in
    let q = c.in-Ok.ensures.sought in
    let few = few_flushed L u v w.zone c.args.n 1 _ (g.met.B.Book.orderly c.hold-pages.new.self).lawful h.seeks.both.calm_l q in
    let none = ap length (append-nil q.flushes) in
    record {
      seeks = seeks_still L w c.args.n c.args.al u h.seeks v _ q;
      room = omega (arith, few, none, q.since.grows.adds.spare, h.since.grows.adds.spare, c.requires.room);
      stands = c.in-Ok.ensures.stands_l;
      found = q.is;
    }

pub let_both_go-requires : goal.let_both_go-requires
let_both_go-requires g c =
    let L = c.of_books.ensures in
    let s = g.B.Book.account c.args.book.now in
    let u = g.B.Book.account c.hold-pages.new.self in
    let v = g.B.Book.account c.seek.new.book in
    let w = c.args.w.now in
    let h = held_pages L w c.args.n c.args.al s u c.requires.none c.hold-pages.ensures.holds in
    let q = c.in-Ok.ensures.sought in
    let k = seeks_still L w c.args.n c.args.al u h.seeks v _ q in
    let x = g.B.Book.account c.make_run.new.book in
    let fr = c.make_run.ensures.fresh in
    let same = fr.since.grows.adds.same in
    record {
      way = subst (λ p. IsLargeWay p w) (sym same.profile) k.can.way;
      both = fr.both;
      stands_l = c.make_run.ensures.stands;
      stands_p = stands_then v x Pages _ _ c.seek.new.pages same (fr.pages ∙ pages_of_large w.zone (run_of_span c.in-Ok.span) (known v at_pages).kept) c.in-Ok.ensures.stands_p;
    }

pub returns-in-Ok : goal.returns-in-Ok
returns-in-Ok g c =
    let L = c.of_books.ensures in
    let s = g.B.Book.account c.args.book.now in
    let u = g.B.Book.account c.hold-pages.new.self in
    let v = g.B.Book.account c.seek.new.book in
    let w = c.args.w.now in
    let h = held_pages L w c.args.n c.args.al s u c.requires.none c.hold-pages.ensures.holds in
    let q = c.in-Ok.ensures.sought in
    let few = few_flushed L u v w.zone c.args.n 1 _ (g.met.B.Book.orderly c.hold-pages.new.self).lawful h.seeks.both.calm_l q in
    served_by_run L w c.args.n c.args.al s u v (g.B.Book.account c.make_run.new.book) (g.B.Book.account c.let_both_go.new.book) c.args.full c.in-Ok.span h q few c.make_run.ensures.fresh c.let_both_go.ensures
    (g.met.B.Book.orderly c.let_both_go.new.book).lawful

pub let_both_go-requires-in-Err : goal.let_both_go-requires-in-Err
let_both_go-requires-in-Err g c =
    let L = c.of_books.ensures in
    let s = g.B.Book.account c.args.book.now in
    let u = g.B.Book.account c.hold-pages.new.self in
    let v = g.B.Book.account c.seek.new.book in
    let w = c.args.w.now in
    let h = held_pages L w c.args.n c.args.al s u c.requires.none c.hold-pages.ensures.holds in
    let k = seeks_still L w c.args.n c.args.al u h.seeks v _ c.in-Err.ensures.sought in
    record { way = k.can.way; both = k.both; stands_l = c.in-Err.ensures.stands_l; stands_p = c.in-Err.ensures.stands_p }

pub returns-in-Err : goal.returns-in-Err
returns-in-Err g c =
    let L = c.of_books.ensures in
    let s = g.B.Book.account c.args.book.now in
    let u = g.B.Book.account c.hold-pages.new.self in
    let v = g.B.Book.account c.seek.new.book in
    let w = c.args.w.now in
    let h = held_pages L w c.args.n c.args.al s u c.requires.none c.hold-pages.ensures.holds in
    let q = c.in-Err.ensures.sought in
    let few = few_flushed L u v w.zone c.args.n 1 _ (g.met.B.Book.orderly c.hold-pages.new.self).lawful h.seeks.both.calm_l q in
    served_dry L w c.args.n c.args.al s u v (g.B.Book.account c.let_both_go-in-Err.new.book) c.args.full c.in-Err.dry h q few c.let_both_go-in-Err.ensures (g.met.B.Book.orderly c.let_both_go-in-Err.new.book).lawful
