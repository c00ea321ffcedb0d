use Rattle.std.proofs.Common.{◌≤◌, length, ap, sym, subst, arith}
use Rattle.std.proofs.lemmas.List.{append-nil}
use Rattle.mz_events.specs.declared.place.Place.TheVariants.{Pages, Large}
use Rattle.mz_events.specs.Places.{depot_of}
use Rattle.mz_events.specs.State.{Value}
use Rattle.mz_book.specs.Account.{known}
use Rattle.mz_rack.specs.Ways.{IsWay}
use Rattle.mz_large.specs.Large.{run_of_span}
use Rattle.mz_rack.specs.Runs.{out_of_pages}
use Rattle.mz_rack.specs.Stages.{at_large, at_pages}
use Rattle.mz_rack.proofs.Steps.{can_hold, above_l, above_p, below_l, below_p, stands_then}
use Rattle.mz_rack.proofs.Taking.{held_two, held_after_l, way_after_l, kept_two, can_seek, sought_k, sought_d, seeks_then, may_fit, length_of_run, is_region, served_fresh, served_null}
use Rattle.mz_rack.proofs.Seeking.{few_flushed}
use Rattle.mz_rack.proofs.serve.from_pages.Goals as goal

pub hold-large-requires : goal.hold-large-requires
hold-large-requires g c =
    let L = c.of_books.ensures in
    let s = g.B.Book.account c.args.book.now in
    let w = c.args.w.now in
    let f = c.requires.full in
    can_hold s w.l _ f.both.held (below_l L s.profile w f.both.can.way) (above_l L s.profile w f.both.can.way)

pub hold-pages-requires : goal.hold-pages-requires
hold-pages-requires g c =
    let L = c.of_books.ensures in
    let s = g.B.Book.account c.args.book.now in
    let w = c.args.w.now in
    let f = c.requires.full in
    let t = g.B.Book.account c.hold-large.new.self in
    let way = way_after_l L w c.args.n c.args.al s t f c.hold-large.ensures.holds in
    can_hold t w.p _ (held_after_l L w c.args.n c.args.al s t f c.hold-large.ensures.holds) (below_p L t.profile w way) (above_p L t.profile w way)

pub seek-requires : goal.seek-requires
seek-requires g c =
    let L = c.of_books.ensures in
    let s = g.B.Book.account c.args.book.now in
    let w = c.args.w.now in
    let t = g.B.Book.account c.hold-large.new.self in
    let u = g.B.Book.account c.hold-pages.new.self in
    let h = held_two L w c.args.n c.args.al s t u c.requires.full c.hold-large.ensures.holds c.hold-pages.ensures.holds in
    let kept = kept_two L w c.args.n c.args.al s t u c.requires.full c.hold-large.ensures.holds c.hold-pages.ensures.holds h c.hold-large.result c.hold-pages.result c.args.magazine c.args.depot c.hold-large.ensures.stands c.hold-pages.ensures.stands c.requires.stands_k c.requires.stands_d in
    let few : length (known u (at_large w)).kept.cached ≤ 16 = L.few_cached u.profile u.seen w.zone (g.met.B.Book.orderly c.hold-pages.new.self).lawful h.seeks.all.calm_l in
    record {
      can = can_seek L w c.args.n c.args.al u h.seeks;
      room = omega (arith, few, h.since.grows.adds.spare, c.requires.room);
      stands_l = kept.of_l;
      stands_p = kept.of_p;
    }

pub fit-region-requires : goal.fit-region-requires
fit-region-requires g c =
    let L = c.of_books.ensures in
    let s = g.B.Book.account c.args.book.now in
    let w = c.args.w.now in
    let t = g.B.Book.account c.hold-large.new.self in
    let u = g.B.Book.account c.hold-pages.new.self in
    let v = g.B.Book.account c.seek.new.book in
    let h = held_two L w c.args.n c.args.al s t u c.requires.full c.hold-large.ensures.holds c.hold-pages.ensures.holds in
    let k = seeks_then L w c.args.n c.args.al u v _ h.seeks c.in-Ok.ensures.sought in
    may_fit L w c.args.n c.args.al v c.in-Ok.run' c.seek.new.pages (g.met.B.Book.orderly c.seek.new.book).lawful k.can.way c.in-Ok.ensures.sought.is c.in-Ok.ensures.stands_p

pub make_fresh-span-requires : goal.make_fresh-span-requires
make_fresh-span-requires g c =
    let L = c.of_books.ensures in
    let s = g.B.Book.account c.args.book.now in
    let w = c.args.w.now in
    let t = g.B.Book.account c.hold-large.new.self in
    let u = g.B.Book.account c.hold-pages.new.self in
    let v = g.B.Book.account c.seek.new.book in
    let h = held_two L w c.args.n c.args.al s t u c.requires.full c.hold-large.ensures.holds c.hold-pages.ensures.holds in
    let kept = kept_two L w c.args.n c.args.al s t u c.requires.full c.hold-large.ensures.holds c.hold-pages.ensures.holds h c.hold-large.result c.hold-pages.result c.args.magazine c.args.depot c.hold-large.ensures.stands c.hold-pages.ensures.stands c.requires.stands_k c.requires.stands_d in
    let q = c.in-Ok.ensures.sought in
    let k = seeks_then L w c.args.n c.args.al u v _ h.seeks q in
    let region = is_region L w c.args.n c.args.al v c.in-Ok.run' c.fit-region.result c.fit-region.new.self q.is
    (c.fit-region.ensures v.site v.profile w.magazine (out_of_pages (run_of_span c.in-Ok.run') (known v at_pages).kept) c.in-Ok.ensures.stands_p k.can.way.magazine (length_of_run L w c.args.n c.args.al v c.in-Ok.run' k.can.way q.is)) in
    let none = ap length (append-nil q.flushes) in
    let few = few_flushed L u v w.zone w.pages w.pages _ (g.met.B.Book.orderly c.hold-pages.new.self).lawful h.seeks.all.calm_l q in
    record {
      seeks = k;
      room = omega (arith, none, few, q.since.grows.adds.spare, h.since.grows.adds.spare, c.requires.room);
      stands = stands_then u v w.magazine _ _ c.args.magazine q.since.grows.adds.same (ap (λ (a : Value). a.kept) (sought_k L w c.args.n c.args.al u v _ h.seeks q)) kept.of_k;
      cut = region.cut;
    }

pub let_go-requires : goal.let_go-requires
let_go-requires g c =
    let L = c.of_books.ensures in
    let s = g.B.Book.account c.args.book.now in
    let w = c.args.w.now in
    let t = g.B.Book.account c.hold-large.new.self in
    let u = g.B.Book.account c.hold-pages.new.self in
    let v = g.B.Book.account c.seek.new.book in
    let h = held_two L w c.args.n c.args.al s t u c.requires.full c.hold-large.ensures.holds c.hold-pages.ensures.holds in
    let kept = kept_two L w c.args.n c.args.al s t u c.requires.full c.hold-large.ensures.holds c.hold-pages.ensures.holds h c.hold-large.result c.hold-pages.result c.args.magazine c.args.depot c.hold-large.ensures.stands c.hold-pages.ensures.stands c.requires.stands_k c.requires.stands_d in
    let q = c.in-Ok.ensures.sought in
    let k = seeks_then L w c.args.n c.args.al u v _ h.seeks q in
    let region = is_region L w c.args.n c.args.al v c.in-Ok.run' c.fit-region.result c.fit-region.new.self q.is
    (c.fit-region.ensures v.site v.profile w.magazine (out_of_pages (run_of_span c.in-Ok.run') (known v at_pages).kept) c.in-Ok.ensures.stands_p k.can.way.magazine (length_of_run L w c.args.n c.args.al v c.in-Ok.run' k.can.way q.is)) in
    let x = g.B.Book.account c.make_fresh-span.new.book in
    let fr = c.make_fresh-span.ensures.fresh in
    let same = fr.since.grows.adds.same in
    let of_d = stands_then u v (depot_of w.magazine) _ _ c.args.depot q.since.grows.adds.same (ap (λ (a : Value). a.kept) (sought_d L w c.args.n c.args.al u v _ h.seeks q)) kept.of_d in
    record {
      way = subst (λ p. IsWay p w) (sym same.profile) k.can.way;
      all = fr.all;
      stands_k = c.make_fresh-span.ensures.stands;
      stands_d = stands_then v x (depot_of w.magazine) _ _ c.args.depot same fr.depot of_d;
      stands_l = stands_then v x (Large w.zone) _ _ c.seek.new.large same fr.large c.in-Ok.ensures.stands_l;
      stands_p = stands_then v x Pages _ _ c.fit-region.new.self same fr.pages region.left;
    }

pub returns-in-Ok : goal.returns-in-Ok
returns-in-Ok g c =
    let L = c.of_books.ensures in
    let s = g.B.Book.account c.args.book.now in
    let w = c.args.w.now in
    let t = g.B.Book.account c.hold-large.new.self in
    let u = g.B.Book.account c.hold-pages.new.self in
    let v = g.B.Book.account c.seek.new.book in
    let h = held_two L w c.args.n c.args.al s t u c.requires.full c.hold-large.ensures.holds c.hold-pages.ensures.holds in
    served_fresh L w c.args.n c.args.al s t u v (g.B.Book.account c.make_fresh-span.new.book) (g.B.Book.account c.let_go.new.book) c.args.full c.args.depot_full c.in-Ok.run' c.fit-region.result c.make_fresh-span.result h c.in-Ok.ensures.sought (few_flushed L u v w.zone w.pages w.pages _ (g.met.B.Book.orderly c.hold-pages.new.self).lawful h.seeks.all.calm_l c.in-Ok.ensures.sought) c.make_fresh-span.ensures.fresh c.let_go.ensures
    (g.met.B.Book.orderly c.let_go.new.book).lawful

pub let_go-requires-in-Err : goal.let_go-requires-in-Err
let_go-requires-in-Err g c =
    let L = c.of_books.ensures in
    let s = g.B.Book.account c.args.book.now in
    let w = c.args.w.now in
    let t = g.B.Book.account c.hold-large.new.self in
    let u = g.B.Book.account c.hold-pages.new.self in
    let v = g.B.Book.account c.seek.new.book in
    let h = held_two L w c.args.n c.args.al s t u c.requires.full c.hold-large.ensures.holds c.hold-pages.ensures.holds in
    let kept = kept_two L w c.args.n c.args.al s t u c.requires.full c.hold-large.ensures.holds c.hold-pages.ensures.holds h c.hold-large.result c.hold-pages.result c.args.magazine c.args.depot c.hold-large.ensures.stands c.hold-pages.ensures.stands c.requires.stands_k c.requires.stands_d in
    let q = c.in-Err.ensures.sought in
    let k = seeks_then L w c.args.n c.args.al u v _ h.seeks q in
    record {
      way = k.can.way;
      all = k.all;
      stands_k = stands_then u v w.magazine _ _ c.args.magazine q.since.grows.adds.same (ap (λ (a : Value). a.kept) (sought_k L w c.args.n c.args.al u v _ h.seeks q)) kept.of_k;
      stands_d = stands_then u v (depot_of w.magazine) _ _ c.args.depot q.since.grows.adds.same (ap (λ (a : Value). a.kept) (sought_d L w c.args.n c.args.al u v _ h.seeks q)) kept.of_d;
      stands_l = c.in-Err.ensures.stands_l;
      stands_p = c.in-Err.ensures.stands_p;
    }

pub returns-in-Err : goal.returns-in-Err
returns-in-Err g c =
    let L = c.of_books.ensures in
    let s = g.B.Book.account c.args.book.now in
    let w = c.args.w.now in
    let t = g.B.Book.account c.hold-large.new.self in
    let u = g.B.Book.account c.hold-pages.new.self in
    let v = g.B.Book.account c.seek.new.book in
    let h = held_two L w c.args.n c.args.al s t u c.requires.full c.hold-large.ensures.holds c.hold-pages.ensures.holds in
    served_null L w c.args.n c.args.al s t u v (g.B.Book.account c.let_go-in-Err.new.book) c.args.full c.args.depot_full c.in-Err.dry h c.in-Err.ensures.sought (few_flushed L u v w.zone w.pages w.pages _ (g.met.B.Book.orderly c.hold-pages.new.self).lawful h.seeks.all.calm_l c.in-Err.ensures.sought) c.let_go-in-Err.ensures (g.met.B.Book.orderly c.let_go-in-Err.new.book).lawful
