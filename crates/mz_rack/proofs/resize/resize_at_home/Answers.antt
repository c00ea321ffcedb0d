use Rattle.std.proofs.Common.{sym, subst, true, ◌≡◌}
use Rattle.std.specs.Prelude.{◌||◌}
use Rattle.std.proofs.lemmas.Bool.{or_left, or_right}
use Rattle.mz_events.specs.declared.place.Place.{Place}
use Rattle.mz_events.specs.Places.{is_magazine, is_depot, is_size_of, depot_of}
use Rattle.mz_rack.proofs.Resizing.{none_in_large, size_there, settled_later}
use Rattle.mz_rack.proofs.resize.resize_at_home.Goals as goal

pub resize_in-requires-clause-size : goal.resize_in-requires-clause-size
resize_in-requires-clause-size g c =
    let t = g.B.Book.account c.find_home.new.book in
    let q = c.in-Magazine.way.magazine in
    let home = c.in-Magazine.ensures.home in
    size_there c.of_books.ensures c.live_blocks_have_their_forms.ensures t q c.args.lot.now home.1.1 (or_left (is_magazine q) (is_depot q) home.1.0.magazine) (g.met.B.Book.orderly c.find_home.new.book).lawful c.args.size c.requires.size

pub resize_in-requires-in-Depot-clause-regions : goal.resize_in-requires-in-Depot-clause-regions
resize_in-requires-in-Depot-clause-regions g c =
    let t = g.B.Book.account c.find_home.new.book in
    let home = c.in-Depot.ensures.home in
    let q = depot_of c.in-Depot.way.magazine in
    subst (λ (d : Place). (is_magazine d || is_depot d) ≡ true) (sym home.1.0.depot) (or_right (is_magazine q) (is_depot q) (c.of_books.ensures.depot t.profile c.in-Depot.way.magazine home.1.0.magazine).is_depot_of)

pub resize_in-requires-in-Depot-clause-size : goal.resize_in-requires-in-Depot-clause-size
resize_in-requires-in-Depot-clause-size g c =
    let t = g.B.Book.account c.find_home.new.book in
    let home = c.in-Depot.ensures.home in
    let q = depot_of c.in-Depot.way.magazine in
    subst (λ (d : Place). is_size_of d c.args.size ≡ true) (sym home.1.0.depot)
    (size_there c.of_books.ensures c.live_blocks_have_their_forms.ensures t q c.args.lot.now home.1.1 (or_right (is_magazine q) (is_depot q) (c.of_books.ensures.depot t.profile c.in-Depot.way.magazine home.1.0.magazine).is_depot_of)
    (g.met.B.Book.orderly c.find_home.new.book).lawful c.args.size c.requires.size)

pub unreachable-requires : goal.unreachable-requires
unreachable-requires g c =
    let t = g.B.Book.account c.find_home.new.book in
    none_in_large c.live_blocks_have_their_forms.ensures t c.in-Large.field-0.zone c.args.lot.now c.in-Large.ensures.home.1.1 (g.met.B.Book.orderly c.find_home.new.book).lawful c.requires.small

pub returns-in-Magazine : goal.returns-in-Magazine
returns-in-Magazine g c =
    settled_later c.of_books.ensures (g.B.Book.account c.args.book.now) (g.B.Book.account c.find_home.new.book) (g.B.Book.account c.resize_in.new.book) c.args.lot.now c.resize_in.new.lot c.args.size c.find_home.ensures.holds c.resize_in.result
    c.find_home.ensures.since c.resize_in.ensures

pub returns-in-Depot : goal.returns-in-Depot
returns-in-Depot g c =
    settled_later c.of_books.ensures (g.B.Book.account c.args.book.now) (g.B.Book.account c.find_home.new.book) (g.B.Book.account c.resize_in-in-Depot.new.book) c.args.lot.now c.resize_in-in-Depot.new.lot c.args.size c.find_home.ensures.holds c.resize_in-in-Depot.result
    c.find_home.ensures.since c.resize_in-in-Depot.ensures
