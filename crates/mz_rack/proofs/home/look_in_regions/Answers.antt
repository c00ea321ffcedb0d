use Rattle.std.proofs.Common.{◌<◌, subst, sym, ◌∙◌}
use Rattle.mz_base.specs.declared.profile.Profile.{Profile}
use Rattle.mz_book.specs.Keepers.{keeper_count}
use Rattle.mz_rack.proofs.Steps.{below_k, below_d}
use Rattle.mz_rack.proofs.Looking.{none_passed, passed_on, can_look, in_magazine, in_depot}
use Rattle.mz_rack.proofs.home.look_in_regions.Goals as goal

pub loop-mag-init : goal.loop-mag-init
loop-mag-init g c = none_passed c.of_books.ensures (g.B.Book.account c.args.book.now) c.requires.can.nothing_held

pub look_into-requires-clause-below : goal.look_into-requires-clause-below
look_into-requires-clause-below g c =
    let L = c.of_books.ensures in
    let can = can_look L (g.B.Book.account c.args.book.now) (g.B.Book.account c.loop-mag.book) c.args.p.now c.args.lot.now c.requires.can c.loop-mag.invariant in
    subst (λ (p : Profile). c.find_way-way.result.k < keeper_count p) (sym can.profile) (below_k L c.args.p.now c.find_way-way.result c.find_way-way.ensures.way)

pub look_into-requires-clause-nothing_held : goal.look_into-requires-clause-nothing_held
look_into-requires-clause-nothing_held g c = c.loop-mag.invariant.nothing_held

pub returns-in-Some : goal.returns-in-Some
returns-in-Some g c =
    in_magazine c.of_books.ensures (g.B.Book.account c.args.book.now) (g.B.Book.account c.loop-mag.book) (g.B.Book.account c.look_into.new.book) c.args.p.now c.args.lot.now c.find_way-way.result c.in-Some.magazine c.requires.can c.loop-mag.invariant
    c.find_way-way.ensures.way (c.find_way-way.ensures.in_zone ∙ c.zone.ensures) (g.met.B.Book.orderly c.look_into.new.book).lawful c.in-Some.ensures

pub loop-mag-preserved : goal.loop-mag-preserved
loop-mag-preserved g c = passed_on c.of_books.ensures (g.B.Book.account c.args.book.now) (g.B.Book.account c.loop-mag.book) (g.B.Book.account c.look_into.new.book) c.requires.can.nothing_held c.loop-mag.invariant c.in_default.ensures

pub look_into-requires-2-clause-below : goal.look_into-requires-2-clause-below
look_into-requires-2-clause-below g c =
    let L = c.of_books.ensures in
    let can = can_look L (g.B.Book.account c.args.book.now) (g.B.Book.account c.loop-mag.book) c.args.p.now c.args.lot.now c.requires.can c.loop-mag.invariant in
    subst (λ (p : Profile). c.find_way-way-2.result.d < keeper_count p) (sym can.profile) (below_d L c.args.p.now c.find_way-way-2.result c.find_way-way-2.ensures.way)

pub look_into-requires-2-clause-nothing_held : goal.look_into-requires-2-clause-nothing_held
look_into-requires-2-clause-nothing_held g c = c.loop-mag.invariant.nothing_held

pub returns-in-None : goal.returns-in-None
returns-in-None g c = passed_on c.of_books.ensures (g.B.Book.account c.args.book.now) (g.B.Book.account c.loop-mag.book) (g.B.Book.account c.look_into-2.new.book) c.requires.can.nothing_held c.loop-mag.invariant c.in-None.ensures

pub returns-in-Some-look_into : goal.returns-in-Some-look_into
returns-in-Some-look_into g c =
    in_depot c.of_books.ensures (g.B.Book.account c.args.book.now) (g.B.Book.account c.loop-mag.book) (g.B.Book.account c.look_into-2.new.book) c.args.p.now c.args.lot.now c.find_way-way-2.result c.in-Some-look_into.depot c.requires.can c.loop-mag.invariant
    c.find_way-way-2.ensures.way (c.find_way-way-2.ensures.in_zone ∙ c.zone-2.ensures) (g.met.B.Book.orderly c.look_into-2.new.book).lawful c.in-Some-look_into.ensures
