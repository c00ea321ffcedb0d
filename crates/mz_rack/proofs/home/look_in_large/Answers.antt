use Rattle.std.proofs.Common.{◌<◌, subst, sym, ◌∙◌}
use Rattle.mz_base.specs.declared.profile.Profile.{Profile}
use Rattle.mz_book.specs.Keepers.{keeper_count}
use Rattle.mz_rack.proofs.Looking.{none_passed, large_below, in_large}
use Rattle.mz_rack.proofs.home.look_in_large.Goals as goal

pub look_into-requires-clause-below : goal.look_into-requires-clause-below
look_into-requires-clause-below g c = subst (λ (p : Profile). c.find_large_way-way.result.l < keeper_count p) (sym c.requires.can.profile) (large_below c.args.p.now c.find_large_way-way.result c.find_large_way-way.ensures.way)

pub returns-in-Some : goal.returns-in-Some
returns-in-Some g c =
    let s = g.B.Book.account c.args.book.now in
    in_large c.of_books.ensures s s (g.B.Book.account c.look_into.new.book) c.args.p.now c.args.lot.now c.find_large_way-way.result c.in-Some.large c.requires.can (none_passed c.of_books.ensures s c.requires.can.nothing_held)
    c.find_large_way-way.ensures.way (c.find_large_way-way.ensures.in_zone ∙ c.zone.ensures) (g.met.B.Book.orderly c.look_into.new.book).lawful c.in-Some.ensures
