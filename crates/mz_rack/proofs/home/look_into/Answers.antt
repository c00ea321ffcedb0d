use Rattle.std.proofs.Common.{ap, sym, ◌∙◌}
use Rattle.mz_base.specs.Lists.{size_at}
use Rattle.mz_rack.specs.Keepings.{lists_of}
use Rattle.mz_rack.proofs.Looking.{is_there, passed_by}
use Rattle.mz_rack.proofs.home.look_into.Goals as goal

pub returns-then-size_at-size : goal.returns-then-size_at-size
returns-then-size_at-size g c =
    let v = c.hold-keeper.result in
    let x = c.args.lot.now.span in
    is_there c.of_books.ensures (g.B.Book.account c.args.book.now) (g.B.Book.account c.hold-keeper.new.self) c.args.k x.first _ v c.requires.nothing_held c.hold-keeper.ensures.holds c.hold-keeper.ensures.stands
    (ap (λ a. size_at (lists_of v).live a) (sym c.first.ensures) ∙ (sym c.size_at.ensures ∙ (c.if-size_at-size.true ∙ c.size.ensures))) c.requires.some

pub returns-else-size_at-size : goal.returns-else-size_at-size
returns-else-size_at-size g c =
    passed_by c.of_books.ensures (g.B.Book.account c.args.book.now) (g.B.Book.account c.hold-keeper.new.self) (g.B.Book.account c.release.new.self) c.args.k c.requires.nothing_held c.hold-keeper.ensures.holds c.release.ensures
