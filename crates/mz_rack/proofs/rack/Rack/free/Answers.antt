use Rattle.std.proofs.Common.{subst, sym, ◌∙◌}
use Rattle.mz_rack.specs.FreeStages.{block_in, IsOver}
use Rattle.mz_rack.proofs.Dropping.{can_look_for, frees, denies}
use Rattle.mz_rack.proofs.rack.Rack.free.Goals as goal

pub find_home-home-requires : goal.find_home-home-requires
find_home-home-requires g c =
    can_look_for c.of_books.ensures (g.B.Book.account c.args.book.now) c.args.self.now.profile c.args.self.now.zone 3 c.args.lot c.requires.can c.requires.lot c.args.self.now.limits (g.met.B.Book.orderly c.args.book.now)

pub returns-then-zone-self : goal.returns-then-zone-self
returns-then-zone-self g c =
    let u = g.B.Book.account c.find_home-home.new.book in
    let y = g.B.Book.account c.end_block.new.book in
    frees c.of_books.ensures (g.B.Book.account c.args.book.now) c.args.self.now.profile c.args.self.now.zone 3 c.args.lot c.requires.can c.requires.lot c.find_home-home.result u c.find_home-home.ensures y
    (sym c.zone.ensures ∙ c.if-zone-self.true) (subst (λ x. IsOver u (block_in x) y) c.into_span.ensures c.end_block.ensures)

pub returns-else-zone-self : goal.returns-else-zone-self
returns-else-zone-self g c =
    let u = g.B.Book.account c.find_home-home.new.book in
    let y = g.B.Book.account c.deny-ticket.new.book in
    denies c.of_books.ensures (g.B.Book.account c.args.book.now) c.args.self.now.profile c.args.self.now.zone 3 c.args.lot c.requires.can c.requires.lot c.find_home-home.result u c.find_home-home.ensures y c.deny-ticket.result
    (λ is. c.if-zone-self.false (c.zone.ensures ∙ is)) c.deny-ticket.ensures
