use Rattle.std.proofs.Common.{sym, subst, ◌∙◌}
use Rattle.std.proofs.lemmas.Bool.{false≢true}
use Rattle.mz_rack.specs.Stages.{Tried}
use Rattle.mz_rack.proofs.serve.make_block.Goals as goal

pub unreachable-unreachable : goal.unreachable-unreachable
unreachable-unreachable g c =
    let s = g.B.Book.account c.args.book.now in
    let z = subst (λ o. Tried s c.args.w.now c.args.n c.args.al o (g.B.Book.account c.try_block.new.book)) c.in-Err.is c.try_block.ensures.tried in
    absurd (false≢true (sym z.is.1 ∙ c.requires.has_room))
