use Rattle.std.proofs.Common.{◌≡◌, ◌∙◌, sym, arith}
use Rattle.mz_history.proofs.AuditLemmas.{stepped}
use Rattle.mz_history.proofs.state.step.Goals as goal

pub returns : goal.returns
returns c =
    let turn : c.args.e.now.ticket ≡ c.s.inside.books.state.entries = (let same = c.if-e-entries.false in let count = c.entries.ensures in omega arith) in
    stepped c.s.inside.books _ _ _ _ _ c.args.e.now c.s.view_is turn (sym c.in_default.is ∙ c.in_ok-why.ensures) c.in_ok-copy.ensures c.in_ok-books.ensures c.in_ok-s-inside.ensures c.drop.view_is
