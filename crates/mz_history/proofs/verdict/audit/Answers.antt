use Rattle.std.proofs.Common.{◌∙◌}
use Rattle.mz_history.proofs.AuditLemmas.{found_is, lawful_is}
use Rattle.mz_history.proofs.verdict.audit.Goals as goal

pub returns-in-Some : goal.returns-in-Some
returns-in-Some c =
    found_is c.args.p.now c.args.entries.now _ _ _ _ c.in_ok-sorted.ensures.items c.sort_by_ticket.ensures.permutation c.in_ok-sort_by_ticket.ensures.sorted c.deref.ensures.value c.in_ok-opened.ensures _ c.in_ok-books.ensures.breach ∙ c.in-Some.is

pub returns : goal.returns
returns c =
    let is = lawful_is c.args.p.now c.args.entries.now _ _ _ _ c.in_ok-sorted.ensures.items c.sort_by_ticket.ensures.permutation c.in_ok-sort_by_ticket.ensures.sorted c.deref.ensures.value c.in_ok-opened.ensures c.lawful_without_breach.ensures _ _ c.in-None.is c.in_ok-books.ensures.breach c.in_ok-books.ensures.left in
    (is.0, c.in_ok-of-in-None.ensures ∙ is.1)
