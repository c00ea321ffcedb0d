use Rattle.mz_pages.proofs.KeptLemmas.{whole}
use Rattle.mz_pages.proofs.pages.Pages.into_span.Goals as goal

pub returns-in-Ok : goal.returns-in-Ok
returns-in-Ok c =
    let s = c.self.inside in
    let e = c.in-Ok.ensures in
    whole s.ground s.out s.first s.free c.in-Ok.span c.args.self c.self.invariant c.self.view_is e.0 e.1 e.2 e.4
