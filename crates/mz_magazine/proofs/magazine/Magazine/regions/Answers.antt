use Rattle.std.proofs.Common.{length, sym, ap, ◌∙◌}
use Rattle.std.proofs.lemmas.List.{length-map}
use Rattle.mz_events.specs.Standing.{RegionsKept}
use Rattle.mz_magazine.specs.Keeping.{run_from}
use Rattle.mz_magazine.proofs.magazine.Magazine.regions.Goals as goal

pub returns : goal.returns
returns g c =
    let i = c.self.inside in
    c.len.ensures.value ∙ sym (length-map i.row.firsts (run_from g.row.Q g.row.N)) ∙ ap (λ (v : RegionsKept). length v.kept.runs) c.self.view_is
