use Rattle.std.proofs.Common.{◌*◌, sym, ap, ◌∙◌}
use Rattle.mz_events.specs.Standing.{RegionsKept}
use Rattle.mz_magazine.proofs.KeepingRuns.{lowest_room}
use Rattle.std.specs.Prelude.{find}
use Rattle.std.specs.Option.{option_map}
use Rattle.mz_base.specs.declared.range.TheConstants.{PAGE}
use Rattle.mz_base.specs.Room.{has_room}
use Rattle.mz_magazine.proofs.magazine.Magazine.fits.Goals as goal

pub returns : goal.returns
returns g c = λ whole.
    let i = c.self.inside in
    c.fits.ensures ∙ sym (lowest_room g.row.Q g.row.N (g.row.Q * c.args.n) c.args.al i.row.live i.row.firsts whole (c.len-regions.ensures.is).aligned) ∙ ap (λ (v : RegionsKept). option_map (λ r. r.first * PAGE) (find (λ r. has_room r v.kept.live (g.row.Q * c.args.n) c.args.al) v.kept.runs)) c.self.view_is
