use Rattle.std.proofs.Common.{◌+◌, ◌-◌, ap}
use Rattle.mz_region.proofs.Fronts.{multiple_is}
use Rattle.mz_region.proofs.search.front_behind.Goals as goal

pub returns-clause-value : goal.returns-clause-value
returns-clause-value c =
    let e = c.next_multiple_of.ensures in
    ap (λ m. m - c.args.base) (multiple_is (c.args.base + c.args.start) c.args.step c.next_multiple_of.result c.requires.step e.multiple e.lower_bound e.upper_bound)
