-- What a keeper keeps, by its kind.
use Rattle.mz_events.specs.Standing.{Keeping, of_regions, of_pages, of_large}
use Rattle.mz_rack.specs.declared.keeper.Kind.{Kind}
use Rattle.mz_rack.specs.declared.keeper.Kind.TheVariants.{Pages, Tiny, Small, Large}

abbrev pub keeping_of : Kind → Keeping
keeping_of (Pages v) = of_pages v
keeping_of (Tiny v) = of_regions v
keeping_of (Small v) = of_regions v
keeping_of (Large v) = of_large v
