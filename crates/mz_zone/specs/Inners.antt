-- What a block is made of, as contracts see it. This project's own.
use Rattle.mz_nano.specs.SlotViews.{IsPlaced}
use Rattle.mz_zone.specs.declared.block.Inner.{Inner}
use Rattle.mz_zone.specs.declared.block.Inner.TheVariants.{Lot, Slot}
use Rattle.mz_zone.specs.Blocks.{BlockView, of_lot, of_slot}

abbrev pub view_of : Inner → BlockView
view_of (Lot l) = of_lot l
view_of (Slot s) = of_slot s

-- the span of a block of nano is that of its slot
abbrev pub IsSound : Inner → Type 0
IsSound (Lot l) = Unit {0}
IsSound (Slot s) = IsPlaced s
