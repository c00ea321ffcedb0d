-- The numbers of the refusals. This project's own.
use Rattle.std.specs.Prelude.{ℕ}
use Rattle.mz_zone.specs.declared.fault.CallocFault.{CallocFault}
use Rattle.mz_zone.specs.declared.fault.CallocFault.TheVariants as calloc
use Rattle.mz_zone.specs.declared.fault.AlignFault.{AlignFault}
use Rattle.mz_zone.specs.declared.fault.AlignFault.TheVariants as align
use Rattle.mz_zone.specs.declared.fault.ReallocFault.{ReallocFault}
use Rattle.mz_zone.specs.declared.fault.ReallocFault.TheVariants as realloc
use Rattle.mz_zone.specs.declared.fault.SizeFault.{SizeFault}
use Rattle.mz_zone.specs.declared.fault.SizeFault.TheVariants as size

abbrev pub calloc_number : CallocFault → ℕ
calloc_number calloc.Overflow = 3
calloc_number (calloc.Null e) = 1

abbrev pub align_number : AlignFault → ℕ
align_number align.BadAlign = 4
align_number (align.Null e) = 1

abbrev pub realloc_number : ReallocFault → ℕ
realloc_number (realloc.NotLive e) = 2
realloc_number (realloc.Null b e) = 1

abbrev pub size_number : SizeFault → ℕ
size_number (size.NotLive e) = 2
size_number (size.WrongSize b n) = 5
