-- A region of either range: the bytes of a quantum, its pages, and what a clause sees of it.
use Rattle.std.specs.Prelude.{ℕ, ◌/◌}
use Rattle.mz_base.specs.declared.range.TheConstants.{PAGE}
use Rattle.mz_base.specs.Space.{Run, run_at}
use Rattle.mz_region.specs.Views.{RegionView}
use Rattle.mz_rack.specs.declared.region.AnyRegion.{AnyRegion}
use Rattle.mz_rack.specs.declared.region.AnyRegion.TheVariants.{Tiny, Small}

abbrev pub quantum_in : AnyRegion → ℕ
quantum_in (Tiny r) = 16
quantum_in (Small r) = 512

abbrev pub pages_in : AnyRegion → ℕ
pages_in (Tiny r) = 64
pages_in (Small r) = 512

abbrev pub view_in : AnyRegion → RegionView
view_in (Tiny r) = r
view_in (Small r) = r

-- the region's pages
abbrev pub run_in : AnyRegion → Run
run_in r = run_at ((view_in r).first / PAGE) (pages_in r)
