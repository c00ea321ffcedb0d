-- Parcels, strips and estates: what a clause sees of an estate, and the facts that each of them keeps. This project's own.
use Rattle.std.specs.Prelude.{◌≡◌, ℕ, Option, Vec, length, refl}
use Rattle.std.specs.Coded.{Coded, code_by, coded×, coded_ℕ}
use denote.RawPtr.{Ptr}
use Rattle.std_alloc.specs.declared.vec.lodged.Lodged.{Lodged}
use Rattle.mz_base.specs.Site.{Site, site_code}
use Rattle.mz_ground.specs.Place.{IsAt, IsInside}
use Rattle.mz_ground.specs.Parts.{IsLaid}
use Rattle.mz_ground.specs.Held.{HasItsRoot}
use Rattle.mz_ground.specs.declared.raw.Plot.{Plot}
use Rattle.mz_ground.specs.declared.raw.Deed.{Deed}
use Rattle.mz_ground.specs.declared.raw.Root.{Root}

-- an estate: its space, its first address there, and how many bytes it had
pub record EstateView : Type 0 where
  pub space : Site
  pub first : ℕ
  pub size : ℕ

-- it is stored as the tuple of its fields
abbrev pub estate_code : Coded EstateView
estate_code =
    code_by (Site × (ℕ × ℕ)) (coded× site_code (coded× coded_ℕ coded_ℕ))
    (λ e. (e.space, (e.first, e.size))) (λ p. record { space = p.0; first = p.1.0; size = p.1.1 }) (λ _. refl)

-- the bytes of the plot are in its space
abbrev pub IsParcel : Plot → Type 0
IsParcel p = IsInside p.space p.first (length p.bytes)

-- the bytes of buf are those of the deed, from the address first on
pub record IsStrip (buf : Vec ℕ Lodged) (first : ℕ) (deed : Deed) : Type 0 where
  pub at : deed.first ≡ first
  pub laid : IsLaid buf deed
  pub inside : IsInside deed.space first (length buf.items)

-- the byte at the address first lies at base, and the root is that of a span of so many bytes from there on
pub record IsEstate (base : Ptr) (first size : ℕ) (edge : Deed) (root : Option Root) : Type 0 where
  pub placed : IsAt base edge.space first
  pub inside : IsInside edge.space first size
  pub rooted : HasItsRoot edge.space first size root
