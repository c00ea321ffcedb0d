-- What the functions that own memory say of the parts that they hand out. This project's own.
use Rattle.std.specs.Prelude.{◌≡◌, ℕ, ◌<◌, List, Bool, Vec, length}
use Rattle.std_alloc.specs.declared.vec.lodged.Lodged.{Lodged}
use Rattle.mz_base.specs.Site.{Site}
use Rattle.mz_ground.specs.Place.{IsAt}
use Rattle.mz_ground.specs.declared.raw.Plot.{Plot}
use Rattle.mz_ground.specs.declared.raw.Deed.{Deed}
use Rattle.mz_ground.specs.declared.raw.Kept.{Kept}

-- the plot has the bytes xs, which lie in the space s from its address a on
pub record PlotOf (p : Plot) (s : Site) (a : ℕ) (xs : List ℕ) : Type 0 where
  pub space : p.space ≡ s
  pub first : p.first ≡ a
  pub bytes : p.bytes ≡ xs

-- the deed is of the n bytes from the address a of the space s on
pub record DeedOf (d : Deed) (s : Site) (a n : ℕ) : Type 0 where
  pub space : d.space ≡ s
  pub first : d.first ≡ a
  pub count : d.count ≡ n

-- what is kept are quanta of Q bytes from the address a of the space s on, with these flags and these bytes
pub record KeptOf (k : Kept) (s : Site) (a Q : ℕ) (flags : List Bool) (xs : List ℕ) : Type 0 where
  pub space : k.space ≡ s
  pub first : k.first ≡ a
  pub quantum : k.quantum ≡ Q
  pub lent : k.lent ≡ flags
  pub bytes : k.bytes ≡ xs

-- the deed is of the bytes under the `Vec`
pub record IsLaid (v : Vec ℕ Lodged) (d : Deed) : Type 0 where
  pub count : d.count ≡ length v.items
  pub placed : 0 < length v.items → IsAt v.ptr d.space d.first

-- a `Vec` over the bytes xs, which lie in the space s from its address a on, with their deed
pub record LaidAs (l : Vec ℕ Lodged × Deed) (s : Site) (a : ℕ) (xs : List ℕ) : Type 0 where
  pub laid : IsLaid l.0 l.1
  pub space : l.1.space ≡ s
  pub first : l.1.first ≡ a
  pub items : l.0.items ≡ xs
