-- The facts that every span and every ground keeps. This project's own.
use Rattle.std.specs.Prelude.{◌≡◌, ℕ, ◌*◌, ◌<◌, List, [], ◌∷◌, Bool, true, false, Option, MatchOption, Vec, length}
use denote.RawPtr.{Ptr}
use Rattle.std_alloc.specs.declared.vec.lodged.Lodged.{Lodged}
use Rattle.mz_base.specs.Site.{Site}
use Rattle.mz_ground.specs.Place.{IsAt, IsInside}
use Rattle.mz_ground.specs.Parts.{IsLaid}
use Rattle.mz_ground.specs.declared.raw.Deed.{Deed}
use Rattle.mz_ground.specs.declared.raw.Kept.{Kept}
use Rattle.mz_ground.specs.declared.raw.Root.{Root}

-- this is the root of the space s
abbrev pub IsRootOf : Site → Root → Type 0
IsRootOf s r = (r.sole ≡ s) × (r.size ≡ s.size)

-- a span has the root of its space exactly where it has the byte at the address 0
abbrev pub HasItsRoot : Site → ℕ → ℕ → Option Root → Type 0
HasItsRoot s a n root = MatchOption root (a ≡ 0 → n ≡ 0) (λ r. (a ≡ 0) × (0 < n) × IsRootOf s r)

-- the first quantum isn't there, or is lent
abbrev pub IsFirstOut : List Bool → Type 0
IsFirstOut [] = Unit {0}
IsFirstOut (b ∷ bs) = b ≡ true

-- the first quantum is there, and not lent
abbrev pub IsFirstIn : List Bool → Type 0
IsFirstIn [] = ⊥
IsFirstIn (b ∷ bs) = b ≡ false

-- a ground has the root of its space exactly where it has the byte at the address 0, and hasn't lent it
abbrev pub KeepsItsRoot : Site → ℕ → List Bool → Option Root → Type 0
KeepsItsRoot s a lent root = MatchOption root (a ≡ 0 → IsFirstOut lent) (λ r. (a ≡ 0) × IsFirstIn lent × IsRootOf s r)

-- the bytes of buf are those of the deed, from the address first on
pub record IsSpan (buf : Vec ℕ Lodged) (first : ℕ) (deed : Deed) (root : Option Root) : Type 0 where
  pub at : deed.first ≡ first
  pub laid : IsLaid buf deed
  pub inside : IsInside deed.space first (length buf.items)
  pub rooted : HasItsRoot deed.space first (length buf.items) root

-- the flags are those of what is kept, which begins at base
pub record IsGround (Q : ℕ) (base : Ptr) (first : ℕ) (lent : List Bool) (root : Option Root) (kept : Kept) : Type 0 where
  pub quantum : kept.quantum ≡ Q
  pub filled : 0 < Q
  pub at : kept.first ≡ first
  pub flags : kept.lent ≡ lent
  pub size : length kept.bytes ≡ Q * length lent
  pub placed : 0 < length lent → IsAt base kept.space first
  pub inside : IsInside kept.space first (Q * length lent)
  pub rooted : KeepsItsRoot kept.space first lent root
