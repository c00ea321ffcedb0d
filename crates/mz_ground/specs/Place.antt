-- Where the bytes of a space are. This project's own.
use Rattle.std.specs.Prelude.{◌≡◌, ℕ, ◌+◌, ◌^◌, ◌<◌, ◌≤◌}
use denote.RawPtr.{Ptr, block_ptr}
use Rattle.mz_base.specs.Site.{Site}

-- p is where the byte at the address a of the space s lies
abbrev pub IsAt : Ptr → Site → ℕ → Type 0
IsAt p s a = p ≡ block_ptr s.block (s.origin + a)

-- the n bytes from the address a on are in the space s, which fits the machine
abbrev pub IsInside : Site → ℕ → ℕ → Type 0
IsInside s a n = (a + n ≤ s.size) × (s.size < 2 ^ 63)
