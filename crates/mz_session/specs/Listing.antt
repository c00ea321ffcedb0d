-- Live blocks, and how one of zone 0 is listed. This project's own.
use Rattle.std.specs.Prelude.{ℕ, ◌*◌, ◌≡◌, nat_le, List, if◌then◌else◌}
use Rattle.mz_base.specs.declared.profile.Profile.{Profile}
use Rattle.mz_base.specs.declared.range.Range.{Range}
use Rattle.mz_base.specs.declared.range.Range.TheVariants.{Nano}
use Rattle.mz_base.specs.declared.range.TheConstants.{PAGE}
use Rattle.mz_base.specs.Space.{Block}
use Rattle.mz_base.specs.Sizes.{route_of}
use Rattle.mz_events.specs.Places.{nano_start}
use Rattle.mz_events.specs.State.{State}
use Rattle.mz_events.specs.Changes.{one_for}
use Rattle.mz_trace.specs.declared.tail.Listed.{Listed}
use Rattle.mz_book.specs.Account.{is_live}
use Rattle.mz_book.specs.Living.{times}

-- these are just the live blocks of the state, each once
abbrev pub AreLive : List Block → State → Type 0
AreLive bs s = (b : Block) → times b bs ≡ one_for (is_live s b)

-- the range of a block: nano in nano's pages, and else that of its size
abbrev pub range_in : Profile → Block → Range
range_in p b = if nat_le (nano_start p * PAGE) b.first then Nano else route_of b.size

-- a block of the zone of this name, as it is listed
abbrev pub listed_in : Profile → List ℕ → Block → Listed
listed_in p zone b = record { a = b.first; s = b.size; range = range_in p b; zone = zone }
