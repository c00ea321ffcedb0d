-- Seats of a nano, alone and in lists. This project's own.
use Rattle.std.specs.Prelude.{◌≡◌, ℕ, ◌+◌, ◌<◌, Option, None, List, [], ◌∷◌, length, slice_index_or}
use Rattle.atomic_table.specs.Seated.{TableId}
use Rattle.atomic_table.specs.declared.shared.Seat.{Seat}
use Rattle.mz_base.specs.Site.{Site}
use Rattle.mz_ground.specs.Views.{SpanView}
use Rattle.mz_nano.specs.declared.nano.Nano.{Nano}
use Rattle.mz_nano.specs.declared.seat.NanoSeat.{NanoSeat}
use Rattle.mz_nano.specs.declared.view.Geometry.{Geometry}
use Rattle.mz_nano.specs.declared.view.Held.{Held}
use Rattle.mz_nano.specs.declared.view.View.{View}
use Rattle.mz_nano.specs.CallEffects.{IsSeatOf, IsAtRest}
use Rattle.mz_nano.specs.Lists.{In}

-- the space of a nano's span, and the first address of the span there
abbrev pub space_of : Nano → Site
space_of nano = nano.table.shared.key.edge.space

abbrev pub first_of : Nano → ℕ
first_of nano = nano.table.shared.key.edge.first

-- how many seats a nano was opened with
abbrev pub seats_of : Nano → ℕ
seats_of nano = nano.table.shared.key.seats

-- the last generation of a nano's words, and how many blocks it has
abbrev pub most_gen_of : Nano → ℕ
most_gen_of nano = nano.table.shared.key.most_gen

abbrev pub blocks_of : Nano → ℕ
blocks_of nano = nano.table.shared.key.blocks

-- a seat of this nano, of which a part may be with another
abbrev pub BelongsTo : Nano → NanoSeat → Type 0
BelongsTo nano s = IsSeatOf nano.table.shared.table_id nano.table.shared.key s.seat

-- a seat of this nano, whole
abbrev pub SitsAt : Nano → NanoSeat → Type 0
SitsAt nano s = BelongsTo nano s × (s.seat.me.0.parts ≡ 2)

-- the slots in a seat's hand
abbrev pub hand_of : NanoSeat → List Held
hand_of s = s.seat.me.0.hand

-- the seat with the number k of this table, whose hand is empty and which made no call
pub record IsNew (id : TableId) (key : Geometry) (k : ℕ) (s : NanoSeat) : Type 0 where
  pub one : IsSeatOf id key s.seat
  pub number : s.number ≡ k
  pub hand : s.seat.me.0.hand ≡ []
  pub parts : s.seat.me.0.parts ≡ 2
  pub counts : (s.tries ≡ 0) × (s.misses ≡ 0) × (s.missed ≡ 0) × (s.popped ≡ None)

-- new seats, by number from k on
abbrev pub AllNew : TableId → Geometry → ℕ → List NanoSeat → Type 0
AllNew id key k [] = Unit {0}
AllNew id key k (s ∷ ss) = IsNew id key k s × AllNew id key (k + 1) ss

-- seats of this table, each whole
abbrev pub AllOf : TableId → Geometry → List NanoSeat → Type 0
AllOf id key ss = (s : NanoSeat) → In s ss → IsSeatOf id key s.seat × (s.seat.me.0.parts ≡ 2)

-- all seats of a nano: as many as it was opened with, each of which sits at it
abbrev pub AreAllOf : Nano → List NanoSeat → Type 0
AreAllOf nano ss = (length ss ≡ seats_of nano) × AllOf nano.table.shared.table_id nano.table.shared.key ss

-- a seat with an empty hand
abbrev pub Idle : TableId → Geometry → NanoSeat → Type 0
Idle id key s = IsSeatOf id key s.seat × (s.seat.me.0.hand ≡ []) × (s.seat.me.0.parts ≡ 2)

abbrev pub AllIdle : TableId → Geometry → List NanoSeat → Type 0
AllIdle id key ss = (s : NanoSeat) → In s ss → Idle id key s

-- a seat with an empty hand and all of these parts
pub record Alone (id : TableId) (key : Geometry) (n : ℕ) (seat : Seat (Option SpanView) View) : Type 0 where
  pub one : IsSeatOf id key seat
  pub hand : seat.me.0.hand ≡ []
  pub parts : seat.me.0.parts ≡ n
  pub at_rest : IsAtRest seat.me

-- every hand is empty
abbrev pub AllEmpty : List NanoSeat → Type 0
AllEmpty ss = (s : NanoSeat) → In s ss → hand_of s ≡ []

-- a hand has a slot
abbrev pub SomeHeld : List NanoSeat → Type 0
SomeHeld ss = (s : NanoSeat) × In s ss × (hand_of s ≡ [] → ⊥)

abbrev pub NoneHeld : List NanoSeat → Type 0
NoneHeld ss = (k : ℕ) (d : NanoSeat) → k < length ss → (slice_index_or ss k d).held ≡ 0
