-- Moves of slots between hands. This project's own.
use Rattle.std.specs.Prelude.{◌≡◌, ℕ, ◌+◌, ◌-◌, ◌<◌, List, [], ◌∷◌, ◌++◌, length, map, Option, slice_set, slice_index_or}
use Rattle.atomic_table.specs.declared.shared.Seat.{Seat}
use Rattle.mz_ground.specs.Views.{SpanView}
use Rattle.mz_nano.specs.declared.nano.Nano.{Nano}
use Rattle.mz_nano.specs.declared.seat.NanoSeat.{NanoSeat}
use Rattle.mz_nano.specs.declared.deal.Deal.{Deal}
use Rattle.mz_nano.specs.declared.view.Held.{Held}
use Rattle.mz_nano.specs.declared.view.View.{View}
use Rattle.mz_nano.specs.Lists.{In, without}
use Rattle.mz_nano.specs.Rule.{held}
use Rattle.mz_nano.specs.SeatMoves.{class_in}
use Rattle.mz_nano.specs.CallEffects.{IsSeatOf, IsAtRest}
use Rattle.mz_nano.specs.SeatLists.{BelongsTo, hand_of}

-- the hands of seats, by place in the list
abbrev pub hands_of : List NanoSeat → List (List Held)
hands_of ss = map hand_of ss

-- what else a seat shows
abbrev pub counts_of : NanoSeat → ℕ × ℕ × ℕ × ℕ × Option Held
counts_of s = (s.number, s.tries, s.misses, s.missed, s.popped)

-- how many parts a seat has
abbrev pub parts_in : NanoSeat → ℕ
parts_in s = s.seat.me.0.parts

abbrev pub hand_at : List (List Held) → ℕ → List Held
hand_at hands i = slice_index_or hands i []

-- the hands after a move: the slot leaves one, and comes to the front of the other with its class
abbrev pub moved : Deal → List (List Held) → List (List Held)
moved d hands =
    let left = slice_set hands d.from (without d.block d.slot (hand_at hands d.from)) in
    slice_set left d.to (held d.block d.slot (class_in d.block d.slot (hand_at hands d.from)) ∷ hand_at left d.to)

-- the hands after all moves, one after another
abbrev pub dealt : List Deal → List (List Held) → List (List Held)
dealt [] hands = hands
dealt (d ∷ ds) hands = dealt ds (moved d hands)

-- both hands are there, and the slot is in the one that it leaves
pub record CanMove (d : Deal) (hands : List (List Held)) : Type 0 where
  pub from : d.from < length hands
  pub to : d.to < length hands
  pub class_ : ℕ
  pub mine : In (held d.block d.slot class_) (hand_at hands d.from)

-- no two of the moves are of one slot
abbrev pub MovesOnce : List Deal → Type 0
MovesOnce [] = Unit {0}
MovesOnce (d ∷ ds) = ((e : Deal) → In e ds → e.block ≡ d.block → e.slot ≡ d.slot → ⊥) × MovesOnce ds

-- each slot is in the hand that it leaves, and moves once
pub record CanDeal (ds : List Deal) (hands : List (List Held)) : Type 0 where
  pub each : (d : Deal) → In d ds → CanMove d hands
  pub once : MovesOnce ds

-- the seat at i changed, from o to s
pub record Changed (nano : Nano) (ss : List NanoSeat) (i : ℕ) (o s : NanoSeat) (ss' : List NanoSeat) : Type 0 where
  pub there : slice_index_or ss i o ≡ o
  pub now : ss' ≡ slice_set ss i s
  pub one : BelongsTo nano s
  pub counts : counts_of s ≡ counts_of o

-- the seat at i gave the slot j of b away to another, with one of its parts
pub record Gives (nano : Nano) (ss : List NanoSeat) (i b j : ℕ) (ss' : List NanoSeat) (temp : Seat (Option SpanView) View) : Type 0 where
  pub before : NanoSeat
  pub after : NanoSeat
  pub changed : Changed nano ss i before after ss'
  pub hand : hand_of after ≡ without b j (hand_of before)
  pub parts : parts_in after ≡ parts_in before - 1
  pub two : IsSeatOf nano.table.shared.table_id nano.table.shared.key temp
  pub at_rest : IsAtRest temp.me
  pub gift : temp.me.0.hand ≡ held b j (class_in b j (hand_of before)) ∷ []
  pub part : temp.me.0.parts ≡ 1

-- the seat at i took in another, with its hand and its parts
pub record TakesIn (nano : Nano) (ss : List NanoSeat) (i : ℕ) (temp : Seat (Option SpanView) View) (ss' : List NanoSeat) : Type 0 where
  pub before : NanoSeat
  pub after : NanoSeat
  pub changed : Changed nano ss i before after ss'
  pub hand : hand_of after ≡ temp.me.0.hand ++ hand_of before
  pub parts : parts_in after ≡ parts_in before + temp.me.0.parts

-- the seat at i lent one of its parts to another, whose hand is empty
pub record LendsPart (nano : Nano) (ss : List NanoSeat) (i : ℕ) (ss' : List NanoSeat) (temp : Seat (Option SpanView) View) : Type 0 where
  pub before : NanoSeat
  pub after : NanoSeat
  pub changed : Changed nano ss i before after ss'
  pub hand : hand_of after ≡ hand_of before
  pub parts : parts_in after ≡ parts_in before - 1
  pub two : IsSeatOf nano.table.shared.table_id nano.table.shared.key temp
  pub at_rest : IsAtRest temp.me
  pub gift : temp.me.0.hand ≡ []
  pub part : temp.me.0.parts ≡ 1
