-- Lists of all seats.
use Rattle.std.proofs.Common.{◌≡◌, ℕ, ◌+◌, ◌<◌, List, [], ◌∷◌, length, get_or, set, if◌then◌else◌, Bool, refl, sym, ap, ◌∙◌, subst, inl, ⊎_elim, length-set, get_or-set_same}
use Rattle.std.proofs.lemmas.List.{get_or-map}
use Rattle.atomic_table.specs.Seated.{TableId}
use Rattle.mz_nano.specs.declared.view.Geometry.{Geometry}
use Rattle.mz_nano.specs.declared.view.Held.{Held}
use Rattle.mz_nano.specs.declared.nano.Nano.{Nano}
use Rattle.mz_nano.specs.declared.seat.NanoSeat.{NanoSeat}
use Rattle.mz_nano.specs.declared.deal.Deal.{Deal}
use Rattle.mz_nano.specs.Lists.{In, without}
use Rattle.mz_nano.specs.Rule.{held}
use Rattle.mz_nano.specs.SeatMoves.{class_in}
use Rattle.mz_nano.specs.CallEffects.{IsSeatOf}
use Rattle.mz_nano.specs.SeatLists.{AllNew, AllOf, SitsAt, hand_of}
use Rattle.mz_nano.specs.Deals.{hands_of, hand_at, moved, CanMove, CanDeal}
use Rattle.mz_nano.proofs.MemberLemmas.{at_is}
use Rattle.mz_nano.proofs.DealLemmas.{in_set}

pub new_all : (id : TableId) (key : Geometry) (k : ℕ) (ss : List NanoSeat) → AllNew id key k ss → AllOf id key ss
new_all id key k [] a s h = absurd h
new_all id key k (x ∷ xs) a s h = ⊎_elim (λ (q : s ≡ x). subst (λ (y : NanoSeat). IsSeatOf id key y.seat × (y.seat.me.0.parts ≡ 2)) (sym q) (a.0.one, a.0.parts)) (λ (q : In s xs). new_all id key (k + 1) xs a.1 s q) h

-- all of them still, where one went on
pub all_set : (id : TableId) (key : Geometry) (ss : List NanoSeat) (i : ℕ) (n : NanoSeat) → AllOf id key ss → IsSeatOf id key n.seat → n.seat.me.0.parts ≡ 2 → AllOf id key (set ss i n)
all_set id key ss i n all one parts s h = ⊎_elim (λ (q : s ≡ n). subst (λ (y : NanoSeat). IsSeatOf id key y.seat × (y.seat.me.0.parts ≡ 2)) (sym q) (one, parts)) (λ (q : In s ss). all s q) (in_set ss i n s h)

-- two seats are all of a nano that has two
pub all_two : (nano : Nano) (a b : NanoSeat) → SitsAt nano a → SitsAt nano b → (s : NanoSeat) → In s (a ∷ b ∷ []) → SitsAt nano s
all_two nano a b x y s h = ⊎_elim (λ (q : s ≡ a). subst (SitsAt nano) (sym q) x) (λ (t : In s (b ∷ [])). ⊎_elim (λ (q : s ≡ b). subst (SitsAt nano) (sym q) y) (λ (z : ⊥). absurd z) t) h

-- a list of one move
pub can_one : (d : Deal) (hs : List (List Held)) → CanMove d hs → CanDeal (d ∷ []) hs
can_one d hs m = record { each = λ e h. ⊎_elim (λ (q : e ≡ d). subst (λ (y : Deal). CanMove y hs) (sym q) m) (λ (q : ⊥). absurd q) h; once = ((λ e h. absurd h), tt) }

pub hand_there : (ss : List NanoSeat) (i : ℕ) (s : NanoSeat) → i < length ss → get_or ss i s ≡ s → hand_at (hands_of ss) i ≡ hand_of s
hand_there ss i s l e = get_or-map hand_of ss i s [] l ∙ ap hand_of e

-- the slot that moved comes first in its new hand, with its class
pub moved_there : (d : Deal) (hs : List (List Held)) (c : ℕ) (rest : List Held) → d.to < length hs → hand_at hs d.from ≡ held d.block d.slot c ∷ rest → In (held d.block d.slot c) (hand_at (moved d hs) d.to)
moved_there d hs c rest to e =
    let left : List (List Held) = set hs d.from (without d.block d.slot (hand_at hs d.from)) in
    let wide : d.to < length left = subst (λ (m : ℕ). d.to < m) (sym (length-set hs d.from (without d.block d.slot (hand_at hs d.from)))) to in
    let class' : class_in d.block d.slot (hand_at hs d.from) ≡ c = ap (class_in d.block d.slot) e ∙ ap (λ (t : Bool). if t then c else class_in d.block d.slot rest) (at_is d.block d.slot (held d.block d.slot c) refl refl) in
    subst (In (held d.block d.slot c)) (sym (get_or-set_same left d.to (held d.block d.slot (class_in d.block d.slot (hand_at hs d.from)) ∷ hand_at left d.to) [] wide)) (inl (ap (held d.block d.slot) (sym class')))
