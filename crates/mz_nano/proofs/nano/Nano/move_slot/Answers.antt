use Rattle.std.proofs.Common.{ℕ, ◌<◌, List, [], length, map, get_or, sym, ap, subst, arith}
use Rattle.std.proofs.lemmas.List.{get_or-map}
use Rattle.mz_nano.specs.declared.seat.NanoSeat.{NanoSeat}
use Rattle.mz_nano.specs.Lists.{In}
use Rattle.mz_nano.specs.Rule.{held}
use Rattle.mz_nano.specs.SeatLists.{hand_of}
use Rattle.mz_nano.proofs.CountLemmas.{index_in}
use Rattle.mz_nano.proofs.DealLemmas.{map_length, sits_at, length1, sit1, length2, sit2, enough2, length3, sit3, length4, all4, hands4, counts4}
use Rattle.mz_nano.proofs.nano.Nano.move_slot.Goals as goal

within : (ss : List NanoSeat) (i : ℕ) → i < length (map hand_of ss) → i < length ss
within ss i l = let e = map_length hand_of ss in omega arith

pub give_at-temp-requires-clause-within : goal.give_at-temp-requires-clause-within
give_at-temp-requires-clause-within c = within c.args.seats.now.items c.args.deal.now.from c.requires.can.from

pub give_at-temp-requires-clause-can : goal.give_at-temp-requires-clause-can
give_at-temp-requires-clause-can c x =
    let ss = c.args.seats.now.items in
    let d = c.args.deal.now in
    let m = c.requires.can in
    let lt = within ss d.from m.from in
    let t = c.requires.all (get_or ss d.from x) (index_in ss d.from x lt) in
    let two = t.1 in
    (t.0, omega arith, (m.class_, subst (In (held d.block d.slot m.class_)) (get_or-map hand_of ss d.from x [] lt) m.mine))

pub take_in_at-requires-clause-within : goal.take_in_at-requires-clause-within
take_in_at-requires-clause-within c =
    let ss = c.args.seats.now.items in
    let ss1 = c.give_at-temp.new.seats.items in
    let d = c.args.deal.now in
    let m = c.requires.can in
    let from = within ss d.from m.from in
    let to = within ss d.to m.to in
    let t = c.give_at-temp.result in
    let l = length1 c.args.self.now d ss ss1 ss1 ss1 ss1 t t from to c.requires.all c.give_at-temp.ensures.gives in
    omega arith

pub take_in_at-requires-clause-can : goal.take_in_at-requires-clause-can
take_in_at-requires-clause-can c x =
    let ss = c.args.seats.now.items in
    let ss1 = c.give_at-temp.new.seats.items in
    let d = c.args.deal.now in
    let m = c.requires.can in
    let from = within ss d.from m.from in
    let to = within ss d.to m.to in
    let t = c.give_at-temp.result in
    let g = c.give_at-temp.ensures.gives in
    let l = length1 c.args.self.now d ss ss1 ss1 ss1 ss1 t t from to c.requires.all g in
    sits_at c.args.self.now ss1 (sit1 c.args.self.now d ss ss1 ss1 ss1 ss1 t t from to c.requires.all g) d.to (omega arith) x

pub take_in_at-requires-clause-count : goal.take_in_at-requires-clause-count
take_in_at-requires-clause-count c = sym (ap length c.give_at-temp.ensures.gives.gift)

pub lend_at-part-requires-clause-within : goal.lend_at-part-requires-clause-within
lend_at-part-requires-clause-within c =
    let ss = c.args.seats.now.items in
    let ss1 = c.give_at-temp.new.seats.items in
    let ss2 = c.take_in_at.new.seats.items in
    let d = c.args.deal.now in
    let m = c.requires.can in
    let from = within ss d.from m.from in
    let to = within ss d.to m.to in
    let t = c.give_at-temp.result in
    let l = length2 c.args.self.now d ss ss1 ss2 ss2 ss2 t t from to c.requires.all c.give_at-temp.ensures.gives c.take_in_at.ensures.takes in
    omega arith

pub lend_at-part-requires-clause-can : goal.lend_at-part-requires-clause-can
lend_at-part-requires-clause-can c x =
    let ss = c.args.seats.now.items in
    let ss1 = c.give_at-temp.new.seats.items in
    let ss2 = c.take_in_at.new.seats.items in
    let d = c.args.deal.now in
    let m = c.requires.can in
    let from = within ss d.from m.from in
    let to = within ss d.to m.to in
    let t = c.give_at-temp.result in
    let g = c.give_at-temp.ensures.gives in
    let k = c.take_in_at.ensures.takes in
    let l = length2 c.args.self.now d ss ss1 ss2 ss2 ss2 t t from to c.requires.all g k in (
      sits_at c.args.self.now ss2 (sit2 c.args.self.now d ss ss1 ss2 ss2 ss2 t t from to c.requires.all g k) d.to (omega arith) x,
      enough2 c.args.self.now d ss ss1 ss2 ss2 ss2 t t from to c.requires.all g k x,
    )

pub take_in_at-requires-2-clause-within : goal.take_in_at-requires-2-clause-within
take_in_at-requires-2-clause-within c =
    let ss = c.args.seats.now.items in
    let ss1 = c.give_at-temp.new.seats.items in
    let ss2 = c.take_in_at.new.seats.items in
    let ss3 = c.lend_at-part.new.seats.items in
    let d = c.args.deal.now in
    let m = c.requires.can in
    let from = within ss d.from m.from in
    let to = within ss d.to m.to in
    let l = length3 c.args.self.now d ss ss1 ss2 ss3 ss3 c.give_at-temp.result c.lend_at-part.result from to c.requires.all c.give_at-temp.ensures.gives c.take_in_at.ensures.takes c.lend_at-part.ensures.lends in
    omega arith

pub take_in_at-requires-2-clause-can : goal.take_in_at-requires-2-clause-can
take_in_at-requires-2-clause-can c x =
    let ss = c.args.seats.now.items in
    let ss1 = c.give_at-temp.new.seats.items in
    let ss2 = c.take_in_at.new.seats.items in
    let ss3 = c.lend_at-part.new.seats.items in
    let d = c.args.deal.now in
    let m = c.requires.can in
    let from = within ss d.from m.from in
    let to = within ss d.to m.to in
    let g = c.give_at-temp.ensures.gives in
    let k = c.take_in_at.ensures.takes in
    let e = c.lend_at-part.ensures.lends in
    let l = length3 c.args.self.now d ss ss1 ss2 ss3 ss3 c.give_at-temp.result c.lend_at-part.result from to c.requires.all g k e in
    sits_at c.args.self.now ss3 (sit3 c.args.self.now d ss ss1 ss2 ss3 ss3 c.give_at-temp.result c.lend_at-part.result from to c.requires.all g k e) d.from (omega arith) x

pub take_in_at-requires-2-clause-count : goal.take_in_at-requires-2-clause-count
take_in_at-requires-2-clause-count c = sym (ap length c.lend_at-part.ensures.lends.gift)

pub returns-clause-all : goal.returns-clause-all
returns-clause-all c =
    let ss = c.args.seats.now.items in
    let d = c.args.deal.now in
    let m = c.requires.can in
    all4 c.args.self.now d ss c.give_at-temp.new.seats.items c.take_in_at.new.seats.items c.lend_at-part.new.seats.items c.take_in_at-2.new.seats.items c.give_at-temp.result c.lend_at-part.result
    (within ss d.from m.from) (within ss d.to m.to) c.requires.all c.give_at-temp.ensures.gives c.take_in_at.ensures.takes c.lend_at-part.ensures.lends c.take_in_at-2.ensures.takes

pub returns-clause-len : goal.returns-clause-len
returns-clause-len c =
    let ss = c.args.seats.now.items in
    let d = c.args.deal.now in
    let m = c.requires.can in
    length4 c.args.self.now d ss c.give_at-temp.new.seats.items c.take_in_at.new.seats.items c.lend_at-part.new.seats.items c.take_in_at-2.new.seats.items c.give_at-temp.result c.lend_at-part.result
    (within ss d.from m.from) (within ss d.to m.to) c.requires.all c.give_at-temp.ensures.gives c.take_in_at.ensures.takes c.lend_at-part.ensures.lends c.take_in_at-2.ensures.takes

pub returns-clause-hands : goal.returns-clause-hands
returns-clause-hands c =
    let ss = c.args.seats.now.items in
    let d = c.args.deal.now in
    let m = c.requires.can in
    hands4 c.args.self.now d ss c.give_at-temp.new.seats.items c.take_in_at.new.seats.items c.lend_at-part.new.seats.items c.take_in_at-2.new.seats.items c.give_at-temp.result c.lend_at-part.result
    (within ss d.from m.from) (within ss d.to m.to) c.requires.all c.give_at-temp.ensures.gives c.take_in_at.ensures.takes c.lend_at-part.ensures.lends c.take_in_at-2.ensures.takes

pub returns-clause-counts : goal.returns-clause-counts
returns-clause-counts c =
    let ss = c.args.seats.now.items in
    let d = c.args.deal.now in
    let m = c.requires.can in
    counts4 c.args.self.now d ss c.give_at-temp.new.seats.items c.take_in_at.new.seats.items c.lend_at-part.new.seats.items c.take_in_at-2.new.seats.items c.give_at-temp.result c.lend_at-part.result
    (within ss d.from m.from) (within ss d.to m.to) c.requires.all c.give_at-temp.ensures.gives c.take_in_at.ensures.takes c.lend_at-part.ensures.lends c.take_in_at-2.ensures.takes
