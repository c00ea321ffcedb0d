use Rattle.mz_zone.proofs.Taking.{HasPopped, can_note_slot, can_put_back, taken, refused, missed_so}
use Rattle.mz_zone.proofs.nano.take_block.Goals as goal

pub pop-requires : goal.pop-requires
pop-requires g c = record { one = c.requires.can.nano.seat; class = c.requires.class }

pub make_block-requires : goal.make_block-requires
make_block-requires g c =
    let pop : HasPopped c.args.nano.now c.args.seat.now c.args.class c.in-Ok.slot c.pop.new.seat = record {
      sits = c.pop.ensures.one;
      number = c.pop.ensures.number;
      tries = c.pop.ensures.tries;
      misses = c.in-Ok.ensures.hit.0;
      missed = c.in-Ok.ensures.hit.1;
      popped = c.in-Ok.ensures.popped;
      gave = c.in-Ok.ensures.ok.0;
      class_ = c.in-Ok.ensures.ok.1;
      space = c.in-Ok.ensures.place.0;
      base = c.in-Ok.ensures.place.1;
    } in
    can_note_slot c.of_zones.ensures (g.B.Book.account c.args.book.now) c.args.nano.now c.args.seat.now c.args.class c.requires.can c.requires.class.0 c.requires.class.1 c.in-Ok.slot c.pop.new.seat pop

pub put_back-requires : goal.put_back-requires
put_back-requires g c =
    let pop : HasPopped c.args.nano.now c.args.seat.now c.args.class c.in-Ok.slot c.pop.new.seat = record {
      sits = c.pop.ensures.one;
      number = c.pop.ensures.number;
      tries = c.pop.ensures.tries;
      misses = c.in-Ok.ensures.hit.0;
      missed = c.in-Ok.ensures.hit.1;
      popped = c.in-Ok.ensures.popped;
      gave = c.in-Ok.ensures.ok.0;
      class_ = c.in-Ok.ensures.ok.1;
      space = c.in-Ok.ensures.place.0;
      base = c.in-Ok.ensures.place.1;
    } in
    record {
      one = pop.sits;
      mine = can_put_back c.of_zones.ensures (g.B.Book.account c.args.book.now) c.args.nano.now c.args.seat.now c.args.class c.requires.can c.requires.class.0 c.requires.class.1 c.in-Ok.slot c.pop.new.seat pop;
      place = (pop.space, pop.base);
    }

pub returns-in-Err : goal.returns-in-Err
returns-in-Err g c =
    let miss = c.in-Err.ensures.miss in
    missed_so c.of_zones.ensures (g.B.Book.account c.args.book.now) c.args.nano.now c.args.seat.now c.args.class c.requires.can c.requires.class.0 c.requires.class.1
    c.pop.new.seat c.in-Err._miss c.pop.ensures.one c.pop.ensures.number c.pop.ensures.tries miss.0 miss.1 miss.2 c.in-Err.ensures.err

pub returns-then-make_block : goal.returns-then-make_block
returns-then-make_block g c =
    let pop : HasPopped c.args.nano.now c.args.seat.now c.args.class c.in-Ok.slot c.pop.new.seat = record {
      sits = c.pop.ensures.one;
      number = c.pop.ensures.number;
      tries = c.pop.ensures.tries;
      misses = c.in-Ok.ensures.hit.0;
      missed = c.in-Ok.ensures.hit.1;
      popped = c.in-Ok.ensures.popped;
      gave = c.in-Ok.ensures.ok.0;
      class_ = c.in-Ok.ensures.ok.1;
      space = c.in-Ok.ensures.place.0;
      base = c.in-Ok.ensures.place.1;
    } in
    taken c.of_zones.ensures (g.B.Book.account c.args.book.now) c.args.nano.now c.args.seat.now c.args.class c.requires.can c.requires.class.0 c.requires.class.1 c.in-Ok.slot c.pop.new.seat pop
    (g.B.Book.account c.make_block.new.book) (rw c.if-make_block.true at c.make_block.ensures)

pub returns : goal.returns
returns g c =
    let pop : HasPopped c.args.nano.now c.args.seat.now c.args.class c.in-Ok.slot c.pop.new.seat = record {
      sits = c.pop.ensures.one;
      number = c.pop.ensures.number;
      tries = c.pop.ensures.tries;
      misses = c.in-Ok.ensures.hit.0;
      missed = c.in-Ok.ensures.hit.1;
      popped = c.in-Ok.ensures.popped;
      gave = c.in-Ok.ensures.ok.0;
      class_ = c.in-Ok.ensures.ok.1;
      space = c.in-Ok.ensures.place.0;
      base = c.in-Ok.ensures.place.1;
    } in
    refused c.of_zones.ensures (g.B.Book.account c.args.book.now) c.args.nano.now c.args.seat.now c.args.class c.requires.can c.requires.class.0 c.requires.class.1 c.in-Ok.slot c.pop.new.seat pop
    (g.B.Book.account c.make_block.new.book) c.put_back.new.seat (rw c.if-make_block.false at c.make_block.ensures) c.put_back.ensures
