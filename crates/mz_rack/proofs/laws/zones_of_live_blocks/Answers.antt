use Rattle.mz_rack.proofs.OpenZones.{ZoneLaws, in_open}
use Rattle.mz_rack.proofs.laws.zones_of_live_blocks.Goals as goal

pub returns : goal.returns
returns c = λ p entries j b lawful there.
    let laws : ZoneLaws = record {
      fits = c.when_an_event_fits.ensures;
      touched = c.what_an_event_leaves.ensures.touched;
      untouched = c.what_an_event_leaves.ensures.untouched;
      spots = c.what_an_event_reads.ensures.same_spot;
      zones = c.zones_after_an_event.ensures.others;
      opened = c.zones_after_an_event.ensures.opened;
      shut = c.zones_after_an_event.ensures.shut;
    } in
    in_open laws p entries j b lawful there
