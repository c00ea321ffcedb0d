use Rattle.mz_zone.proofs.ZoneZero.{zero_open}
use Rattle.mz_zone.proofs.laws.zone_zero_stays_open.Goals as goal

pub returns : goal.returns
returns c = λ p entries lawful.
    zero_open (record {
      fits = c.when_an_event_fits.ensures;
      others = c.zones_after_an_event.ensures.others;
      opened = c.zones_after_an_event.ensures.opened;
      shut = c.zones_after_an_event.ensures.shut;
    }) p entries lawful
