use Rattle.mz_events.proofs.LeavingLemmas.{fits_by_event}
use Rattle.mz_events.proofs.laws.events.when_an_event_fits.Goals as goal

pub returns : goal.returns
returns c = fits_by_event
