use Rattle.mz_events.proofs.FormLemmas.{form_after}
use Rattle.mz_events.proofs.laws.separation.live_blocks_have_their_forms.Goals as goal

pub returns : goal.returns
returns c = form_after
