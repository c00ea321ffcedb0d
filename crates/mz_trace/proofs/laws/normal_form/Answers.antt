use Rattle.mz_trace.proofs.NormalFormIsText.{normal_is_text, text_is_trace}
use Rattle.mz_trace.proofs.laws.normal_form.Goals as goal

pub returns : goal.returns
returns c = record { text = normal_is_text; trace = text_is_trace }
