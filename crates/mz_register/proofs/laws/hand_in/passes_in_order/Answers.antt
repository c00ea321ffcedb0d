use Rattle.mz_register.proofs.InOrder.{in_order}
use Rattle.mz_register.proofs.laws.hand_in.passes_in_order.Goals as goal

pub returns : goal.returns
returns g c z p passes count each = record { each = λ i x at. (each i x at).0; one = in_order p.callers passes count (λ i x at. (each i x at).1) }
