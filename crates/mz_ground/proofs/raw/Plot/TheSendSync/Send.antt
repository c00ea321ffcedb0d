use denote.Param.Send.{IsSend, owning_send}
use Rattle.mz_ground.proofs.Crosses.{plot-keyless}
use Rattle.mz_ground.specs.contracts.raw.Plot as C

pub send : IsSend C.the_row
send = owning_send C.the_type tt (λ p. plot-keyless p.space p.first p.bytes) (λ k x w. tt)
