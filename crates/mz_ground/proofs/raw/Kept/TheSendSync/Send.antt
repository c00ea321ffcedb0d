use denote.Param.Send.{IsSend, owning_send}
use Rattle.mz_ground.proofs.Crosses.{kept-keyless}
use Rattle.mz_ground.specs.contracts.raw.Kept as C

pub send : IsSend C.the_row
send = owning_send C.the_type tt (λ k. kept-keyless k.space k.first k.quantum k.lent k.bytes) (λ k x w. tt)
