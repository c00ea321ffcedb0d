use denote.Param.Send.{IsSend, owning_send}
use Rattle.mz_ground.proofs.Crosses.{tickets-keyless}
use Rattle.mz_ground.specs.contracts.raw.Deed as C

pub send : IsSend C.the_row
send = owning_send C.the_type tt (λ d. tickets-keyless d.space.name d.first d.count) (λ k x w. tt)
