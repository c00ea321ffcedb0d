use denote.Param.Send.{IsSend}
use Rattle.std.proofs.Crossing.{frees}
use Rattle.std.proofs.alloc.Global.TheSendSync.{the_send as heap}
use Rattle.mz_ground.proofs.Crosses.{sole-send}
use Rattle.mz_ground.specs.contracts.raw.Sole as C

pub send : IsSend C.the_row
send = sole-send heap frees
