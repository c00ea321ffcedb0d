use denote.Param.Send.{IsSync}
use Rattle.mz_ground.specs.contracts.raw.Sole as C

pub sync : IsSync C.the_row
sync = record { shared = λ e b o κ. tt }
