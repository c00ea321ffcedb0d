use denote.Param.Send.{IsSend, IsSync, owning_send, whole-keyless}
use Rattle.mz_ground.proofs.Crosses.{kept-keyless}
use Rattle.mz_ground.specs.contracts.raw.Kept as C

all : IsSend C.the_row
all = owning_send C.the_type tt (λ k. kept-keyless k.space k.first k.quantum k.lent k.bytes) (λ k x w. tt)

pub sync : IsSync C.the_row
sync = record { shared = λ x b o κ q. whole-keyless _ _ (λ z vs. all.owned z vs) q x b o }
