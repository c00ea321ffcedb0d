use denote.Param.Send.{IsSend, IsSync, owning_send, whole-keyless}
use Rattle.mz_ground.proofs.Crosses.{tickets-keyless}
use Rattle.mz_ground.specs.contracts.raw.Deed as C

all : IsSend C.the_row
all = owning_send C.the_type tt (λ d. tickets-keyless d.space.name d.first d.count) (λ k x w. tt)

pub sync : IsSync C.the_row
sync = record { shared = λ x b o κ q. whole-keyless _ _ (λ z vs. all.owned z vs) q x b o }
