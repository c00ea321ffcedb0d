use denote.Param.Send.{IsSend, IsSync, owning_send, whole-keyless}
use Rattle.mz_ground.proofs.Crosses.{plot-keyless}
use Rattle.mz_ground.specs.contracts.raw.Plot as C

all : IsSend C.the_row
all = owning_send C.the_type tt (λ p. plot-keyless p.space p.first p.bytes) (λ k x w. tt)

pub sync : IsSync C.the_row
sync = record { shared = λ x b o κ q. whole-keyless _ _ (λ z vs. all.owned z vs) q x b o }
