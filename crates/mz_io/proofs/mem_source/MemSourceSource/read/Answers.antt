use Rattle.std.proofs.Common.{arith}
use Rattle.mz_io.proofs.Gift.{gives_from}
use Rattle.mz_io.proofs.mem_source.MemSourceSource.read.Goals as goal

pub returns-clause-bytes : goal.returns-clause-bytes
returns-clause-bytes c =
    rw (← c.self.view_is, ← c.deref-2.ensures.value) (gives_from _ _ _ _ _ c.copy_front-count.ensures.count c.copy_front-count.ensures.front (λ some. omega arith))
