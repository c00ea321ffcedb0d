use denote.Param.Send.{IsSend, IsSync, sendable, param_send}
use Rattle.std.proofs.Crossing.{crosses}
use Rattle.mz_threads_tests.specs.contracts.toy.Toy as Toy
use Rattle.mz_threads_tests.specs.contracts.toy.ToyKeep.TheImpl as impl
use Rattle.mz_register.specs.contracts.register.Register as Register
use Rattle.mz_register.specs.contracts.pass.Pass as Pass
use Rattle.mz_threads_tests.proofs.Crosses.{register_sync, pass_send}
use Rattle.mz_threads_tests.proofs.register.note_both.Lts.{arg-0-1}
use Rattle.mz_threads_tests.proofs.register.note_both.Goals as goal

toy : IsSend Toy.the_row
toy = search sendable depth 20

pass : IsSend (Pass.the_row Toy.the_row)
pass = pass_send Toy.the_row toy

register : IsSync (Register.the_row Toy.the_row impl.ghosts)
register = register_sync Toy.the_row impl.ghosts toy

pub join-requires-send-F : goal.join-requires-send-F
join-requires-send-F g c κs within = param_send 1 (arg-0-1 g.row.R g.R.laws g.R.Threads-dict g.R.Wait-dict κs) (search (sendable, crosses, register, pass) depth 40 fits 20000)
