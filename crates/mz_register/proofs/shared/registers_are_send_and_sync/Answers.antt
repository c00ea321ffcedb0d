use denote.Exit.{yes}
use denote.Param.Send.{param_send, param_sync, arg_send, arg_sync}
use Rattle.mz_register.specs.contracts.register.Register as Register
use Rattle.mz_register.specs.contracts.shared.registers_are_send_and_sync.{V-row}
use Rattle.mz_register.proofs.Crosses.{register_send, register_sync}
use Rattle.mz_register.proofs.shared.registers_are_send_and_sync.Lts.{arg-0-0}
use Rattle.mz_register.proofs.shared.registers_are_send_and_sync.Goals as goal

pub send_and_sync-requires-send-T : goal.send_and_sync-requires-send-T
send_and_sync-requires-send-T g c κs within = param_send _ (arg-0-0 g.row.V g.V.laws g.V.Keep g.V.Keep-dict g.V.Destruct-dict κs) (arg_send _ yes (Register.the_row (V-row g.row.V) g.V.Keep) (register_send (V-row g.row.V) g.V.Keep c.type_bounds.send-V))

pub send_and_sync-requires-sync-T : goal.send_and_sync-requires-sync-T
send_and_sync-requires-sync-T g c κs within = param_sync _ (arg-0-0 g.row.V g.V.laws g.V.Keep g.V.Keep-dict g.V.Destruct-dict κs) (arg_sync _ yes (Register.the_row (V-row g.row.V) g.V.Keep) (register_sync (V-row g.row.V) g.V.Keep c.type_bounds.send-V))
