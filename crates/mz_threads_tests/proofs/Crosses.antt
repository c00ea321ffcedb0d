-- A register may be shared where its keepers may, and its passes may move. What `search` doesn't find at once for the whole it finds field by field.
use denote.RattleType.{RattleType}
use denote.Struct.Field.{row_field}
use denote.Param.Send.{IsSend, IsSync, Frees, sendable}
use denote.Param.SendFields.{as_row_sync, declared_send, declared_sync}
use Rattle.core.specs.declared.alloc.Allocator as alloc
use Rattle.core.specs.contracts.option.Option as Option
use Rattle.std.specs.contracts.alloc.Global as Global
use Rattle.std.specs.contracts.impls.GlobalAllocator.TheImpl as heap
use Rattle.std.proofs.Crossing.{crosses, frees, send, sync}
use Rattle.atomic_table.specs.declared.shared.TableRule as rule
use Rattle.atomic_table.proofs.shared.Shared.TheSendSync as shared
use Rattle.atomic_table.proofs.send_lease.SendLease.TheSendSync as lease
use Rattle.atomic_table.proofs.shared.Seat.TheSendSync as seat
use Rattle.atomic_table.specs.contracts.owned.Table as Table
use Rattle.mz_events.specs.declared.keep.Keep as keep
use Rattle.mz_events.specs.contracts.entry.Entry as Entry
use Rattle.mz_desk.specs.contracts.law.RegisterRule as Rule
use Rattle.mz_desk.specs.contracts.law.RegisterRuleTableRuleOptionViewOpening.TheImpl as impl
use Rattle.mz_desk.specs.contracts.view.Opening as Opening
use Rattle.mz_desk.specs.contracts.view.View as View
use Rattle.mz_register.specs.contracts.pass.Pass as Pass
use Rattle.mz_register.specs.contracts.register.Rest as Rest
use Rattle.mz_register.specs.contracts.register.Register as Register

module _ (S V K P A : RattleType) (g : rule.Ghosts P.Denot S.Denot V.Denot K.Denot) (a : alloc.Ghosts A.Denot) (s : IsSend S) (f : Frees a a.dealloc_token) (h : IsSend A) where
  table_sync : IsSync A → IsSync (Table.the_row S V K P A g a)
  table_sync y = declared_sync (Table.the_type S V K P A g a) (shared.the_sync S V K P g s, (search sendable, (search sendable, (lease.the_sync _ A a h f, (lease.the_sync S A a h f, (as_row_sync (row_field A) y, tt))))))

slot_send : (V : RattleType) → IsSend V → IsSend (Option.the_row V)
slot_send V s = search sendable depth 20

entry_send : IsSend Entry.the_row
entry_send = search sendable depth 60 fits 30000

entry_sync : IsSync Entry.the_row
entry_sync = search sendable depth 60 fits 30000

opening_sync : (V : RattleType) → IsSync (Opening.the_row V)
opening_sync V = declared_sync (Opening.the_type V) (search sendable depth 20, (search (sendable, crosses, entry_sync) depth 20, (search (sendable, crosses) depth 20, (search (sendable, crosses) depth 20, (search (sendable, crosses) depth 20, tt)))))

rest_sync : IsSync Rest.the_row
rest_sync = declared_sync Rest.the_type (search sendable, (search (sendable, crosses) depth 20, (search sendable, (search sendable, (search sendable depth 20, tt)))))

module _ (V : RattleType) (k : keep.Ghosts V.Denot) (s : IsSend V) where
  pub register_sync : IsSync (Register.the_row V k)
  register_sync = declared_sync (Register.the_type V k) (table_sync (Option.the_row V) View.the_row (Opening.the_row V) Rule.the_row Global.the_row (impl.ghosts V k impl.no_dict) heap.ghosts (slot_send V s) frees send sync, (opening_sync V, (search sendable, (rest_sync, tt))))

pub pass_send : (V : RattleType) → IsSend V → IsSend (Pass.the_row V)
pass_send V s = declared_send (Pass.the_type V) (search sendable, (search (sendable, crosses, entry_send) depth 20, (search sendable, (search (sendable, crosses) depth 20, (search sendable, (search sendable, (search sendable depth 20, (seat.the_send (Option.the_row V) View.the_row (slot_send V s), tt))))))))
