-- What the table tells once it is closed, in terms of what the register still has.
use Rattle.std.proofs.Common.{List, ◌++◌, Option, Vec, ℕ, subst}
use Rattle.std.specs.declared.alloc.Global.{Global}
use Rattle.core.specs.Mem.Slots.{slots_items}
use Rattle.atomic_table.specs.declared.owned.Closed.{Closed}
use Rattle.atomic_table.specs.declared.shared.Seat.{Seat}
use Rattle.mz_events.specs.declared.entry.Entry.{Entry}
use Rattle.mz_events.specs.Standing.{Keeping}
use Rattle.mz_desk.specs.declared.view.View.{View}
use Rattle.mz_desk.specs.Views.{Opened}
use Rattle.mz_desk.specs.Keys.{opened_as}
use Rattle.mz_desk.specs.Ending.{Ended}
use Rattle.mz_register.specs.declared.pass.Pass.{Pass}
use Rattle.mz_register.specs.declared.register.Register.{Register}
use Rattle.mz_register.specs.HandIn.{joined_through, views_of, AreIn, IsClosed}
use Rattle.mz_register.proofs.FitLemmas.{same_key}

module _ {V : Type 0} (keeping : V → Keeping) (r : Register V) (passes : List (Pass V)) (seat : Seat (Option V) View) (noted : List (Vec Entry Global)) (held : Vec ℕ Global) (a : AreIn r.table.shared.table_id passes seat noted held)
    (closed : Closed (Option V) Global) (k : IsClosed keeping (opened_as keeping r.table.shared.key) r.table.shared.table_id seat.me.0 closed) where
  abbrev pub last : View
  last = joined_through a.first.seat.me.0 (views_of (a.front ++ a.back))

  pub at_end : Ended keeping (opened_as keeping r.opening) last (slots_items closed.words) k.homes
  at_end = subst (λ (key : Opened). Ended keeping key last (slots_items closed.words) k.homes) (same_key keeping r.table.shared.key r.opening r.profile r.history r.quanta r.classes r.site)
      (subst (λ (v : View). Ended keeping (opened_as keeping r.table.shared.key) v (slots_items closed.words) k.homes) a.view k.ended)
