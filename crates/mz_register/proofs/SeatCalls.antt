-- A keeper is locked, and then taken.
use Rattle.std.proofs.Common.{◌≡◌, ℕ, ◌+◌, List, arith, sym, ap, ◌∙◌, subst}
use mathlib.Core.Option.{none}
use Rattle.atomic_table.specs.Table.{step}
use Rattle.mz_events.specs.Standing.{Keeping}
use Rattle.mz_book.specs.declared.light.Clash.{Clash}
use Rattle.mz_desk.specs.Views.{locked}
use Rattle.mz_desk.specs.Needs.{Seated}
use Rattle.mz_desk.specs.Steps.{Knows, TriesLock}
use Rattle.mz_register.specs.Seats.{Takes, Locks, Gets}

pub locks_at : {V : Type 0} (slots k x n : ℕ) (me me' : Seated V) → TriesLock (step slots (k + 1) 0 x none) me n me' → n ≡ 0 → Locks me k me'
locks_at slots k x n me me' t z = record { from = t.from; clashes = me.0.clashes; view = t.got z ∙ ap (λ (i : ℕ). locked me.0 i t.from) (omega arith); carried = t.carried }

gets_at : {V : Type 0} (keeping : V → Keeping) (me me' : Seated V) (k from : ℕ) (cs : List Clash) (x : V) → Takes keeping (record (locked me.0 k from) { clashes = cs }, me.1) k x me' → Gets keeping me k x me'
gets_at keeping me me' k from cs x t = record { from = from; clashes = cs; counter = t.counter; others = t.others; away = t.away; view = t.view; carried = t.carried; stands = t.stands; calm = t.calm; knows = subst Knows (sym t.view) t.knows }

pub gets_of : {V : Type 0} (keeping : V → Keeping) (me mid me' : Seated V) (k : ℕ) (x : V) → Locks me k mid → Takes keeping mid k x me' → Gets keeping me k x me'
gets_of {V} keeping me mid me' k x l t = gets_at keeping me me' k l.from l.clashes x (subst (λ (m : Seated V). Takes keeping m k x me') (λ i. (l.view i, l.carried i)) t)
