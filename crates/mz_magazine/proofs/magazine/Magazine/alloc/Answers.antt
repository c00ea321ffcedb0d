use Rattle.std.proofs.Common.{rules, ◌≡◌, ℕ, ◌+◌, ◌*◌, ◌/◌, ◌%◌, true, false, Option, Some, None, refl, sym, ap, ◌∙◌, subst, arith}
use Rattle.std.proofs.lemmas.Option.{none-some, same_Some, some_pair_parts}
use Rattle.std.proofs.lemmas.Bool.{false≢true}
use Rattle.std.specs.Prelude.{IsTrue}
use Rattle.std.specs.List.{list_all}
use Rattle.mz_base.specs.Space.{blocks_apart}
use Rattle.mz_events.specs.Changes.{still_freed, with_block}
use Rattle.mz_magazine.proofs.Rooms.{power_some}
use Rattle.mz_base.specs.Space.{block_at, block_end}
use Rattle.mz_events.specs.Standing.{RegionsKept}
use Rattle.mz_magazine.specs.Keeping.{keeping_of, freed_at, IsIdleFreed}
use Rattle.mz_events.specs.Room.{wide}
use Rattle.mz_base.specs.Room.{any_has_room}
use Rattle.mz_magazine.proofs.KeepingRuns.{lies_runs, room_runs}
use Rattle.mz_magazine.proofs.KeepingFreed.{lost_freed, idle_made, made_view, idle_apart, front_aligned}
use Rattle.std.specs.List.{list_any}
use Rattle.std.proofs.lemmas.Nat.{div-add-mod'}
use Rattle.mz_base.specs.Space.{Block}
use Rattle.mz_base.specs.Room.{lies_in}
use Rattle.mz_events.specs.Placement.{is_placed_in_magazine, serves}
use Rattle.mz_magazine.specs.Row.{is_idle_in, has_room_at}
use Rattle.mz_magazine.proofs.KeepingRuns.{front_runs}
use Rattle.mz_magazine.proofs.KeepingFreed.{some_with, idle_lies, idle_has_room, placed_on_freed, placed_at_front, other_size, other_place}
use Rattle.mz_magazine.proofs.magazine.Magazine.alloc.Goals as goal
use Rattle.mz_magazine.proofs.magazine.Magazine.alloc.Goals.{in-Some+else-size-n, else-size-n-via-then-size-n+else-a-al-eq0, else-size-n-via-else-size-n, in_default}

never_serves : (last : Option (ℕ × ℕ)) (n al : ℕ) → ((p : ℕ × ℕ) → last ≡ Some p → serves (block_at p.0 p.1) n al ≡ false) → (f : Block) → freed_at last ≡ Some f → serves f n al ≡ false
never_serves None n al h f e = absurd (none-some f e)
never_serves (Some p) n al h f e = ap (λ d. serves d n al) (sym (same_Some (block_at p.0 p.1) f e)) ∙ h p refl

pub returns-in_default-alloc-clause-placed : goal.returns-in_default-alloc-clause-placed
returns-in_default-alloc-clause-placed g c = λ whole there.
    let i = c.self.inside in
    let said = c.in_default-alloc.ensures in
    false≢true (sym said.1 ∙ sym (room_runs g.row.Q g.row.N (g.row.Q * c.args.n) c.args.al i.row.live i.row.firsts whole (c.len-regions.ensures.is).aligned)
    ∙ ap (λ (v : RegionsKept). any_has_room v.kept.runs v.kept.live (g.row.Q * c.args.n) c.args.al) c.self.view_is ∙ there)

pub invariant_of-self-2 : goal.invariant_of-self-2
invariant_of-self-2 g c =
    let i = c.self.inside in
    let said = c.in-Some-alloc.ensures in
    let block = said.1 in
    let b = block_at c.in-Some-alloc.span.first (g.row.Q * c.args.n) in
    let at : c.first.result ≡ c.in-Some-alloc.span.first = c.first.ensures.value in
    let long : c.len.result ≡ g.row.Q * c.args.n = c.len.ensures.value ∙ block.size in
    let some = block.some in
    let still : freed_at c.apart_from-self-inside.result ≡ still_freed b (freed_at i.last_freed) =
    c.apart_from-self-inside.ensures.still (omega arith) ∙ ap (λ x. still_freed (block_at x c.len.result) (freed_at i.last_freed)) at ∙ ap (λ x. still_freed (block_at c.in-Some-alloc.span.first x) (freed_at i.last_freed)) long in
    idle_made g.row.Q g.row.N i.row c.alloc.new.self i.last_freed c.apart_from-self-inside.result b c.self.invariant block.live still

pub returns-clause-served : goal.returns-clause-served
returns-clause-served g c =
    let i = c.self.inside in
    let said = c.in-Some-alloc.ensures in
    let block = said.1 in
    let b = block_at c.in-Some-alloc.span.first (g.row.Q * c.args.n) in
    let at : c.first.result ≡ c.in-Some-alloc.span.first = c.first.ensures.value in
    let long : c.len.result ≡ g.row.Q * c.args.n = c.len.ensures.value ∙ block.size in
    let some = block.some in
    let still : freed_at c.apart_from-self-inside.result ≡ still_freed b (freed_at i.last_freed) =
    c.apart_from-self-inside.ensures.still (omega arith) ∙ ap (λ x. still_freed (block_at x c.len.result) (freed_at i.last_freed)) at ∙ ap (λ x. still_freed (block_at c.in-Some-alloc.span.first x) (freed_at i.last_freed)) long in (
      block.size,
      ap (λ (v : RegionsKept). v.space) (sym c.self.view_is) ∙ block.space,
      block.at,
      front_aligned (g.row.Q * g.row.N) i.row.firsts i.row.live b c.args.al some (power_some c.args.al c.requires.power) said.0,
      ap (λ (v : RegionsKept). list_all (λ d. blocks_apart d b) v.kept.live) (sym c.self.view_is) ∙ idle_apart (g.row.Q * g.row.N) i.row.firsts i.row.live c.in-Some-alloc.span.first (g.row.Q * c.args.n) block.idle,
      made_view g.row.Q g.row.N i.depot i.row c.alloc.new.self i.last_freed c.apart_from-self-inside.result b block.live still
          ∙ ap (λ (v : RegionsKept). record v { kept = with_block b v.kept }) c.self.view_is,
    )

pub returns-clause-placed : goal.returns-clause-placed
returns-clause-placed g c = λ whole.
    let never : (p : ℕ × ℕ) → c.self.inside.last_freed ≡ Some p → serves (block_at p.0 p.1) (g.row.Q * c.args.n) c.args.al ≡ false =
    elim c.match-self.branch [
      | in-Some+else-size-n w ↦ λ p is.
          let here : c.self.inside.last_freed ≡ Some (w.in-Some.a, w.in-Some.size) = first_of (cc, search rules) in
          let both = some_pair_parts w.in-Some.a p.0 w.in-Some.size p.1 (sym here ∙ is) in
          let first = both.0 in
          let size = both.1 in
          let had : IsIdleFreed g.row.Q g.row.N c.self.inside.row (Some p) = subst (IsIdleFreed g.row.Q g.row.N c.self.inside.row) is c.self.invariant in
          elim w.else-size-n.branch [
            | else-size-n-via-then-size-n+else-a-al-eq0 u ↦ other_place p.0 p.1 (g.row.Q * c.args.n) c.args.al (λ e. u.if-a-al-eq0.false (ap (λ x. x % c.args.al) first ∙ e))
            | else-size-n-via-else-size-n u ↦ other_size g.row.Q p.0 p.1 c.args.n c.args.al had.1 had.2 (λ e. u.if-size-n.false (ap (λ x. x / g.row.Q) size ∙ e))
          ]
      | in_default w ↦ λ p is. absurd (w.in_default.not-Some p is)
    ] in
    let i = c.self.inside in
    let said = c.in-Some-alloc.ensures in
    let block = said.1 in
    let b = block_at c.in-Some-alloc.span.first (g.row.Q * c.args.n) in
    let at : c.first.result ≡ c.in-Some-alloc.span.first = c.first.ensures.value in
    let long : c.len.result ≡ g.row.Q * c.args.n = c.len.ensures.value ∙ block.size in
    let some = block.some in
    let still : freed_at c.apart_from-self-inside.result ≡ still_freed b (freed_at i.last_freed) =
    c.apart_from-self-inside.ensures.still (omega arith) ∙ ap (λ x. still_freed (block_at x c.len.result) (freed_at i.last_freed)) at ∙ ap (λ x. still_freed (block_at c.in-Some-alloc.span.first x) (freed_at i.last_freed)) long in
    let room : list_any (has_room_at (g.row.Q * g.row.N) i.row.live (g.row.Q * c.args.n) c.args.al) i.row.firsts ≡ true → IsTrue (any_has_room c.args.self.now.kept.runs (wide c.args.self.now.kept) (g.row.Q * c.args.n) c.args.al) = λ there.
    ap (λ (v : RegionsKept). any_has_room v.kept.runs v.kept.live (g.row.Q * c.args.n) c.args.al) (sym c.self.view_is) ∙ room_runs g.row.Q g.row.N (g.row.Q * c.args.n) c.args.al i.row.live i.row.firsts whole (c.len-regions.ensures.is).aligned ∙ there in
    let power = power_some c.args.al c.requires.power in
    let aligned = front_aligned (g.row.Q * g.row.N) i.row.firsts i.row.live b c.args.al some power said.0 in
    let not_served : (f : Block) → (keeping_of g.row.Q g.row.N i.depot i.row i.last_freed).kept.last_freed ≡ Some f → serves f (g.row.Q * c.args.n) c.args.al ≡ false = never_serves i.last_freed (g.row.Q * c.args.n) c.args.al never in (
      room (idle_has_room (g.row.Q * g.row.N) i.row.firsts i.row.live c.in-Some-alloc.span.first (g.row.Q * c.args.n) c.args.al some power aligned block.idle),
      ap (λ (v : RegionsKept). is_placed_in_magazine v.kept b c.args.al) (sym c.self.view_is)
          ∙ placed_at_front (keeping_of g.row.Q g.row.N i.depot i.row i.last_freed).kept b c.args.al not_served (front_runs g.row.Q g.row.N c.args.al b i.row.live i.row.firsts whole (c.len-regions.ensures.is).aligned ∙ said.0),
      ap (λ (v : RegionsKept). list_any (λ r. lies_in r b.first (block_end b)) v.kept.runs) (sym c.self.view_is) ∙ lies_runs g.row.Q g.row.N i.row.firsts b.first (block_end b) whole (c.len-regions.ensures.is).aligned
          ∙ idle_lies (g.row.Q * g.row.N) i.row.firsts i.row.live b.first (block_end b) block.idle,
    )

pub returns-then-a-al-eq0-clause-served : goal.returns-then-a-al-eq0-clause-served
returns-then-a-al-eq0-clause-served g c =
    let i = c.self.inside in
    let is : i.last_freed ≡ Some (c.in-Some.a, c.in-Some.size) = cc in
    let had : IsIdleFreed g.row.Q g.row.N i.row (Some (c.in-Some.a, c.in-Some.size)) = subst (IsIdleFreed g.row.Q g.row.N i.row) is c.self.invariant in
    let some = had.2 in
    let whole_size = had.1 in
    let quanta = ap (λ m. m * g.row.Q) c.if-size-n.true in
    let long : c.in-Some.size ≡ g.row.Q * c.args.n = omega (arith, div-add-mod' c.in-Some.size g.row.Q) in
    let idle : is_idle_in (g.row.Q * g.row.N) i.row.firsts i.row.live c.in-Some.a (c.in-Some.a + g.row.Q * c.args.n) ≡ true = ap (λ m. is_idle_in (g.row.Q * g.row.N) i.row.firsts i.row.live c.in-Some.a (c.in-Some.a + m)) (sym long) ∙ had.3 in
    some_with c.alloc_at.result _ _ _ _ c.alloc_at.ensures (λ none. false≢true (sym none.1 ∙ idle)) (λ s said.
    let block = said.1 in
    let b = block_at s.first (g.row.Q * c.args.n) in
    let at = said.0 in
    let filled = block.some in (
      block.size,
      ap (λ (v : RegionsKept). v.space) (sym c.self.view_is) ∙ block.space,
      block.at,
      ap (λ x. x % c.args.al) said.0 ∙ c.if-a-al-eq0.true,
      ap (λ (v : RegionsKept). list_all (λ d. blocks_apart d b) v.kept.live) (sym c.self.view_is) ∙ idle_apart (g.row.Q * g.row.N) i.row.firsts i.row.live s.first (g.row.Q * c.args.n) block.idle,
      made_view g.row.Q g.row.N i.depot i.row c.alloc_at.new.self i.last_freed None b block.live (lost_freed i.last_freed c.in-Some.a c.in-Some.size s.first (g.row.Q * c.args.n) is (omega arith) (omega arith))
          ∙ ap (λ (v : RegionsKept). record v { kept = with_block b v.kept }) c.self.view_is,
    ))

pub returns-then-a-al-eq0-clause-placed : goal.returns-then-a-al-eq0-clause-placed
returns-then-a-al-eq0-clause-placed g c = λ whole.
    let i = c.self.inside in
    let is : i.last_freed ≡ Some (c.in-Some.a, c.in-Some.size) = cc in
    let had : IsIdleFreed g.row.Q g.row.N i.row (Some (c.in-Some.a, c.in-Some.size)) = subst (IsIdleFreed g.row.Q g.row.N i.row) is c.self.invariant in
    let some = had.2 in
    let whole_size = had.1 in
    let quanta = ap (λ m. m * g.row.Q) c.if-size-n.true in
    let long : c.in-Some.size ≡ g.row.Q * c.args.n = omega (arith, div-add-mod' c.in-Some.size g.row.Q) in
    let idle : is_idle_in (g.row.Q * g.row.N) i.row.firsts i.row.live c.in-Some.a (c.in-Some.a + g.row.Q * c.args.n) ≡ true = ap (λ m. is_idle_in (g.row.Q * g.row.N) i.row.firsts i.row.live c.in-Some.a (c.in-Some.a + m)) (sym long) ∙ had.3 in
    let room : list_any (has_room_at (g.row.Q * g.row.N) i.row.live (g.row.Q * c.args.n) c.args.al) i.row.firsts ≡ true → IsTrue (any_has_room c.args.self.now.kept.runs (wide c.args.self.now.kept) (g.row.Q * c.args.n) c.args.al) = λ there.
    ap (λ (v : RegionsKept). any_has_room v.kept.runs v.kept.live (g.row.Q * c.args.n) c.args.al) (sym c.self.view_is) ∙ room_runs g.row.Q g.row.N (g.row.Q * c.args.n) c.args.al i.row.live i.row.firsts whole (c.len-regions.ensures.is).aligned ∙ there in
    let power = power_some c.args.al c.requires.power in
    some_with c.alloc_at.result _ _ _ _ c.alloc_at.ensures (λ none. false≢true (sym none.1 ∙ idle)) (λ s said.
    let block = said.1 in
    let filled = block.some in
    let b = block_at s.first (g.row.Q * c.args.n) in
    let aligned : s.first % c.args.al ≡ 0 = ap (λ x. x % c.args.al) said.0 ∙ c.if-a-al-eq0.true in (
      room (idle_has_room (g.row.Q * g.row.N) i.row.firsts i.row.live s.first (g.row.Q * c.args.n) c.args.al filled power aligned block.idle),
      ap (λ (v : RegionsKept). is_placed_in_magazine v.kept b c.args.al) (sym c.self.view_is)
          ∙ placed_on_freed (keeping_of g.row.Q g.row.N i.depot i.row i.last_freed).kept c.in-Some.a c.in-Some.size s.first (g.row.Q * c.args.n) c.args.al (ap freed_at is) said.0 long c.if-a-al-eq0.true,
      ap (λ (v : RegionsKept). list_any (λ r. lies_in r b.first (block_end b)) v.kept.runs) (sym c.self.view_is) ∙ lies_runs g.row.Q g.row.N i.row.firsts b.first (block_end b) whole (c.len-regions.ensures.is).aligned
          ∙ idle_lies (g.row.Q * g.row.N) i.row.firsts i.row.live b.first (block_end b) block.idle,
    ))
