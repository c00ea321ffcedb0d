use Rattle.std.proofs.Common.{◌≡◌, ◌+◌, ◌*◌, ◌≤◌, true, false, sym, ap, ◌∙◌, arith}
use Rattle.std.specs.Prelude.{nat_le, min}
use Rattle.mz_base.specs.Space.{least_multiple}
use Rattle.mz_holding.specs.Gaps.{far}
use Rattle.mz_holding.specs.HeldRuns.{run_of_held, live_of_held}
use Rattle.mz_holding.proofs.WalkLemmas.{found_fits, room_at_gap, walk_step, walk_end, walk_over, walk_found, found_at_high, high_here}
use Rattle.mz_holding.proofs.RoomLemmas.{no_room_above}
use Rattle.mz_holding.proofs.held.Held.has_room.Goals as goal

pub returns-then-fits_below : goal.returns-then-fits_below
returns-then-fits_below c =
    let limit = c.args.self.now.sound.1 in
    let top : (c.args.self.now.first + c.args.self.now.pages) * 16384 ≤ far = omega arith in
    let yes_ : nat_le (least_multiple c.args.al c.loop-x.x + c.args.n) (min c.gap-high.result.1 ((c.args.self.now.first + c.args.self.now.pages) * 16384)) ≡ true = ap (λ t. nat_le (least_multiple c.args.al c.loop-x.x + c.args.n) t) (sym c.min.ensures) ∙ sym c.fits_below.ensures ∙ c.if-fits_below.true in
    sym (walk_found (run_of_held c.args.self.now) (live_of_held c.args.self.now) c.args.n c.args.al c.requires.some c.requires.whole c.args.self.now.blocks.spread c.loop-x.x c.loop-x.invariant (room_at_gap (run_of_held c.args.self.now) (live_of_held c.args.self.now) c.args.n c.args.al c.requires.some c.requires.whole c.args.self.now.blocks.spread c.loop-x.x c.gap-high.result.0 c.gap-high.result.1 c.loop-x.invariant c.gap-high.ensures top ∙ yes_))

pub returns-then-end-high : goal.returns-then-end-high
returns-then-end-high c =
    let limit = c.args.self.now.sound.1 in
    let top : (c.args.self.now.first + c.args.self.now.pages) * 16384 ≤ far = omega arith in
    let no : nat_le (least_multiple c.args.al c.loop-x.x + c.args.n) (min c.gap-high.result.1 ((c.args.self.now.first + c.args.self.now.pages) * 16384)) ≡ false = ap (λ t. nat_le (least_multiple c.args.al c.loop-x.x + c.args.n) t) (sym c.min.ensures) ∙ sym c.fits_below.ensures ∙ c.if-fits_below.false in
    let tested = room_at_gap (run_of_held c.args.self.now) (live_of_held c.args.self.now) c.args.n c.args.al c.requires.some c.requires.whole c.args.self.now.blocks.spread c.loop-x.x c.gap-high.result.0 c.gap-high.result.1 c.loop-x.invariant c.gap-high.ensures top ∙ no in
    sym (walk_end (run_of_held c.args.self.now) (live_of_held c.args.self.now) c.args.n c.args.al c.requires.some c.requires.whole c.args.self.now.blocks.spread c.loop-x.x c.gap-high.result.0 c.gap-high.result.1 c.loop-x.invariant c.gap-high.ensures top tested c.if-end-high.true)

pub returns-in_default : goal.returns-in_default
returns-in_default c =
    let limit = c.args.self.now.sound.1 in
    let top : (c.args.self.now.first + c.args.self.now.pages) * 16384 ≤ far = omega arith in
    let more = c.if-end-high.false in
    absurd (found_at_high (run_of_held c.args.self.now) (live_of_held c.args.self.now) c.args.n c.args.al c.requires.some c.requires.whole c.args.self.now.blocks.spread c.loop-x.x c.gap-high.result.0 c.gap-high.result.1 c.loop-x.invariant c.gap-high.ensures top (omega arith) (sym c.find.ensures ∙ c.in_default.is))

pub overflow_add-x : goal.overflow_add-x
overflow_add-x c =
    let fits = found_fits (live_of_held c.args.self.now) c.gap-high.result.1 c.in-Some.size c.args.self.now.blocks.spread (sym c.find.ensures ∙ c.in-Some.is) in
    let most = fits.1 in
    omega arith

pub loop-x-smaller : goal.loop-x-smaller
loop-x-smaller c =
    let limit = c.args.self.now.sound.1 in
    let top : (c.args.self.now.first + c.args.self.now.pages) * 16384 ≤ far = omega arith in
    let fits = found_fits (live_of_held c.args.self.now) c.gap-high.result.1 c.in-Some.size c.args.self.now.blocks.spread (sym c.find.ensures ∙ c.in-Some.is) in
    let one = fits.0 in
    let more = c.if-end-high.false in
    let test = c.loop-x-test.true in
    let up : c.loop-x.x ≤ c.gap-high.result.1 = high_here (run_of_held c.args.self.now) (live_of_held c.args.self.now) c.args.n c.args.al c.requires.some c.requires.whole c.args.self.now.blocks.spread c.loop-x.x c.gap-high.result.0 c.gap-high.result.1 c.loop-x.invariant c.gap-high.ensures top (omega arith) in
    omega arith

pub loop-x-preserved : goal.loop-x-preserved
loop-x-preserved c =
    let limit = c.args.self.now.sound.1 in
    let top : (c.args.self.now.first + c.args.self.now.pages) * 16384 ≤ far = omega arith in
    let no : nat_le (least_multiple c.args.al c.loop-x.x + c.args.n) (min c.gap-high.result.1 ((c.args.self.now.first + c.args.self.now.pages) * 16384)) ≡ false = ap (λ t. nat_le (least_multiple c.args.al c.loop-x.x + c.args.n) t) (sym c.min.ensures) ∙ sym c.fits_below.ensures ∙ c.if-fits_below.false in
    let tested = room_at_gap (run_of_held c.args.self.now) (live_of_held c.args.self.now) c.args.n c.args.al c.requires.some c.requires.whole c.args.self.now.blocks.spread c.loop-x.x c.gap-high.result.0 c.gap-high.result.1 c.loop-x.invariant c.gap-high.ensures top ∙ no in
    let more = c.if-end-high.false in
    walk_step (run_of_held c.args.self.now) (live_of_held c.args.self.now) c.args.n c.args.al c.requires.some c.requires.whole c.args.self.now.blocks.spread c.loop-x.x c.gap-high.result.0 c.gap-high.result.1 c.loop-x.invariant c.gap-high.ensures top c.in-Some.size tested (omega arith) (sym c.find.ensures ∙ c.in-Some.is)

pub returns : goal.returns
returns c = sym (walk_over (run_of_held c.args.self.now) (live_of_held c.args.self.now) c.args.n c.args.al c.requires.some c.requires.whole c.args.self.now.blocks.spread c.loop-x.x c.loop-x.invariant c.loop-x-test.false)

pub returns-then-self-n : goal.returns-then-self-n
returns-then-self-n c = sym (no_room_above c.args.self.now.first c.args.self.now.pages c.args.self.now.most (live_of_held c.args.self.now) c.args.self.now.blocks.spread c.args.self.now.bound c.args.n c.args.al c.if-self-n.true c.requires.whole)
