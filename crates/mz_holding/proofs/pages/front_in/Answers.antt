use Rattle.std.proofs.Common.{arith, sym}
use Rattle.mz_holding.proofs.TakenLemmas.{front_fits, front_short}
use Rattle.mz_holding.proofs.pages.front_in.Goals as goal
use Rattle.mz_holding.proofs.pages.front_in.Goals.{else-x-limit-via-then-x-limit+then-w-room+else-gap-room, else-x-limit-via-then-x-limit+else-w-room, else-x-limit-via-else-x-limit}

pub returns-then-gap-room : goal.returns-then-gap-room
returns-then-gap-room c = sym (front_fits c.args.limit c.args.w c.args.al c.args.x c.gap_to-gap.result c.gap_to-gap.ensures (omega arith) (omega arith) (omega arith))

pub returns-else-x-limit : goal.returns-else-x-limit
returns-else-x-limit c = sym (front_short c.args.limit c.args.w c.args.al c.args.x c.gap_to-gap.result c.gap_to-gap.ensures (λ a b d. elim c.else-x-limit.branch [
  | else-x-limit-via-then-x-limit+then-w-room+else-gap-room w ↦ let f = w.if-gap-room.false in omega arith
  | else-x-limit-via-then-x-limit+else-w-room w ↦ let f = w.if-w-room.false in omega arith
  | else-x-limit-via-else-x-limit w ↦ let f = w.if-x-limit.false in omega arith
]))
