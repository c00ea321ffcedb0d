use Rattle.std.proofs.Common.{◌<◌, true, false, length, arith}
use Rattle.mz_region.proofs.Runs.{read}
use Rattle.mz_region.proofs.Blocks.{rest_more, rest_ends, rest_idle, rest_begins}
use Rattle.mz_region.proofs.search.block_len.Goals as goal
use Rattle.mz_region.proofs.search.block_len.Goals.{then-loop-end-test+then-get+else-not-get, then-loop-end-test+else-get, else-loop-end-test}

pub loop-end-preserved : goal.loop-end-preserved
loop-end-preserved c =
    let i = c.loop-end.end in
    let high : c.loop-end.end < length c.args.in_use.now = omega arith in
    let low : c.loop-end.end < length c.args.begins.now = omega arith in
    let used = read c.args.in_use.now c.loop-end.end true high (c.if-get.ensures) in
    let none = read c.args.begins.now c.loop-end.end false low (c.if-not-get.ensures) in
    let more = rest_more c.args.begins.now c.args.in_use.now c.loop-end.end low high used none in
    record { above = omega arith; within = omega arith; rest = omega arith }

pub returns : goal.returns
returns c =
    elim c.loop-end-test.branch [
      | then-loop-end-test+then-get+else-not-get w ↦
          let low : c.loop-end.end < length c.args.begins.now = omega arith in
          let none = rest_begins c.args.begins.now c.args.in_use.now c.loop-end.end low (read c.args.begins.now c.loop-end.end true low (w.if-not-get.ensures)) in
          omega arith
      | then-loop-end-test+else-get w ↦
          let high : c.loop-end.end < length c.args.in_use.now = omega arith in
          let none = rest_idle c.args.begins.now c.args.in_use.now c.loop-end.end high (read c.args.in_use.now c.loop-end.end false high (w.if-get.ensures)) in
          omega arith
      | else-loop-end-test w ↦ let none = rest_ends c.args.begins.now c.args.in_use.now c.loop-end.end (omega arith) in omega arith
    ]
