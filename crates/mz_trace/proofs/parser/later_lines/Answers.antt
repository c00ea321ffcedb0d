use Rattle.std.proofs.Common.{arith}
use Rattle.mz_words.specs.Lines.{cut_of, cuts}
use Rattle.mz_trace.proofs.LaterLines.{goes_on}
use Rattle.mz_trace.proofs.parser.later_lines.Goals as goal

pub loop-line-preserved : goal.loop-line-preserved
loop-line-preserved c =
    let h = c.loop-line.invariant in
    record {
      read =
          goes_on c.args.profile.callers (cuts c.args.bytes.now) c.loop-line.number (cuts c.loop-line.rest.now) (cut_of c.in-Some.line) (cuts c.in-Some.after.now) c.loop-line.reader
          c.read_line.new.self c.in_ok-why.field-0 h.read c.in-Some.ensures.cut c.in_ok-why.ensures c.in_default-2.is;
      room = omega (arith, c.in-Some.ensures.shorter, h.room);
    }
