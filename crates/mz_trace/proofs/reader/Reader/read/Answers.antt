use Rattle.std.proofs.Common.{◌≡◌, map, Some, sym, ap, ◌∙◌}
use Rattle.mz_lines.specs.LineReading.{line_in}
use Rattle.mz_trace.proofs.LineIsKept.{can_add}
use Rattle.mz_trace.proofs.reader.Reader.read.Goals as goal

pub take-requires : goal.take-requires
take-requires c = λ is.
    let read : Some c.get.result.now ≡ line_in c.args.callers (map (λ w. w.now) c.args.words.now) = ap Some c.get.ensures ∙ sym c.in-Some.is ∙ c.in_ok-read_line.ensures in
    can_add c.line_laws.ensures c.args.callers (map (λ w. w.now) c.args.words.now) c.get.result.now c.args.self.now c.requires read is
