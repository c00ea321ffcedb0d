use Rattle.mz_trace.proofs.TextsAreTraces.{answers}
use Rattle.mz_trace.proofs.parser.parse.Goals as goal

pub returns : goal.returns
returns c = let a = answers c.line_laws.ensures c.args.bytes.now c.read_all.result c.read_all.ensures in record { found = a.found; only = a.only; good = a.good; bad = a.bad; trace = a.trace }
