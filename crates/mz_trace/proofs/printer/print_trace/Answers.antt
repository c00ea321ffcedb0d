use Rattle.std.proofs.Common.{rules}
use Rattle.mz_trace.proofs.NormalFormIsText.{printed_is_text}
use Rattle.mz_trace.proofs.printer.print_trace.Goals as goal

pub returns-clause-text : goal.returns-clause-text
returns-clause-text c = λ fits. printed_is_text c.args.trace.now c.into_bytes.result.items (search rules) fits
