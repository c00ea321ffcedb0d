use Rattle.std.proofs.Common.{arith}
use Rattle.std.proofs.lemmas.List.{length-take}
use Rattle.mz_run.proofs.InputLemmas.{bounded_more}
use Rattle.mz_run.proofs.input.read_input.Goals as goal

pub returns-in_err-extend_from_slice-clause-bounded :
    goal.returns-in_err-extend_from_slice-clause-bounded
returns-in_err-extend_from_slice-clause-bounded g c =
    bounded_more _ _ _ _ c.loop-piece.bytes.items c.read.new.buf c.in_ok-count.count c.loop-piece.invariant.read c.in_ok-count.ensures.bytes.0 c.in_ok-count.ensures.bound
    (omega (arith, c.loop-piece.invariant.count, c.min-most.ensures, c.len-in-loop-piece.ensures, c.read.auto.buf, c.loop-piece.bytes.ok, c.loop-piece.invariant.piece, length-take c.min-most.result c.loop-piece.piece))
