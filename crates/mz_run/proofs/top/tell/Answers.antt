use Rattle.std.proofs.Common.{refl}
use Rattle.mz_run.specs.Replies.{front}
use Rattle.mz_run.proofs.top.tell.Goals as goal

pub returns-in-Err-clause-said : goal.returns-in-Err-clause-said
returns-in-Err-clause-said g c =
    let taken = c.in-Err.ensures.front in
    front taken.0 refl c.in-Err.ensures.cause.failed taken.1
