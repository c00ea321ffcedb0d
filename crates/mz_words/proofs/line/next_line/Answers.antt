use Rattle.mz_words.proofs.BytesAreCut.{first_of, only_of}
use Rattle.mz_words.proofs.line.next_line.Goals as goal

pub returns-in-Some-clause-cut : goal.returns-in-Some-clause-cut
returns-in-Some-clause-cut c = first_of c.args.bytes.now c.in-Some.end c.in-Some.ensures.place

pub returns-in-None-clause-cut : goal.returns-in-None-clause-cut
returns-in-None-clause-cut c = only_of c.args.bytes.now c.in-None.ensures.place c.if-is_empty.ensures
