use Rattle.std.proofs.Common.{true}
use Rattle.mz_bits.proofs.ViewLemmas.{search_in_view}
use Rattle.mz_bits.proofs.bits.Bits.next_set.Goals as goal

pub returns : goal.returns
returns c =
    let i = c.self.inside in
    search_in_view true i.words.items c.as_slice.result.now c.args.self.now i.len c.args.i c.next_in.result c.as_slice.ensures.value c.self.view_is c.next_in.ensures
