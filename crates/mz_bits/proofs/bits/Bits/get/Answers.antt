use Rattle.std.proofs.Common.{◌≡◌, length, slice_get, arith, ap, ◌∙◌, sym}
use Rattle.mz_bits.proofs.ViewLemmas.{length-bits_of, get-bits_of}
use Rattle.mz_bits.proofs.bits.Bits.get.Goals as goal

pub index-requires : goal.index-requires
index-requires c =
    let i = c.self.inside in
    let long : i.len ≡ length c.args.self.now = sym (length-bits_of i.words.items i.len) ∙ ap length c.self.view_is in
    let room = c.self.invariant.room in
    omega (arith, i.words.ok.0)

pub returns : goal.returns
returns c =
    let i = c.self.inside in
    let long : i.len ≡ length c.args.self.now = sym (length-bits_of i.words.items i.len) ∙ ap length c.self.view_is in
    ap (λ l. slice_get l c.args.i) (sym c.self.view_is) ∙ get-bits_of i.words.items i.len c.args.i c.index.result.now (omega arith) c.self.invariant.room c.index.ensures
