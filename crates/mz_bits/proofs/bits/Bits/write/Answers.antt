use Rattle.std.proofs.Common.{◌≡◌, length, List, ℕ, sym, ap, ◌∙◌, subst, arith}
use Rattle.std.proofs.lemmas.List.{with_items_is}
use Rattle.mz_bits.specs.Words.{bits_of, Writes}
use Rattle.mz_bits.specs.Runs.{with_run}
use Rattle.mz_bits.proofs.ViewLemmas.{length-bits_of, bits_of-written}
use Rattle.mz_bits.proofs.bits.Bits.write.Goals as goal

pub write_in-requires-clause-within : goal.write_in-requires-clause-within
write_in-requires-clause-within c =
    let i = c.self.inside in
    let long : i.len ≡ length c.args.self.now = sym (length-bits_of i.words.items i.len) ∙ ap length c.self.view_is in
    let room = c.self.invariant.room in
    let slice : length c.as_mut_slice.result.now ≡ length i.words.items = ap length c.as_mut_slice.ensures.value in
    omega arith

pub returns-clause-made : goal.returns-clause-made
returns-clause-made c =
    let i = c.self.inside in
    let v = c.args.value in
    let long : i.len ≡ length c.args.self.now = sym (length-bits_of i.words.items i.len) ∙ ap length c.self.view_is in
    let F : List ℕ → Type 0 = λ ws. Writes v ws c.args.i c.args.n c.write_in.new.words in
    let w : Writes v i.words.items c.args.i c.args.n c.write_in.new.words = subst F c.as_mut_slice.ensures.value c.write_in.ensures in
    let count : length c.write_in.new.words ≡ i.words.len = w.count ∙ sym i.words.ok.0 in
    let items = with_items_is i.words c.write_in.new.words count in
    ap (λ ws. bits_of ws i.len) items ∙ bits_of-written v i.words.items c.write_in.new.words i.len c.args.i c.args.n (omega arith) w ∙ ap (λ l. with_run l c.args.i c.args.n v) c.self.view_is

pub returns-clause-count : goal.returns-clause-count
returns-clause-count c =
    let i = c.self.inside in
    length-bits_of _ i.len ∙ sym (length-bits_of i.words.items i.len) ∙ ap length c.self.view_is
