use Rattle.std.proofs.Common.{◌≡◌, ◌+◌, ◌*◌, length, refl, sym, ap, ◌∙◌, arith}
use Rattle.mz_base.specs.Space.{block_at}
use Rattle.mz_base.specs.Lists.{size_at}
use Rattle.mz_region.proofs.Rows.{size_of_block, block_of_size}
use Rattle.mz_region.proofs.region.Region.free.Goals as goal
use Rattle.mz_region.proofs.region.Region.free.Goals.{in_default-via-in-Some+else-n-len, in_default-via-in_default}

pub overflow_mul-n : goal.overflow_mul-n
overflow_mul-n g c = let said = c.in-Some.ensures in let small = said.found.3 in omega arith

pub returns-in-Some : goal.returns-in-Some
returns-in-Some g c =
    let said = c.in-Some.ensures in
    let at = c.first.ensures.value in
    let some = said.found.3 in
    let equal = c.if-n-len.true in
    let long = c.len.ensures.value in
    let size : size_at c.args.self.now.live c.args.s.first ≡ length c.args.s.bytes = ap (size_at c.args.self.now.live) (sym at) ∙ said.found.2 ∙ omega arith in
    (block_of_size c.args.self.now.live c.args.s.first (length c.args.s.bytes) size (omega arith), c.put_back.ensures)

pub returns-in_default : goal.returns-in_default
returns-in_default g c =
    let row = c.quanta_at.ensures.is.row in
    let at = c.first.ensures.value in (
      λ live.
          let is = size_of_block g.row.Q c.args.self.now.first (c.args.self.now.first + g.row.Q * g.row.N) c.args.self.now.live (block_at c.args.s.first (length c.args.s.bytes)) row live in
          let some = is.1 in
          let size : size_at c.args.self.now.live c.first.result ≡ length c.args.s.bytes = ap (size_at c.args.self.now.live) at ∙ is.0 in
          elim c.in_default.branch [
            | in_default-via-in-Some+else-n-len w ↦
                let said = w.in-Some.ensures in
                let same = said.found.2 in
                let long = w.len.ensures.value in
                w.if-n-len.false (omega arith)
            | in_default-via-in_default w ↦ let said = w.in_default.ensures in let none = said.found in absurd (omega arith)
          ],
      refl,
      refl,
    )
