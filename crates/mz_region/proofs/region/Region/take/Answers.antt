use Rattle.std.proofs.Common.{◌≡◌, ◌+◌, ◌*◌, length, true, false, refl, ap, ◌∙◌, lit<, arith}
use Rattle.mz_ground.specs.Marks.{marked}
use Rattle.mz_region.proofs.Kept.{idle_bits, flags_are, more_fits, held_more, view_more, all_small, same_length}
use Rattle.mz_region.proofs.region.Region.take.Goals as goal

pub lend-span-requires : goal.lend-span-requires
lend-span-requires g c =
    let i = c.self.inside in
    let held = c.self.invariant in
    let bits = idle_bits g.row.Q g.row.N i.first i.begins i.in_use i.ground i.live_bytes i.count held c.args.self.now c.self.view_is c.args.q c.args.n c.requires.idle in
    let within = bits.0 in
    let long : length i.ground.lent ≡ g.row.N = ap length held.lent ∙ held.quanta in
    (lit< tt, (c.requires.some, (omega arith, flags_are false i.ground.lent i.in_use c.args.q (c.args.q + c.args.n) held.lent bits.1)))

pub set-requires : goal.set-requires
set-requires g c =
    let i = c.self.inside in
    let held = c.self.invariant in
    let bits = idle_bits g.row.Q g.row.N i.first i.begins i.in_use i.ground i.live_bytes i.count held c.args.self.now c.self.view_is c.args.q c.args.n c.requires.idle in
    let within = bits.0 in
    let some = c.requires.some in
    let long = same_length g.row.Q g.row.N i.first i.begins i.in_use i.ground i.live_bytes i.count held in
    omega arith

pub overflow_add-self : goal.overflow_add-self
overflow_add-self g c =
    let i = c.self.inside in
    let held = c.self.invariant in
    let bits = idle_bits g.row.Q g.row.N i.first i.begins i.in_use i.ground i.live_bytes i.count held c.args.self.now c.self.view_is c.args.q c.args.n c.requires.idle in
    let fits = more_fits g.row.Q g.row.N i.first i.begins i.in_use i.ground i.live_bytes i.count held c.args.q c.args.n (i.first + g.row.Q * c.args.q) refl c.requires.some bits.0 bits.1 in
    let small = all_small g.row.Q g.row.N i.first i.begins i.in_use i.ground i.live_bytes i.count held in
    omega (arith, fits.0)

pub overflow_add-self-2 : goal.overflow_add-self-2
overflow_add-self-2 g c =
    let i = c.self.inside in
    let held = c.self.invariant in
    let bits = idle_bits g.row.Q g.row.N i.first i.begins i.in_use i.ground i.live_bytes i.count held c.args.self.now c.self.view_is c.args.q c.args.n c.requires.idle in
    let fits = more_fits g.row.Q g.row.N i.first i.begins i.in_use i.ground i.live_bytes i.count held c.args.q c.args.n (i.first + g.row.Q * c.args.q) refl c.requires.some bits.0 bits.1 in
    let small = all_small g.row.Q g.row.N i.first i.begins i.in_use i.ground i.live_bytes i.count held in
    omega (arith, fits.1)

pub invariant_of-self : goal.invariant_of-self
invariant_of-self g c =
    let i = c.self.inside in
    let held = c.self.invariant in
    let bits = idle_bits g.row.Q g.row.N i.first i.begins i.in_use i.ground i.live_bytes i.count held c.args.self.now c.self.view_is c.args.q c.args.n c.requires.idle in
    let lent = c.lend-span.ensures.lent ∙ ap (λ l. marked l c.args.q c.args.n true) held.lent in
    held_more g.row.Q g.row.N i.first i.begins i.in_use i.ground i.live_bytes i.count held c.args.q c.args.n (i.first + g.row.Q * c.args.q) refl c.requires.some bits.0 bits.1
    c.set.new.self c.set_run.new.self c.lend-span.new.self c.set.ensures.made c.set_run.ensures.made (record { space = c.lend-span.ensures.space; first = c.lend-span.ensures.first; lent = lent })

pub returns-clause-new_block : goal.returns-clause-new_block
returns-clause-new_block g c =
    let i = c.self.inside in
    let held = c.self.invariant in
    let bits = idle_bits g.row.Q g.row.N i.first i.begins i.in_use i.ground i.live_bytes i.count held c.args.self.now c.self.view_is c.args.q c.args.n c.requires.idle in
    let at = c.lend-span.ensures.span_first ∙ ap (λ a. a + g.row.Q * c.args.q) held.based in
    record {
      space = c.lend-span.ensures.span_space ∙ ap (λ v. v.space) c.self.view_is;
      size = c.lend-span.ensures.span_len;
      live = view_more g.row.Q g.row.N i.first i.begins i.in_use i.ground i.live_bytes i.count held c.args.q c.args.n c.lend-span.result.first at c.requires.some bits.0 bits.1
          c.set.new.self c.set_run.new.self c.lend-span.new.self.space c.args.self.now c.set.ensures.made c.set_run.ensures.made c.lend-span.ensures.space c.self.view_is;
    }
