use Rattle.std.proofs.Common.{◌≡◌, ◌+◌, ◌-◌, ◌*◌, ◌≤◌, length, take, true, false, refl, sym, ap, ◌∙◌, arith}
use Rattle.std.proofs.lemmas.List.{take_at}
use Rattle.mz_base.specs.Space.{block_at}
use Rattle.mz_base.specs.Lists.{add_block, drop_block}
use Rattle.mz_ground.specs.Marks.{marked}
use Rattle.mz_region.proofs.Kept.{begun_of_view, gone_within, gone_used, held_other, view_other, other_fits, longer, parts_of, all_small, run_whole, run_short, but_same, test_but, bits_but}
use Rattle.mz_region.proofs.Runs.{are_past_run}
use Rattle.mz_region.proofs.region.Region.grow.Goals as goal

pub overflow_add-q : goal.overflow_add-q
overflow_add-q g c =
    let i = c.self.inside in
    let held = c.self.invariant in
    let r = c.requires in
    let is = begun_of_view g.row.Q g.row.N i.first i.begins i.in_use i.ground i.live_bytes i.count held c.args.self.now c.self.view_is c.args.q c.args.had c.args.s.now.first r.some r.first r.live in
    let within = gone_within g.row.Q g.row.N i.first i.begins i.in_use i.ground i.live_bytes i.count held c.args.q c.args.had c.args.s.now.first is.0 is.1 in
    let small = all_small g.row.Q g.row.N i.first i.begins i.in_use i.ground i.live_bytes i.count held in
    omega (arith, g.N.fits)

pub returns-then-run_at-more : goal.returns-then-run_at-more
returns-then-run_at-more g c =
    let i = c.self.inside in
    let held = c.self.invariant in
    let r = c.requires in
    let is = begun_of_view g.row.Q g.row.N i.first i.begins i.in_use i.ground i.live_bytes i.count held c.args.self.now c.self.view_is c.args.q c.args.had c.args.s.now.first r.some r.first r.live in
    let within = gone_within g.row.Q g.row.N i.first i.begins i.in_use i.ground i.live_bytes i.count held c.args.q c.args.had c.args.s.now.first is.0 is.1 in
    let small = all_small g.row.Q g.row.N i.first i.begins i.in_use i.ground i.live_bytes i.count held in
    let used = gone_used g.row.Q g.row.N i.first i.begins i.in_use i.ground i.live_bytes i.count held c.args.q c.args.had c.args.s.now.first is.0 is.1 in
    let long = held.quanta in
    let grown : c.args.n ≡ c.args.had + (c.args.n - c.args.had) = omega arith in
    let parts = parts_of g.row.Q c.args.n c.args.had (c.args.n - c.args.had) grown in (
      λ idle.
          let test = but_same g.row.Q g.row.N i.ground.space i.first _ c.args.self.now c.args.s.now.first (g.row.Q * c.args.had) (length c.args.s.now.bytes) (c.args.s.now.first + g.row.Q * c.args.n) c.self.view_is r.len ∙ idle in
          let bits = bits_but g.row.Q g.row.N i.first i.begins i.in_use i.ground i.live_bytes i.count held c.args.q c.args.had c.args.s.now.first is.0 is.1 c.args.n test in
          let there = bits.0 in
          let rest = are_past_run i.in_use c.args.q c.args.had (c.args.q + c.args.n) false false (omega arith) (λ k d low high. bits.1 k d (omega arith) high) in
          run_short i.in_use (c.args.q + c.args.had) (c.args.n - c.args.had) c.run_at.result c.run_at.ensures c.if-run_at-more.true (omega arith) (λ k d low high. rest k d low (omega arith)),
      refl,
      refl,
    )

pub overflow_add-self : goal.overflow_add-self
overflow_add-self g c =
    let i = c.self.inside in
    let held = c.self.invariant in
    let r = c.requires in
    let is = begun_of_view g.row.Q g.row.N i.first i.begins i.in_use i.ground i.live_bytes i.count held c.args.self.now c.self.view_is c.args.q c.args.had c.args.s.now.first r.some r.first r.live in
    let within = gone_within g.row.Q g.row.N i.first i.begins i.in_use i.ground i.live_bytes i.count held c.args.q c.args.had c.args.s.now.first is.0 is.1 in
    let small = all_small g.row.Q g.row.N i.first i.begins i.in_use i.ground i.live_bytes i.count held in
    let used = gone_used g.row.Q g.row.N i.first i.begins i.in_use i.ground i.live_bytes i.count held c.args.q c.args.had c.args.s.now.first is.0 is.1 in
    let long = held.quanta in
    let grown : c.args.n ≡ c.args.had + (c.args.n - c.args.had) = omega arith in
    let parts = parts_of g.row.Q c.args.n c.args.had (c.args.n - c.args.had) grown in
    let whole = run_whole i.in_use (c.args.q + c.args.had) (c.args.n - c.args.had) c.run_at.result (omega arith) c.run_at.ensures (omega arith) in
    let there : c.args.q + c.args.n ≤ g.row.N = omega (arith, whole.0) in
    let new = longer i.in_use c.args.q c.args.had c.args.n (c.args.n - c.args.had) grown (omega arith) used whole.1 in
    let fits = other_fits g.row.Q g.row.N i.first i.begins i.in_use i.ground i.live_bytes i.count held c.args.q c.args.had c.args.s.now.first is.0 is.1 c.args.n c.set_run.new.self (omega arith) there new.0 (c.set_run.ensures.made ∙ new.1) (i.live_bytes + (c.args.n - c.args.had) * g.row.Q) (omega arith) in
    omega arith

pub invariant_of-self : goal.invariant_of-self
invariant_of-self g c =
    let i = c.self.inside in
    let held = c.self.invariant in
    let r = c.requires in
    let is = begun_of_view g.row.Q g.row.N i.first i.begins i.in_use i.ground i.live_bytes i.count held c.args.self.now c.self.view_is c.args.q c.args.had c.args.s.now.first r.some r.first r.live in
    let within = gone_within g.row.Q g.row.N i.first i.begins i.in_use i.ground i.live_bytes i.count held c.args.q c.args.had c.args.s.now.first is.0 is.1 in
    let small = all_small g.row.Q g.row.N i.first i.begins i.in_use i.ground i.live_bytes i.count held in
    let used = gone_used g.row.Q g.row.N i.first i.begins i.in_use i.ground i.live_bytes i.count held c.args.q c.args.had c.args.s.now.first is.0 is.1 in
    let long = held.quanta in
    let grown : c.args.n ≡ c.args.had + (c.args.n - c.args.had) = omega arith in
    let parts = parts_of g.row.Q c.args.n c.args.had (c.args.n - c.args.had) grown in
    let whole = run_whole i.in_use (c.args.q + c.args.had) (c.args.n - c.args.had) c.run_at.result (omega arith) c.run_at.ensures (omega arith) in
    let there : c.args.q + c.args.n ≤ g.row.N = omega (arith, whole.0) in
    let new = longer i.in_use c.args.q c.args.had c.args.n (c.args.n - c.args.had) grown (omega arith) used whole.1 in
    let lent = c.lend.ensures.lent ∙ ap (λ l. marked l (c.args.q + c.args.had) (c.args.n - c.args.had) true) held.lent ∙ sym c.set_run.ensures.made in
    held_other g.row.Q g.row.N i.first i.begins i.in_use i.ground i.live_bytes i.count held c.args.q c.args.had c.args.s.now.first is.0 is.1 c.args.n c.set_run.new.self (omega arith) there new.0 (c.set_run.ensures.made ∙ new.1)
    c.lend.new.self (i.live_bytes + (c.args.n - c.args.had) * g.row.Q) (omega arith) (record { space = c.lend.ensures.space; first = c.lend.ensures.first; lent = lent })

pub returns : goal.returns
returns g c =
    let i = c.self.inside in
    let held = c.self.invariant in
    let r = c.requires in
    let is = begun_of_view g.row.Q g.row.N i.first i.begins i.in_use i.ground i.live_bytes i.count held c.args.self.now c.self.view_is c.args.q c.args.had c.args.s.now.first r.some r.first r.live in
    let within = gone_within g.row.Q g.row.N i.first i.begins i.in_use i.ground i.live_bytes i.count held c.args.q c.args.had c.args.s.now.first is.0 is.1 in
    let small = all_small g.row.Q g.row.N i.first i.begins i.in_use i.ground i.live_bytes i.count held in
    let used = gone_used g.row.Q g.row.N i.first i.begins i.in_use i.ground i.live_bytes i.count held c.args.q c.args.had c.args.s.now.first is.0 is.1 in
    let long = held.quanta in
    let grown : c.args.n ≡ c.args.had + (c.args.n - c.args.had) = omega arith in
    let parts = parts_of g.row.Q c.args.n c.args.had (c.args.n - c.args.had) grown in
    let whole = run_whole i.in_use (c.args.q + c.args.had) (c.args.n - c.args.had) c.run_at.result (omega arith) c.run_at.ensures (omega arith) in
    let there : c.args.q + c.args.n ≤ g.row.N = omega (arith, whole.0) in
    let new = longer i.in_use c.args.q c.args.had c.args.n (c.args.n - c.args.had) grown (omega arith) used whole.1 in
    let test = test_but g.row.Q g.row.N i.first i.begins i.in_use i.ground i.live_bytes i.count held c.args.q c.args.had c.args.s.now.first is.0 is.1 c.args.n (omega arith) there new.0 in
    let size = c.extend.ensures.len in
    let lent_size = c.lend.ensures.span_len in
    let r_len = r.len in (
      sym (but_same g.row.Q g.row.N i.ground.space i.first _ c.args.self.now c.args.s.now.first (g.row.Q * c.args.had) (length c.args.s.now.bytes) (c.args.s.now.first + g.row.Q * c.args.n) c.self.view_is r.len) ∙ test,
      view_other g.row.Q g.row.N i.first i.begins i.in_use i.ground i.live_bytes i.count held c.args.q c.args.had c.args.s.now.first is.0 is.1 c.args.n c.set_run.new.self (omega arith) there new.0 (c.set_run.ensures.made ∙ new.1) c.lend.new.self.space c.args.self.now c.lend.ensures.space c.self.view_is
          ∙ ap (λ n. record c.args.self.now { live = add_block (block_at c.args.s.now.first (g.row.Q * c.args.n)) (drop_block (block_at c.args.s.now.first n) c.args.self.now.live) }) (sym r.len),
      c.extend.ensures.space,
      c.extend.ensures.first,
      omega arith,
      ap (λ l. take (g.row.Q * c.args.had) l) c.extend.ensures.bytes ∙ take_at c.args.s.now.bytes c.lend.result.bytes (g.row.Q * c.args.had) r.len,
    )
