use Rattle.std.proofs.Common.{ℕ, ◌*◌, ap, ◌∙◌}
use Rattle.core.specs.Mem.Slots.{slots_items}
use Rattle.mz_nano.proofs.EndLemmas.{ends}
use Rattle.mz_nano.proofs.HandLemmas.{is_empty}
use Rattle.mz_nano.proofs.nano.Nano.close_empty.Goals as goal

pub gather-requires-clause-ended : goal.gather-requires-clause-ended
gather-requires-clause-ended c =
    let r = c.args.self in
    let a = c.join_all-all.ensures in
    let s = c.join_all-all.result in (
      r.table.shared.key,
      ends r.table.shared.key s.id s.me.0 (slots_items c.close_with-closed.result.words) (slots_items c.close_with-closed.result.slots) a.at_rest.live a.hand (is_empty s.me.0.claim a.at_rest.claims) (a.parts ∙ ap (λ (n : ℕ). 2 * n) c.requires.all) c.close_with-closed.ensures.values.2,
      r.geometry.0,
      r.space,
      r.first.0,
    )
