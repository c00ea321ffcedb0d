use Rattle.std.proofs.Common.{ap, sym, ◌∙◌}
use Rattle.std.specs.Prelude.{◌==◌}
use Rattle.std.specs.List.{list_all}
use Rattle.std.proofs.lemmas.Bool.{eq-eqb}
use Rattle.mz_events.specs.State.{Kept}
use Rattle.mz_holding.specs.LiveBlocks.{live_of}
use Rattle.mz_holding.proofs.NanoLemmas.{sizes_same, sizes_other}
use Rattle.mz_holding.proofs.nano.NanoPage.is_of_size.Goals as goal

pub returns-then-self-n : goal.returns-then-self-n
returns-then-self-n c = eq-eqb c.self.inside.size c.args.n c.if-self-n.true ∙ sym (sizes_same c.self.inside.size c.args.n (live_of c.self.inside.blocks) c.self.invariant c.if-self-n.true) ∙ ap (λ (k : Kept). list_all (λ b. b.size == c.args.n) k.live) c.self.view_is

pub returns-else-self-n : goal.returns-else-self-n
returns-else-self-n c = c.is_empty.ensures ∙ sizes_other c.self.inside.size c.args.n (live_of c.self.inside.blocks) c.self.invariant c.if-self-n.false ∙ ap (λ (k : Kept). list_all (λ b. b.size == c.args.n) k.live) c.self.view_is
