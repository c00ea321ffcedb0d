use Rattle.std.proofs.Common.{ℕ, ◌*◌, ◌∙◌, sym, ap}
use Rattle.mz_nano.proofs.CountLemmas.{none_held}
use Rattle.mz_nano.proofs.nano.Nano.close.Goals as goal

pub close_empty-requires-clause-idle : goal.close_empty-requires-clause-idle
close_empty-requires-clause-idle c s h = let t = c.requires.all.1 s h in (t.0, none_held c.args.seats.items c.if-none_held.ensures s h, t.1)

pub returns-then-none_held-clause-ok : goal.returns-then-none_held-clause-ok
returns-then-none_held-clause-ok c = let t = c.close_empty.ensures in ((λ s h. none_held c.args.seats.items c.if-none_held.ensures s h), t.space, t.first, t.len ∙ ap (λ (n : ℕ). n * 16384) (sym c.args.self.geometry.0))
