use Rattle.std.proofs.Common.{◌≡◌, ℕ, ◌+◌, ◌*◌, ◌<◌, ◌≤◌, List, false, Option, Some, None, length, sym, ◌∙◌}
use Rattle.std.specs.Prelude.{MatchOption, is_some}
use Rattle.std.specs.List.{HoldsAt}
use Rattle.mz_magazine.specs.Row.{lies_in_row}
use Rattle.mz_magazine.proofs.Changes.{lies_at}
use Rattle.mz_magazine.proofs.row.Row.has.Goals as goal

lies_where_held : (len a : ℕ) (firsts : List ℕ) (r : Option ℕ) → MatchOption r (lies_in_row len firsts a (a + 1) ≡ false) (λ i. (i < length firsts) × HoldsAt (λ f. (f ≤ a) × (a < f + len)) firsts i) → is_some r ≡ lies_in_row len firsts a (a + 1)
lies_where_held len a firsts None said = sym said
lies_where_held len a firsts (Some i) said = sym (lies_at len firsts a i said)

pub returns : goal.returns
returns g c = c.is_some.ensures ∙ lies_where_held (g.row.Q * g.row.N) c.args.a c.args.self.now.firsts c.holding.result c.holding.ensures
