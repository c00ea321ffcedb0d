use Rattle.std.proofs.Common.{ℕ, List, [], ◌∷◌, ◌++◌, ap, ◌∙◌}
use Rattle.mz_history.proofs.BookLemmas.{opening_booked}
use Rattle.mz_history.proofs.books.Books.open.Goals as goal

pub invariant_of-result : goal.invariant_of-result
invariant_of-result c = (
  opening_booked c.args.p.now _ _ c.requires c.new.ensures (c.in_ok-push.ensures.items ∙ ap (λ (l : List ℕ). l ++ 0 ∷ []) c.new-zones.ensures.items),
  c.new-2.ensures,
  c.new-3.ensures,
  c.new-4.ensures,
)
