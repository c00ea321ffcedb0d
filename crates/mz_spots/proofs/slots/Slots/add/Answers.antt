use Rattle.std.proofs.Common.{◌≡◌, ◌∷◌, [], ◌++◌, sym, ap, subst, ◌∙◌, None, Some, List, length, ℕ, cond}
use Rattle.std.specs.BTreeMap.{get, is_at}
use Rattle.mz_spots.specs.Indexes.{by_numbers, numbers_of}
use Rattle.mz_events.specs.Places.{Spot}
use Rattle.mz_events.specs.State.{Value, blank, live_size}
use Rattle.mz_spots.specs.Keys.{spot_of_key}
use Rattle.mz_spots.specs.Indexes.{place_in, IsIndex}
use Rattle.mz_spots.proofs.IndexLemmas.{index_more, size_more}
use Rattle.mz_spots.proofs.slots.Slots.add.Goals as goal

pub invariant_of-result : goal.invariant_of-result
invariant_of-result c =
    let j = spot_of_key c.args.key in
    let values = c.self.inside.list.items in
    let places = c.self.inside.places in
    let more : c.push.new.self.items ≡ values ++ (j, blank) ∷ [] = c.in_ok-push.ensures.items ∙ ap (λ (x : Spot × Value). values ++ x ∷ []) c.blank.ensures in
    let none : place_in values j ≡ None = ap (λ (l : List (Spot × Value)). place_in l j) c.self.view_is ∙ c.requires in
    let put : (q : ℕ × (ℕ × ℕ)) → get by_numbers c.insert.new.self q ≡ cond (is_at (by_numbers (numbers_of j)) q) (Some (length values)) (get by_numbers places q) = λ q.
    c.in_ok-insert.ensures.updates.0 q ∙ ap (λ (n : ℕ × (ℕ × ℕ)). cond (is_at (by_numbers n) q) (Some (length c.as_slice-i.result.now)) (get by_numbers places q)) c.numbers.ensures
    ∙ ap (λ (l : List (Spot × Value)). cond (is_at (by_numbers (numbers_of j)) q) (Some (length l)) (get by_numbers places q)) c.as_slice-i.ensures.value in (
      subst (λ (l : List (Spot × Value)). IsIndex c.insert.new.self l) (sym more) (index_more j places c.insert.new.self values c.self.invariant.0 none put),
      c.self.invariant.1 ∙ sym (ap live_size more ∙ size_more values j),
    )
