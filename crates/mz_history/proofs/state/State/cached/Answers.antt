use Rattle.std.proofs.Common.{ℕ, Vec, Global, ap, ◌∙◌, sym, arith}
use Rattle.std.proofs.lemmas.Bool.{ltb-true}
use Rattle.mz_history.specs.Listed.{cached_pages}
use Rattle.mz_history.proofs.BeyondLemmas.{count_lists, list_at}
use Rattle.mz_history.proofs.state.State.cached.Goals as goal

pub index-requires : goal.index-requires
index-requires c =
    let many = count_lists (λ v. v.items) (cached_pages c.self.inside.books.state) c.self.inside.cached.items 0 c.self.inside.books.profile.zones c.self.invariant.2 in
    let below = ltb-true _ _ (sym c.has_zone.ensures.is ∙ c.if-has_zone.true) in omega arith

pub returns-then-has_zone : goal.returns-then-has_zone
returns-then-has_zone c =
    let below = ltb-true _ _ (sym c.has_zone.ensures.is ∙ c.if-has_zone.true) in
    rw (← c.self.view_is) (c.deref.ensures.value ∙ ap (λ (v : Vec ℕ Global). v.items) c.index.ensures
    ∙ list_at (λ v. v.items) (cached_pages c.self.inside.books.state) c.self.inside.cached.items c.self.inside.books.profile.zones c.args.zone c.index.result.now below c.self.invariant.2)

pub returns-else-has_zone : goal.returns-else-has_zone
returns-else-has_zone c = rw (← c.self.view_is) (sym (c.has_zone.ensures.none c.if-has_zone.false))
