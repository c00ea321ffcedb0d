use Rattle.std.proofs.Common.{◌≡◌, ℕ, ◌<◌, true, false, List, ◌++◌, Some, None, length, map, sym, ap, ◌∙◌, subst, refl}
use Rattle.std.specs.Prelude.{MatchOption, IsTrue}
use Rattle.std.specs.List.{HoldsAt, list_all, remove}
use Rattle.std.proofs.lemmas.Bool.{false≢true}
use Rattle.mz_base.specs.Space.{Block, blocks_apart}
use Rattle.mz_base.specs.Lists.{add_block}
use Rattle.mz_ground.specs.Views.{SpanView}
use Rattle.mz_events.specs.Room.{any_fits, best_fit}
use Rattle.mz_events.specs.Standing.{LargeKept}
use Rattle.mz_large.specs.Blocks.{BlocksView, IsPaged}
use Rattle.mz_large.specs.Large.{block_of, run_of_span, keeping_of, IsLarge, Reuses}
use Rattle.mz_large.proofs.OneOut.{at-place}
use Rattle.mz_large.proofs.Keeping.{reused}
use Rattle.mz_large.proofs.large.Large.reuse.Goals as goal

pub returns-in_err-i : goal.returns-in_err-i
returns-in_err-i c =
    let none : best_fit c.args.self.now.kept.cached c.args.w ≡ None = ap (λ (v : LargeKept). best_fit v.kept.cached c.args.w) (sym c.self.view_is) ∙ c.in_err-i.ensures in
    let no_fit : any_fits c.args.self.now.kept.cached c.args.w ≡ false = (c.best_fits.ensures.none c.args.self.now.kept.cached c.args.w).0 none in
    subst (λ o. MatchOption o ((c.args.self.now ≡ c.args.self.now) × ¬ IsTrue (any_fits c.args.self.now.kept.cached c.args.w)) (λ s. (best_fit c.args.self.now.kept.cached c.args.w ≡ Some (run_of_span s)) × Reuses c.args.self.now s c.args.self.now))
    (sym c.from_residual.ensures)
    (refl, λ some. false≢true (sym no_fit ∙ some))

-- what holds where the cached run at a place is used again
record IsUsed (room : ℕ) (live : List Block) (new : List SpanView) (s : SpanView) (b : Block) (now : LargeKept) : Type 0 where
  free : length live < room
  paged : IsPaged b
  apart : list_all (λ c. blocks_apart c b) live ≡ true
  large : IsLarge room (add_block b live) new
  reuses : Reuses now s (keeping_of room (add_block b live) new)

used_at : (room : ℕ) (live : List Block) (cached : List SpanView) (i : ℕ) (s : SpanView) (new : List SpanView) (b : Block) (now : LargeKept)
    → keeping_of room live cached ≡ now → IsLarge room live cached → i < length cached → HoldsAt (λ t. t ≡ s) cached i → new ≡ remove cached i → b ≡ block_of s
    → IsUsed room live new s b now
used_at room live cached i s new b now view h within is left block =
    let place = at-place cached i s within is in
    let done = reused room live place.front s place.back (subst (IsLarge room live) place.all h) in
    subst (λ d. IsUsed room live new s d now) (sym block)
    (subst (λ l. IsUsed room live l s (block_of s) now) (sym (left ∙ place.others))
    (subst (λ v. IsUsed room live (place.front ++ place.back) s (block_of s) v) (ap (keeping_of room live) (sym place.all) ∙ view)
    (record { free = done.free; paged = done.paged; apart = done.apart; large = done.large; reuses = done.reuses })))

pub insert-requires : goal.insert-requires
insert-requires c =
    let i = c.self.inside in
    let used = used_at i.live.room i.live.blocks i.cache c.in_ok-i.i c.take-span.result c.take-span.new.self c.of.result c.args.self.now c.self.view_is c.self.invariant c.in_ok-i.ensures.0 c.take-span.ensures.value c.take-span.ensures.left c.of.ensures.value in
    record { room = used.free; paged = used.paged; small = c.of.ensures.small; apart = used.apart }

pub invariant_of-self : goal.invariant_of-self
invariant_of-self c =
    let i = c.self.inside in
    let used = used_at i.live.room i.live.blocks i.cache c.in_ok-i.i c.take-span.result c.take-span.new.self c.of.result c.args.self.now c.self.view_is c.self.invariant c.in_ok-i.ensures.0 c.take-span.ensures.value c.take-span.ensures.left c.of.ensures.value in
    subst (λ (v : BlocksView). IsLarge v.room v.blocks c.take-span.new.self) (sym c.insert.ensures) used.large

pub returns : goal.returns
returns c =
    let i = c.self.inside in
    let used = used_at i.live.room i.live.blocks i.cache c.in_ok-i.i c.take-span.result c.take-span.new.self c.of.result c.args.self.now c.self.view_is c.self.invariant c.in_ok-i.ensures.0 c.take-span.ensures.value c.take-span.ensures.left c.of.ensures.value in
    let best : best_fit (map run_of_span c.self.inside.cache) c.args.w ≡ Some (run_of_span c.take-span.result) =
    c.in_ok-i.ensures.1 c.take-span.result ∙ ap (λ t. Some (run_of_span t)) (c.take-span.ensures.value c.take-span.result) in (
      ap (λ (v : LargeKept). best_fit v.kept.cached c.args.w) (sym c.self.view_is) ∙ best,
      subst (λ (v : BlocksView). Reuses c.args.self.now c.take-span.result (keeping_of v.room v.blocks c.take-span.new.self)) (sym c.insert.ensures) used.reuses,
    )
