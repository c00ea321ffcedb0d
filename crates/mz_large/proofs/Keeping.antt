-- What large keeps after each of its calls.
use Rattle.std.proofs.Common.{◌≡◌, ℕ, ◌^◌, ◌<◌, ◌≤◌, true, false, not, List, [], ◌∷◌, ◌++◌, length, map, Option, Some, None, refl, ap, sym, subst, ◌∙◌, arith}
use Rattle.std.specs.Prelude.{filter, if◌then◌else◌}
use Rattle.std.specs.List.{All, list_all}
use Rattle.std.proofs.lemmas.Bool.{false≢true, cond-true, cond-false}
use Rattle.std.proofs.lemmas.List.{map-append, length-map}
use Rattle.std.proofs.lemmas.List.Elements.{All-nil, All-cons, All-head, All-append, All-weaker}
use Rattle.mz_base.specs.Site.{Site}
use Rattle.mz_base.specs.Space.{Block, Run, block_end, blocks_apart, runs_apart, same_block, same_run, bytes_of}
use Rattle.mz_base.specs.Lists.{has_run, has_block, add_block, drop_block, drop_run}
use Rattle.mz_ground.specs.Views.{SpanView}
use Rattle.mz_events.specs.declared.place.Place.{Place}
use Rattle.mz_events.specs.declared.place.Place.TheVariants.{Pages, Tiny, TinyDepot, Small, SmallDepot, Large, Nano}
use Rattle.mz_events.specs.Places.{is_large, is_magazine}
use Rattle.mz_events.specs.State.{Kept}
use Rattle.mz_events.specs.Changes.{run_of, with_block, without_block, with_run}
use Rattle.mz_events.specs.Standing.{LargeKept, IsOf}
use Rattle.mz_large.specs.Blocks.{IsPaged, IsTiled}
use Rattle.mz_large.specs.Large.{block_of, run_of_span, space_of, all_blocks, keeping_of, IsLarge, IsCached, HandsOut, Reuses}
use Rattle.mz_large.proofs.Tiled.{tiled-member, tiled-add, same_block-refl, blocks_apart-comm}
use Rattle.mz_large.proofs.Places.{length-insert}
use Rattle.mz_large.proofs.Runs.{all-add, all-cached, has-added, added-apart, live-tiled, cached-apart, cached-paged, of-live, of-cached, apart-runs, whole-bytes, runs-added, dropped-added}
use Rattle.mz_large.proofs.OneOut.{same_run-refl, differ-all, other-blocks, other-runs, kept-all, kept-out, filter-all, runs-dropped, has-run, has-cached, length-all, length-out, all-one, all-others, of-space, space-left}

-- runs, live blocks and cached runs as what is kept
abbrev lists : List Run → List Block → List Run → Kept
lists runs live cached = record { runs = runs; live = live; last_freed = None; cached = cached; taken = []; tiny_regions = 0; small_regions = 0 }

abbrev with_lists : ℕ → Option Site → List Run → List Block → List Run → LargeKept
with_lists room space runs live cached = record { room = room; space = space; kept = lists runs live cached }

same-lists : (room : ℕ) {o p : Option Site} {r s : List Run} {l m : List Block} {c d : List Run} → o ≡ p → r ≡ s → l ≡ m → c ≡ d → with_lists room o r l c ≡ with_lists room p s m d
same-lists room {o} {p} {r} {s} {l} {m} {c} {d} space runs live cached =
    ap (λ x. with_lists room x r l c) space ∙ ap (λ x. with_lists room p x l c) runs ∙ ap (λ x. with_lists room p s x c) live ∙ ap (λ x. with_lists room p s m x) cached

-- A run comes in, and its block is live.
pub record HasEntered (room : ℕ) (live : List Block) (cached : List SpanView) (b : Block) : Type 0 where
  pub free : length live < room
  pub apart : list_all (λ c. blocks_apart c b) live ≡ true
  pub large : IsLarge room (add_block b live) cached
  pub is : keeping_of room (add_block b live) cached ≡ record (keeping_of room live cached) { kept = with_block b (with_run (run_of b) (keeping_of room live cached).kept) }

pub entered : (room : ℕ)
    (live : List Block) (cached : List SpanView) (b : Block) → IsLarge room live cached → length (map run_of (all_blocks live cached)) < room → IsPaged b → block_end b < 2 ^ 63 →
    list_all (λ r. runs_apart r (run_of b)) (map run_of (all_blocks live cached)) ≡ true → HasEntered room live cached b
entered room live cached b h few paged small runs_are_apart =
    let all = all_blocks live cached in
    let apart : list_all (λ c. blocks_apart c b) (all_blocks live cached) ≡ true = apart-runs (2 ^ 63) 0 b (all_blocks live cached) paged h.tiled runs_are_apart in
    let others : All (λ t. blocks_apart (block_of t) b ≡ true) cached = of-cached (λ c. blocks_apart c b) live cached apart in
    let pages = cached-paged (2 ^ 63) live cached h.tiled in
    let some = paged.some in
    let own : 1 ≤ b.size = omega arith in
    let more : all_blocks (add_block b live) cached ≡ add_block b (all_blocks live cached) = all-add live cached b (differ-all b cached own pages others) in
    let long = length-all live cached in
    let runs = length-map (all_blocks live cached) run_of in
    let one = length-insert (λ (c : Block). c.first) b live in
    record {
      free = omega arith;
      apart = of-live (λ c. blocks_apart c b) live cached apart;
      large = record {
        tiled = subst (λ l. IsTiled (2 ^ 63) 0 l) (sym more) (tiled-add (2 ^ 63) (all_blocks live cached) 0 b h.tiled (record { low = omega arith; paged = paged; high = omega arith }) apart);
        few = omega arith;
        one_space = h.one_space;
      };
      is =
          same-lists room refl (ap (map run_of) more ∙ runs-added (2 ^ 63) 0 b (all_blocks live cached) paged h.tiled) refl
          (sym (kept-all (λ r. not (same_block b (bytes_of r))) cached (other-blocks b cached own pages others)));
    }

-- One of the cached runs beside the others: the blocks of all runs are those of the others and its own, which is apart from
-- them.
record IsBeside (end : ℕ) (live : List Block) (front : List SpanView) (s : SpanView) (back : List SpanView) : Type 0 where
  all : all_blocks live (front ++ s ∷ back) ≡ add_block (block_of s) (all_blocks live (front ++ back))
  tiled : IsTiled end 0 (all_blocks live (front ++ back))
  paged : IsPaged (block_of s)
  apart : list_all (λ c. blocks_apart c (block_of s)) (all_blocks live (front ++ back)) ≡ true

differ-back : (end : ℕ)
    (live : List Block) (front : List SpanView) (s : SpanView) (back : List SpanView) → IsTiled end 0 (all_blocks live (front ++ s ∷ back)) → All (λ t. s.first ≡ t.first → ⊥) back
differ-back end live [] s back h =
    let among = has-added (block_of s) live in
    let some = (tiled-member end (add_block (block_of s) live) 0 (block_of s) (live-tiled end (add_block (block_of s) live) back h) among).paged.some in
    differ-all (block_of s) back (omega arith) (cached-paged end (add_block (block_of s) live) back h)
    (All-weaker (λ (t : SpanView). blocks_apart (block_of s) (block_of t) ≡ true) (λ t. blocks_apart (block_of t) (block_of s) ≡ true) (λ t x. blocks_apart-comm (block_of t) (block_of s) ∙ x) back
    (cached-apart end (add_block (block_of s) live) back (block_of s) h among))
differ-back end live (t ∷ ts) s back h = differ-back end (add_block (block_of t) live) ts s back h

beside : (end : ℕ) (live : List Block) (front : List SpanView) (s : SpanView) (back : List SpanView) → IsTiled end 0 (all_blocks live (front ++ s ∷ back)) → IsBeside end live front s back
beside end live front s back h =
    let all : all_blocks live (front ++ s ∷ back) ≡ add_block (block_of s) (all_blocks live (front ++ back)) = all-cached live front s back (differ-back end live front s back h) in
    let tiled = subst (λ l. IsTiled end 0 l) all h in
    let parts = added-apart end 0 (block_of s) (all_blocks live (front ++ back)) tiled in
    record {
      all = all;
      tiled = parts.1;
      paged = (tiled-member end (add_block (block_of s) (all_blocks live (front ++ back))) 0 (block_of s) tiled (has-added (block_of s) (all_blocks live (front ++ back)))).paged;
      apart = parts.0;
    }

is-cached : (room : ℕ)
    (live : List Block) (front : List SpanView) (s : SpanView) (back : List SpanView) → IsLarge room live (front ++ s ∷ back) → IsBeside (2 ^ 63) live front s back →
    IsCached (keeping_of room live (front ++ s ∷ back)) s
is-cached room live front s back h o =
    let S : SpanView → Type 0 = λ t. space_of (front ++ s ∷ back) ≡ Some t.space in
    record {
      space = all-one S front s back h.one_space;
      whole = whole-bytes (block_of s) o.paged;
      cached = has-cached front s back;
      run = ap (λ l. has_run (map run_of l) (run_of_span s)) o.all ∙ has-run (block_of s) (add_block (block_of s) (all_blocks live (front ++ back))) (has-added (block_of s) (all_blocks live (front ++ back)));
      apart = of-live (λ c. blocks_apart c (block_of s)) live (front ++ back) o.apart;
    }

-- A cached run is taken out.
pub record IsTakenOut (room : ℕ) (live : List Block) (front : List SpanView) (s : SpanView) (back : List SpanView) : Type 0 where
  pub large : IsLarge room live (front ++ back)
  pub out : HandsOut (keeping_of room live (front ++ s ∷ back)) s (keeping_of room live (front ++ back))

pub taken_out : (room : ℕ) (live : List Block) (front : List SpanView) (s : SpanView) (back : List SpanView) → IsLarge room live (front ++ s ∷ back) → IsTakenOut room live front s back
taken_out room live front s back h =
    let b = block_of s in
    let o = beside (2 ^ 63) live front s back h.tiled in
    let S : SpanView → Type 0 = λ t. space_of (front ++ s ∷ back) ≡ Some t.space in
    let others : All (λ t. blocks_apart (block_of t) (block_of s) ≡ true) (front ++ back) = of-cached (λ c. blocks_apart c (block_of s)) live (front ++ back) o.apart in
    let pages = cached-paged (2 ^ 63) live (front ++ back) o.tiled in
    let apart = of-live (λ c. blocks_apart c (block_of s)) live (front ++ back) o.apart in
    let whole = whole-bytes (block_of s) o.paged in
    let one_space = all-others S front s back h.one_space in
    let long = length-out front s back in
    let few = h.few in
    record {
      large = record { tiled = o.tiled; few = omega arith; one_space = of-space (space_of (front ++ s ∷ back)) (front ++ back) one_space };
      out = record {
        cached = is-cached room live front s back h o;
        left =
            same-lists room (space-left (space_of (front ++ s ∷ back)) (front ++ back) one_space)
            (sym (ap (λ l. drop_run (run_of_span s) (map run_of l)) o.all ∙ runs-dropped (2 ^ 63) 0 (block_of s) (all_blocks live (front ++ back)) o.paged o.tiled o.apart))
            (sym (ap (λ c. filter (λ d. blocks_apart d c) live) whole ∙ filter-all (λ d. blocks_apart d (block_of s)) live apart))
            (sym (kept-out (λ r. not (same_run (run_of_span s) r)) front s back (ap not (same_run-refl (run_of_span s))) (other-runs (block_of s) (front ++ back) o.paged pages others)));
      };
    }

-- A cached run is used again.
pub record IsReused (room : ℕ) (live : List Block) (front : List SpanView) (s : SpanView) (back : List SpanView) : Type 0 where
  pub free : length live < room
  pub paged : IsPaged (block_of s)
  pub apart : list_all (λ c. blocks_apart c (block_of s)) live ≡ true
  pub large : IsLarge room (add_block (block_of s) live) (front ++ back)
  pub reuses : Reuses (keeping_of room live (front ++ s ∷ back)) s (keeping_of room (add_block (block_of s) live) (front ++ back))

pub reused : (room : ℕ) (live : List Block) (front : List SpanView) (s : SpanView) (back : List SpanView) → IsLarge room live (front ++ s ∷ back) → IsReused room live front s back
reused room live front s back h =
    let o = beside (2 ^ 63) live front s back h.tiled in
    let S : SpanView → Type 0 = λ t. space_of (front ++ s ∷ back) ≡ Some t.space in
    let others : All (λ t. blocks_apart (block_of t) (block_of s) ≡ true) (front ++ back) = of-cached (λ c. blocks_apart c (block_of s)) live (front ++ back) o.apart in
    let pages = cached-paged (2 ^ 63) live (front ++ back) o.tiled in
    let some = o.paged.some in
    let own : 1 ≤ (block_of s).size = omega arith in
    let all : all_blocks (add_block (block_of s) live) (front ++ back) ≡ all_blocks live (front ++ s ∷ back) = all-add live (front ++ back) (block_of s) (differ-all (block_of s) (front ++ back) own pages others) ∙ sym o.all in
    let one_space = all-others S front s back h.one_space in
    let long = length-out front s back in
    let one = length-insert (λ (c : Block). c.first) (block_of s) live in
    let few = h.few in
    let itself : same_block (block_of s) (bytes_of (run_of_span s)) ≡ true = ap (same_block (block_of s)) (whole-bytes (block_of s) o.paged) ∙ same_block-refl (block_of s) in
    record {
      paged = o.paged;
      free = omega arith;
      apart = of-live (λ c. blocks_apart c (block_of s)) live (front ++ back) o.apart;
      large = record { tiled = subst (λ l. IsTiled (2 ^ 63) 0 l) (sym all) h.tiled; few = omega arith; one_space = of-space (space_of (front ++ s ∷ back)) (front ++ back) one_space };
      reuses = record {
        cached = is-cached room live front s back h o;
        left =
            same-lists room (space-left (space_of (front ++ s ∷ back)) (front ++ back) one_space) (ap (map run_of) all) refl
            (sym (kept-out (λ r. not (same_block (block_of s) (bytes_of r))) front s back (ap not itself) (other-blocks (block_of s) (front ++ back) own pages others)));
      };
    }

no_magazine : (q : Place) → is_large q ≡ true → is_magazine q ≡ false
no_magazine Pages h = refl
no_magazine (Tiny z m) h = absurd (false≢true h)
no_magazine (TinyDepot z) h = refl
no_magazine (Small z m) h = absurd (false≢true h)
no_magazine (SmallDepot z) h = refl
no_magazine (Large z) h = refl
no_magazine Nano h = refl

-- A live block is freed, and its run is the newest cached one.
pub record IsFreed (room : ℕ) (live : List Block) (cached : List SpanView) (s : SpanView) : Type 0 where
  pub large : IsLarge room (drop_block (block_of s) live) (cached ++ s ∷ [])
  pub is : (q : Place) → is_large q ≡ true →
      keeping_of room (drop_block (block_of s) live) (cached ++ s ∷ [])
      ≡ record (keeping_of room live cached) { space = Some s.space; kept = without_block q (block_of s) (keeping_of room live cached).kept }

spaces-agree : (cs : List SpanView) (s : SpanView) → IsOf (space_of cs) s.space → All (λ t. space_of cs ≡ Some t.space) cs → All (λ t. Some s.space ≡ Some t.space) (cs ++ s ∷ [])
spaces-agree [] s of all = All-cons (λ (t : SpanView). Some s.space ≡ Some t.space) s [] refl (All-nil (λ (t : SpanView). Some s.space ≡ Some t.space))
spaces-agree (c ∷ cs) s of all =
    All-append (λ (t : SpanView). Some s.space ≡ Some t.space) (c ∷ cs) (s ∷ [])
    (subst (λ x. All (λ (t : SpanView). Some x ≡ Some t.space) (c ∷ cs)) of all)
    (All-cons (λ (t : SpanView). Some s.space ≡ Some t.space) s [] refl (All-nil (λ (t : SpanView). Some s.space ≡ Some t.space)))

-- the space of runs the last of which is s
last-space : (cs : List SpanView) (s : SpanView) → All (λ t. Some s.space ≡ Some t.space) (cs ++ s ∷ []) → space_of (cs ++ s ∷ []) ≡ Some s.space
last-space [] s all = refl
last-space (c ∷ cs) s all = sym (All-head (λ (t : SpanView). Some s.space ≡ Some t.space) c (cs ++ s ∷ []) all)

nothing-behind : (cs : List SpanView) → cs ++ [] ≡ cs
nothing-behind [] = refl
nothing-behind (c ∷ cs) = ap (λ l. c ∷ l) (nothing-behind cs)

pub freed : (room : ℕ)
    (live : List Block) (cached : List SpanView) (s : SpanView) → IsLarge room live cached → IsOf (space_of cached) s.space → has_block live (block_of s) ≡ true → IsFreed room live cached s
freed room live cached s h of among =
    let rest = drop_block (block_of s) live in
    let tiled = live-tiled (2 ^ 63) live cached h.tiled in
    let back : add_block (block_of s) (drop_block (block_of s) live) ≡ live = dropped-added (2 ^ 63) live 0 (block_of s) tiled among in
    let some = (tiled-member (2 ^ 63) live 0 (block_of s) tiled among).paged.some in
    let pages = cached-paged (2 ^ 63) live cached h.tiled in
    let others : All (λ t. blocks_apart (block_of t) (block_of s) ≡ true) cached =
    All-weaker (λ (t : SpanView). blocks_apart (block_of s) (block_of t) ≡ true) (λ t. blocks_apart (block_of t) (block_of s) ≡ true) (λ t x. blocks_apart-comm (block_of t) (block_of s) ∙ x) cached
    (cached-apart (2 ^ 63) live cached (block_of s) h.tiled among) in
    let all : all_blocks (drop_block (block_of s) live) (cached ++ s ∷ []) ≡ all_blocks live cached =
    all-cached (drop_block (block_of s) live) cached s [] (All-nil (λ (t : SpanView). s.first ≡ t.first → ⊥))
    ∙ ap (λ l. add_block (block_of s) (all_blocks (drop_block (block_of s) live) l)) (nothing-behind cached)
    ∙ sym (all-add (drop_block (block_of s) live) cached (block_of s) (differ-all (block_of s) cached (omega arith) pages others)) ∙ ap (λ l. all_blocks l cached) back in
    let spaces = spaces-agree cached s of h.one_space in
    let one = length-insert (λ (c : Block). c.first) (block_of s) (drop_block (block_of s) live) in
    let was = ap length back in
    let long = length-out cached s [] in
    let none = ap length (nothing-behind cached) in
    let few = h.few in
    record {
      large = record { tiled = subst (λ l. IsTiled (2 ^ 63) 0 l) (sym all) h.tiled; few = omega arith; one_space = of-space (Some s.space) (cached ++ s ∷ []) spaces };
      is = λ q kind.
          same-lists room (last-space cached s spaces) (ap (map run_of) all) refl (map-append run_of_span cached (s ∷ []) ∙ sym (cond-true (is_large q) (map run_of_span cached ++ run_of_span s ∷ []) (map run_of_span cached) kind))
          ∙ ap (λ f. record { room = room; space = Some s.space; kept = record (lists (map run_of (all_blocks live cached)) (drop_block (block_of s) live) (if is_large q then map run_of_span cached ++ run_of_span s ∷ [] else map run_of_span cached)) { last_freed = f } })
          (sym (cond-false (is_magazine q) (Some (block_of s)) None (no_magazine q kind)));
    }
