-- A block that serves a request has as many bytes as were asked for.
use Rattle.std.proofs.Common.{◌≡◌, ℕ, ◌-◌, ◌*◌, ◌/◌, ◌≤◌, max, List, None, Some, ap, sym, subst, arith}
use Rattle.std.specs.Prelude.{nat_le, nat_lt}
use Rattle.std.proofs.lemmas.Bool.{and_parts}
use Rattle.std.proofs.lemmas.Bool.Decides.{nat_tests}
use Rattle.std.proofs.Math.Nat.{div-mul-le_self}
use Rattle.mz_base.specs.declared.range.TheConstants.{PAGE}
use Rattle.mz_base.specs.declared.range.Range.TheVariants as range
use Rattle.mz_base.specs.declared.profile.Profile.{Profile}
use Rattle.mz_base.specs.Sizes.{route_of, unit_of, units_of, good_size_of}
use Rattle.mz_base.specs.Space.{Block, Run, block_at}
use Rattle.mz_events.specs.declared.entry.Entry.{Entry}
use Rattle.mz_events.specs.Room.{best_fit}
use Rattle.mz_events.specs.BestFit.{IsBestFit}
use Rattle.mz_events.specs.Changes.{run_of}
use Rattle.mz_record.specs.Served.{Request, IsServed, by_nano, by_magazine, by_depot, by_fresh_region, null_in_range, by_cache, by_fresh_run, null_in_large}
use Rattle.mz_zone.specs.ZoneLaws.{ZoneLaws}

-- as many pages as a request needs are enough
pages_hold : (laws : ZoneLaws) (n a s : ℕ) (cached : List Run) → route_of n ≡ range.Large → best_fit cached (units_of n) ≡ Some (run_of (block_at a s)) → n ≤ s
pages_hold laws n a s cached large fit =
    let best : IsBestFit cached (units_of n) (run_of (block_at a s)) = (laws.best cached (units_of n) (run_of (block_at a s))).0 fit in
    let f = and_parts (nat_le (units_of n) (s / PAGE)) (nat_lt (s / PAGE - units_of n) (units_of n)) best.is_fit in
    let enough : units_of n ≤ s / PAGE = grind (arith, nat_tests, f.0) in
    let whole : s / PAGE * PAGE ≤ s = div-mul-le_self s PAGE in
    let good : max n 1 ≤ good_size_of n = (laws.good_size n).holds in
    let is : good_size_of n ≡ units_of n * PAGE = ap (λ r. units_of n * unit_of r) large in
    omega arith

-- a block of the size that serves the request
size_holds : (laws : ZoneLaws) (n a : ℕ) (b : Block) → Some b ≡ Some (block_at a (good_size_of n)) → n ≤ b.size
size_holds laws n a b e =
    let is : b ≡ block_at a (good_size_of n) = cc in
    let good : max n 1 ≤ good_size_of n = (laws.good_size n).holds in
    let size : b.size ≡ good_size_of n = ap (λ x. x.size) is in
    omega arith

pub served_holds : (laws : ZoneLaws) (p : Profile) (h : List Entry) (q : Request) (es : List Entry) (b : Block) → IsServed p h q es (Some b) → q.bytes ≤ b.size
served_holds laws p h q es b (by_nano a z s n al e got) = size_holds laws q.bytes a b got
served_holds laws p h q es b (by_magazine r a g e got) = size_holds laws q.bytes a b got
served_holds laws p h q es b (by_depot r a f g e got) = size_holds laws q.bytes a b got
served_holds laws p h q es b (by_fresh_region r a f front flushes back g s e fl k got) = size_holds laws q.bytes a b got
served_holds laws p h q es b (null_in_range r front flushes last g s e f l got) = absurd (none got)
  where
    none : Some b ≡ None → ⊥
    none x = cc
served_holds laws p h q es b (by_cache e a s large is ev fit got) =
    let same : b ≡ block_at a s = cc in
    subst (λ (x : Block). q.bytes ≤ x.size) (sym same) (pages_hold laws q.bytes a s _ large fit)
served_holds laws p h q es b (by_fresh_run f first flushes back large s e fl k got) = size_holds laws q.bytes (f * PAGE) b got
served_holds laws p h q es b (null_in_large first last flushes large s e f l got) = absurd (none got)
  where
    none : Some b ≡ None → ⊥
    none x = cc
