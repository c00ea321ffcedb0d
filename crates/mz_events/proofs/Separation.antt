-- Of each state that lawful entries leave: it is separate, its lists are ascending, and last freed blocks lie in their magazines.
use Rattle.std.proofs.Common.{◌≡◌, ℕ, zero, suc, ◌+◌, ◌*◌, ◌<◌, ◌≤◌, ◌⊎◌, true, false, List, sym, subst, ◌∙◌, inl, inr, arith, Some}
use Rattle.std.proofs.lemmas.Bool.{false≢true}
use Rattle.mz_base.specs.declared.profile.Profile.{Profile}
use Rattle.mz_base.specs.Space.{Block, Run, run_at, block_end, same_block, same_run}
use Rattle.mz_base.specs.Lists.{has_run, has_block}
use Rattle.mz_base.specs.declared.range.TheConstants.{PAGE}
use Rattle.mz_events.specs.declared.place.Place.{Place}
use Rattle.mz_events.specs.declared.place.Place.TheVariants.{Pages, Tiny, TinyDepot, Small, SmallDepot, Large, Nano}
use Rattle.std.specs.List.{flat_map, range_with_len}
use Rattle.mz_events.specs.declared.entry.Entry.{Entry}
use Rattle.mz_events.specs.Places.{nano_start, is_magazine, is_tiny, is_small, Spot, keeper_at, nano_page, same_spot, spot_of, place_of}
use Rattle.mz_events.specs.State.{Kept, State, kept_at, kept_of, live_blocks, opening}
use Rattle.mz_events.specs.History.{AreLawful, after_all}
use Rattle.mz_events.specs.Separation.{InOrder, IsSeparate, IsAscending, IsFreedThere, LiesAtHome}
use Rattle.mz_events.specs.Sameness.{IsOnce}
use Rattle.mz_events.proofs.SamenessLemmas.{opening_once, after_all_once}
use Rattle.mz_events.proofs.SpotLemmas.{same_spot-refl}
use Rattle.mz_events.proofs.InOrderLemmas.{IsIn, in_append, order_append, in_from_has, has_from_in, order_some}
use Rattle.mz_events.proofs.SoundLemmas.{same_block-is, same_run-is, same_run-self, numbers_apart, numbers_inside, Home}
use Rattle.mz_events.proofs.SeparationLemmas.{IsApart, apart_left}
use Rattle.mz_events.proofs.PlaceLemmas.{blocks_beside, one_place}
use Rattle.mz_events.proofs.ListedLemmas.{AreBeside, counted_is, all_beside, all_in_order}
use Rattle.mz_events.proofs.CountLemmas.{IsCounted, counted_left, of_kind}

-- of runs and of blocks: what is in a list, and what is there by the test
pub run_in : (rs : List Run) (r : Run) → has_run rs r ≡ true → IsIn r rs
run_in rs r h = in_from_has same_run same_run-is rs r h

pub run_there : (rs : List Run) (r : Run) → IsIn r rs → has_run rs r ≡ true
run_there rs r h = has_from_in same_run same_run-self rs r h

pub block_in : (bs : List Block) (b : Block) → has_block bs b ≡ true → IsIn b bs
block_in bs b h = in_from_has same_block same_block-is bs b h

at_home : (p : Profile) (s : State) (j : Spot) (b : Block) → Home p j (kept_at s j).runs b → LiesAtHome p s j b
at_home p s (keeper_at k) b h = (h.0, run_there (kept_at s (keeper_at k)).runs h.0 h.1, numbers_inside h.0 b h.2)
at_home p s (nano_page i) b h = (h.0, h.1, numbers_inside (run_at i 1) b h.2)

module _ (p : Profile) (s : State) (h : IsApart p s) where
  separate : IsCounted s → IsSeparate p s
  separate counts = record {
    one_place = one_place p s h;
    runs_are_apart = λ j k r t there other. h.apart j k r t (run_in (kept_at s j).runs r there) (run_in (kept_at s k).runs t other);
    below_nano = λ j r there. (h.sound j).below r (run_in (kept_at s j).runs r there);
    taken = λ r. (
      (λ there. let it = h.taken_somewhere r (run_in (kept_at s (spot_of Pages)).taken r there) in (it.0, run_there (kept_at s it.0).runs r it.1)),
      (λ it. run_there (kept_at s (spot_of Pages)).taken r (h.all_taken it.0 r (run_in (kept_at s it.0).runs r it.1))),
    );
    tiny_regions = counts.tiny ∙ sym (counted_is (of_kind is_tiny) s.values);
    small_regions = counts.small ∙ sym (counted_is (of_kind is_small) s.values);
    at_home = λ j b there. at_home p s j b ((h.sound j).home b (block_in (kept_at s j).live b there));
    blocks_are_apart = λ j k b c there other.
        elim (blocks_beside p s h j k b c (block_in (kept_at s j).live b there) (block_in (kept_at s k).live c other)) [ inl same ↦ inl same | inr beside ↦ inr (numbers_apart b c beside) ];
  }

  other_beside : (j k : Spot) (b c : Block) → same_spot j k ≡ false → IsIn b (kept_at s j).live → IsIn c (kept_at s k).live → (block_end c ≤ b.first) ⊎ (block_end b ≤ c.first)
  other_beside j k b c other here there = elim (blocks_beside p s h j k b c here there) [
    | inl same ↦ absurd (false≢true (sym other ∙ subst (λ i. same_spot j i ≡ true) same.0 (same_spot-refl j)))
    | inr beside ↦ elim beside [ inl l ↦ inr l | inr l ↦ inl l ]
  ]

  pub live_beside : IsOnce s → AreBeside (λ x. x.1.first) (λ x. block_end x.1) (live_blocks s)
  live_beside once = all_beside (λ (b : Block). b.first) block_end (λ (k : Kept). k.live) s once (λ j. (h.sound j).live_order) other_beside

  -- the blocks of nano's pages, page after page
  page_blocks : (i : ℕ) (b : Block) → IsIn b (kept_at s (nano_page i)).live → (i * PAGE ≤ b.first) × (block_end b ≤ (i + 1) * PAGE)
  page_blocks i b there = let home = (h.sound (nano_page i)).home b there in (home.2.0, home.2.1)

  later_blocks : (i n : ℕ) (b : Block) → IsIn b (flat_map (λ x. (kept_at s (nano_page x)).live) (range_with_len i n)) → i * PAGE ≤ b.first
  later_blocks i zero b there = absurd there
  later_blocks i (suc n) b there = elim (in_append (kept_at s (nano_page i)).live (flat_map (λ x. (kept_at s (nano_page x)).live) (range_with_len (i + 1) n)) b there) [
    | inl here ↦ (page_blocks i b here).0
    | inr later ↦ let rest : (i + 1) * PAGE ≤ b.first = later_blocks (i + 1) n b later in omega arith
  ]

  nano_order : (i n : ℕ) → InOrder (λ b. b.first) block_end (flat_map (λ x. (kept_at s (nano_page x)).live) (range_with_len i n))
  nano_order i zero = tt
  nano_order i (suc n) = order_append (λ (b : Block). b.first) block_end (kept_at s (nano_page i)).live (flat_map (λ x. (kept_at s (nano_page x)).live) (range_with_len (i + 1) n)) (h.sound (nano_page i)).live_order (nano_order (i + 1) n)
      (λ b c here later. let end = (page_blocks i b here).1 in let from : (i + 1) * PAGE ≤ c.first = later_blocks (i + 1) n c later in omega arith)

  place_order : (k : Place) → InOrder (λ b. b.first) block_end (kept_of p s k).live
  place_order Pages = (h.sound (spot_of Pages)).live_order
  place_order (Tiny z m) = (h.sound (spot_of (Tiny z m))).live_order
  place_order (TinyDepot z) = (h.sound (spot_of (TinyDepot z))).live_order
  place_order (Small z m) = (h.sound (spot_of (Small z m))).live_order
  place_order (SmallDepot z) = (h.sound (spot_of (SmallDepot z))).live_order
  place_order (Large z) = (h.sound (spot_of (Large z))).live_order
  place_order Nano = nano_order (nano_start p) p.nano

  ascending : IsOnce s → IsAscending p s
  ascending once = record {
    runs = λ j. (h.sound j).run_order;
    taken = h.taken_order;
    live = λ j. (h.sound j).live_order;
    of_place = place_order;
    all = all_in_order (live_blocks s) (live_beside once);
    sizes = λ j b there. let some : b.first < block_end b = order_some (λ (x : Block). x.first) block_end (kept_at s j).live b (h.sound j).live_order (block_in (kept_at s j).live b there) in omega arith;
  }

  freed_home : (j : Spot) (f : Block) → is_magazine (place_of j) ≡ true → 1 ≤ f.size → Home p j (kept_at s j).runs f → ((b : Block) → IsIn b (kept_at s j).live → (block_end b ≤ f.first) ⊎ (block_end f ≤ b.first)) → IsFreedThere s j f
  freed_home (keeper_at k) f magazine byte home idle = record {
    magazine = magazine;
    byte = byte;
    run = home.0;
    there = run_there (kept_at s (keeper_at k)).runs home.0 home.1;
    within = numbers_inside home.0 f home.2;
    idle = λ b there. numbers_apart f b (elim (idle b (block_in (kept_at s (keeper_at k)).live b there)) [ inl l ↦ inr l | inr l ↦ inl l ]);
  }
  freed_home (nano_page i) f magazine byte home idle = absurd (false≢true magazine)

  freed : (j : Spot) (f : Block) → (kept_at s j).last_freed ≡ Some f → IsFreedThere s j f
  freed j f is = freed_home j f ((h.sound j).magazine f is) ((h.sound j).byte f is) ((h.sound j).lies f is) ((h.sound j).idle f is)

pub separate_after : (p : Profile) (es : List Entry) → AreLawful p opening es → IsSeparate p (after_all p opening es)
separate_after p es lawful = separate p (after_all p opening es) (apart_left p es lawful) (counted_left p es lawful)

pub ascending_after : (p : Profile) (es : List Entry) → AreLawful p opening es → IsAscending p (after_all p opening es)
ascending_after p es lawful = ascending p (after_all p opening es) (apart_left p es lawful) (after_all_once p opening es opening_once)

pub freed_after : (p : Profile) (es : List Entry) (j : Spot) (f : Block) → AreLawful p opening es → (kept_at (after_all p opening es) j).last_freed ≡ Some f → IsFreedThere (after_all p opening es) j f
freed_after p es j f lawful is = freed p (after_all p opening es) (apart_left p es lawful) j f is
