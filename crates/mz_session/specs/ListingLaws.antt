-- The laws of histories on which the listing rests, together.
use Rattle.std.specs.Prelude.{◌≡◌, ◌<◌, List, map, IsTrue}
use Rattle.mz_base.specs.declared.profile.Profile.{Profile}
use Rattle.mz_base.specs.Space.{Block, Run}
use Rattle.mz_base.specs.Lists.{has_run, has_block}
use Rattle.mz_events.specs.declared.entry.Entry.{Entry}
use Rattle.mz_events.specs.Places.{zone_of, Spot, place_of}
use Rattle.mz_events.specs.State.{State, opening, kept_at, live_blocks}
use Rattle.mz_events.specs.Changes.{one_for}
use Rattle.mz_events.specs.History.{AreLawful, after_all}
use Rattle.mz_events.specs.Sameness.{IsOnce, IsBySpot}
use Rattle.mz_events.specs.Separation.{by_address, IsSeparate, IsAscending}
use Rattle.mz_events.specs.Bounds.{RunsFit}
use Rattle.mz_events.specs.Forms.{HasForm}
use Rattle.mz_book.specs.Account.{is_live}
use Rattle.mz_book.specs.Living.{times, blocks_of}

pub record ListingLaws : Type 0 where
  pub counted : (p : Profile) (es : List Entry) (b : Block) → AreLawful p opening es → times b (blocks_of (after_all p opening es)) ≡ one_for (is_live (after_all p opening es) b)
  pub in_order : (s : State) (b : Block) → times b (map (λ x. x.1) (by_address (live_blocks s))) ≡ times b (blocks_of s)
  pub in_zones : (p : Profile) (es : List Entry) (j : Spot) (r : Run) → AreLawful p opening es → IsTrue (has_run (kept_at (after_all p opening es) j).runs r) → zone_of (place_of j) < p.zones
  pub separate : (p : Profile) (es : List Entry) → AreLawful p opening es → IsSeparate p (after_all p opening es)
  pub ascending : (p : Profile) (es : List Entry) → AreLawful p opening es → IsAscending p (after_all p opening es)
  pub runs_fit : (p : Profile) (es : List Entry) → AreLawful p opening es → RunsFit p (after_all p opening es)
  pub forms : (p : Profile) (es : List Entry) (j : Spot) (b : Block) → AreLawful p opening es → IsTrue (has_block (kept_at (after_all p opening es) j).live b) → HasForm (after_all p opening es) j b
  pub once : (p : Profile) (es : List Entry) → IsOnce (after_all p opening es)
  pub by_spot : (s : State) → IsOnce s → IsBySpot s
