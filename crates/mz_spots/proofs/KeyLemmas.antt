-- Lists of spots, as they grow.
use Rattle.std.proofs.Common.{◌≡◌, ℕ, ◌+◌, List, [], ◌∷◌, ◌++◌, map, refl, sym, ap, ◌∙◌, append_assoc, arith}
use Rattle.std.specs.List.{range_with_len}
use Rattle.std.proofs.lemmas.List.{map-append}
use Rattle.std.proofs.lemmas.List.FromFn.{map-range_with_len_more}
use Rattle.mz_base.specs.declared.profile.Profile.{Profile}
use Rattle.mz_events.specs.declared.place.Place.TheVariants.{Tiny, TinyDepot, Small, SmallDepot, Large}
use Rattle.mz_spots.specs.declared.key.Key.{Key}
use Rattle.mz_spots.specs.declared.key.Key.TheVariants.{Keeper}
use Rattle.mz_events.specs.Places.{Spot, keeper_at, spot_of, places_of}
use Rattle.mz_spots.specs.Keys.{spot_of_key, spots_of}

-- one more of a row of spots
pub spots_more : (f : ℕ → Spot) (before : List Spot) (keys : List Key) (key : Key) (n : ℕ) → spots_of keys ≡ before ++ map f (range_with_len 0 n) → spot_of_key key ≡ f n → spots_of (keys ++ key ∷ []) ≡ before ++ map f (range_with_len 0 (n + 1))
spots_more f before keys key n e is =
    map-append spot_of_key keys (key ∷ []) ∙ ap (λ j. spots_of keys ++ j ∷ []) is ∙ ap (λ l. l ++ f n ∷ []) e
    ∙ append_assoc before (map f (range_with_len 0 n)) (f n ∷ []) ∙ ap (λ l. before ++ l) (sym (map-range_with_len_more f 0 n n (omega arith)))

-- the spots of a zone, part by part
spots_tiny : (z : ℕ) (ms : List ℕ) → map spot_of (map (λ m. Tiny z m) ms) ≡ map (λ m. keeper_at (Tiny z m)) ms
spots_tiny z [] = refl
spots_tiny z (m ∷ ms) = ap (λ l. keeper_at (Tiny z m) ∷ l) (spots_tiny z ms)

spots_small : (z : ℕ) (ms : List ℕ) → map spot_of (map (λ m. Small z m) ms) ≡ map (λ m. keeper_at (Small z m)) ms
spots_small z [] = refl
spots_small z (m ∷ ms) = ap (λ l. keeper_at (Small z m) ∷ l) (spots_small z ms)

zone_spots : (p : Profile) (z : ℕ) → map spot_of (places_of p z) ≡ (map (λ m. keeper_at (Tiny z m)) (range_with_len 0 p.magazines) ++ keeper_at (TinyDepot z) ∷ map (λ m. keeper_at (Small z m)) (range_with_len 0 p.magazines)) ++ keeper_at (SmallDepot z) ∷ keeper_at (Large z) ∷ []
zone_spots p z =
    let ms = range_with_len 0 p.magazines in
    map-append spot_of (map (λ m. Tiny z m) ms ++ TinyDepot z ∷ map (λ m. Small z m) ms) (SmallDepot z ∷ Large z ∷ [])
    ∙ ap (λ l. l ++ keeper_at (SmallDepot z) ∷ keeper_at (Large z) ∷ []) (map-append spot_of (map (λ m. Tiny z m) ms) (TinyDepot z ∷ map (λ m. Small z m) ms) ∙ ap (λ l. l ++ keeper_at (TinyDepot z) ∷ map spot_of (map (λ m. Small z m) ms)) (spots_tiny z ms) ∙ ap (λ l. map (λ m. keeper_at (Tiny z m)) ms ++ keeper_at (TinyDepot z) ∷ l) (spots_small z ms))

pushed : (keys : List Key) (key : Key) (more : List Key) (spots : List Spot) → more ≡ keys ++ key ∷ [] → spots_of keys ≡ spots → spots_of more ≡ spots ++ spot_of_key key ∷ []
pushed keys key more spots e is = ap spots_of e ∙ map-append spot_of_key keys (key ∷ []) ∙ ap (λ l. l ++ spot_of_key key ∷ []) is

pub zone_built : (p : Profile) (z : ℕ) (k0 k1 k2 k3 k4 k5 : List Key) → k0 ≡ [] → spots_of k1 ≡ spots_of k0 ++ map (λ m. keeper_at (Tiny z m)) (range_with_len 0 p.magazines) → k2 ≡ k1 ++ Keeper (TinyDepot z) ∷ [] → spots_of k3 ≡ spots_of k2 ++ map (λ m. keeper_at (Small z m)) (range_with_len 0 p.magazines) → k4 ≡ k3 ++ Keeper (SmallDepot z) ∷ [] → k5 ≡ k4 ++ Keeper (Large z) ∷ [] → spots_of k5 ≡ map spot_of (places_of p z)
zone_built p z k0 k1 k2 k3 k4 k5 e0 e1 e2 e3 e4 e5 =
    let tiny = map (λ m. keeper_at (Tiny z m)) (range_with_len 0 p.magazines) in
    let small = map (λ m. keeper_at (Small z m)) (range_with_len 0 p.magazines) in
    let s1 : spots_of k1 ≡ tiny = e1 ∙ ap (λ k. spots_of k ++ tiny) e0 in
    let s2 : spots_of k2 ≡ tiny ++ keeper_at (TinyDepot z) ∷ [] = pushed k1 (Keeper (TinyDepot z)) k2 tiny e2 s1 in
    let s3 : spots_of k3 ≡ tiny ++ keeper_at (TinyDepot z) ∷ small = e3 ∙ ap (λ l. l ++ small) s2 ∙ append_assoc tiny (keeper_at (TinyDepot z) ∷ []) small in
    let s4 = pushed k3 (Keeper (SmallDepot z)) k4 (tiny ++ keeper_at (TinyDepot z) ∷ small) e4 s3 in
    let s5 = pushed k4 (Keeper (Large z)) k5 ((tiny ++ keeper_at (TinyDepot z) ∷ small) ++ keeper_at (SmallDepot z) ∷ []) e5 s4 in
    s5 ∙ append_assoc (tiny ++ keeper_at (TinyDepot z) ∷ small) (keeper_at (SmallDepot z) ∷ []) (keeper_at (Large z) ∷ []) ∙ sym (zone_spots p z)
