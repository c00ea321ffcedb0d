-- Numbers of keepers and their places, both ways.
use Rattle.std.proofs.Common.{◌≡◌, ℕ, ◌+◌, ◌-◌, ◌*◌, ◌/◌, ◌%◌, ◌<◌, ◌≤◌, Bool, true, false, refl, ap, sym, subst, ◌∙◌, arith, mul_comm, add_comm, List}
use Rattle.std.specs.Prelude.{nat_lt}
use Rattle.std.proofs.lemmas.Bool.{and_parts, and_from, false≢true}
use Rattle.std.proofs.lemmas.Bool.Decides.{nat_tests}
use Rattle.std.proofs.lemmas.Nat.{div-mul-add, mul-add-lt, mod-mul-add}
use Rattle.std.proofs.Math.Nat.{mod-add-div'}
use Rattle.mz_base.specs.declared.profile.Profile.{Profile}
use Rattle.mz_events.specs.declared.place.Place.{Place}
use Rattle.mz_events.specs.declared.place.Place.TheVariants.{Pages, Tiny, TinyDepot, Small, SmallDepot, Large, Nano}
use Rattle.mz_events.specs.Places.{exists_in, is_nano, spot_of}
use Rattle.mz_book.specs.Keepers.{zone_keepers, keeper_count, keeper_of, place_in_zone, place_at, keeper_spot, is_among, is_held}

less : (a b : ℕ) → a < b → nat_lt a b ≡ true
less a b h = grind (arith, nat_tests)

more : (a b : ℕ) → b ≤ a → nat_lt a b ≡ false
more a b h = grind (arith, nat_tests)

is_less : (a b : ℕ) → nat_lt a b ≡ true → a < b
is_less a b h = grind (arith, nat_tests)

is_more : (a b : ℕ) → nat_lt a b ≡ false → b ≤ a
is_more a b h = grind (arith, nat_tests)

-- a keeper of a zone has a number below those of the next zone
in_count : (p : Profile) (z i : ℕ) → z < p.zones → i < zone_keepers p → z * zone_keepers p + i < p.zones * zone_keepers p
in_count p z i lz li = let below : z * zone_keepers p + i < zone_keepers p * p.zones = mul-add-lt z (zone_keepers p) i p.zones lz li in subst (λ x. z * zone_keepers p + i < x) (mul_comm (zone_keepers p) p.zones) below

pub number_below : (p : Profile) (q : Place) → is_nano q ≡ false → exists_in p q ≡ true → keeper_of p q < keeper_count p
number_below p Pages n h = omega arith
number_below p (Tiny z i) n h =
    let b = and_parts (nat_lt z p.zones) (nat_lt i p.magazines) h in
    let l = is_less i p.magazines b.1 in
    let c = in_count p z i (is_less z p.zones b.0) (omega arith) in omega arith
number_below p (TinyDepot z) n h = let c = in_count p z p.magazines (is_less z p.zones h) (omega arith) in omega arith
number_below p (Small z i) n h =
    let b = and_parts (nat_lt z p.zones) (nat_lt i p.magazines) h in
    let l = is_less i p.magazines b.1 in
    let c = in_count p z (p.magazines + 1 + i) (is_less z p.zones b.0) (omega arith) in omega arith
number_below p (SmallDepot z) n h = let c = in_count p z (2 * p.magazines + 1) (is_less z p.zones h) (omega arith) in omega arith
number_below p (Large z) n h = let c = in_count p z (2 * p.magazines + 2) (is_less z p.zones h) (omega arith) in omega arith
number_below p Nano n h = absurd (false≢true (sym n))

in_zone : (p : Profile) (z i : ℕ) → z < p.zones → i < zone_keepers p → place_at p (z * zone_keepers p + i) ≡ place_in_zone p z i
unfolding place_at
in_zone p z i lz li =
    let w = zone_keepers p in
    let d : (z * w + i) / w ≡ z = div-mul-add z w i li in
    let m : (z * w + i) % w ≡ i = mod-mul-add z w i li in
    let t : nat_lt (z * w + i) (p.zones * w) ≡ true = less (z * w + i) (p.zones * w) (in_count p z i lz li) in
    rw (t, d, m) refl

pub place_number : (p : Profile) (q : Place) → is_nano q ≡ false → exists_in p q ≡ true → place_at p (keeper_of p q) ≡ q
unfolding place_at
place_number p Pages n h = let t : nat_lt (p.zones * zone_keepers p) (p.zones * zone_keepers p) ≡ false = grind (arith, nat_tests) in rw t refl
place_number p (Tiny z i) n h =
    let b = and_parts (nat_lt z p.zones) (nat_lt i p.magazines) h in
    let li = is_less i p.magazines b.1 in
    let t : nat_lt i p.magazines ≡ true = b.1 in
    in_zone p z i (is_less z p.zones b.0) (omega arith) ∙ rw t refl
place_number p (TinyDepot z) n h =
    in_zone p z p.magazines (is_less z p.zones h) (omega arith) ∙ rw (more p.magazines p.magazines (omega arith), less p.magazines (p.magazines + 1) (omega arith)) refl
place_number p (Small z i) n h =
    let b = and_parts (nat_lt z p.zones) (nat_lt i p.magazines) h in
    let li : i < p.magazines = is_less i p.magazines b.1 in
    let k = p.magazines + 1 + i in
    let back : k - (p.magazines + 1) ≡ i = omega arith in
    in_zone p z k (is_less z p.zones b.0) (omega arith)
    ∙ rw (more k p.magazines (omega arith), more k (p.magazines + 1) (omega arith), less k (2 * p.magazines + 1) (omega arith)) (ap (Small z) back)
place_number p (SmallDepot z) n h =
    let k = 2 * p.magazines + 1 in
    in_zone p z k (is_less z p.zones h) (omega arith)
    ∙ rw (more k p.magazines (omega arith), more k (p.magazines + 1) (omega arith), more k k (omega arith), less k (2 * p.magazines + 2) (omega arith)) refl
place_number p (Large z) n h =
    let k = 2 * p.magazines + 2 in
    in_zone p z k (is_less z p.zones h) (omega arith)
    ∙ rw (more k p.magazines (omega arith), more k (p.magazines + 1) (omega arith), more k (2 * p.magazines + 1) (omega arith), more k k (omega arith)) refl
place_number p Nano n h = absurd (false≢true (sym n))

number_in : (p : Profile) (z i : ℕ) (a b c d : Bool) → nat_lt i p.magazines ≡ a → nat_lt i (p.magazines + 1) ≡ b → nat_lt i (2 * p.magazines + 1) ≡ c → nat_lt i (2 * p.magazines + 2) ≡ d → i < zone_keepers p
    → keeper_of p (place_in_zone p z i) ≡ z * zone_keepers p + i
number_in p z i true b c d ea eb ec ed l = rw ea refl
number_in p z i false true c d ea eb ec ed l = let e : p.magazines ≡ i = omega (arith, is_more i p.magazines ea, is_less i (p.magazines + 1) eb) in rw (ea, eb) (ap (λ x. z * zone_keepers p + x) e)
number_in p z i false false true d ea eb ec ed l =
    let e : p.magazines + 1 + (i - (p.magazines + 1)) ≡ i = omega (arith, is_more i (p.magazines + 1) eb) in rw (ea, eb, ec) (ap (λ x. z * zone_keepers p + x) e)
number_in p z i false false false true ea eb ec ed l =
    let e : 2 * p.magazines + 1 ≡ i = omega (arith, is_more i (2 * p.magazines + 1) ec, is_less i (2 * p.magazines + 2) ed) in rw (ea, eb, ec, ed) (ap (λ x. z * zone_keepers p + x) e)
number_in p z i false false false false ea eb ec ed l =
    let e : 2 * p.magazines + 2 ≡ i = omega (arith, is_more i (2 * p.magazines + 2) ed) in rw (ea, eb, ec, ed) (ap (λ x. z * zone_keepers p + x) e)

number_at : (p : Profile) (k : ℕ) (b : Bool) → nat_lt k (p.zones * zone_keepers p) ≡ b → k < keeper_count p → keeper_of p (place_at p k) ≡ k
unfolding place_at
number_at p k true e l =
    let w = zone_keepers p in
    let m : k % w < w = omega arith in
    rw e (number_in p (k / w) (k % w) _ _ _ _ refl refl refl refl m ∙ (add_comm (k / w * w) (k % w) ∙ mod-add-div' k w))
number_at p k false e l = let same : p.zones * zone_keepers p ≡ k = omega (arith, is_more k (p.zones * zone_keepers p) e) in rw e same

pub number_place : (p : Profile) (k : ℕ) → k < keeper_count p → keeper_of p (place_at p k) ≡ k
number_place p k l = number_at p k (nat_lt k (p.zones * zone_keepers p)) refl l

exists_zone : (p : Profile) (z i : ℕ) (a b c d : Bool) → nat_lt i p.magazines ≡ a → nat_lt i (p.magazines + 1) ≡ b → nat_lt i (2 * p.magazines + 1) ≡ c → nat_lt i (2 * p.magazines + 2) ≡ d → nat_lt z p.zones ≡ true
    → exists_in p (place_in_zone p z i) ≡ true
exists_zone p z i true b c d ea eb ec ed l = rw ea (and_from _ _ l ea)
exists_zone p z i false true c d ea eb ec ed l = rw (ea, eb) l
exists_zone p z i false false true d ea eb ec ed l =
    let e : i - (p.magazines + 1) < p.magazines = omega (arith, is_more i (p.magazines + 1) eb, is_less i (2 * p.magazines + 1) ec) in rw (ea, eb, ec) (and_from _ _ l (less _ _ e))
exists_zone p z i false false false true ea eb ec ed l = rw (ea, eb, ec, ed) l
exists_zone p z i false false false false ea eb ec ed l = rw (ea, eb, ec, ed) l

div_below : (k w n : ℕ) → 1 ≤ w → k < n * w → k / w < n
div_below k w n some l = search arith

exists_at : (p : Profile) (k : ℕ) (b : Bool) → nat_lt k (p.zones * zone_keepers p) ≡ b → exists_in p (place_at p k) ≡ true
unfolding place_at
exists_at p k true e =
    let w = zone_keepers p in
    let z : k / w < p.zones = div_below k w p.zones (omega arith) (is_less k (p.zones * w) e) in
    rw e (exists_zone p (k / w) (k % w) _ _ _ _ refl refl refl refl (less _ _ z))
exists_at p k false e = rw e refl

pub exists_number : (p : Profile) (k : ℕ) → exists_in p (place_at p k) ≡ true
exists_number p k = exists_at p k (nat_lt k (p.zones * zone_keepers p)) refl

zone_not_nano : (p : Profile) (z i : ℕ) (a b c d : Bool) → nat_lt i p.magazines ≡ a → nat_lt i (p.magazines + 1) ≡ b → nat_lt i (2 * p.magazines + 1) ≡ c → nat_lt i (2 * p.magazines + 2) ≡ d → is_nano (place_in_zone p z i) ≡ false
zone_not_nano p z i true b c d ea eb ec ed = rw ea refl
zone_not_nano p z i false true c d ea eb ec ed = rw (ea, eb) refl
zone_not_nano p z i false false true d ea eb ec ed = rw (ea, eb, ec) refl
zone_not_nano p z i false false false true ea eb ec ed = rw (ea, eb, ec, ed) refl
zone_not_nano p z i false false false false ea eb ec ed = rw (ea, eb, ec, ed) refl

not_nano_at : (p : Profile) (k : ℕ) (b : Bool) → nat_lt k (p.zones * zone_keepers p) ≡ b → is_nano (place_at p k) ≡ false
unfolding place_at
not_nano_at p k true e = rw e (zone_not_nano p (k / zone_keepers p) (k % zone_keepers p) _ _ _ _ refl refl refl refl)
not_nano_at p k false e = rw e refl

pub not_nano : (p : Profile) (k : ℕ) → is_nano (place_at p k) ≡ false
not_nano p k = not_nano_at p k (nat_lt k (p.zones * zone_keepers p)) refl

pub held_place : (p : Profile) (held : List ℕ) (q : Place) → is_nano q ≡ false → is_held p held (spot_of q) ≡ is_among held (keeper_of p q)
held_place p held Pages n = refl
held_place p held (Tiny z m) n = refl
held_place p held (TinyDepot z) n = refl
held_place p held (Small z m) n = refl
held_place p held (SmallDepot z) n = refl
held_place p held (Large z) n = refl
held_place p held Nano n = absurd (false≢true (sym n))

-- the spot of a keeper's number is held where the number is among those held
pub held_number : (p : Profile) (held : List ℕ) (k : ℕ) → k < keeper_count p → is_held p held (keeper_spot p k) ≡ is_among held k
held_number p held k l = held_place p held (place_at p k) (not_nano p k) ∙ ap (λ i. is_among held i) (number_place p k l)
