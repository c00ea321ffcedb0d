-- A keeper of regions gives a live block another size, for each place for which it stands.
use Rattle.std.proofs.Common.{◌≡◌, ℕ, ◌*◌, ◌/◌, ◌<◌, ◌≤◌, Bool, true, false, length, take, sym, subst, inl, inr}
use Rattle.std.specs.Prelude.{◌||◌, min}
use Rattle.std.specs.Bool.{MatchBool}
use Rattle.std.proofs.lemmas.Bool.{false≢true, cases_lt}
use Rattle.mz_base.specs.declared.profile.Profile.{Profile}
use Rattle.mz_base.specs.Site.{Site}
use Rattle.mz_base.specs.Space.{block_at}
use Rattle.mz_ground.specs.Views.{SpanView}
use Rattle.mz_magazine.specs.Keeping.{IsWholePages}
use Rattle.mz_events.specs.declared.place.Place.{Place}
use Rattle.mz_events.specs.Places.{is_magazine, is_depot, is_size_of}
use Rattle.mz_events.specs.State.{Kept}
use Rattle.mz_events.specs.Changes.{resized}
use Rattle.mz_events.specs.Standing.{RegionsKept, StandsForRegions, Stands}
use Rattle.mz_rack.specs.declared.keeper.Kind.{Kind}
use Rattle.mz_rack.specs.Kinds.{keeping_of}
use Rattle.mz_rack.specs.Shelves.{IsShelf}
use Rattle.mz_rack.specs.FreeStages.{block_in}
use Rattle.mz_rack.specs.ResizeStages.{has_room_to, Refits}
use Rattle.mz_rack.proofs.KeeperLemmas.{whole_pages, quanta_of, quantum_is, kept_on, by_itself}

-- the live block x has m bytes and is y then, or nothing changed
abbrev pub Changes : ℕ → RegionsKept → SpanView → Bool → RegionsKept → SpanView → Type 0
Changes m v x r u y =
    let b = block_in x in
    let c = block_at b.first m in
    MatchBool r
    ((y.space ≡ x.space) × (y.first ≡ x.first) × (length y.bytes ≡ m)
    × (take (min b.size m) y.bytes ≡ take (min b.size m) x.bytes)
    × (u ≡ record v { kept = resized b c v.kept }))
    ((y ≡ x) × (u ≡ v))

not_shrunk : (m s : ℕ) → (m ≤ s → false ≡ true) → s < m
not_shrunk m s h = elim (cases_lt s m) [ inl y ↦ y | inr n ↦ absurd (false≢true (h n)) ]

refits_by : (x : Site) (p : Profile) (q : Place) (m : ℕ) (v u : RegionsKept) (s t : SpanView) (r : Bool) → StandsForRegions v x p q v.kept → Changes m v s r u t → r ≡ has_room_to v.kept (block_in s) m → (m ≤ length s.bytes → r ≡ true)
    → Refits v.kept s m (λ k. StandsForRegions u x p q k) r t
refits_by x p q m v u s t true st h fits shrinks =
    let k = resized (block_in s) (block_at s.first m) v.kept in
    (sym fits, record { space = h.0; first = h.1; size = h.2; bytes = h.3 }, subst (λ w. StandsForRegions w x p q k) (sym h.4) (kept_on v x p q k st))
refits_by x p q m v u s t false st h fits shrinks = (sym fits, not_shrunk m (length s.bytes) shrinks, h.0, subst (λ w. StandsForRegions w x p q v.kept) (sym h.1) st)

pub refits : (Q N : ℕ) (x : Site) (p : Profile) (q : Place) (k : Kept) (n : ℕ) (v u : RegionsKept) (s t : SpanView) (r : Bool) → IsShelf Q N v → StandsForRegions v x p q k → (is_magazine q || is_depot q) ≡ true → is_size_of q n ≡ true
    → Changes (Q * (n / Q)) v s r u t → (IsWholePages Q N → r ≡ has_room_to v.kept (block_in s) (Q * (n / Q))) → (Q * (n / Q) ≤ length s.bytes → r ≡ true)
    → Refits k s n (λ j. StandsForRegions u x p q j) r t
refits Q N x p q k n v u s t r shelf st regions size h fits shrinks =
    let same = quantum_is Q N x p q k v shelf st in
    let bytes = quanta_of Q q n same regions size in
    subst (λ j. Refits j s n (λ i. StandsForRegions u x p q i) r t) st.keeps
    (refits_by x p q n v u s t r (by_itself v x p q k st) (subst (λ m. Changes m v s r u t) bytes h)
    (subst (λ m. r ≡ has_room_to v.kept (block_in s) m) bytes (fits (whole_pages Q N shelf.shape))) (subst (λ m. m ≤ length s.bytes → r ≡ true) bytes shrinks))

pub refits_then : (x : Site) (p : Profile) (q : Place) (k : Kept) (s : SpanView) (n : ℕ) (i j : Kind) (r a : Bool) (t u : SpanView) → j ≡ i → a ≡ r → u ≡ t → Refits k s n (Stands (keeping_of i) x p q) r t → Refits k s n (Stands (keeping_of j) x p q) a u
refits_then x p q k s n i j r a t u same answer span h =
    subst (λ y. Refits k s n (Stands (keeping_of y) x p q) a u) (sym same) (subst (λ y. Refits k s n (Stands (keeping_of i) x p q) y u) (sym answer) (subst (λ y. Refits k s n (Stands (keeping_of i) x p q) r y) (sym span) h))
