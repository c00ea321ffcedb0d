-- What the calls of a shelf answer, for each place for which its keeper stands.
use Rattle.std.proofs.Common.{◌≡◌, ◌⊎◌, ℕ, suc, ◌+◌, ◌*◌, ◌/◌, ◌%◌, ◌^◌, ◌<◌, ◌≤◌, ◌==◌, Bool, true, false, not, List, [], ◌∷◌, Option, None, Some, refl, ap, sym, subst, ◌∙◌, inl, inr, arith, mul_comm, mul_assoc}
use Rattle.std.specs.Prelude.{nat_lt, nat_le, ◌&&◌, ◌||◌, find, filter, length, sum_by, MatchOption, IsTrue, if◌then◌else◌}
use Rattle.std.specs.Option.{option_map}
use Rattle.std.specs.List.{All, list_any, list_all}
use Rattle.std.proofs.Math.Nat.{mul-mod_left}
use Rattle.std.proofs.lemmas.Nat.{div-add-mod', le-div}
use Rattle.std.proofs.lemmas.Option.{none-some, same_Some}
use Rattle.std.proofs.lemmas.Bool.{and_parts, and_from, cases_Bool, cond-true, cond-false, false≢true, false_from_ne_true, eqb-true, eq-eqb, le-leb, lt-ltb, or_left, or_right, or_from, not_from_false}
use Rattle.std.proofs.lemmas.List.Elements.{All-head, All-tail}
use Rattle.std.proofs.lemmas.List.Sums.{sum_by-cons}
use Rattle.mz_base.specs.declared.profile.Profile.{Profile}
use Rattle.mz_base.specs.declared.range.TheConstants.{PAGE}
use Rattle.mz_base.specs.Site.{Site}
use Rattle.mz_base.specs.Space.{Block, Run, run_at, run_end, block_at, block_end, blocks_apart, same_run}
use Rattle.mz_base.specs.Lists.{add_run, has_run, blocks_in}
use Rattle.mz_base.specs.Room.{lies_in, has_room, any_has_room}
use Rattle.mz_ground.specs.Views.{SpanView}
use Rattle.mz_region.specs.Views.{RegionView, IsRegion}
use Rattle.mz_magazine.specs.Keeping.{IsWholePages, run_from}
use Rattle.mz_events.specs.declared.place.Place.{Place}
use Rattle.mz_events.specs.declared.place.Place.TheVariants.{Pages, Tiny, TinyDepot, Small, SmallDepot, Large}
use Rattle.mz_events.specs.Places.{is_magazine, is_depot, is_large, is_pages, is_size_of, is_length_of, quantum_of, nano_start}
use Rattle.mz_events.specs.declared.event.Event.TheVariants.{Back}
use Rattle.mz_events.specs.Duties.{is_unused, empty_depot_region}
use Rattle.mz_events.specs.State.{Kept}
use Rattle.mz_events.specs.Room.{wide}
use Rattle.mz_events.specs.Changes.{with_block, with_region, without_run, region_at}
use Rattle.mz_events.specs.Placement.{is_placed_in_magazine}
use Rattle.mz_events.specs.Rules.{is_lowest_with_room}
use Rattle.mz_events.specs.Separation.{InOrder}
use Rattle.mz_events.specs.Standing.{RegionsKept, LargeKept, PagesKept, Keeping, Stands, StandsForRegions, IsOf}
use Rattle.mz_rack.specs.declared.keeper.Kind.{Kind}
use Rattle.mz_rack.specs.declared.keeper.Kind.TheVariants as kind
use Rattle.mz_rack.specs.Kinds.{keeping_of}
use Rattle.mz_rack.specs.Shelves.{IsShape, IsShelf, is_formed}
use Rattle.mz_rack.specs.Asking.{IsTidy}
use Rattle.mz_rack.specs.Answering.{HasNoRoom, Placed}
use Rattle.mz_rack.proofs.Listed.{run_of_all, region_there, begins_at, is_same_run}
use Rattle.mz_rack.proofs.Steps.{or_elim}
use Rattle.mz_rack.proofs.RoomLemmas.{insert_nil, insert_here, insert_later}
use Rattle.mz_rack.proofs.ShelfLemmas.{parts_of}

-- KINDS: what a keeper's kind says of the places for which it stands
pub of_tiny : (i : Kind) (v u : RegionsKept) (n : Keeping) → keeping_of i ≡ n → i ≡ kind.Tiny v → u ≡ v → (x : Site) (p : Profile) (q : Place) (k : Kept) → Stands n x p q k → StandsForRegions u x p q k
of_tiny i v u n view is inside x p q k s = subst (λ a. StandsForRegions a x p q k) (sym inside) (subst (λ j. Stands (keeping_of j) x p q k) is (subst (λ j. Stands j x p q k) (sym view) s))

pub of_small : (i : Kind) (v u : RegionsKept) (n : Keeping) → keeping_of i ≡ n → i ≡ kind.Small v → u ≡ v → (x : Site) (p : Profile) (q : Place) (k : Kept) → Stands n x p q k → StandsForRegions u x p q k
of_small i v u n view is inside x p q k s = subst (λ a. StandsForRegions a x p q k) (sym inside) (subst (λ j. Stands (keeping_of j) x p q k) is (subst (λ j. Stands j x p q k) (sym view) s))

not_pages : (q : Place) → is_pages q ≡ true → (is_magazine q || is_depot q) ≡ true → ⊥
not_pages Pages a b = false≢true b
not_pages _ a b = false≢true a

not_large : (q : Place) → is_large q ≡ true → (is_magazine q || is_depot q) ≡ true → ⊥
not_large (Large z) a b = false≢true b
not_large _ a b = false≢true a

pub no_regions : (i : Kind) (n : Keeping) → keeping_of i ≡ n → ((v : PagesKept) × (i ≡ kind.Pages v)) ⊎ ((v : LargeKept) × (i ≡ kind.Large v)) → (x : Site) (p : Profile) (q : Place) (k : Kept) → Stands n x p q k → (is_magazine q || is_depot q) ≡ true → ⊥
no_regions i n view (inl y) x p q k s h = not_pages q (subst (λ j. Stands (keeping_of j) x p q k) y.1 (subst (λ j. Stands j x p q k) (sym view) s)).kind h
no_regions i n view (inr y) x p q k s h = not_large q (subst (λ j. Stands (keeping_of j) x p q k) y.1 (subst (λ j. Stands j x p q k) (sym view) s)).kind h

pub placed_then : (x : Site) (p : Profile) (q : Place) (k : Kept) (n al : ℕ) (i j : Kind) (r t : Option SpanView) → j ≡ i → t ≡ r → Placed x q k n al (Stands (keeping_of i) x p q) r → Placed x q k n al (Stands (keeping_of j) x p q) t
placed_then x p q k n al i j r t same answer h = subst (λ y. Placed x q k n al (Stands (keeping_of y) x p q) t) (sym same) (subst (λ y. Placed x q k n al (Stands (keeping_of i) x p q) y) (sym answer) h)

-- SIZES: a size of the place is some whole quanta
tiny_whole : (n : ℕ) → ((n % 16 == 0) && nat_le 16 n && nat_le n 1008) ≡ true → n % 16 ≡ 0
tiny_whole n s = eqb-true (n % 16) 0 (and_parts (n % 16 == 0) (nat_le 16 n) (and_parts ((n % 16 == 0) && nat_le 16 n) (nat_le n 1008) s).0).0

small_whole : (n : ℕ) → ((n % 512 == 0) && nat_le 1024 n && nat_le n 32768) ≡ true → n % 512 ≡ 0
small_whole n s = eqb-true (n % 512) 0 (and_parts (n % 512 == 0) (nat_le 1024 n) (and_parts ((n % 512 == 0) && nat_le 1024 n) (nat_le n 32768) s).0).0

pub whole_size : (q : Place) (n : ℕ) → (is_magazine q || is_depot q) ≡ true → is_size_of q n ≡ true → n % quantum_of q ≡ 0
whole_size (Tiny z m) n h s = tiny_whole n s
whole_size (TinyDepot z) n h s = tiny_whole n s
whole_size (Small z m) n h s = small_whole n s
whole_size (SmallDepot z) n h s = small_whole n s
whole_size _ n h s = absurd (false≢true h)

pub quanta_of : (Q : ℕ) (q : Place) (n : ℕ) → Q ≡ quantum_of q → (is_magazine q || is_depot q) ≡ true → is_size_of q n ≡ true → Q * (n / Q) ≡ n
quanta_of Q q n same h s =
    let whole : n % Q ≡ 0 = ap (λ x. n % x) same ∙ whole_size q n h s in
    mul_comm Q (n / Q) ∙ omega (arith, div-add-mod' n Q, whole)

one_length : (q : Place) (v w : ℕ) → (is_magazine q || is_depot q) ≡ true → is_length_of q v ≡ true → is_length_of q w ≡ true → v ≡ w
one_length (Tiny z m) v w h a b = eqb-true v 64 a ∙ sym (eqb-true w 64 b)
one_length (TinyDepot z) v w h a b = eqb-true v 64 a ∙ sym (eqb-true w 64 b)
one_length (Small z m) v w h a b = eqb-true v 512 a ∙ sym (eqb-true w 512 b)
one_length (SmallDepot z) v w h a b = eqb-true v 512 a ∙ sym (eqb-true w 512 b)
one_length _ v w h a b = absurd (false≢true h)

pub whole_pages : (Q N : ℕ) → IsShape Q N → IsWholePages Q N
whole_pages Q N h = let some = h.some in (h.whole, omega arith)

-- STANDING: what is kept changes, and all else stays
pub kept_on : (v : RegionsKept) (x : Site) (p : Profile) (q : Place) (k : Kept) → StandsForRegions v x p q v.kept → StandsForRegions (record v { kept = k }) x p q k
kept_on v x p q k s = record { kind = s.kind; quantum = s.quantum; length = s.length; space = s.space; room = s.room; keeps = refl }

pub by_itself : (v : RegionsKept) (x : Site) (p : Profile) (q : Place) (k : Kept) → StandsForRegions v x p q k → StandsForRegions v x p q v.kept
by_itself v x p q k s = subst (λ j. StandsForRegions v x p q j) (sym s.keeps) s

pub quantum_is : (Q N : ℕ) (x : Site) (p : Profile) (q : Place) (k : Kept) (v : RegionsKept) → IsShelf Q N v → StandsForRegions v x p q k → Q ≡ quantum_of q
quantum_is Q N x p q k v shelf s = sym shelf.quantum ∙ s.quantum

-- BLOCKS: a magazine has a block more, or no room
abbrev pub Serves : ℕ → ℕ → ℕ → RegionsKept → RegionsKept → Option SpanView → Type 0
Serves Q m al v u r =
    MatchOption r (u ≡ v)
    (λ s. let b = block_at s.first m in
    (length s.bytes ≡ m) × (v.space ≡ Some s.space) × (b.first % Q ≡ 0) × (b.first % al ≡ 0)
    × IsTrue (list_all (λ c. blocks_apart c b) v.kept.live)
    × (u ≡ record v { kept = with_block b v.kept }))

abbrev pub Places : ℕ → ℕ → RegionsKept → Option SpanView → Type 0
Places m al v r =
    let room = any_has_room v.kept.runs (wide v.kept) m al in
    MatchOption r (¬ IsTrue room)
    (λ s. let b = block_at s.first m in
    IsTrue room × IsTrue (is_placed_in_magazine v.kept b al)
    × IsTrue (list_any (λ t. lies_in t b.first (block_end b)) v.kept.runs))

placed_by : (Q : ℕ) (x : Site) (p : Profile) (q : Place) (m al : ℕ) (v u : RegionsKept) (r : Option SpanView) → Q ≡ quantum_of q → StandsForRegions v x p q v.kept → Serves Q m al v u r → Places m al v r
    → Placed x q v.kept m al (λ k. StandsForRegions u x p q k) r
placed_by Q x p q m al v u None same s served at =
    (false_from_ne_true (any_has_room v.kept.runs (wide v.kept) m al) at, subst (λ w. StandsForRegions w x p q v.kept) (sym served) s)
placed_by Q x p q m al v u (Some t) same s served at = (
  record {
    space = subst (λ o. IsOf o x) served.1 s.space;
    size = served.0;
    aligned = served.3;
    quantum = subst (λ y. t.first % y ≡ 0) same served.2;
    lies = at.2;
    apart = served.4;
    placed = at.1;
  },
  subst (λ w. StandsForRegions w x p q (with_block (block_at t.first m) v.kept)) (sym served.5) (kept_on v x p q (with_block (block_at t.first m) v.kept) s),
)

pub placed : (Q N : ℕ) (x : Site) (p : Profile) (q : Place) (k : Kept) (n al : ℕ) (v u : RegionsKept) (r : Option SpanView) → IsShelf Q N v → StandsForRegions v x p q k → is_magazine q ≡ true → is_size_of q n ≡ true
    → Serves Q (Q * (n / Q)) al v u r → (IsWholePages Q N → Places (Q * (n / Q)) al v r) → Placed x q k n al (λ j. StandsForRegions u x p q j) r
placed Q N x p q k n al v u r shelf s one size served at =
    let same = quantum_is Q N x p q k v shelf s in
    let bytes = quanta_of Q q n same (or_left (is_magazine q) (is_depot q) one) size in
    subst (λ j. Placed x q j n al (λ i. StandsForRegions u x p q i) r) s.keeps
    (placed_by Q x p q n al v u r same (by_itself v x p q k s) (subst (λ m. Serves Q m al v u r) bytes served) (subst (λ m. Places m al v r) bytes (at (whole_pages Q N shelf.shape))))

-- ROOM: the lowest region with room
abbrev begins_with : (Run → Bool) → ℕ → Run → Bool
begins_with p f r = (r.first == f) && p r

abbrev not_below : (Run → Bool) → ℕ → Run → Bool
not_below p f r = nat_le f r.first || not (p r)

above_all : (p : Run → Bool) (f e : ℕ) (rs : List Run) → f ≤ e → All (λ t. e ≤ t.first) rs → list_all (not_below p f) rs ≡ true
above_all p f e [] less h = refl
above_all p f e (t ∷ rs) less h =
    let here = All-head (λ (y : Run). e ≤ y.first) t rs h in
    and_from (not_below p f t) (list_all (not_below p f) rs) (or_left (nat_le f t.first) (not (p t)) (le-leb f t.first (omega (arith, here)))) (above_all p f e rs less (All-tail (λ (y : Run). e ≤ y.first) t rs h))

abbrev address : Run → ℕ
address r = r.first * PAGE

lowest_of : (p : Run → Bool) (rs : List Run) (a : ℕ) → InOrder (λ r. r.first) run_end rs → Some a ≡ option_map address (find p rs)
    → (list_any (begins_with p (a / PAGE)) rs && list_all (not_below p (a / PAGE)) rs) ≡ true
lowest_of p [] a order h = absurd (none-some a (sym h))
lowest_of p (r ∷ rs) a order h =
    let f = a / PAGE in
    elim (cases_Bool (p r)) [
      | inl y ↦
          let at : a ≡ r.first * PAGE = same_Some a (r.first * PAGE) (h ∙ ap (option_map address) (cond-true (p r) (Some r) (find p rs) y)) in
          let first : r.first ≡ a / PAGE = omega (arith, at) in
          let less = order.0 in
          let above : a / PAGE ≤ run_end r = omega (arith, less, first) in
          and_from (begins_with p f r || list_any (begins_with p f) rs) (not_below p f r && list_all (not_below p f) rs)
          (or_left (begins_with p f r) (list_any (begins_with p f) rs) (and_from (r.first == f) (p r) (eq-eqb r.first f first) y))
          (and_from (not_below p f r) (list_all (not_below p f) rs) (or_left (nat_le f r.first) (not (p r)) (le-leb f r.first (omega (arith, first)))) (above_all p f (run_end r) rs above order.1))
      | inr n ↦
          let rest = lowest_of p rs a order.2 (h ∙ ap (option_map address) (cond-false (p r) (Some r) (find p rs) n)) in
          let parts = and_parts (list_any (begins_with p f) rs) (list_all (not_below p f) rs) rest in
          and_from (begins_with p f r || list_any (begins_with p f) rs) (not_below p f r && list_all (not_below p f) rs)
          (or_right (begins_with p f r) (list_any (begins_with p f) rs) parts.0)
          (and_from (not_below p f r) (list_all (not_below p f) rs) (or_right (nat_le f r.first) (not (p r)) (not_from_false (p r) n)) parts.1)
    ]

none_of : (p : Run → Bool) (rs : List Run) → None ≡ option_map address (find p rs) → list_any p rs ≡ false
none_of p [] h = refl
none_of p (r ∷ rs) h =
    elim (cases_Bool (p r)) [
      | inl y ↦ absurd (none-some (r.first * PAGE) (h ∙ ap (option_map address) (cond-true (p r) (Some r) (find p rs) y)))
      | inr n ↦ or_from (p r) (list_any p rs) n (none_of p rs (h ∙ ap (option_map address) (cond-false (p r) (Some r) (find p rs) n)))
    ]

abbrev pub Finds : ℕ → ℕ → RegionsKept → Option ℕ → Type 0
Finds m al v r = r ≡ option_map (λ t. t.first * PAGE) (find (λ t. has_room t (wide v.kept) m al) v.kept.runs)

pub found_room : (Q N : ℕ) (x : Site) (p : Profile) (q : Place) (k : Kept) (n al a : ℕ) (v : RegionsKept) → IsShelf Q N v → StandsForRegions v x p q k → is_depot q ≡ true → is_size_of q n ≡ true → IsTidy p q k
    → (IsWholePages Q N → Finds (Q * (n / Q)) al v (Some a)) → is_lowest_with_room k (a / PAGE) (n, al) ≡ true
found_room Q N x p q k n al a v shelf s depot size tidy found =
    let same = quantum_is Q N x p q k v shelf s in
    let bytes = quanta_of Q q n same (or_right (is_magazine q) (is_depot q) depot) size in
    subst (λ j. is_lowest_with_room j (a / PAGE) (n, al) ≡ true) s.keeps
    (lowest_of (λ t. has_room t (wide v.kept) n al) v.kept.runs a (subst (λ (j : Kept). InOrder (λ r. r.first) run_end j.runs) (sym s.keeps) tidy.runs)
    (subst (λ m. Finds m al v (Some a)) bytes (found (whole_pages Q N shelf.shape))))

pub found_none : (Q N : ℕ) (x : Site) (p : Profile) (q : Place) (k : Kept) (n al : ℕ) (v : RegionsKept) → IsShelf Q N v → StandsForRegions v x p q k → is_depot q ≡ true → is_size_of q n ≡ true
    → (IsWholePages Q N → Finds (Q * (n / Q)) al v None) → HasNoRoom k n al
found_none Q N x p q k n al v shelf s depot size found =
    let same = quantum_is Q N x p q k v shelf s in
    let bytes = quanta_of Q q n same (or_right (is_magazine q) (is_depot q) depot) size in
    subst (λ j. HasNoRoom j n al) s.keeps (none_of (λ t. has_room t (wide v.kept) n al) v.kept.runs (subst (λ m. Finds m al v None) bytes (found (whole_pages Q N shelf.shape))))

-- YIELDED: a region is out
abbrev pub Yields : ℕ → RegionsKept → RegionsKept → Option RegionView → Type 0
Yields a v u r =
    MatchOption r (u ≡ v)
    (λ t. (t.first ≡ a) × (v.space ≡ Some t.space)
    × (u ≡ record v { space = (if length u.kept.runs == 0 then None else v.space); kept = u.kept }))

abbrev pub YieldsRun : ℕ → ℕ → ℕ → RegionsKept → RegionsKept → Option RegionView → Type 0
YieldsRun Q N a v u r =
    MatchOption r (¬ IsTrue (list_any (λ t. t.first * PAGE == a) v.kept.runs))
    (λ t. let run = run_from Q N a in
    IsTrue (has_run v.kept.runs run) × (t.live ≡ blocks_in v.kept.live run)
    × (u.kept ≡ without_run run v.kept))

all_left : (p q : Run → Bool) (rs : List Run) → list_all p rs ≡ true → list_all p (filter q rs) ≡ true
all_left p q [] h = refl
all_left p q (r ∷ rs) h =
    let parts = and_parts (p r) (list_all p rs) h in
    elim (cases_Bool (q r)) [
      | inl y ↦ ap (list_all p) (cond-true (q r) (r ∷ filter q rs) (filter q rs) y) ∙ and_from (p r) (list_all p (filter q rs)) parts.0 (all_left p q rs parts.1)
      | inr n ↦ ap (list_all p) (cond-false (q r) (r ∷ filter q rs) (filter q rs) n) ∙ all_left p q rs parts.1
    ]

pub shelf_yielded : (Q N a : ℕ) (v u : RegionsKept) (r : Option RegionView) → IsShelf Q N v → Yields a v u r → (IsWholePages Q N → YieldsRun Q N a v u r) → IsShelf Q N u
shelf_yielded Q N a v u None shelf y exact = subst (λ w. IsShelf Q N w) (sym y) shelf
shelf_yielded Q N a v u (Some t) shelf y exact =
    let e = exact (whole_pages Q N shelf.shape) in
    subst (λ w. IsShelf Q N w) (sym y.2) (record {
      shape = shelf.shape;
      quantum = shelf.quantum;
      pages = shelf.pages;
      formed = subst (λ (k : Kept). list_all (is_formed v.pages) k.runs ≡ true) (sym e.2) (all_left (is_formed v.pages) (λ r. not (same_run (run_from Q N a) r)) v.kept.runs shelf.formed);
    })

pub address_fits : (Q N f : ℕ) (v : RegionsKept) (k : Kept) → IsShelf Q N v → v.kept ≡ k → list_any (λ r. r.first == f) k.runs ≡ true → f * PAGE < 2 ^ 63
address_fits Q N f v k shelf keeps there =
    let here = subst (λ (j : Kept). list_any (λ r. r.first == f) j.runs ≡ true) (sym keeps) there in
    let formed = run_of_all (is_formed v.pages) v.kept.runs (region_at v.kept.runs f) shelf.formed (region_there v.kept.runs f here) in
    let parts = parts_of v.pages (region_at v.kept.runs f) formed in
    let small = parts.small in
    let at = begins_at v.kept.runs f here in
    omega (arith, at, small)

region_is : (w f : ℕ) (rs : List Run) → list_all (is_formed w) rs ≡ true → has_run rs (run_at f w) ≡ true → region_at rs f ≡ run_at f w
region_is w f [] h there = absurd (false≢true there)
region_is w f (r ∷ rs) h there =
    let parts = and_parts (is_formed w r) (list_all (is_formed w) rs) h in
    let pages = (parts_of w r parts.0).pages in
    elim (cases_Bool (r.first == f)) [
      | inl y ↦ cond-true (r.first == f) r (region_at rs f) y ∙ ap (λ g. run_at g r.pages) (eqb-true r.first f y) ∙ ap (λ g. run_at f g) pages
      | inr n ↦
          let other : (f == r.first) ≡ true → ⊥ = λ y. false≢true (sym n ∙ eq-eqb r.first f (sym (eqb-true f r.first y))) in
          cond-false (r.first == f) r (region_at rs f) n
          ∙ region_is w f rs parts.1 (or_elim (same_run (run_at f w) r) (has_run rs (run_at f w)) (λ y. absurd (other (and_parts (f == r.first) (w == r.pages) y).0)) (λ y. y) there)
    ]

still_of : (b : Bool) (o : Option Site) (x : Site) → IsOf o x → IsOf (if b then None else o) x
still_of true o x h = tt
still_of false o x h = h

-- the region that begins at page f is out
pub record Out (Q N : ℕ) (x : Site) (p : Profile) (q : Place) (k : Kept) (f : ℕ) (u : RegionsKept) (t : RegionView) : Type 0 where
  pub quantum : Q ≡ quantum_of q
  pub space : t.space ≡ x
  pub run : run_at (t.first / PAGE) (Q * N / PAGE) ≡ region_at k.runs f
  pub live : t.live ≡ blocks_in k.live (region_at k.runs f)
  pub left : StandsForRegions u x p q (without_run (region_at k.runs f) k)

pub yielded : (Q N : ℕ) (x : Site) (p : Profile) (q : Place) (k : Kept) (f : ℕ) (v u : RegionsKept) (t : RegionView) → IsShelf Q N v → StandsForRegions v x p q k
    → Yields (f * PAGE) v u (Some t) → (IsWholePages Q N → YieldsRun Q N (f * PAGE) v u (Some t)) → Out Q N x p q k f u t
yielded Q N x p q k f v u t shelf s y exact =
    let e = exact (whole_pages Q N shelf.shape) in
    let w = Q * N / PAGE in
    let page : f * PAGE / PAGE ≡ f = omega arith in
    let run : run_from Q N (f * PAGE) ≡ run_at f w = ap (λ g. run_at g w) page in
    let formed = subst (λ j. list_all (is_formed j) v.kept.runs ≡ true) shelf.pages shelf.formed in
    let there = subst (λ r. has_run v.kept.runs r ≡ true) run e.0 in
    let same : run_from Q N (f * PAGE) ≡ region_at v.kept.runs f = run ∙ sym (region_is w f v.kept.runs formed there) in
    let after : StandsForRegions u x p q u.kept = subst (λ j. StandsForRegions j x p q u.kept) (sym y.2) (record {
      kind = s.kind;
      quantum = s.quantum;
      length = s.length;
      space = still_of (length u.kept.runs == 0) v.space x s.space;
      room = s.room;
      keeps = refl;
    }) in
    subst (λ j. Out Q N x p q j f u t) s.keeps (record {
      quantum = quantum_is Q N x p q k v shelf s;
      space = subst (λ o. IsOf o x) y.1 s.space;
      run = ap (λ a. run_at (a / PAGE) w) y.0 ∙ same;
      live = e.1 ∙ ap (blocks_in v.kept.live) same;
      left = subst (λ j. StandsForRegions u x p q j) (e.2 ∙ ap (λ r. without_run r v.kept) same) after;
    })

-- ADOPTED: a region comes
abbrev pub Adopts : ℕ → ℕ → RegionsKept → RegionsKept → RegionView → Type 0
Adopts Q N v u t = u ≡ record v { space = Some t.space; kept = with_region (run_from Q N t.first) t.live v.kept }

all_added : (p : Run → Bool) (r : Run) (rs : List Run) → p r ≡ true → list_all p rs ≡ true → list_all p (add_run r rs) ≡ true
all_added p r [] one h = ap (list_all p) (insert_nil (λ (t : Run). t.first) r) ∙ and_from (p r) true one refl
all_added p r (y ∷ ys) one h =
    let parts = and_parts (p y) (list_all p ys) h in
    elim (cases_Bool (nat_lt r.first y.first)) [
      | inl less ↦ ap (list_all p) (insert_here (λ (t : Run). t.first) r y ys less) ∙ and_from (p r) (list_all p (y ∷ ys)) one h
      | inr more ↦ ap (list_all p) (insert_later (λ (t : Run). t.first) r y ys more) ∙ and_from (p y) (list_all p (add_run r ys)) parts.0 (all_added p r ys one parts.1)
    ]

length_added : (r : Run) (rs : List Run) → length (add_run r rs) ≡ suc (length rs)
length_added r [] = ap length (insert_nil (λ (t : Run). t.first) r)
length_added r (y ∷ ys) =
    elim (cases_Bool (nat_lt r.first y.first)) [
      | inl less ↦ ap length (insert_here (λ (t : Run). t.first) r y ys less)
      | inr more ↦ ap length (insert_later (λ (t : Run). t.first) r y ys more) ∙ ap suc (length_added r ys)
    ]

formed_run : (Q N w : ℕ) (t : RegionView) → IsShape Q N → w ≡ Q * N / PAGE → IsRegion Q N t → is_formed w (run_from Q N t.first) ≡ true
formed_run Q N w t shape same region =
    let some = shape.some in
    let whole = shape.whole in
    let bytes : Q * N ≡ Q * N / PAGE * PAGE = omega (arith, whole) in
    let at : t.first ≡ t.first / (Q * N) * (Q * N) = omega (arith, div-add-mod' t.first (Q * N), region.at) in
    let pages : t.first ≡ t.first / (Q * N) * (Q * N / PAGE) * PAGE = at ∙ ap (λ y. t.first / (Q * N) * y) bytes ∙ sym (mul_assoc (t.first / (Q * N)) (Q * N / PAGE) PAGE) in
    let first : t.first / PAGE ≡ t.first / (Q * N) * (Q * N / PAGE) = omega (arith, pages) in
    let inside = region.inside in
    let small = region.small in
    let multiple : t.first / PAGE % w ≡ 0 = ap (λ y. t.first / PAGE % y) same ∙ ap (λ y. y % (Q * N / PAGE)) first ∙ mul-mod_left (t.first / (Q * N)) (Q * N / PAGE) in
    let below : run_end (run_from Q N t.first) * PAGE < 2 ^ 63 = omega (arith, bytes, first, pages, inside, small) in
    and_from ((Q * N / PAGE == w) && (t.first / PAGE % w == 0)) (nat_lt (run_end (run_from Q N t.first) * PAGE) (2 ^ 63))
    (and_from (Q * N / PAGE == w) (t.first / PAGE % w == 0) (eq-eqb (Q * N / PAGE) w (sym same)) (eq-eqb (t.first / PAGE % w) 0 multiple))
    (lt-ltb (run_end (run_from Q N t.first) * PAGE) (2 ^ 63) below)

pub shelf_adopted : (Q N : ℕ) (v u : RegionsKept) (t : RegionView) → IsShelf Q N v → IsRegion Q N t → (IsWholePages Q N → Adopts Q N v u t) → IsShelf Q N u
shelf_adopted Q N v u t shelf region adopts =
    subst (λ w. IsShelf Q N w) (sym (adopts (whole_pages Q N shelf.shape))) (record {
      shape = shelf.shape;
      quantum = shelf.quantum;
      pages = shelf.pages;
      formed = all_added (is_formed v.pages) (run_from Q N t.first) v.kept.runs (formed_run Q N v.pages t shelf.shape shelf.pages region) shelf.formed;
    })

pages_of_all : (w : ℕ) (rs : List Run) → ((t : Run) → has_run rs t ≡ true → t.pages ≡ w) → sum_by (λ t. t.pages) rs ≡ length rs * w
pages_of_all w [] f = omega arith
pages_of_all w (r ∷ rs) f =
    let one : sum_by (λ (t : Run). t.pages) (r ∷ rs) ≡ r.pages + sum_by (λ t. t.pages) rs = sum_by-cons (λ (t : Run). t.pages) r rs in
    let here = f r (or_left (same_run r r) (has_run rs r) (is_same_run r)) in
    let rest = pages_of_all w rs (λ t y. f t (or_right (same_run t r) (has_run rs t) y)) in
    one ∙ ap (λ n. n + sum_by (λ (t : Run). t.pages) rs) here ∙ ap (λ n. w + n) rest ∙ more (length rs)
  where
    more : (n : ℕ) → w + n * w ≡ suc n * w
    more n = omega arith

-- there is a place for a region where those with it fit together
pub has_place : (Q N : ℕ) (x : Site) (p : Profile) (q : Place) (k j : Kept) (r : Run) (v : RegionsKept) → IsShelf Q N v → StandsForRegions v x p q k → (is_magazine q || is_depot q) ≡ true → IsTidy p q j → j.runs ≡ add_run r k.runs → length v.kept.runs < v.room
has_place Q N x p q k j r v shelf s regions tidy runs =
    let some = shelf.shape.some in
    let pages = shelf.pages in
    let room = s.room in
    let all : sum_by (λ t. t.pages) j.runs ≡ length j.runs * v.pages = pages_of_all v.pages j.runs (λ t y. one_length q t.pages v.pages regions (tidy.lengths t y) s.length) in
    let more : length j.runs ≡ suc (length v.kept.runs) = ap length runs ∙ length_added r k.runs ∙ ap (λ (i : Kept). suc (length i.runs)) (sym s.keeps) in
    let sum = tidy.sum in
    let few : length j.runs ≤ nano_start p / v.pages = le-div (length j.runs) (nano_start p) v.pages (omega (arith, some, pages)) (omega (arith, all, sum)) in
    omega (arith, few, more, room)

pub adopted : (Q N : ℕ) (x : Site) (p : Profile) (q : Place) (k : Kept) (v u : RegionsKept) (t : RegionView) → IsShelf Q N v → StandsForRegions v x p q k → t.space ≡ x → (IsWholePages Q N → Adopts Q N v u t)
    → StandsForRegions u x p q (with_region (run_at (t.first / PAGE) (Q * N / PAGE)) t.live k)
adopted Q N x p q k v u t shelf s of_x adopts =
    subst (λ j. StandsForRegions u x p q (with_region (run_at (t.first / PAGE) (Q * N / PAGE)) t.live j)) s.keeps
    (subst (λ w. StandsForRegions w x p q (with_region (run_at (t.first / PAGE) (Q * N / PAGE)) t.live v.kept)) (sym (adopts (whole_pages Q N shelf.shape)))
    (record { kind = s.kind; quantum = s.quantum; length = s.length; space = of_x; room = s.room; keeps = refl }))

-- UNUSED: the lowest region without live blocks
unused_is : (q : Place) (w a : ℕ) (live : List Block) (rs : List Run) → list_all (is_formed w) rs ≡ true → Some a ≡ option_map (λ r. r.first * PAGE) (find (is_unused live) rs)
    → option_map (λ (r : Run). Back q r.first r.pages) (find (is_unused live) rs) ≡ Some (Back q (a / PAGE) w)
unused_is q w a live [] formed h = absurd (none-some a (sym h))
unused_is q w a live (r ∷ rs) formed h =
    let parts = and_parts (is_formed w r) (list_all (is_formed w) rs) formed in
    elim (cases_Bool (is_unused live r)) [
      | inl y ↦
          let at : a ≡ r.first * PAGE = same_Some a (r.first * PAGE) (h ∙ ap (option_map address) (cond-true (is_unused live r) (Some r) (find (is_unused live) rs) y)) in
          let first : r.first ≡ a / PAGE = omega (arith, at) in
          ap (option_map (λ (t : Run). Back q t.first t.pages)) (cond-true (is_unused live r) (Some r) (find (is_unused live) rs) y)
          ∙ (ap (λ f. Some (Back q f r.pages)) first ∙ ap (λ n. Some (Back q (a / PAGE) n)) (parts_of w r parts.0).pages)
      | inr n ↦
          ap (option_map (λ (t : Run). Back q t.first t.pages)) (cond-false (is_unused live r) (Some r) (find (is_unused live) rs) n)
          ∙ unused_is q w a live rs parts.1 (h ∙ ap (option_map address) (cond-false (is_unused live r) (Some r) (find (is_unused live) rs) n))
    ]

pub found_unused : (Q N : ℕ) (x : Site) (p : Profile) (q : Place) (k : Kept) (w a : ℕ) (v : RegionsKept) → IsShelf Q N v → StandsForRegions v x p q k → is_depot q ≡ true → is_length_of q w ≡ true
    → (IsWholePages Q N → Some a ≡ option_map (λ r. r.first * PAGE) (find (is_unused v.kept.live) v.kept.runs)) → empty_depot_region q k ≡ Some (Back q (a / PAGE) w)
found_unused Q N x p q k w a v shelf s depot length found =
    let same = one_length q v.pages w (or_right (is_magazine q) (is_depot q) depot) s.length length in
    subst (λ j. empty_depot_region q j ≡ Some (Back q (a / PAGE) w)) s.keeps
    (subst (λ n. empty_depot_region q v.kept ≡ Some (Back q (a / PAGE) n)) same (unused_is q v.pages a v.kept.live v.kept.runs shelf.formed (found (whole_pages Q N shelf.shape))))
