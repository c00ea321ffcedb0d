-- The pairs of one caller, and those of the others, before and after an event.
use Rattle.std.proofs.Common.{◌≡◌, ◌≢◌, ℕ, ◌==◌, Bool, true, false, cond, not, List, [], ◌∷◌, ◌++◌, refl, sym, ap, ◌∙◌, subst, ne_eqb, inl, inr, suc, append_assoc, append-nil}
use Rattle.std.specs.Prelude.{◌&&◌, filter, map}
use Rattle.std.specs.List.{All}
use Rattle.std.proofs.lemmas.List.{map-append}
use Rattle.std.proofs.lemmas.List.Elements.{All-nil, All-cons, All-head, All-tail, All-append, All-filter, All-push, filter-append}
use Rattle.std.proofs.lemmas.Bool.{cases_Bool, eqb-true}
use mathlib.Core.Option as m
use mathlib.Core.Option.{some-ne-none, some-injective}
use lib.ListN.{get_elem?}
use Rattle.mz_base.specs.Space.{Block, block_at, same_block}
use Rattle.mz_events.specs.declared.event.Event.{Event}
use Rattle.mz_events.specs.declared.event.Event.TheVariants.{Take, Back, Move, New, End, Size, Full, Dry, No, Open, Shut}
use Rattle.mz_book.specs.declared.pair.Pair.{Pair}
use Rattle.mz_book.specs.Pairs.{hand_among, block_of, is_pair, pair_at, pairs_after, resized_pair}
use Rattle.mz_desk.specs.declared.view.View.{View}
use Rattle.mz_desk.specs.Views.{all_pairs, pairs_of}
use Rattle.mz_desk.proofs.Knowing.{hand_append}

-- none of the pairs is c's
abbrev pub NoneOf : ℕ → List Pair → Type 0
NoneOf c hs = All (λ h. h.caller ≢ c) hs

not_its : (c : ℕ) (b : Block) (h : Pair) → h.caller ≢ c → is_pair c b h ≡ false
not_its c b h n = ap (λ q. q && same_block b (block_of h)) (ne_eqb h.caller c n)

pub none_by_seat : (P : Pair → Type 0) (views : List View) → ((i : ℕ) (u : View) → get_elem? views i ≡ m.some u → All P u.pairs) → All P (all_pairs views)
none_by_seat P [] f = All-nil P
none_by_seat P (x ∷ xs) f = All-append P x.pairs (all_pairs xs) (f 0 x refl) (none_by_seat P xs (λ i u e. f (suc i) u e))

pub no_hand : (c : ℕ) (hs : List Pair) → NoneOf c hs → hand_among c hs ≡ []
no_hand c [] h = refl
no_hand c (x ∷ xs) h = rw (ne_eqb x.caller c (All-head (λ (y : Pair). y.caller ≢ c) x xs h)) (no_hand c xs (All-tail (λ (y : Pair). y.caller ≢ c) x xs h))

pub hand_tail : (c : ℕ) (xs ys : List Pair) → NoneOf c xs → hand_among c (xs ++ ys) ≡ hand_among c ys
hand_tail c xs ys h = hand_append c xs ys ∙ ap (λ bs. bs ++ hand_among c ys) (no_hand c xs h)

ended_stay : (c : ℕ) (b : Block) (hs : List Pair) → NoneOf c hs → filter (λ h. not (is_pair c b h)) hs ≡ hs
ended_stay c b [] h = refl
ended_stay c b (x ∷ xs) h = rw (not_its c b x (All-head (λ (y : Pair). y.caller ≢ c) x xs h)) (ap (λ ys. x ∷ ys) (ended_stay c b xs (All-tail (λ (y : Pair). y.caller ≢ c) x xs h)))

sized_stay : (c : ℕ) (b : Block) (n : ℕ) (hs : List Pair) → NoneOf c hs → map (resized_pair c b n) hs ≡ hs
sized_stay c b n [] h = refl
sized_stay c b n (x ∷ xs) h = rw (not_its c b x (All-head (λ (y : Pair). y.caller ≢ c) x xs h)) (ap (λ ys. x ∷ ys) (sized_stay c b n xs (All-tail (λ (y : Pair). y.caller ≢ c) x xs h)))

-- an event of c changes only its own pairs
pub after_tail : (c : ℕ) (xs ys : List Pair) (e : Event) → NoneOf c xs → pairs_after c (xs ++ ys) e ≡ xs ++ pairs_after c ys e
after_tail c xs ys (New k a n al) h = append_assoc xs ys (pair_at c a n ∷ [])
after_tail c xs ys (End k a n) h = filter-append (λ (g : Pair). not (is_pair c (block_at a n) g)) xs ys ∙ ap (λ zs. zs ++ filter (λ (g : Pair). not (is_pair c (block_at a n) g)) ys) (ended_stay c (block_at a n) xs h)
after_tail c xs ys (Size k a n o) h = map-append (resized_pair c (block_at a n) o) xs ys ∙ ap (λ zs. zs ++ map (resized_pair c (block_at a n) o) ys) (sized_stay c (block_at a n) o xs h)
after_tail c xs ys (Take k f w) h = refl
after_tail c xs ys (Back k f w) h = refl
after_tail c xs ys (Move f from to) h = refl
after_tail c xs ys (Full k n al) h = refl
after_tail c xs ys (Dry z w al) h = refl
after_tail c xs ys (No k z a n) h = refl
after_tail c xs ys (Open z) h = refl
after_tail c xs ys (Shut z) h = refl

-- the pairs of another caller stay

ended_others : (c d : ℕ) (b : Block) (hs : List Pair) → d ≢ c → pairs_of d (filter (λ h. not (is_pair c b h)) hs) ≡ pairs_of d hs
ended_others c d b [] n = refl
ended_others c d b (g ∷ hs) n = elim (cases_Bool (g.caller == d)) [
  | inl y ↦ rw (not_its c b g (λ e. n (sym (eqb-true g.caller d y) ∙ e))) (rw y (ap (λ ys. g ∷ ys) (ended_others c d b hs n)))
  | inr z ↦ elim (cases_Bool (is_pair c b g)) [
    | inl y ↦ rw (y, z) (ended_others c d b hs n)
    | inr y ↦ rw y (rw z (ended_others c d b hs n))
  ]
]

sized_others : (c d : ℕ) (b : Block) (o : ℕ) (hs : List Pair) → d ≢ c → pairs_of d (map (resized_pair c b o) hs) ≡ pairs_of d hs
sized_others c d b o [] n = refl
sized_others c d b o (g ∷ hs) n = elim (cases_Bool (g.caller == d)) [
  | inl y ↦ rw (not_its c b g (λ e. n (sym (eqb-true g.caller d y) ∙ e))) (rw y (ap (λ ys. g ∷ ys) (sized_others c d b o hs n)))
  | inr z ↦ elim (cases_Bool (is_pair c b g)) [
    | inl y ↦ rw y (rw z (sized_others c d b o hs n))
    | inr y ↦ rw y (rw z (sized_others c d b o hs n))
  ]
]

one_other : (c d : ℕ) (g : Pair) → g.caller ≡ c → d ≢ c → pairs_of d (g ∷ []) ≡ []
one_other c d g e n = rw (ne_eqb g.caller d (λ y. n (sym y ∙ e))) refl

pub others_after : (c d : ℕ) (hs : List Pair) (e : Event) → d ≢ c → pairs_of d (pairs_after c hs e) ≡ pairs_of d hs
others_after c d hs (New k a n al) o = filter-append (λ (g : Pair). g.caller == d) hs (pair_at c a n ∷ []) ∙ (ap (λ ys. pairs_of d hs ++ ys) (one_other c d (pair_at c a n) refl o) ∙ append-nil (pairs_of d hs))
others_after c d hs (End k a n) o = ended_others c d (block_at a n) hs o
others_after c d hs (Size k a n w) o = sized_others c d (block_at a n) w hs o
others_after c d hs (Take k f w) o = refl
others_after c d hs (Back k f w) o = refl
others_after c d hs (Move f from to) o = refl
others_after c d hs (Full k n al) o = refl
others_after c d hs (Dry z w al) o = refl
others_after c d hs (No k z a n) o = refl
others_after c d hs (Open z) o = refl
others_after c d hs (Shut z) o = refl

-- what holds of the callers of all pairs holds after an event of one of whom it holds

sized_caller : (c : ℕ) (b : Block) (o : ℕ) (h : Pair) (d : Bool) → (cond d (pair_at h.caller h.first o) h).caller ≡ h.caller
sized_caller c b o h true = refl
sized_caller c b o h false = refl

map_all : (Q : ℕ → Type 0) (c : ℕ) (b : Block) (o : ℕ) (hs : List Pair) → All (λ h. Q h.caller) hs → All (λ h. Q h.caller) (map (resized_pair c b o) hs)
map_all Q c b o [] h = All-nil (λ (g : Pair). Q g.caller)
map_all Q c b o (x ∷ xs) h = All-cons (λ (g : Pair). Q g.caller) (resized_pair c b o x) (map (resized_pair c b o) xs) (subst Q (sym (sized_caller c b o x (is_pair c b x))) (All-head (λ (g : Pair). Q g.caller) x xs h)) (map_all Q c b o xs (All-tail (λ (g : Pair). Q g.caller) x xs h))

pub callers_after : (Q : ℕ → Type 0) (c : ℕ) (hs : List Pair) (e : Event) → Q c → All (λ h. Q h.caller) hs → All (λ h. Q h.caller) (pairs_after c hs e)
callers_after Q c hs (New k a n al) q h = All-push (λ (g : Pair). Q g.caller) hs (pair_at c a n) h q
callers_after Q c hs (End k a n) q h = All-filter (λ (g : Pair). not (is_pair c (block_at a n) g)) (λ (g : Pair). Q g.caller) hs h
callers_after Q c hs (Size k a n w) q h = map_all Q c (block_at a n) w hs h
callers_after Q c hs (Take k f w) q h = h
callers_after Q c hs (Back k f w) q h = h
callers_after Q c hs (Move f from to) q h = h
callers_after Q c hs (Full k n al) q h = h
callers_after Q c hs (Dry z w al) q h = h
callers_after Q c hs (No k z a n) q h = h
callers_after Q c hs (Open z) q h = h
callers_after Q c hs (Shut z) q h = h
