-- Seat 0 after it took in others, one after another.
use Rattle.std.proofs.Common.{◌≡◌, ◌≢◌, ◌⊎◌, ⊎_elim, ℕ, ◌==◌, Bool, true, false, List, [], ◌∷◌, ◌++◌, length, map, get_or, reverse, arith, refl, sym, ap, ◌∙◌, subst, eq-eqb, ne_eqb, inl, inr, zero, suc, Some}
use Rattle.std.specs.Prelude.{◌||◌, ◌+◌, slice_get}
use Rattle.std.specs.List.{All, list_any}
use Rattle.std.proofs.lemmas.Bool.{cases_Bool, eqb-true}
use Rattle.std.proofs.lemmas.List.Elements.{All-head, All-tail}
use Rattle.mz_base.specs.declared.profile.Profile.{Profile}
use Rattle.mz_book.specs.declared.pair.Pair.{Pair}
use Rattle.mz_book.specs.Pairs.{block_of, hand_among}
use Rattle.mz_desk.specs.declared.view.TakenIn.{TakenIn}
use Rattle.mz_desk.specs.declared.view.View.{View}
use Rattle.mz_desk.specs.Views.{took_in, knows_class}
use Rattle.mz_desk.specs.Seats.{joined_view, CanTakeIn}
use Rattle.mz_desk.specs.Ending.{part_of}
use Rattle.atomic_table.specs.Seated.{TableId}
use Rattle.mz_register.specs.declared.pass.Pass.{Pass}
use Rattle.mz_register.specs.Passes.{keys}
use Rattle.mz_register.specs.Accounts.{pass_account}
use Rattle.mz_register.specs.HandIn.{joined_through, IsIdleOf}
use Rattle.mz_register.proofs.MergeLemmas.{some_is}
use Rattle.mz_register.proofs.PassLemmas.{same_table}
use Rattle.mz_register.proofs.Rests.{none_of as none_of_length}

pub joined_snoc : (v : View) (ws : List View) (w : View) → joined_through v (ws ++ w ∷ []) ≡ joined_view (joined_through v ws) w
joined_snoc v [] w = refl
joined_snoc v (x ∷ xs) w = joined_snoc (joined_view v x) xs w

-- what a join leaves as it was
pub record IsLike (v u : View) : Type 0 where
  pub live : u.live ≡ v.live
  pub profile : u.profile ≡ v.profile
  pub caller : u.caller ≡ v.caller
  pub held : u.held ≡ v.held
  pub taking : u.taking ≡ v.taking
  pub lights : u.lights ≡ v.lights
  pub seen : u.seen ≡ v.seen
  pub noted : u.noted ≡ v.noted
  pub settled : u.settled ≡ v.settled

pub like : (v : View) (ws : List View) → IsLike v (joined_through v ws)
like v [] = record { live = refl; profile = refl; caller = refl; held = refl; taking = refl; lights = refl; seen = refl; noted = refl; settled = refl }
like v (w ∷ ws) =
    let r = like (joined_view v w) ws in
    record { live = r.live; profile = r.profile; caller = r.caller; held = r.held; taking = r.taking; lights = r.lights; seen = r.seen; noted = r.noted; settled = r.settled }

-- the seats that were taken in

or_right : (a b : Bool) → b ≡ true → (a || b) ≡ true
or_right true b h = refl
or_right false b h = h

took_stays : (v : View) (ws : List View) (c : ℕ) → took_in v c ≡ true → took_in (joined_through v ws) c ≡ true
took_stays v [] c h = h
took_stays v (w ∷ ws) c h = took_stays (joined_view v w) ws c (or_right (w.caller == c) (took_in v c) h)

pub took : (v : View) (ws : List View) (i : ℕ) (w : View) → slice_get ws i ≡ Some w → took_in (joined_through v ws) w.caller ≡ true
took v [] i w e = absurd (cc)
took v (x ∷ xs) zero w e = took_stays (joined_view v x) xs w.caller (ap (λ b. b || took_in v w.caller) (eq-eqb x.caller w.caller (ap (λ (u : View). u.caller) (some_is x w e))))
took v (x ∷ xs) (suc i) w e = took (joined_view v x) xs i w e

-- what holds of the parts of all that were taken in holds of each
pub each_part : (P : TakenIn → Type 0) (v : View) (ws : List View) → All P (joined_through v ws).joined → All P v.joined × ((i : ℕ) (w : View) → slice_get ws i ≡ Some w → P (part_of w))
each_part P v [] h = (h, λ i w e. absurd (cc))
each_part P v (x ∷ xs) h =
    let r = each_part P (joined_view v x) xs h in
    let tail = All-tail P (part_of x) v.joined r.0 in
    (tail, at r.1 (All-head P (part_of x) v.joined r.0))
  where
    at : ((i : ℕ) (w : View) → slice_get xs i ≡ Some w → P (part_of w)) → P (part_of x) → (i : ℕ) (w : View) → slice_get (x ∷ xs) i ≡ Some w → P (part_of w)
    at f p zero w e = subst (λ (u : View). P (part_of u)) (some_is x w e) p
    at f p (suc i) w e = f i w e

-- a class that seat 0 knows then it knew before, or one of those that it took in

pub or_either : (a b : Bool) → (a || b) ≡ true → (a ≡ true) ⊎ (b ≡ true)
or_either true b h = inl refl
or_either false b h = inr h

pub known_part : (v : View) (ws : List View) (b class : ℕ) → knows_class (joined_through v ws) b class ≡ true → (knows_class v b class ≡ true) ⊎ ((i : ℕ) × (w : View) × (slice_get ws i ≡ Some w) × (get_or w.settled b 0 ≡ class))
known_part v [] b class h = inl h
known_part v (x ∷ xs) b class h = ⊎_elim
    (λ (t : knows_class (joined_view v x) b class ≡ true). ⊎_elim
    (λ (y : (get_or v.settled b 0 == class) ≡ true). inl (ap (λ (q : Bool). q || in_joined v.joined) y))
    (λ (y : ((get_or x.settled b 0 == class) || in_joined v.joined) ≡ true). ⊎_elim
    (λ (z : (get_or x.settled b 0 == class) ≡ true). inr (zero, x, refl, eqb-true (get_or x.settled b 0) class z))
    (λ (z : in_joined v.joined ≡ true). inl (or_right (get_or v.settled b 0 == class) (in_joined v.joined) z))
    (or_either (get_or x.settled b 0 == class) (in_joined v.joined) y))
    (or_either (get_or v.settled b 0 == class) ((get_or x.settled b 0 == class) || in_joined v.joined) t))
    (λ (t : (i : ℕ) × (w : View) × (slice_get xs i ≡ Some w) × (get_or w.settled b 0 ≡ class)). inr (suc t.0, t.1, t.2, t.3))
    (known_part (joined_view v x) xs b class h)
  where
    in_joined : List TakenIn → Bool
    in_joined ts = list_any (λ y. get_or y.settled b 0 == class) ts

-- the hand of a caller is that of before, where none of them has its pairs

none_of : (c d : ℕ) (hs : List Pair) → d ≢ c → All (λ h. h.caller ≡ d) hs → hand_among c hs ≡ []
none_of c d [] n a = refl
none_of c d (h ∷ hs) n a =
    let o : (h.caller == c) ≡ false = ne_eqb h.caller c (λ e. n (sym (All-head (λ (g : Pair). g.caller ≡ d) h hs a) ∙ e)) in
    rw o (none_of c d hs n (All-tail (λ (g : Pair). g.caller ≡ d) h hs a))

hand_beside : (c d : ℕ) (hs gs : List Pair) → d ≢ c → All (λ h. h.caller ≡ d) gs → hand_among c (hs ++ gs) ≡ hand_among c hs
hand_beside c d [] gs n a = none_of c d gs n a
hand_beside c d (h ∷ hs) gs n a = elim (cases_Bool (h.caller == c)) [
  | inl y ↦ rw y (ap (λ bs. block_of h ∷ bs) (hand_beside c d hs gs n a))
  | inr z ↦ rw z (hand_beside c d hs gs n a)
]

pub hand_first : (c : ℕ) (v : View) (ws : List View) → ((i : ℕ) (w : View) → slice_get ws i ≡ Some w → All (λ h. h.caller ≡ w.caller) w.pairs × (w.caller ≢ c)) → hand_among c (joined_through v ws).pairs ≡ hand_among c v.pairs
hand_first c v [] f = refl
hand_first c v (w ∷ ws) f =
    let h = f 0 w refl in
    hand_first c (joined_view v w) ws (λ i u e. f (suc i) u e) ∙ hand_beside c w.caller v.pairs w.pairs h.1 h.0

-- passes that hold nothing

keys_none : {A : Type 0} (xs : List (ℕ × A)) → keys xs ≡ [] → xs ≡ []
keys_none [] e = refl
keys_none (x ∷ xs) e = absurd (cc)

pub map_append : {A : Type 0} {B : Type 0} (f : A → B) (xs ys : List A) → map f (xs ++ ys) ≡ map f xs ++ map f ys
map_append f [] ys = refl
map_append f (x ∷ xs) ys = ap (λ zs. f x ∷ zs) (map_append f xs ys)

module _ {V : Type 0} (z : TableId) (p : Profile) (x : Pass V) (idle : IsIdleOf z p (pass_account x)) where
  pub its_table : x.seat.table_id ≡ z
  its_table = same_table x.seat.table_id z idle.of.name

  pub its_held : x.held.items ≡ []
  its_held = sym x.rested.held_is ∙ idle.idle.keepers

  pub bare_handed : x.seat.me.1 ≡ []
  bare_handed = keys_none x.seat.me.1 (x.carried ∙ ap reverse its_held)

  -- it can be taken in
  pub can_take : (v : View) → v.live ≡ true → v.caller ≡ 0 → CanTakeIn v x.seat.me.0
  can_take v live first = record {
    live = live;
    first = first;
    other_live = x.rested.live;
    no_keeper = idle.idle.keepers;
    none_taking = none_of_length x.seat.me.0.taking x.rested.none_taking;
    no_light = idle.idle.lights;
    none_joined = none_of_length x.seat.me.0.joined x.rested.none_joined;
  }
