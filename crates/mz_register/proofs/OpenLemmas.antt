-- Seats are dealt from seat 0, as a register is opened.
use Rattle.std.proofs.Common.{◌≡◌, ◌≢◌, ℕ, ◌+◌, ◌-◌, ◌<◌, ◌≤◌, ◌==◌, Bool, true, false, cond, not, List, [], ◌∷◌, ◌++◌, length, drop, replicate, map, Vec, refl, sym, ap, ◌∙◌, subst, arith, inl, inr, ⊎_elim, zero, suc, ne_eqb}
use Rattle.std.specs.Prelude.{filter, nat_le}
use Rattle.std.specs.List.{list_all}
use Rattle.std.specs.declared.alloc.Global.{Global}
use Rattle.std.proofs.lemmas.List.{length-replicate}
use Rattle.std.proofs.lemmas.Bool.{cases_Bool, eqb-true}
use Rattle.mz_base.specs.Space.{Block, same_block}
use Rattle.mz_events.specs.declared.entry.Entry.{Entry}
use Rattle.mz_events.specs.State.{opening}
use Rattle.mz_events.specs.Changes.{one_for}
use Rattle.mz_events.specs.History.{AreLawful, after_all}
use Rattle.mz_events.specs.Hands.{own}
use Rattle.mz_book.specs.declared.pair.Pair.{Pair}
use Rattle.mz_book.specs.Pairs.{block_of, owners, hand_among}
use Rattle.mz_book.specs.Account.{is_live}
use Rattle.mz_desk.specs.declared.view.View.{View}
use Rattle.mz_desk.specs.Views.{Opened, pairs_of, pairs_besides}
use Rattle.mz_desk.specs.Seats.{giver, given_view}
use Rattle.mz_register.specs.declared.pass.Pass.{Pass}
use Rattle.atomic_table.specs.Seated.{TableId}
use Rattle.mz_register.specs.Passes.{IsRested, IsKnowing}
use Rattle.mz_register.specs.Opened.{IsNew, IsGiver, AreNew, IsBlank, AreBlank}

-- the pairs of one number, and those of the others

cons_case : (x : Pair) (ys : List Pair) (d : Bool) → length (cond d (x ∷ ys) ys) ≡ length (cond d (x ∷ []) []) + length ys
cons_case x ys true = omega arith
cons_case x ys false = omega arith

owners_cons : (x : Pair) (xs : List Pair) (b : Block) → owners (x ∷ xs) b ≡ owners (x ∷ []) b + owners xs b
owners_cons x xs b = cons_case x (filter (λ h. same_block b (block_of h)) xs) (same_block b (block_of x))

cut_case : (g : ℕ) (x : Pair) (xs : List Pair) (b : Block) (d : Bool) → owners (pairs_besides g xs) b + owners (pairs_of g xs) b ≡ owners xs b
    → owners (cond (not d) (x ∷ pairs_besides g xs) (pairs_besides g xs)) b + owners (cond d (x ∷ pairs_of g xs) (pairs_of g xs)) b ≡ owners (x ∷ xs) b
cut_case g x xs b true h = let a = owners_cons x xs b in let c = owners_cons x (pairs_of g xs) b in omega arith
cut_case g x xs b false h = let a = owners_cons x xs b in let c = owners_cons x (pairs_besides g xs) b in omega arith

pub owners_cut : (g : ℕ) (hs : List Pair) (b : Block) → owners (pairs_besides g hs) b + owners (pairs_of g hs) b ≡ owners hs b
owners_cut g [] b = refl
owners_cut g (x ∷ xs) b = cut_case g x xs b (x.caller == g) (owners_cut g xs b)

pub of_besides : (c g : ℕ) (hs : List Pair) → c ≢ g → pairs_of c (pairs_besides g hs) ≡ pairs_of c hs
of_besides c g [] n = refl
of_besides c g (x ∷ xs) n = elim (cases_Bool (x.caller == c)) [
  | inl y ↦ rw (ne_eqb x.caller g (λ e. n (sym (eqb-true x.caller c y) ∙ e))) (rw y (ap (λ ys. x ∷ ys) (of_besides c g xs n)))
  | inr z ↦ elim (cases_Bool (x.caller == g)) [
    | inl y ↦ rw (y, z) (of_besides c g xs n)
    | inr y ↦ rw y (rw z (of_besides c g xs n))
  ]
]

twice_case : (c : ℕ) (x : Pair) (xs : List Pair) (d : Bool) → (x.caller == c) ≡ d → pairs_of c xs ≡ xs → pairs_of c (cond d (x ∷ xs) xs) ≡ cond d (x ∷ xs) xs
twice_case c x xs true e h = rw e (ap (λ ys. x ∷ ys) h)
twice_case c x xs false e h = h

pairs_twice : (c : ℕ) (hs : List Pair) → pairs_of c (pairs_of c hs) ≡ pairs_of c hs
pairs_twice c [] = refl
pairs_twice c (x ∷ xs) = twice_case c x (pairs_of c xs) (x.caller == c) refl (pairs_twice c xs)

pub all_zeros : (n : ℕ) → list_all (λ k. nat_le k 16) (replicate n 0) ≡ true
all_zeros zero = refl
all_zeros (suc n) = all_zeros n

dropped : {A : Type 0} (xs : List A) → drop (length xs) xs ≡ []
dropped [] = refl
dropped (x ∷ xs) = dropped xs

pub none_left : {A : Type 0} (xs : List A) → drop (length xs - 0) xs ≡ []
none_left xs = ap (λ (n : ℕ). drop n xs) (omega arith) ∙ dropped xs

-- seat 0 after it gave a number

pub rested_giver : (v : View) (c : ℕ) (noted : List Entry) (held : List ℕ) → IsRested v c noted held → IsRested (giver v) c noted held
rested_giver v c noted held r = record {
  live = r.live;
  none_taking = r.none_taking;
  none_joined = r.none_joined;
  caller = r.caller;
  noted_is = r.noted_is;
  held_is = r.held_is;
  ascending = r.ascending;
  below = r.below;
  sized = r.sized;
  classes = r.classes;
  lit = r.lit;
}

pub knowing_giver : (v : View) → IsKnowing v → IsKnowing (giver v)
knowing_giver v k = record { limits = k.limits; caller = k.caller; lawful = k.lawful; recorded = k.recorded; counted = k.counted; owned = λ b. let c = owners_cut v.given v.pairs b in let o = k.owned b in omega arith }

pub next_giver : (key : Opened) (c : ℕ) (v : View) → 1 ≤ c → IsGiver key c v → IsGiver key (c + 1) (giver v)
next_giver key c v l g = record {
  live = g.live;
  profile = g.profile;
  space = g.space;
  start = g.start;
  caller = g.caller;
  given = ap (λ (n : ℕ). n + 1) g.given;
  held = g.held;
  taking = g.taking;
  seen = g.seen;
  noted = g.noted;
  lights = g.lights;
  settled = g.settled;
  joined = g.joined;
  pairs = λ k o. of_besides k v.given v.pairs (λ e. let n = g.given in ⊎_elim (λ (z : k ≡ 0). absurd (omega arith)) (λ (z : c + 1 ≤ k). absurd (omega arith)) o) ∙ g.pairs k (⊎_elim (λ (z : k ≡ 0). inl z) (λ (z : c + 1 ≤ k). inr (omega arith)) o);
}

-- and the seat that has it

pub rested_given : (v : View) (c : ℕ) → v.live ≡ true → v.given ≡ c → IsRested (given_view v) c [] []
rested_given v c live given = record {
  live = live;
  none_taking = refl;
  none_joined = refl;
  caller = given;
  noted_is = refl;
  held_is = refl;
  ascending = refl;
  below = refl;
  sized = length-replicate v.profile.nano 0;
  classes = all_zeros v.profile.nano;
  lit = refl;
}

pub knowing_given : (v : View) → v.start ≡ v.seen → v.given < v.profile.callers → IsKnowing v → IsKnowing (given_view v)
knowing_given v e l k = record {
  limits = k.limits;
  caller = l;
  lawful = subst (AreLawful v.profile opening) (sym e) k.lawful;
  recorded = none_left (own v.given v.start);
  counted = let n = ap length e in let c = k.counted in omega arith;
  owned = λ b. let c = owners_cut v.given v.pairs b in let o = k.owned b in let z = ap (λ es. one_for (is_live (after_all v.profile opening es) b)) e in omega arith;
}

pub given_hand : (key : Opened) (c : ℕ) (v : View) → IsGiver key c v → hand_among v.given (pairs_of v.given v.pairs) ≡ hand_among c key.pairs
given_hand key c v g = ap (map block_of) (pairs_twice v.given v.pairs ∙ (ap (λ (n : ℕ). pairs_of n v.pairs) g.given ∙ g.pairs c (inr (omega arith))))

-- passes in a row

pub new_more : {V : Type 0} (z : TableId) (key : Opened) (c n : ℕ) (xs : List (Pass V)) (x : Pass V) → AreNew z key c xs → c + length xs ≡ n → IsNew z key n x → AreNew z key c (xs ++ x ∷ [])
new_more z key c n [] x h e y = (subst (λ (k : ℕ). IsNew z key k x) (omega arith) y, tt)
new_more z key c n (w ∷ ws) x h e y = (h.0, new_more z key (c + 1) n ws x h.1 (omega arith) y)

pub blank_last : (n : ℕ) (xs : List (Vec ℕ Global)) (x : Vec ℕ Global) → AreBlank n (xs ++ x ∷ []) → AreBlank n xs × IsBlank n x
blank_last n [] x h = (tt, h.0)
blank_last n (y ∷ ys) x h = let r = blank_last n ys x h.1 in ((h.0, r.0), r.1)

pub blank_more : (n : ℕ) (xs : List (Vec ℕ Global)) (x : Vec ℕ Global) → AreBlank n xs → IsBlank n x → AreBlank n (xs ++ x ∷ [])
blank_more n [] x h b = (b, tt)
blank_more n (y ∷ ys) x h b = (h.0, blank_more n ys x h.1 b)
