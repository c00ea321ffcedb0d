-- What a pass keeps says that its account is orderly, and which seat it has.
use Rattle.std.proofs.Common.{◌≡◌, ℕ, ◌+◌, ◌-◌, ◌*◌, ◌^◌, ◌<◌, ◌≤◌, true, List, [], ◌∷◌, ◌++◌, length, drop, get_or, arith, refl, sym, ap, ◌∙◌, subst, length-append, length-set}
use Rattle.std.specs.Prelude.{nat_lt, nat_le}
use Rattle.std.specs.List.{list_all}
use Rattle.std.proofs.lemmas.Bool.{and_from}
use Rattle.std.proofs.lemmas.Bool.Decides.{nat_tests}
use Rattle.atomic_table.specs.Seated.{TableId}
use Rattle.mz_base.specs.declared.profile.Profile.{Profile}
use Rattle.mz_events.specs.declared.entry.Entry.{Entry}
use Rattle.mz_events.specs.declared.event.Event.{Event}
use Rattle.mz_book.specs.Account.{is_ascending, entry_at, is_live}
use Rattle.mz_base.specs.Limits.{IsWithinLimits}
use Rattle.mz_events.specs.State.{opening}
use Rattle.mz_events.specs.Changes.{one_for}
use Rattle.mz_events.specs.History.{AreLawful, after_all}
use Rattle.mz_events.specs.Hands.{own}
use Rattle.mz_book.specs.Pairs.{owners}
use Rattle.mz_book.specs.Lights.{light_at, light_number, add_light}
use Rattle.mz_book.specs.Keepers.{keeper_count}
use Rattle.mz_book.specs.Calls.{CanHold, without}
use Rattle.mz_desk.specs.declared.view.View.{View}
use Rattle.mz_book.specs.declared.light.Clash.{Clash}
use Rattle.mz_desk.specs.declared.view.Win.{Win}
use Rattle.mz_desk.specs.Views.{locked, looked, drawn, freed, knowing, unlit}
use Rattle.mz_desk.specs.Needs.{CanLock}
use Rattle.mz_register.specs.declared.pass.Pass.{Pass}
use Rattle.mz_register.specs.Passes.{table_numbers, IsOf, IsRested, IsKnowing, is_light_of}
use Rattle.mz_register.specs.Accounts.{pass_account}
use Rattle.mz_register.specs.Seats.{IsSeatOf}
use Rattle.mz_register.proofs.Rests.{none_of, ascending_push, all_push, fresh, all_set, all_insert, all_dropped}

table_from : List ℕ → TableId
table_from ns = record { words = get_or ns 0 0; slots = get_or ns 1 0; views_name = get_or ns 2 0; atom = get_or ns 3 0; block = get_or ns 4 0; offset = get_or ns 5 0; slot_names = drop 6 ns }

pub same_table : (x y : TableId) → table_numbers x ≡ table_numbers y → x ≡ y
unfolding table_from
same_table x y e = ap table_from e

pub seat_is : {V : Type 0} (z : TableId) (p : Profile) (x : Pass V) → IsOf z p (pass_account x) → IsSeatOf z p x.seat
seat_is z p x o = record { table = same_table x.seat.table_id z o.name; profile = o.profile }

pub can_lock : {V : Type 0} (x : Pass V) (k : ℕ) → CanHold (pass_account x) k → CanLock x.seat.me.0 k
can_lock x k can = record { idle = record { live = x.rested.live; none = none_of x.seat.me.0.taking x.rested.none_taking }; fresh = fresh x.seat.me.0.held k can.above_held; exists = can.exists }

-- ascending numbers below n are no more than n
few_below : (b n : ℕ) (xs : List ℕ) → is_ascending b xs ≡ true → list_all (λ x. nat_lt x n) xs ≡ true → b ≤ n → length xs + b ≤ n
few_below b n [] h a l = omega arith
few_below b n (x ∷ xs) h a l =
    let c = Rattle.std.proofs.lemmas.Bool.and_parts (Rattle.std.specs.Prelude.nat_le b x) (is_ascending (x + 1) xs) h in
    let d = Rattle.std.proofs.lemmas.Bool.and_parts (nat_lt x n) (list_all (λ y. nat_lt y n) xs) a in
    let lb : b ≤ x = grind (arith, nat_tests, c.0) in
    let lx : x < n = grind (arith, nat_tests, d.0) in
    let r = few_below (x + 1) n xs c.1 d.1 (omega arith) in
    omega arith

-- there is room for one number more
pub few_held : (n k : ℕ) (xs : List ℕ) → is_ascending 0 xs ≡ true → list_all (λ x. nat_lt x n) xs ≡ true → list_all (λ x. nat_lt x k) xs ≡ true → k < n → length xs + 1 ≤ n
few_held n k xs h a l lt =
    let f = few_below 0 n (xs ++ k ∷ []) (ascending_push 0 xs k h l (omega arith)) (all_push (λ x. nat_lt x n) xs k a (grind (arith, nat_tests))) (omega arith) in
    omega (arith, length-append xs (k ∷ []))

-- what is kept after a step

pub rested_looked : (v : View) (c k from n : ℕ) (noted others : List Entry) (held : List ℕ) (cs : List Clash) → list_all (λ x. nat_lt x k) v.held ≡ true → k < keeper_count v.profile → IsRested v c noted held
    → IsRested (record (looked (locked v k from) others n) { clashes = cs }) c noted (held ++ k ∷ [])
rested_looked v c k from n noted others held cs above lt r = record {
  live = r.live;
  none_taking = refl;
  none_joined = r.none_joined;
  caller = r.caller;
  noted_is = r.noted_is;
  held_is = ap (λ (xs : List ℕ). xs ++ k ∷ []) r.held_is;
  ascending = ascending_push 0 v.held k r.ascending above (omega arith);
  below = all_push (λ x. nat_lt x (keeper_count v.profile)) v.held k r.below (grind (arith, nat_tests));
  sized = r.sized;
  classes = r.classes;
  lit = r.lit;
}

pub rested_drawn : (v : View) (c n : ℕ) (noted others : List Entry) (held : List ℕ) (e : Event) → IsRested v c noted held → IsRested (drawn v others n e) c (noted ++ entry_at n c e ∷ []) held
rested_drawn v c n noted others held e r = record {
  live = r.live;
  none_taking = r.none_taking;
  none_joined = r.none_joined;
  caller = r.caller;
  noted_is = ap (λ (es : List Entry). es ++ entry_at n v.caller e ∷ []) r.noted_is ∙ ap (λ (x : ℕ). noted ++ entry_at n x e ∷ []) r.caller;
  held_is = r.held_is;
  ascending = r.ascending;
  below = r.below;
  sized = r.sized;
  classes = r.classes;
  lit = r.lit;
}

pub rested_freed : (v : View) (c k : ℕ) (noted : List Entry) (held : List ℕ) → IsRested v c noted held → IsRested (freed v k) c noted (without k held)
rested_freed v c k noted held r = record {
  live = r.live;
  none_taking = r.none_taking;
  none_joined = r.none_joined;
  caller = r.caller;
  noted_is = r.noted_is;
  held_is = ap (without k) r.held_is;
  ascending = Rattle.mz_register.proofs.Rests.ascending_without 0 k v.held r.ascending;
  below = Rattle.mz_register.proofs.Rests.all_without (λ x. nat_lt x (keeper_count v.profile)) k v.held r.below;
  sized = r.sized;
  classes = r.classes;
  lit = r.lit;
}

pub rested_clashed : (v : View) (c : ℕ) (noted : List Entry) (held : List ℕ) (ws : List Win) (cs : List Clash) → IsRested v c noted held → IsRested (record v { wins = ws; clashes = cs }) c noted held
rested_clashed v c noted held ws cs r = record {
  live = r.live;
  none_taking = r.none_taking;
  none_joined = r.none_joined;
  caller = r.caller;
  noted_is = r.noted_is;
  held_is = r.held_is;
  ascending = r.ascending;
  below = r.below;
  sized = r.sized;
  classes = r.classes;
  lit = r.lit;
}

pub rested_class : (v : View) (c b class : ℕ) (noted : List Entry) (held : List ℕ) (ws : List Win) (cs : List Clash) → class ≤ 16 → IsRested v c noted held → IsRested (record (knowing v b class) { wins = ws; clashes = cs }) c noted held
rested_class v c b class noted held ws cs l r = record {
  live = r.live;
  none_taking = r.none_taking;
  none_joined = r.none_joined;
  caller = r.caller;
  noted_is = r.noted_is;
  held_is = r.held_is;
  ascending = r.ascending;
  below = r.below;
  sized = length-set v.settled b class ∙ r.sized;
  classes = all_set (λ k. nat_le k 16) v.settled b class (grind (arith, nat_tests)) r.classes;
  lit = r.lit;
}

pub rested_lit : (v : View) (c b j : ℕ) (noted : List Entry) (held : List ℕ) (ws : List Win) → b < v.profile.nano → j < 1024 → IsRested v c noted held → IsRested (record v { lights = add_light (light_at b j) v.lights; wins = ws }) c noted held
rested_lit v c b j noted held ws lb lj r = record {
  live = r.live;
  none_taking = r.none_taking;
  none_joined = r.none_joined;
  caller = r.caller;
  noted_is = r.noted_is;
  held_is = r.held_is;
  ascending = r.ascending;
  below = r.below;
  sized = r.sized;
  classes = r.classes;
  lit = all_insert (is_light_of v.profile) light_number (light_at b j) v.lights (and_from (nat_lt b v.profile.nano) (nat_lt j 1024) (grind (arith, nat_tests)) (grind (arith, nat_tests))) r.lit;
}

pub rested_unlit : (v : View) (c b j : ℕ) (noted : List Entry) (held : List ℕ) → IsRested v c noted held → IsRested (unlit v b j) c noted held
rested_unlit v c b j noted held r = record {
  live = r.live;
  none_taking = r.none_taking;
  none_joined = r.none_joined;
  caller = r.caller;
  noted_is = r.noted_is;
  held_is = r.held_is;
  ascending = r.ascending;
  below = r.below;
  sized = r.sized;
  classes = r.classes;
  lit = all_dropped (is_light_of v.profile) (light_at b j) v.lights r.lit;
}

-- what is known stays, where the entries and the pairs do
pub knowing_same : (v w : View) → w.profile ≡ v.profile → w.caller ≡ v.caller → w.seen ≡ v.seen → w.noted ≡ v.noted → w.pairs ≡ v.pairs → IsKnowing v → IsKnowing w
knowing_same v w p c s n h k = record {
  limits = subst IsWithinLimits (sym p) k.limits;
  caller = let x = ap (λ (q : Profile). q.callers) p in let y = k.caller in omega arith;
  lawful = subst (λ (q : Profile). AreLawful q opening w.seen) (sym p) (subst (AreLawful v.profile opening) (sym s) k.lawful);
  recorded = (λ i. drop (length (own (c i) (s i)) - length (n i)) (own (c i) (s i))) ∙ (k.recorded ∙ sym n);
  counted = let x = ap length s in let y = ap (λ (q : Profile). (q.callers + 1) * 2 ^ 58) p in let z = k.counted in omega arith;
  owned = λ b. let x = ap (λ hs. owners hs b) h in let y : one_for (is_live (after_all w.profile opening w.seen) b) ≡ one_for (is_live (after_all v.profile opening v.seen) b) = (λ i. one_for (is_live (after_all (p i) opening (s i)) b)) in let z = k.owned b in omega arith;
}
