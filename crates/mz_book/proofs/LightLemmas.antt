-- Lights and the words that tell them.
use Rattle.std.proofs.Common.{◌≡◌, ◌≢◌, ℕ, ◌==◌, Bool, true, false, cond, not, get_or, set, ◌<◌, List, [], ◌∷◌, length, ◌+◌, ◌*◌, ◌/◌, ◌%◌, suc, zero, arith, refl, ap, sym, ◌∙◌, eq-eqb, add_comm, inl, inr}
use Rattle.std.specs.Prelude.{◌&&◌, ◌||◌, nat_lt, replicate}
use Rattle.std.proofs.lemmas.Bool.{cases_Bool, eqb-true, and_parts, and_from, false≢true}
use Rattle.std.proofs.lemmas.Bool.Decides.{nat_tests}
use Rattle.std.proofs.lemmas.Nat.{div-mul-add, mod-mul-add}
use Rattle.std.proofs.Math.Nat.{mod-add-div'}
use Rattle.mz_base.specs.Lists.{insert_by}
use Rattle.mz_book.specs.declared.light.Light.{Light}
use Rattle.mz_book.specs.Lights.{light_at, same_light, has_light, light_number, add_light, drop_light, lights_from}
use Rattle.mz_book.proofs.ListLemmas.{or_elim}

-- the light of the i-th word
abbrev pub word_light : ℕ → Light
word_light i = light_at (i / 1024) (i % 1024)

number_of : (i : ℕ) → light_number (word_light i) ≡ i
number_of i = add_comm (i / 1024 * 1024) (i % 1024) ∙ mod-add-div' i 1024

pub light_there : (b j : ℕ) → j < 1024 → word_light (b * 1024 + j) ≡ light_at b j
light_there b j l = ap (λ x. light_at x ((b * 1024 + j) % 1024)) (div-mul-add b 1024 j l) ∙ ap (light_at b) (mod-mul-add b 1024 j l)

pub light_same : (l m : Light) → same_light l m ≡ true → l ≡ m
light_same l m h =
    let t = and_parts (l.block == m.block) (l.slot == m.slot) h in
    ap (λ b. light_at b l.slot) (eqb-true l.block m.block t.0) ∙ ap (light_at m.block) (eqb-true l.slot m.slot t.1)

pub light_refl : (l : Light) → same_light l l ≡ true
light_refl l = and_from (l.block == l.block) (l.slot == l.slot) (eq-eqb l.block l.block refl) (eq-eqb l.slot l.slot refl)

differ : (a b : ℕ) → a ≢ b → same_light (word_light a) (word_light b) ≡ false
differ a b n = elim (cases_Bool (same_light (word_light a) (word_light b))) [
  | inl y ↦ absurd (n (sym (number_of a) ∙ (ap light_number (light_same (word_light a) (word_light b) y) ∙ number_of b)))
  | inr z ↦ z
]

-- a word below is told by none of these lights
absent_case : (m i : ℕ) (ws : List ℕ) (d : Bool) → m < i → has_light (lights_from (i + 1) ws) (word_light m) ≡ false → has_light (cond d (lights_from (i + 1) ws) (word_light i ∷ lights_from (i + 1) ws)) (word_light m) ≡ false
absent_case m i ws true l h = h
absent_case m i ws false l h = rw (differ m i (λ e. let z : m ≡ i = e in omega arith)) h

absent : (m i : ℕ) (ws : List ℕ) → m < i → has_light (lights_from i ws) (word_light m) ≡ false
absent m i [] l = refl
absent m i (w ∷ ws) l = absent_case m i ws (nat_lt w 2) l (absent m (i + 1) ws (omega arith))

-- a light is held exactly where its word is neither 0 nor 1
here_case : (i : ℕ) (ws : List ℕ) (d : Bool) → has_light (cond d (lights_from (i + 1) ws) (word_light i ∷ lights_from (i + 1) ws)) (word_light i) ≡ not d
here_case i ws true = absent i (i + 1) ws (omega arith)
here_case i ws false = rw (light_refl (word_light i)) refl

later_case : (i k : ℕ) (ws : List ℕ) (d r : Bool) → i < k → has_light (lights_from (i + 1) ws) (word_light k) ≡ r → has_light (cond d (lights_from (i + 1) ws) (word_light i ∷ lights_from (i + 1) ws)) (word_light k) ≡ r
later_case i k ws true r l h = h
later_case i k ws false r l h = rw (differ k i (λ e. let z : k ≡ i = e in omega arith)) h

pub light_word : (i k : ℕ) (ws : List ℕ) → has_light (lights_from i ws) (word_light (i + k)) ≡ not (nat_lt (get_or ws k 0) 2)
light_word i k [] = refl
light_word i zero (w ∷ ws) = let e : i + 0 ≡ i = omega arith in ap (λ x. has_light (lights_from i (w ∷ ws)) (word_light x)) e ∙ here_case i ws (nat_lt w 2)
light_word i (suc k) (w ∷ ws) =
    let e : i + 1 + k ≡ i + suc k = omega arith in
    later_case i (i + suc k) ws (nat_lt w 2) (not (nat_lt (get_or ws k 0) 2)) (omega arith) (ap (λ x. has_light (lights_from (i + 1) ws) (word_light x)) (sym e) ∙ light_word (i + 1) k ws)

pub light_of_slot : (b j : ℕ) (ws : List ℕ) → j < 1024 → has_light (lights_from 0 ws) (light_at b j) ≡ not (nat_lt (get_or ws (b * 1024 + j) 0) 2)
light_of_slot b j ws l =
    let e : 0 + (b * 1024 + j) ≡ b * 1024 + j = omega arith in
    ap (has_light (lights_from 0 ws)) (sym (light_there b j l) ∙ ap word_light (sym e)) ∙ light_word 0 (b * 1024 + j) ws

-- a word that is held from now on
front_case : (m i : ℕ) (ws : List ℕ) (d : Bool) → m < i → insert_by light_number (word_light m) (lights_from (i + 1) ws) ≡ word_light m ∷ lights_from (i + 1) ws
    → insert_by light_number (word_light m) (cond d (lights_from (i + 1) ws) (word_light i ∷ lights_from (i + 1) ws)) ≡ word_light m ∷ cond d (lights_from (i + 1) ws) (word_light i ∷ lights_from (i + 1) ws)
unfolding insert_by
front_case m i ws true l h = h
front_case m i ws false l h =
    let t : nat_lt m i ≡ true = grind (arith, nat_tests) in
    let u : nat_lt (light_number (word_light m)) (light_number (word_light i)) ≡ true = ap (λ x. nat_lt x (light_number (word_light i))) (number_of m) ∙ (ap (nat_lt m) (number_of i) ∙ t) in
    ap (λ q. cond q (word_light m ∷ word_light i ∷ lights_from (i + 1) ws) (word_light i ∷ insert_by light_number (word_light m) (lights_from (i + 1) ws))) u

front : (m i : ℕ) (ws : List ℕ) → m < i → insert_by light_number (word_light m) (lights_from i ws) ≡ word_light m ∷ lights_from i ws
unfolding insert_by
front m i [] l = refl
front m i (w ∷ ws) l = front_case m i ws (nat_lt w 2) l (front m (i + 1) ws (omega arith))

past_case : (i k : ℕ) (ws vs : List ℕ) (d : Bool) → i < k → lights_from (i + 1) vs ≡ insert_by light_number (word_light k) (lights_from (i + 1) ws)
    → cond d (lights_from (i + 1) vs) (word_light i ∷ lights_from (i + 1) vs) ≡ insert_by light_number (word_light k) (cond d (lights_from (i + 1) ws) (word_light i ∷ lights_from (i + 1) ws))
unfolding insert_by
past_case i k ws vs true l h = h
past_case i k ws vs false l h =
    let t : nat_lt k i ≡ false = grind (arith, nat_tests) in
    let u : nat_lt (light_number (word_light k)) (light_number (word_light i)) ≡ false = ap (λ x. nat_lt x (light_number (word_light i))) (number_of k) ∙ (ap (nat_lt k) (number_of i) ∙ t) in
    ap (λ xs. word_light i ∷ xs) h ∙ sym (ap (λ q. cond q (word_light k ∷ word_light i ∷ lights_from (i + 1) ws) (word_light i ∷ insert_by light_number (word_light k) (lights_from (i + 1) ws))) u)

first_case : (i w v : ℕ) (ws : List ℕ) (d b : Bool) → nat_lt w 2 ≡ d → nat_lt v 2 ≡ b → d ≡ true → b ≡ false → cond b (lights_from (i + 1) ws) (word_light i ∷ lights_from (i + 1) ws) ≡ insert_by light_number (word_light i) (cond d (lights_from (i + 1) ws) (word_light i ∷ lights_from (i + 1) ws))
first_case i w v ws true false e f g h = sym (front i (i + 1) ws (omega arith))
first_case i w v ws false b e f g h = absurd (false≢true g)
first_case i w v ws true true e f g h = absurd (false≢true (sym h))

pub light_added : (i k v : ℕ) (ws : List ℕ) → k < length ws → nat_lt (get_or ws k 0) 2 ≡ true → nat_lt v 2 ≡ false → lights_from i (set ws k v) ≡ add_light (word_light (i + k)) (lights_from i ws)
light_added i k v [] l h g = absurd (omega arith)
light_added i zero v (w ∷ ws) l h g = let e : i ≡ i + 0 = omega arith in first_case i w v ws (nat_lt w 2) (nat_lt v 2) refl refl h g ∙ ap (λ x. add_light (word_light x) (lights_from i (w ∷ ws))) e
light_added i (suc k) v (w ∷ ws) l h g =
    let e : i + 1 + k ≡ i + suc k = omega arith in
    past_case i (i + suc k) ws (set ws k v) (nat_lt w 2) (omega arith) (light_added (i + 1) k v ws (omega arith) h g ∙ ap (λ x. add_light (word_light x) (lights_from (i + 1) ws)) e)

-- a word that is free from now on
kept_case : (m i : ℕ) (ws : List ℕ) (d : Bool) → m < i → drop_light (word_light m) (lights_from (i + 1) ws) ≡ lights_from (i + 1) ws
    → drop_light (word_light m) (cond d (lights_from (i + 1) ws) (word_light i ∷ lights_from (i + 1) ws)) ≡ cond d (lights_from (i + 1) ws) (word_light i ∷ lights_from (i + 1) ws)
kept_case m i ws true l h = h
kept_case m i ws false l h = rw (differ m i (λ e. let z : m ≡ i = e in omega arith)) (ap (λ xs. word_light i ∷ xs) h)

kept : (m i : ℕ) (ws : List ℕ) → m < i → drop_light (word_light m) (lights_from i ws) ≡ lights_from i ws
kept m i [] l = refl
kept m i (w ∷ ws) l = kept_case m i ws (nat_lt w 2) l (kept m (i + 1) ws (omega arith))

cut_case : (i : ℕ) (ws : List ℕ) (d b : Bool) → b ≡ true → cond b (lights_from (i + 1) ws) (word_light i ∷ lights_from (i + 1) ws) ≡ drop_light (word_light i) (cond d (lights_from (i + 1) ws) (word_light i ∷ lights_from (i + 1) ws))
cut_case i ws true true h = sym (kept i (i + 1) ws (omega arith))
cut_case i ws false true h = rw (light_refl (word_light i)) (sym (kept i (i + 1) ws (omega arith)))
cut_case i ws d false h = absurd (false≢true h)

stay_case : (i k : ℕ) (ws vs : List ℕ) (d : Bool) → i < k → lights_from (i + 1) vs ≡ drop_light (word_light k) (lights_from (i + 1) ws)
    → cond d (lights_from (i + 1) vs) (word_light i ∷ lights_from (i + 1) vs) ≡ drop_light (word_light k) (cond d (lights_from (i + 1) ws) (word_light i ∷ lights_from (i + 1) ws))
stay_case i k ws vs true l h = h
stay_case i k ws vs false l h = rw (differ k i (λ e. let z : k ≡ i = e in omega arith)) (ap (λ xs. word_light i ∷ xs) h)

pub light_dropped : (i k v : ℕ) (ws : List ℕ) → k < length ws → nat_lt v 2 ≡ true → lights_from i (set ws k v) ≡ drop_light (word_light (i + k)) (lights_from i ws)
light_dropped i k v [] l g = absurd (omega arith)
light_dropped i zero v (w ∷ ws) l g = let e : i ≡ i + 0 = omega arith in cut_case i ws (nat_lt w 2) (nat_lt v 2) g ∙ ap (λ x. drop_light (word_light x) (lights_from i (w ∷ ws))) e
light_dropped i (suc k) v (w ∷ ws) l g =
    let e : i + 1 + k ≡ i + suc k = omega arith in
    stay_case i (i + suc k) ws (set ws k v) (nat_lt w 2) (omega arith) (light_dropped (i + 1) k v ws (omega arith) g ∙ ap (λ x. drop_light (word_light x) (lights_from (i + 1) ws)) e)

-- at a slot of a block
pub slot_lit : (b j v : ℕ) (ws : List ℕ) → j < 1024 → b * 1024 + j < length ws → nat_lt (get_or ws (b * 1024 + j) 0) 2 ≡ true → nat_lt v 2 ≡ false → lights_from 0 (set ws (b * 1024 + j) v) ≡ add_light (light_at b j) (lights_from 0 ws)
slot_lit b j v ws lj l h g =
    let e : 0 + (b * 1024 + j) ≡ b * 1024 + j = omega arith in
    light_added 0 (b * 1024 + j) v ws l h g ∙ ap (λ x. add_light x (lights_from 0 ws)) (ap word_light e ∙ light_there b j lj)

pub slot_unlit : (b j v : ℕ) (ws : List ℕ) → j < 1024 → b * 1024 + j < length ws → nat_lt v 2 ≡ true → lights_from 0 (set ws (b * 1024 + j) v) ≡ drop_light (light_at b j) (lights_from 0 ws)
slot_unlit b j v ws lj l g =
    let e : 0 + (b * 1024 + j) ≡ b * 1024 + j = omega arith in
    light_dropped 0 (b * 1024 + j) v ws l g ∙ ap (λ x. drop_light x (lights_from 0 ws)) (ap word_light e ∙ light_there b j lj)

-- a light that is held is that of a word
in_case : (i : ℕ) (l : Light) (ws : List ℕ) (d : Bool) → (has_light (lights_from (i + 1) ws) l ≡ true → (k : ℕ) × ((k < length ws) × (l ≡ word_light (i + 1 + k)))) → has_light (cond d (lights_from (i + 1) ws) (word_light i ∷ lights_from (i + 1) ws)) l ≡ true → (k : ℕ) × ((k < suc (length ws)) × (l ≡ word_light (i + k)))
in_case i l ws true f h = let r = f h in let e : i + 1 + r.0 ≡ i + suc r.0 = omega arith in let b = r.1.0 in (suc r.0, (omega arith, r.1.1 ∙ ap word_light e))
in_case i l ws false f h = or_elim (same_light l (word_light i)) (has_light (lights_from (i + 1) ws) l)
    (λ y. let e : i ≡ i + 0 = omega arith in (0, (omega arith, light_same l (word_light i) y ∙ ap word_light e)))
    (λ y. let r = f y in let e : i + 1 + r.0 ≡ i + suc r.0 = omega arith in let b = r.1.0 in (suc r.0, (omega arith, r.1.1 ∙ ap word_light e)))
    h

pub light_in : (i : ℕ) (l : Light) (ws : List ℕ) → has_light (lights_from i ws) l ≡ true → (k : ℕ) × ((k < length ws) × (l ≡ word_light (i + k)))
light_in i l [] h = absurd (false≢true h)
light_in i l (w ∷ ws) h = in_case i l ws (nat_lt w 2) (light_in (i + 1) l ws) h

pub slot_in : (n : ℕ) (l : Light) (ws : List ℕ) → length ws ≡ n * 1024 → has_light (lights_from 0 ws) l ≡ true → (l.block < n) × (l.slot < 1024)
slot_in n l ws e h =
    let r = light_in 0 l ws h in
    let k = r.0 in
    let lk = r.1.0 in
    let z : 0 + k ≡ k = omega arith in
    let b : l.block ≡ k / 1024 = ap (λ (m : Light). m.block) (r.1.1 ∙ ap word_light z) in
    let j : l.slot ≡ k % 1024 = ap (λ (m : Light). m.slot) (r.1.1 ∙ ap word_light z) in
    (omega arith, omega arith)

-- no word is held where all are 0
pub no_lights : (i n : ℕ) → lights_from i (replicate n 0) ≡ []
no_lights i zero = refl
no_lights i (suc n) = no_lights (i + 1) n

-- which lights are held after one more, and without one

lit_case : (m l k : Light) (ks zs : List Light) (d : Bool) → has_light zs m ≡ (same_light m l || has_light ks m)
    → has_light (cond d (l ∷ k ∷ ks) (k ∷ zs)) m ≡ (same_light m l || (same_light m k || has_light ks m))
lit_case m l k ks zs true h = refl
lit_case m l k ks zs false h = ap (λ q. same_light m k || q) h ∙ swap (same_light m k) (same_light m l) (has_light ks m)
  where
    swap : (u v w : Bool) → (u || (v || w)) ≡ (v || (u || w))
    swap true true w = refl
    swap true false w = refl
    swap false v w = refl

pub has_lit : (lights : List Light) (l m : Light) → has_light (add_light l lights) m ≡ (same_light m l || has_light lights m)
unfolding insert_by
has_lit [] l m = refl
has_lit (k ∷ ks) l m = lit_case m l k ks (add_light l ks) (nat_lt (light_number l) (light_number k)) (has_lit ks l m)

unlit_case : (l m k : Light) (ks zs : List Light) (d : Bool) → same_light l k ≡ d → has_light zs m ≡ (not (same_light m l) && has_light ks m)
    → has_light (cond (not d) (k ∷ zs) zs) m ≡ (not (same_light m l) && (same_light m k || has_light ks m))
unlit_case l m k ks zs true e h = h ∙ sym (ap (λ z. not (same_light m l) && (same_light m z || has_light ks m)) (sym (light_same l k e)) ∙ gone (same_light m l) (has_light ks m))
  where
    gone : (u w : Bool) → (not u && (u || w)) ≡ (not u && w)
    gone true w = refl
    gone false w = refl
unlit_case l m k ks zs false e h = elim (cases_Bool (same_light m l)) [
  | inl t ↦
      let n : same_light m k ≡ false = ap (λ z. same_light z k) (light_same m l t) ∙ e in
      ap (λ q. same_light m k || q) h ∙ rw (n, t) refl
  | inr t ↦ ap (λ q. same_light m k || q) h ∙ rw t refl
]

pub has_unlit : (lights : List Light) (l m : Light) → has_light (drop_light l lights) m ≡ (not (same_light m l) && has_light lights m)
has_unlit [] l m = elim (same_light m l) as (λ d. false ≡ (not d && false)) [ true ↦ refl | false ↦ refl ]
has_unlit (k ∷ ks) l m = unlit_case l m k ks (drop_light l ks) (same_light l k) refl (has_unlit ks l m)

neither : (a b : Bool) → (a || b) ≡ false → (a ≡ false) × (b ≡ false)
neither true b h = absurd (false≢true (sym h))
neither false b h = (refl, h)

none_dropped : (l : Light) (lights : List Light) → has_light lights l ≡ false → drop_light l lights ≡ lights
none_dropped l [] h = refl
none_dropped l (k ∷ ks) h = let t = neither (same_light l k) (has_light ks l) h in rw t.0 (ap (λ xs. k ∷ xs) (none_dropped l ks t.1))

back_case : (l k : Light) (ks zs : List Light) (d : Bool) → same_light l k ≡ false → drop_light l ks ≡ ks → drop_light l zs ≡ ks → drop_light l (cond d (l ∷ k ∷ ks) (k ∷ zs)) ≡ k ∷ ks
back_case l k ks zs true n h g = rw (light_refl l, n) (ap (λ xs. k ∷ xs) h)
back_case l k ks zs false n h g = rw n (ap (λ xs. k ∷ xs) g)

pub lit_and_unlit : (lights : List Light) (l : Light) → has_light lights l ≡ false → drop_light l (add_light l lights) ≡ lights
unfolding insert_by
lit_and_unlit [] l h = rw (light_refl l) refl
lit_and_unlit (k ∷ ks) l h =
    let t = neither (same_light l k) (has_light ks l) h in
    back_case l k ks (add_light l ks) (nat_lt (light_number l) (light_number k)) t.0 (none_dropped l ks t.1) (lit_and_unlit ks l t.1)
