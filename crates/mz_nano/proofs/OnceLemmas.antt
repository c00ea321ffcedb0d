-- Hands in which no slot is twice.
use Rattle.std.proofs.Common.{◌≡◌, ℕ, ◌+◌, ◌*◌, ◌<◌, ◌≤◌, ◌⊎◌, Bool, true, false, if◌then◌else◌, List, [], ◌∷◌, ◌++◌, length, map, refl, sym, ap, subst, arith, inl, inr, ⊎_elim}
use Rattle.mz_nano.specs.declared.view.Held.{Held}
use Rattle.mz_nano.specs.Lists.{In, Distinct, without, is_at}
use Rattle.mz_nano.specs.Rule.{Once, held}
use Rattle.mz_nano.proofs.MemberLemmas.{in_without, is_at-true, at_is, few}

less : (b j : ℕ) (x : Held) (xs : List Held) (t : Bool) → ((c : ℕ) → In (held x.block x.slot c) xs → ⊥) → Once (without b j xs) → Once (if t then without b j xs else x ∷ without b j xs)
less b j x xs true n o = o
less b j x xs false n o = ((λ c h. n c (in_without b j (held x.block x.slot c) xs h).0), o)

pub once_without : (b j : ℕ) (hs : List Held) → Once hs → Once (without b j hs)
once_without b j [] o = tt
once_without b j (x ∷ xs) o = less b j x xs (is_at b j x) o.0 (once_without b j xs o.1)

none_step : (b j : ℕ) (x : Held) (xs : List Held) (t : Bool) → is_at b j x ≡ t → ((c : ℕ) → In (held b j c) (x ∷ xs) → ⊥) → without b j xs ≡ xs → (if t then without b j xs else x ∷ without b j xs) ≡ x ∷ xs
none_step b j x xs true e n ih = let r = is_at-true b j x e in absurd (n x.class (inl (λ k. held (sym r.0 k) (sym r.1 k) x.class)))
none_step b j x xs false e n ih = ap (λ (l : List Held). x ∷ l) ih

without_none : (b j : ℕ) (hs : List Held) → ((c : ℕ) → In (held b j c) hs → ⊥) → without b j hs ≡ hs
without_none b j [] n = refl
without_none b j (x ∷ xs) n = none_step b j x xs (is_at b j x) refl n (without_none b j xs (λ c h. n c (inr h)))

length_step : (b j c : ℕ) (x : Held) (xs : List Held) (t : Bool) → is_at b j x ≡ t → Once (x ∷ xs) → In (held b j c) (x ∷ xs) → (In (held b j c) xs → length (without b j xs) + 1 ≡ length xs) → length (if t then without b j xs else x ∷ without b j xs) + 1 ≡ length (x ∷ xs)
length_step b j c x xs true e o h ih =
    let r = is_at-true b j x e in
    let n : (d : ℕ) → In (held b j d) xs → ⊥ = λ d q. o.0 d (subst (λ (y : ℕ). In (held y x.slot d) xs) (sym r.0) (subst (λ (y : ℕ). In (held b y d) xs) (sym r.1) q)) in
    let l = ap length (without_none b j xs n) in omega arith
length_step b j c x xs false e o h ih = ⊎_elim
    (λ (q : held b j c ≡ x). let t : is_at b j x ≡ true = at_is b j x (ap (λ (y : Held). y.block) (sym q)) (ap (λ (y : Held). y.slot) (sym q)) in absurd (cc))
    (λ (q : In (held b j c) xs). let t = ih q in omega arith) h

pub length_without : (b j c : ℕ) (hs : List Held) → Once hs → In (held b j c) hs → length (without b j hs) + 1 ≡ length hs
length_without b j c [] o h = absurd h
length_without b j c (x ∷ xs) o h = length_step b j c x xs (is_at b j x) refl o h (length_without b j c xs o.1)

in_two : (x : Held) (xs ys : List Held) → In x (xs ++ ys) → In x xs ⊎ In x ys
in_two x [] ys h = inr h
in_two x (y ∷ xs) ys h = ⊎_elim (λ (t : x ≡ y). inl (inl t)) (λ (t : In x (xs ++ ys)). ⊎_elim (λ (u : In x xs). inl (inr u)) (λ (u : In x ys). inr u) (in_two x xs ys t)) h

both : (xs ys : List Held) (c : ℕ) (x : Held) → In (held x.block x.slot c) (xs ++ ys) → ((d : ℕ) → In (held x.block x.slot d) xs → ⊥) → ((b j e d : ℕ) → In (held b j e) (x ∷ xs) → In (held b j d) ys → ⊥) → ⊥
both xs ys c x h a n = ⊎_elim (λ (q : In (held x.block x.slot c) xs). a c q) (λ (q : In (held x.block x.slot c) ys). n x.block x.slot x.class c (inl refl) q) (in_two (held x.block x.slot c) xs ys h)

pub once_append : (xs ys : List Held) → Once xs → Once ys → ((b j c d : ℕ) → In (held b j c) xs → In (held b j d) ys → ⊥) → Once (xs ++ ys)
once_append [] ys a b n = b
once_append (x ∷ xs) ys a b n = ((λ c h. both xs ys c x h a.0 n), once_append xs ys a.1 b (λ p q r s h k. n p q r s (inr h) k))

code : Held → ℕ
code h = h.block * 1024 + h.slot

in_codes : (y : ℕ) (hs : List Held) → In y (map code hs) → (h : Held) × In h hs × (y ≡ code h)
in_codes y [] i = absurd i
in_codes y (x ∷ xs) i = ⊎_elim (λ (q : y ≡ code x). (x, inl refl, q)) (λ (q : In y (map code xs)). let t = in_codes y xs q in (t.0, inr t.1, t.2)) i

same_code : (a b : Held) → a.slot < 1024 → b.slot < 1024 → code a ≡ code b → (a.block ≡ b.block) × (a.slot ≡ b.slot)
unfolding code
same_code a b l m e = (omega arith, omega arith)

distinct_codes : (hs : List Held) → Once hs → ((h : Held) → In h hs → h.slot < 1024) → Distinct (map code hs)
distinct_codes [] o f = tt
distinct_codes (x ∷ xs) o f = (
  (λ i. let t = in_codes (code x) xs i in let s = same_code x t.0 (f x (inl refl)) (f t.0 (inr t.1)) t.2 in
      o.0 t.0.class (subst (λ (y : ℕ). In (held y x.slot t.0.class) xs) (sym s.0) (subst (λ (y : ℕ). In (held t.0.block y t.0.class) xs) (sym s.1) t.1))),
  distinct_codes xs o.1 (λ h i. f h (inr i)),
)

map_length : (hs : List Held) → length (map code hs) ≡ length hs
map_length [] = refl
map_length (x ∷ xs) = let t = map_length xs in omega arith

-- a hand has no more slots than there are
pub hand_few : (n : ℕ) (hs : List Held) → Once hs → ((h : Held) → In h hs → (h.block < n) × (h.slot < 1024)) → length hs ≤ n * 1024
unfolding code
hand_few n hs o f = let t = few (map code hs) (n * 1024) (distinct_codes hs o (λ h i. (f h i).1)) (λ y i. let q = in_codes y hs i in let r = f q.0 q.1 in let a = r.0 in let b = r.1 in let e = q.2 in omega arith) in let l = map_length hs in omega arith
