-- The blocks and slots of a hand.
use Rattle.std.proofs.Common.{◌≡◌, ℕ, ◌<◌, ◌&&◌, nat_lt, Bool, true, false, if◌then◌else◌, List, [], ◌∷◌, ◌++◌, refl, sym, ap, ◌∙◌, subst, ⊎_elim, ltb-true, lt-ltb}
use Rattle.mz_nano.specs.declared.view.Held.{Held}
use Rattle.mz_nano.specs.Lists.{In, without, is_at}
use Rattle.mz_nano.specs.Rule.{Once, held}
use Rattle.mz_nano.specs.declared.view.Geometry.{Geometry}
use Rattle.mz_nano.specs.StepEffects.{Standing}
use Rattle.mz_nano.specs.CallEffects.{hand_ok, empty, IsAtRest, EndsAtRest, Pushed, PushLost}
use Rattle.mz_nano.proofs.OnceLemmas.{once_without}

both : (x y : Bool) → (x && y) ≡ true → (x ≡ true) × (y ≡ true)
both true y e = (refl, e)
both false y e = absurd (cc)

pub hand_in : (n : ℕ) (h : Held) (hs : List Held) → hand_ok n hs ≡ true → In h hs → (h.block < n) × (h.slot < 1024)
hand_in n h [] e i = absurd i
hand_in n h (x ∷ xs) e i =
    let t = both (nat_lt x.block n && nat_lt x.slot 1024) (hand_ok n xs) e in
    let u = both (nat_lt x.block n) (nat_lt x.slot 1024) t.0 in
    ⊎_elim (λ (q : h ≡ x). (subst (λ (y : ℕ). y < n) (ap (λ (o : Held). o.block) (sym q)) (ltb-true x.block n u.0), subst (λ (y : ℕ). y < 1024) (ap (λ (o : Held). o.slot) (sym q)) (ltb-true x.slot 1024 u.1)))
    (λ (q : In h xs). hand_in n h xs t.1 q) i

less : (n b j : ℕ) (x : Held) (xs : List Held) (t : Bool) → (nat_lt x.block n && nat_lt x.slot 1024) ≡ true → hand_ok n (without b j xs) ≡ true → hand_ok n (if t then without b j xs else x ∷ without b j xs) ≡ true
less n b j x xs true e ih = ih
less n b j x xs false e ih = ap (λ (q : Bool). q && hand_ok n (without b j xs)) e ∙ ih

pub hand_without : (n b j : ℕ) (hs : List Held) → hand_ok n hs ≡ true → hand_ok n (without b j hs) ≡ true
hand_without n b j [] e = refl
hand_without n b j (x ∷ xs) e = let t = both (nat_lt x.block n && nat_lt x.slot 1024) (hand_ok n xs) e in less n b j x xs (is_at b j x) t.0 (hand_without n b j xs t.1)

pub hand_more : (n b j c : ℕ) (hs : List Held) → b < n → j < 1024 → hand_ok n hs ≡ true → hand_ok n (held b j c ∷ hs) ≡ true
hand_more n b j c hs l m e = ap (λ (q : Bool). (q && nat_lt j 1024) && hand_ok n hs) (lt-ltb b n l) ∙ (ap (λ (q : Bool). q && hand_ok n hs) (lt-ltb j 1024 m) ∙ e)

pub is_empty : {A : Type 0} (xs : List A) → empty xs ≡ true → xs ≡ []
is_empty [] e = refl
is_empty (x ∷ xs) e = absurd (cc)

pub ends_between : (me me' : Standing) → IsAtRest me → EndsAtRest me me' → IsAtRest me'
ends_between me me' b e = record { live = e.same.live; outs = ap empty e.same.outs; claims = ap empty e.same.claims; carried = ap empty e.same.carried; hand = e.hand b.hand }

pub pushed_ends : (me me' : Standing) (b j c : ℕ) → Pushed me b j c me' → EndsAtRest me me'
pushed_ends me me' b j c p = record { same = p.same; hand = λ h. ap (λ (q : Geometry). hand_ok q.blocks me'.0.hand) p.same.geometry ∙ (ap (hand_ok me.0.geometry.blocks) p.hand ∙ hand_without me.0.geometry.blocks b j me.0.hand h); once = λ o. subst Once (sym p.hand) (once_without b j me.0.hand o) }

pub kept_ends : (me me' : Standing) (b x n : ℕ) → PushLost me b x n me' → EndsAtRest me me'
kept_ends me me' b x n p = record { same = p.same; hand = λ h. ap (λ (q : Geometry). hand_ok q.blocks me'.0.hand) p.same.geometry ∙ (ap (hand_ok me.0.geometry.blocks) p.hand ∙ h); once = λ o. subst Once (sym p.hand) o }

pub hand_both : (n : ℕ) (xs ys : List Held) → hand_ok n xs ≡ true → hand_ok n ys ≡ true → hand_ok n (xs ++ ys) ≡ true
hand_both n [] ys a b = b
hand_both n (x ∷ xs) ys a b =
    let t = both (nat_lt x.block n && nat_lt x.slot 1024) (hand_ok n xs) a in
    ap (λ (q : Bool). q && hand_ok n (xs ++ ys)) t.0 ∙ hand_both n xs ys t.1 b
