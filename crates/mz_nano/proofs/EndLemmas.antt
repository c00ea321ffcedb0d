-- Where all hands are empty each block has its whole page.
use Rattle.std.proofs.Common.{◌≡◌, ◌≢◌, ℕ, zero, suc, ◌+◌, ◌-◌, ◌*◌, ◌<◌, ◌≤◌, ◌==◌, ◌⊎◌, Bool, true, if◌then◌else◌, nat_lt, List, [], ◌∷◌, get_or, Option, Some, refl, sym, ap, ◌∙◌, subst, arith, ⊎_elim, eq-eqb, ne_eqb, lt-ltb, le-ltb}
use Rattle.std.proofs.lemmas.Bool.{cases_eq, cases_lt}
use mathlib.Core.Option as m
use mathlib.Core.Option.{some-ne-none, some-injective}
use lib.ListN.{get_elem?}
use Rattle.atomic_table.specs.Table.{Final, Seen}
use Rattle.mz_ground.specs.Views.{SpanView}
use Rattle.mz_nanoword.specs.declared.word.NanoWord.{NanoWord}
use Rattle.mz_nanoword.specs.Words.{word_of}
use Rattle.mz_nano.specs.declared.view.Geometry.{Geometry}
use Rattle.mz_nano.specs.declared.view.View.{View}
use Rattle.mz_nano.specs.Lists.{In}
use Rattle.mz_nano.specs.Rule.{Block, block_of, slots, IsPiece, Unassigned, BeingClaimed, Ready, Rule, parts_of, total, held, claim}
use Rattle.mz_nano.specs.Ended.{pieces, begins, PieceAt, EndedBlock, Ended}
use Rattle.mz_nano.proofs.RelyLemmas.{parts_live}
use Rattle.mz_nano.proofs.SlotSteps.{slots_most, zero_state}
use Rattle.mz_nano.proofs.ClaimSteps.{slots_whole}
use Rattle.mz_nano.proofs.BlockLemmas.{home_there}
use Rattle.mz_nano.proofs.Whole.{sounds}
use Rattle.mz_nano.proofs.PopAllowed.{nothing}

one_part : (views : List View) (i : ℕ) (v : View) → get_elem? views i ≡ m.some v → parts_of v ≤ total views
one_part [] i v e = absurd (some-ne-none v (sym e))
one_part (x ∷ xs) zero v e = let t : parts_of x ≡ parts_of v = ap parts_of (some-injective x v e) in omega arith
one_part (x ∷ xs) (suc i) v e = let t = one_part xs i v e in omega arith

two_parts : (views : List View) (i x : ℕ) (v u : View) → get_elem? views i ≡ m.some v → get_elem? views x ≡ m.some u → x ≢ i → parts_of v + parts_of u ≤ total views
two_parts [] i x v u e f n = absurd (some-ne-none v (sym e))
two_parts (y ∷ ys) zero zero v u e f n = absurd (n refl)
two_parts (y ∷ ys) zero (suc x) v u e f n = let t : parts_of y ≡ parts_of v = ap parts_of (some-injective y v e) in let a = one_part ys x u f in omega arith
two_parts (y ∷ ys) (suc i) zero v u e f n = let t : parts_of y ≡ parts_of u = ap parts_of (some-injective y u f) in let a = one_part ys i v e in omega arith
two_parts (y ∷ ys) (suc i) (suc x) v u e f n = let a = two_parts ys i x v u e f (λ q. n (ap suc q)) in omega arith

begins_zero : (w j : ℕ) → (word_of w).state ≡ 0 → begins w j ≡ (if j == 0 then 0 else 16384)
begins_zero w j e = ap (λ (t : Bool). if t then (if j == 0 then 0 else 16384) else (if nat_lt (slots (word_of w).state) j then 16384 else 16 * (word_of w).state * j)) (eq-eqb (word_of w).state 0 e)

begins_ready : (w j : ℕ) → (word_of w).state ≢ 0 → begins w j ≡ (if nat_lt (slots (word_of w).state) j then 16384 else 16 * (word_of w).state * j)
begins_ready w j e = ap (λ (t : Bool). if t then (if j == 0 then 0 else 16384) else (if nat_lt (slots (word_of w).state) j then 16384 else 16 * (word_of w).state * j)) (ne_eqb (word_of w).state 0 e)

begins_in : (w j : ℕ) → (word_of w).state ≢ 0 → j ≤ slots (word_of w).state → begins w j ≡ 16 * (word_of w).state * j
begins_in w j e l = begins_ready w j e ∙ ap (λ (t : Bool). if t then 16384 else 16 * (word_of w).state * j) (le-ltb (slots (word_of w).state) j l)

begins_out : (w j : ℕ) → (word_of w).state ≢ 0 → slots (word_of w).state < j → begins w j ≡ 16384
begins_out w j e l = begins_ready w j e ∙ ap (λ (t : Bool). if t then 16384 else 16 * (word_of w).state * j) (lt-ltb (slots (word_of w).state) j l)

pub pieces_zero : (w : ℕ) → (word_of w).state ≡ 0 → pieces w ≡ 1
pieces_zero w e = ap (λ (t : Bool). if t then 1 else slots (word_of w).state + 1) (eq-eqb (word_of w).state 0 e)

pub pieces_ready : (w : ℕ) → (word_of w).state ≢ 0 → pieces w ≡ slots (word_of w).state + 1
pieces_ready w e = ap (λ (t : Bool). if t then 1 else slots (word_of w).state + 1) (ne_eqb (word_of w).state 0 e)

module _ (key : Geometry) (b w : ℕ) (xs : List (Option SpanView)) (small : w < 9223372036854775808) where
  ended_fresh : (word_of w).state ≡ 0 → (s : SpanView) → get_elem? xs (b * 1025 + 0) ≡ m.some (Some s) → IsPiece key b 0 16384 s → EndedBlock key b w xs
  ended_fresh e s here piece =
      let p = pieces_zero w e in let b0 : begins w 0 ≡ 0 = begins_zero w 0 e in let b1 : begins w 1 ≡ 16384 = begins_zero w 1 e in
      record {
        few = omega arith;
        start = b0;
        end = ap (begins w) p ∙ b1;
        each = λ j l. let q : 0 ≡ j = omega arith in subst (λ (x : ℕ). PieceAt key b w x xs) q record {
          span = s;
          here = here;
          piece = record { space = piece.space; first = let f = piece.first in omega arith; len = let f = piece.len in omega arith };
          rises = omega arith;
        };
        state = omega arith;
        small = small;
      }

  ended_ready : (word_of w).state ≢ 0 → (word_of w).state ≤ 16
      → ((j : ℕ) → j < slots (word_of w).state → (s : SpanView) × (get_elem? xs (b * 1025 + j) ≡ m.some (Some s)) × IsPiece key b (16 * (word_of w).state * j) (16 * (word_of w).state) s)
      → ((s : SpanView) × (get_elem? xs (b * 1025 + slots (word_of w).state) ≡ m.some (Some s)) × IsPiece key b (16 * (word_of w).state * slots (word_of w).state) (16384 - 16 * (word_of w).state * slots (word_of w).state) s)
      → EndedBlock key b w xs
  ended_ready e most each rest =
      let c : ℕ = (word_of w).state in
      let n : ℕ = slots c in
      let p = pieces_ready w e in
      let top = slots_most c in
      let whole = slots_whole c in
      record {
        few = omega arith;
        start = begins_in w 0 e (omega arith) ∙ omega arith;
        end = ap (begins w) p ∙ begins_out w (n + 1) e (omega arith);
        each = λ j l. ⊎_elim
            (λ (t : j < n). let q = each j t in
            let a : begins w j ≡ 16 * c * j = begins_in w j e (omega arith) in
            let z : begins w (j + 1) ≡ 16 * c * (j + 1) = begins_in w (j + 1) e (omega arith) in
            let y : 16 * c * (j + 1) ≡ 16 * c * j + 16 * c = omega arith in record {
              span = q.0;
              here = q.1;
              piece = record { space = q.2.space; first = let f = q.2.first in omega arith; len = let f = q.2.len in omega arith };
              rises = omega arith;
            })
            (λ (t : n ≤ j). let same : n ≡ j = omega arith in
            let a : begins w n ≡ 16 * c * n = begins_in w n e (omega arith) in
            let z : begins w (n + 1) ≡ 16384 = begins_out w (n + 1) e (omega arith) in
            let y : 16 * c * n ≤ 16384 = omega arith in
            subst (λ (x : ℕ). PieceAt key b w x xs) same record {
              span = rest.0;
              here = rest.1;
              piece = record { space = rest.2.space; first = let f = rest.2.first in omega arith; len = let f = rest.2.len in omega arith };
              rises = omega arith;
            })
            (cases_lt j n);
        state = most;
        small = small;
      }

pub ends : (key : Geometry) (id : ℕ) (v : View) (ws : List ℕ) (xs : List (Option SpanView)) → v.live ≡ true → v.hand ≡ [] → v.claim ≡ [] → v.parts ≡ 2 * key.seats → Final (Seen (Rule key) id v) ws xs → Ended key ws xs
ends key id v ws xs live hand none parts (s, ((who, kept), at), words, len, homes) b lt =
    let z : Block = block_of key s.words s.homes who b in
    let ok = kept.blocks b lt in
    let f = kept.seats id v at live in
    let g = f.at b lt in
    let pv = parts_live v live in
    let nobody : (j : ℕ) → who b j ≡ 0 = λ j. ⊎_elim (λ (e : who b j ≡ 0). e)
    (λ (e : who b j ≡ 0 → ⊥).
    let o = kept.owner b j lt e in
    ⊎_elim
    (λ (t : o.seat ≡ id).
    let is : who b j ≡ id + 1 = o.is ∙ ap (λ (n : ℕ). n + 1) t in
    ⊎_elim (λ (y : (c : ℕ) × In (held b j c) v.hand). absurd (nothing v.hand hand (held b j y.0) y.1)) (λ (y : (c : ℕ) × (k : ℕ) × In (claim b c k) v.claim). absurd (nothing v.claim none (claim b y.0 y.1) y.2)) (g.mine j is))
    (λ (t : o.seat ≡ id → ⊥).
    let two = two_parts s.views id o.seat v o.view at o.at t in
    let po = parts_live o.view o.live in
    let so = (kept.seats o.seat o.view o.at o.live).some_parts in
    let tt' = kept.total in absurd (omega arith))
    (cases_eq o.seat id))
    (cases_eq (who b j) 0) in
    let w : ℕ = get_or ws b 0 in
    let ew : get_or s.words b 0 ≡ w = ap (λ (l : List ℕ). get_or l b 0) words in
    let ez : z.word ≡ word_of w = ap word_of ew in
    let es : z.word.state ≡ (word_of w).state = ap (λ (y : NanoWord). y.state) ez in
    let small = (sounds key b w z kept.gen ez ok).small in
    let small' : w < 9223372036854775808 = small in
    let there : (j : ℕ) (y : SpanView) → j < 1025 → z.homes j ≡ m.some (m.some (Some y)) → get_elem? xs (b * 1025 + j) ≡ m.some (Some y) = λ j y l e. homes (b * 1025 + j) (Some y) (home_there s.homes b j (m.some (m.some (Some y))) l e) in
    ⊎_elim
    (λ (k : Unassigned key b z). ended_fresh key b w xs small' (sym es ∙ (ap (λ (y : NanoWord). y.state) k.word ∙ zero_state)) k.page.0 (there 0 k.page.0 (omega arith) k.page.1) k.page.2)
    (λ (k : BeingClaimed z ⊎ Ready key b z). ⊎_elim
    (λ (q : BeingClaimed z). let a = q.who 0 in let c = nobody 0 in absurd (omega arith))
    (λ (q : Ready key b z).
    let top = slots_most z.word.state in
    let P : ℕ → Type 0 = λ c. ((j : ℕ) → j < slots c → (y : SpanView) × (get_elem? xs (b * 1025 + j) ≡ m.some (Some y)) × IsPiece key b (16 * c * j) (16 * c) y) × ((y : SpanView) × (get_elem? xs (b * 1025 + slots c) ≡ m.some (Some y)) × IsPiece key b (16 * c * slots c) (16384 - 16 * c * slots c) y) in
    let p : P z.word.state = ((λ j l. let t = (q.here j (q.full j l (nobody j))).2 in (t.0, there j t.0 (omega arith) t.1, t.2)), (q.rest.0, there (slots z.word.state) q.rest.0 (omega arith) q.rest.1, q.rest.2)) in
    let p' : P (word_of w).state = subst P es p in
    let l = q.least in let h = q.most in
    ended_ready key b w xs small' (λ y. omega arith) (omega arith) p'.0 p'.1)
    k)
    ok.kind
