-- A ground after quanta went out or came back.
use Rattle.std.proofs.Common.{◌≡◌, ℕ, zero, suc, ◌+◌, ◌-◌, ◌*◌, ◌/◌, ◌%◌, ◌^◌, ◌<◌, ◌≤◌, List, [], ◌∷◌, Bool, true, false, cond, Option, Some, None, Vec, length, get_or, take, drop, replicate, refl, sym, ap, ◌∙◌, subst, arith, mul-add}
use Rattle.std.proofs.lemmas.List.{length-take-le}
use Rattle.std.proofs.Math.Nat.{le-mul_of_pos_right, mul-zero, le_of_mul-le-mul_left, div-add-mod}
use Rattle.std.proofs.Math.Seq.{take-length}
use Rattle.std.specs.List.{AllWithin}
use denote.RawPtr.{Ptr}
use Rattle.std.specs.Option.{option_or}
use Rattle.std_alloc.specs.declared.vec.lodged.Lodged.{Lodged}
use Rattle.mz_base.specs.Site.{Site}
use Rattle.mz_ground.specs.Place.{IsAt}
use Rattle.mz_ground.specs.Marks.{AreAll, marked, written}
use Rattle.mz_ground.specs.declared.raw.Deed.{Deed}
use Rattle.mz_ground.specs.declared.raw.Kept.{Kept}
use Rattle.mz_ground.specs.declared.raw.Plot.{Plot}
use Rattle.mz_ground.specs.declared.raw.Root.{Root}
use Rattle.mz_ground.specs.Parts.{PlotOf, KeptOf, LaidAs}
use Rattle.mz_ground.specs.Held.{HasItsRoot, KeepsItsRoot, IsFirstOut, IsSpan, IsGround}
use Rattle.mz_ground.proofs.Lists.{part_within, times_within}
use Rattle.mz_ground.proofs.Marked.{are_all, all_within, length-marked, length-written}

-- true and false are two
two : true ≡ false → ⊥
two e = cc

-- quanta have bytes
some_bytes : (Q n m : ℕ) → 0 < Q → 0 < n → m ≡ Q * n → 0 < m
some_bytes Q n m h some e = let low : Q ≤ Q * n = le-mul_of_pos_right Q some in omega arith

-- the first flag
first_is : (lent : List Bool) (n : ℕ) (v : Bool) → 1 ≤ n → 0 + n ≤ length lent → AreAll lent 0 n v → get_or lent 0 v ≡ v
first_is [] n v some within e = absurd (omega arith)
first_is (b ∷ bs) zero v some within e = absurd (omega arith)
first_is (b ∷ bs) (suc n) v some within e = ap (λ l. get_or l 0 v) e

not_out : (lent : List Bool) (n : ℕ) → 1 ≤ n → 0 + n ≤ length lent → AreAll lent 0 n false → IsFirstOut lent → ⊥
not_out [] n some within e f = absurd (omega arith)
not_out (b ∷ bs) n some within e f = two (sym f ∙ first_is (b ∷ bs) n false some within e)

-- the root goes out with the first quantum
pub root_goes : (t : Bool) (s : Site) (a Q : ℕ) (lent : List Bool) (r : Option Root) (q n m : ℕ) → (t ≡ true → q ≡ 0) → (t ≡ false → 0 < q) → 0 < Q → 1 ≤ n → q + n ≤ length lent → AreAll lent q n false
    → KeepsItsRoot s a lent r → m ≡ Q * n → HasItsRoot s (a + Q * q) m (cond t r None)
root_goes true s a Q lent None zero n m f g filled some within out kept e = λ z. absurd (not_out lent n some within out (kept (omega arith)))
root_goes true s a Q lent (Some x) zero n m f g filled some within out kept e = let at : a ≡ 0 = kept.0 in let none : Q * 0 ≡ 0 = mul-zero Q in (omega arith, some_bytes Q n m filled some e, kept.2)
root_goes true s a Q lent r (suc q) n m f g filled some within out kept e = let no : suc q ≡ 0 = f refl in absurd (omega arith)
root_goes false s a Q lent r q n m f g filled some within out kept e = λ z. let more : Q ≤ Q * q = le-mul_of_pos_right Q (g refl) in absurd (omega arith)

pub root_stays : (t : Bool) (s : Site) (a : ℕ) (lent : List Bool) (r : Option Root) (q n : ℕ) → (t ≡ true → q ≡ 0) → (t ≡ false → 0 < q) → 1 ≤ n → q + n ≤ length lent → KeepsItsRoot s a lent r
    → KeepsItsRoot s a (marked lent q n true) (cond t None r)
root_stays true s a lent r zero zero f g some within kept = absurd (omega arith)
root_stays true s a lent r zero (suc n) f g some within kept = λ z. refl
root_stays true s a lent r (suc q) n f g some within kept = let no : suc q ≡ 0 = f refl in absurd (omega arith)
root_stays false s a lent r zero n f g some within kept = let no : 0 < 0 = g refl in absurd (omega arith)
root_stays false s a [] r (suc q) n f g some within kept = absurd (omega arith)
root_stays false s a (b ∷ bs) r (suc q) n f g some within kept = kept

-- and comes back with it
pub root_back : (s : Site) (a Q : ℕ) (lent : List Bool) (r r' : Option Root) (q n m : ℕ) → 0 < Q → q + n ≤ length lent → AreAll lent q n true → KeepsItsRoot s a lent r → HasItsRoot s (a + Q * q) m r' → m ≡ Q * n
    → KeepsItsRoot s a (marked lent q n false) (option_or r' r)
root_back s a Q lent r (Some y) zero zero m filled within out kept has e = let none : Q * 0 ≡ 0 = mul-zero Q in let some : 0 < m = has.1 in absurd (omega arith)
root_back s a Q lent r (Some y) zero (suc n) m filled within out kept has e = let at : a + Q * 0 ≡ 0 = has.0 in (omega arith, refl, has.2)
root_back s a Q lent r (Some y) (suc q) n m filled within out kept has e = let at : a + Q * suc q ≡ 0 = has.0 in let more : Q ≤ Q * suc q = le-mul_of_pos_right Q (omega arith) in absurd (omega arith)
root_back s a Q lent r None zero zero m filled within out kept has e = kept
root_back s a Q [] r None zero (suc n) m filled within out kept has e = absurd (omega arith)
root_back s a Q (b ∷ bs) None None zero (suc n) m filled within out kept has e = λ z. let none : Q * 0 ≡ 0 = mul-zero Q in let some : 0 < m = some_bytes Q (suc n) m filled (omega arith) e in let no : m ≡ 0 = has (omega arith) in absurd (omega arith)
root_back s a Q (b ∷ bs) (Some x) None zero (suc n) m filled within out kept has e = absurd (two (sym (first_is (b ∷ bs) (suc n) true (omega arith) within out) ∙ kept.1))
root_back s a Q [] r None (suc q) n m filled within out kept has e = absurd (omega arith)
root_back s a Q (b ∷ bs) r None (suc q) n m filled within out kept has e = kept

-- a span that becomes a ground keeps its root
root_of_ground : (s : Site) (a Q m : ℕ) (lent : List Bool) (r : Option Root) → 0 < Q → m ≡ Q * length lent → AreAll lent 0 (length lent) false → HasItsRoot s a m r → KeepsItsRoot s a lent r
root_of_ground s a Q m [] None filled e in' has = λ z. tt
root_of_ground s a Q m (b ∷ bs) None filled e in' has = λ z. let some : 0 < m = some_bytes Q (suc (length bs)) m filled (omega arith) e in let no : m ≡ 0 = has z in absurd (omega arith)
root_of_ground s a Q m [] (Some x) filled e in' has = let none : Q * 0 ≡ 0 = mul-zero Q in let some : 0 < m = has.1 in absurd (omega arith)
root_of_ground s a Q m (b ∷ bs) (Some x) filled e in' has = (has.0, first_is (b ∷ bs) (suc (length bs)) false (omega arith) (omega arith) in', has.2)

-- and one that becomes a span again
root_of_span : (s : Site) (a Q m : ℕ) (lent : List Bool) (r : Option Root) → 0 < Q → m ≡ Q * length lent → AreAll lent 0 (length lent) false → KeepsItsRoot s a lent r → HasItsRoot s a m r
root_of_span s a Q m [] None filled e in' kept = λ z. let none : Q * 0 ≡ 0 = mul-zero Q in omega arith
root_of_span s a Q m (b ∷ bs) None filled e in' kept = λ z. absurd (not_out (b ∷ bs) (suc (length bs)) (omega arith) (omega arith) in' (kept z))
root_of_span s a Q m [] (Some x) filled e in' kept = absurd kept.1
root_of_span s a Q m (b ∷ bs) (Some x) filled e in' kept = (kept.0, some_bytes Q (suc (length bs)) m filled (omega arith) e, kept.2)

-- the root's facts are of the space alone
moved_root : {s t : Site} (a : ℕ) (lent : List Bool) (r : Option Root) → s ≡ t → KeepsItsRoot s a lent r → KeepsItsRoot t a lent r
moved_root a lent r e k = let F = λ (u : Site). KeepsItsRoot u a lent r in subst F e k

moved_at : {s t : Site} {a b : ℕ} (p : Ptr) → s ≡ t → a ≡ b → IsAt p s a → IsAt p t b
moved_at {s} {t} {a} {b} p e f k = let F = λ (u : Site). IsAt p u a in let G = λ (c : ℕ). IsAt p t c in subst G f (subst F e k)

same_size : {s t : Site} → s ≡ t → s.size ≡ t.size
same_size e = ap (λ (s : Site). s.size) e

-- what a span becomes
pub ground_of : (Q : ℕ) (v : Vec ℕ Lodged) (a : ℕ) (d : Deed) (lent : List Bool) (r : Option Root) (k : Kept) → IsSpan v a d r → 0 < Q → length v.items ≡ Q * length lent
    → AllWithin (λ b. b ≡ false) lent 0 (length lent) → KeptOf k d.space d.first Q (replicate (length lent) false) v.items → IsGround Q v.ptr a lent r k
ground_of Q v a d lent r k held filled whole none kept =
    let in' : AreAll lent 0 (length lent) false = are_all false lent 0 (length lent) (length lent) (omega arith) (omega arith) none in
    let flags : replicate (length lent) false ≡ lent = sym in' ∙ take-length lent in
    let size : d.space.size ≡ k.space.size = sym (same_size kept.space) in
    let end : a + length v.items ≤ d.space.size = held.inside.0 in
    let small : d.space.size < 2 ^ 63 = held.inside.1 in
    record {
      quantum = kept.quantum;
      filled = filled;
      at = kept.first ∙ held.at;
      flags = kept.lent ∙ flags;
      size = ap length kept.bytes ∙ whole;
      placed = λ some. moved_at v.ptr (sym kept.space) held.at (held.laid.placed (some_bytes Q (length lent) (length v.items) filled some whole));
      inside = (omega arith, omega arith);
      rooted = moved_root a lent r (sym kept.space) (root_of_ground d.space a Q (length v.items) lent r filled whole in' held.rooted);
    }

-- where other flags are set, and other bytes written
pub ground_after : (Q : ℕ) (p : Ptr) (a : ℕ) (lent lent' : List Bool) (r r' : Option Root) (k k' : Kept) (ys : List ℕ) (q n : ℕ) (v : Bool) → IsGround Q p a lent r k → q + n ≤ length lent
    → KeptOf k' k.space k.first k.quantum (marked k.lent q n v) ys → length ys ≡ length k.bytes → lent' ≡ marked lent q n v → KeepsItsRoot k.space a (marked lent q n v) r' → IsGround Q p a lent' r' k'
ground_after Q p a lent lent' r r' k k' ys q n v was within kept long flags rooted =
    let count : length lent' ≡ length lent = ap length flags ∙ length-marked v lent q n within in
    let L = λ (l : List Bool). KeepsItsRoot k.space a l r' in
    let size : k.space.size ≡ k'.space.size = sym (same_size kept.space) in
    let end : a + Q * length lent ≤ k.space.size = was.inside.0 in
    let same : Q * length lent' ≡ Q * length lent = ap (λ m. Q * m) count in
    let small : k.space.size < 2 ^ 63 = was.inside.1 in
    record {
      quantum = kept.quantum ∙ was.quantum;
      filled = was.filled;
      at = kept.first ∙ was.at;
      flags = kept.lent ∙ ap (λ l. marked l q n v) was.flags ∙ sym flags;
      size = ap length kept.bytes ∙ long ∙ was.size ∙ sym same;
      placed = λ some. moved_at p (sym kept.space) refl (was.placed (omega arith));
      inside = (omega arith, omega arith);
      rooted = moved_root a lent' r' (sym kept.space) (subst L (sym flags) rooted);
    }

-- how long these quanta are
pub long_plot : (Q : ℕ) (p : Ptr) (a : ℕ) (lent : List Bool) (r : Option Root) (k : Kept) (u : Plot) (q n : ℕ) → IsGround Q p a lent r k → q + n ≤ length lent
    → PlotOf u k.space (k.first + k.quantum * q) (take (k.quantum * n) (drop (k.quantum * q) k.bytes)) → length u.bytes ≡ Q * n
long_plot Q p a lent r k u q n was within plot =
    let low : Q * q + Q * n ≤ length k.bytes = times_within Q q n (length lent) (length k.bytes) within was.size in
    ap length plot.bytes ∙ ap (λ R. length (take (R * n) (drop (R * q) k.bytes))) was.quantum ∙ length-take-le (Q * n) (drop (Q * q) k.bytes) (part_within k.bytes (Q * q) (Q * n) low)

-- a span over quanta that went out
pub span_of_quanta : (Q : ℕ) (p : Ptr) (a : ℕ) (lent : List Bool) (r r' : Option Root) (k : Kept) (l : Vec ℕ Lodged × Deed) (u : Plot) (q n : ℕ) → IsGround Q p a lent r k → q + n ≤ length lent
    → PlotOf u k.space (k.first + k.quantum * q) (take (k.quantum * n) (drop (k.quantum * q) k.bytes)) → LaidAs l u.space u.first u.bytes → HasItsRoot k.space (a + Q * q) (Q * n) r' → IsSpan l.0 (a + Q * q) l.1 r'
span_of_quanta Q p a lent r r' k l u q n was within plot laid rooted =
    let low : Q * q + Q * n ≤ length k.bytes = times_within Q q n (length lent) (length k.bytes) within was.size in
    let long : length l.0.items ≡ Q * n = ap length laid.items ∙ long_plot Q p a lent r k u q n was within plot in
    let space : k.space ≡ l.1.space = sym (laid.space ∙ plot.space) in
    let first : k.first + k.quantum * q ≡ a + Q * q = ap (λ b. b + k.quantum * q) was.at ∙ ap (λ R. a + R * q) was.quantum in
    let size : k.space.size ≡ l.1.space.size = same_size space in
    let end : a + Q * length lent ≤ k.space.size = was.inside.0 in
    let whole : length k.bytes ≡ Q * length lent = was.size in
    let small : k.space.size < 2 ^ 63 = was.inside.1 in
    let S = λ (t : Site). HasItsRoot t (a + Q * q) (Q * n) r' in
    let N = λ (m : ℕ). HasItsRoot l.1.space (a + Q * q) m r' in
    record {
      at = laid.first ∙ plot.first ∙ first;
      laid = laid.laid;
      inside = (omega arith, omega arith);
      rooted = subst N (sym long) (subst S space rooted);
    }

-- what the flags say, as they are stored
pub ready : (v : Bool) (fs lent : List Bool) (q n : ℕ) → lent ≡ fs → q + n ≤ length fs → AllWithin (λ b. b ≡ v) fs q (q + n) → (q + n ≤ length lent) × AreAll lent q n v
ready v fs lent q n e h each = let F = λ (l : List Bool). (q + n ≤ length l) × AreAll l q n v in subst F (sym e) (h, are_all v fs q n (q + n) refl h each)

pub within_is : (fs lent : List Bool) (q n : ℕ) → lent ≡ fs → q + n ≤ length fs → q + n ≤ length lent
within_is fs lent q n e h = let F = λ (l : List Bool). q + n ≤ length l in subst F (sym e) h

-- what may go out
pub may_take : (Q : ℕ) (p : Ptr) (a : ℕ) (lent : List Bool) (r : Option Root) (k j : Kept) (q n : ℕ) → IsGround Q p a lent r k → j ≡ k → q + n ≤ length lent → AreAll lent q n false
    → AreAll j.lent q n false × (length j.bytes ≡ j.quantum * length j.lent) × (q + n ≤ length j.lent)
may_take Q p a lent r k j q n was same within out =
    let F = λ (l : List Bool). AreAll l q n false × (length k.bytes ≡ k.quantum * length l) × (q + n ≤ length l) in
    let G = λ (m : Kept). AreAll m.lent q n false × (length m.bytes ≡ m.quantum * length m.lent) × (q + n ≤ length m.lent) in
    subst G (sym same) (subst F (sym was.flags) (out, was.size ∙ ap (λ R. R * length lent) (sym was.quantum), within))

-- what went out, and what is left
pub took : (k j k' : Kept) (u : Plot) (q n : ℕ) → j ≡ k → KeptOf k' j.space j.first j.quantum (marked j.lent q n true) j.bytes × PlotOf u j.space (j.first + j.quantum * q) (take (j.quantum * n) (drop (j.quantum * q) j.bytes))
    → KeptOf k' k.space k.first k.quantum (marked k.lent q n true) k.bytes × PlotOf u k.space (k.first + k.quantum * q) (take (k.quantum * n) (drop (k.quantum * q) k.bytes))
took k j k' u q n same t =
    let F = λ (m : Kept). KeptOf k' m.space m.first m.quantum (marked m.lent q n true) m.bytes × PlotOf u m.space (m.first + m.quantum * q) (take (m.quantum * n) (drop (m.quantum * q) m.bytes)) in
    subst F same t

-- what is there once it came back
pub took_back : (k j k' : Kept) (ps : List ℕ) (q n : ℕ) → j ≡ k → AreAll j.lent q n true × KeptOf k' j.space j.first j.quantum (marked j.lent q n false) (written j.bytes (j.quantum * q) ps)
    → AreAll k.lent q n true × KeptOf k' k.space k.first k.quantum (marked k.lent q n false) (written k.bytes (k.quantum * q) ps)
took_back k j k' ps q n same t =
    let F = λ (m : Kept). AreAll m.lent q n true × KeptOf k' m.space m.first m.quantum (marked m.lent q n false) (written m.bytes (m.quantum * q) ps) in
    subst F same t

-- a number of whole quanta
pub whole_quanta : (Q m : ℕ) → 0 < Q → m % Q ≡ 0 → m ≡ Q * (m / Q)
whole_quanta Q m h e = let both : Q * (m / Q) + m % Q ≡ m = div-add-mod m Q in omega arith

-- quanta that are within by their bytes
pub quanta_within : (Q q n l : ℕ) → 0 < Q → Q * q + Q * n ≤ Q * l → q + n ≤ l
quanta_within Q q n l h e = let apart : Q * (q + n) ≡ Q * q + Q * n = mul-add Q q n in le_of_mul-le-mul_left (let low : Q * (q + n) ≤ Q * l = omega arith in low) h

-- the flags as they are kept are those that are stored
out_is : (Q : ℕ) (p : Ptr) (a : ℕ) (lent : List Bool) (r : Option Root) (k : Kept) (q n : ℕ) → IsGround Q p a lent r k → AreAll k.lent q n true → AreAll lent q n true
out_is Q p a lent r k q n was out = let F = λ (l : List Bool). AreAll l q n true in subst F was.flags out

-- how many bytes there are then
pub length_back : (Q : ℕ) (p : Ptr) (a : ℕ) (lent : List Bool) (r : Option Root) (k : Kept) (ps : List ℕ) (q n : ℕ) → IsGround Q p a lent r k → q + n ≤ length lent → length ps ≡ Q * n → length (written k.bytes (k.quantum * q) ps) ≡ length k.bytes
length_back Q p a lent r k ps q n was within long =
    let low : Q * q + Q * n ≤ length k.bytes = times_within Q q n (length lent) (length k.bytes) within was.size in
    let same : k.quantum * q ≡ Q * q = ap (λ R. R * q) was.quantum in
    length-written k.bytes ps (k.quantum * q) (omega arith)

-- they were lent
pub were_lent : (Q : ℕ) (p : Ptr) (a : ℕ) (fs lent : List Bool) (r : Option Root) (k : Kept) (q n : ℕ) → IsGround Q p a lent r k → lent ≡ fs → q + n ≤ length fs → AreAll k.lent q n true → AllWithin (λ b. b ≡ true) fs q (q + n)
were_lent Q p a fs lent r k q n was e within out = let F = λ (l : List Bool). AreAll l q n true in all_within true fs q n within (subst F e (out_is Q p a lent r k q n was out))

-- a ground that a span came back to
pub ground_back : (Q : ℕ) (p : Ptr) (a : ℕ) (lent lent' : List Bool) (r : Option Root) (k k' : Kept) (v : Vec ℕ Lodged) (f : ℕ) (d : Deed) (r' r'' : Option Root) (u : Plot) (q n : ℕ) → IsGround Q p a lent r k → IsSpan v f d r' → q + n ≤ length lent
    → d.space ≡ k.space → f ≡ a + Q * q → length v.items ≡ Q * n → u.bytes ≡ v.items → AreAll k.lent q n true × KeptOf k' k.space k.first k.quantum (marked k.lent q n false) (written k.bytes (k.quantum * q) u.bytes)
    → lent' ≡ marked lent q n false → r'' ≡ option_or r' r → IsGround Q p a lent' r'' k'
ground_back Q p a lent lent' r k k' v f d r' r'' u q n was held within space first long bytes t flags root =
    let S = λ (s : Site). HasItsRoot s f (length v.items) r' in
    let A = λ (b : ℕ). HasItsRoot k.space b (length v.items) r' in
    let R = λ (x : Option Root). KeepsItsRoot k.space a (marked lent q n false) x in
    let has : HasItsRoot k.space (a + Q * q) (length v.items) r' = subst A first (subst S space held.rooted) in
    let rooted = root_back k.space a Q lent r r' q n (length v.items) was.filled within (out_is Q p a lent r k q n was t.0) was.rooted has long in
    ground_after Q p a lent lent' r r'' k k' (written k.bytes (k.quantum * q) u.bytes) q n false was within t.1 (length_back Q p a lent r k u.bytes q n was within (ap length bytes ∙ long)) flags (subst R (sym root) rooted)

-- a span of a whole ground
pub span_of_ground : (Q : ℕ) (p : Ptr) (a : ℕ) (lent : List Bool) (r : Option Root) (k : Kept) (l : Vec ℕ Lodged × Deed) (u : Plot) (n : ℕ) → IsGround Q p a lent r k → n ≡ length lent → AreAll lent 0 n false
    → PlotOf u k.space (k.first + k.quantum * 0) (take (k.quantum * n) (drop (k.quantum * 0) k.bytes)) → LaidAs l u.space u.first u.bytes → IsSpan l.0 a l.1 r
span_of_ground Q p a lent r k l u n was all out plot laid =
    let none : Q * 0 ≡ 0 = mul-zero Q in
    let here : a + Q * 0 ≡ a = omega arith in
    let C = λ (m : ℕ). AreAll lent 0 m false in
    let A = λ (b : ℕ). HasItsRoot k.space b (Q * n) r in
    let F = λ (b : ℕ). IsSpan l.0 b l.1 r in
    let rooted : HasItsRoot k.space a (Q * n) r = root_of_span k.space a Q (Q * n) lent r was.filled (ap (λ m. Q * m) all) (subst C all out) was.rooted in
    subst F here (span_of_quanta Q p a lent r r k l u 0 n was (omega arith) plot laid (subst A (sym here) rooted))

-- where a span of whole quanta is
pub quantum_at : (Q F A f a : ℕ) → 0 < Q → f ≡ F → a ≡ A → A ≤ F → (F - A) % Q ≡ 0 → F ≡ A + Q * ((f - a) / Q)
quantum_at Q F A f a h e e' low whole =
    let there : F - A ≡ Q * ((F - A) / Q) = whole_quanta Q (F - A) h whole in
    let same : Q * ((F - A) / Q) ≡ Q * ((f - a) / Q) = ap (λ m. Q * (m / Q)) (ap (λ x. x - A) (sym e) ∙ ap (λ x. f - x) (sym e')) in
    omega arith

-- how many it has
pub quanta_of : (Q L l : ℕ) → 0 < Q → l ≡ L → L % Q ≡ 0 → L ≡ Q * (l / Q)
quanta_of Q L l h e whole = whole_quanta Q L h whole ∙ ap (λ m. Q * (m / Q)) (sym e)

-- they are quanta of the ground
pub quanta_here : (Q F A L q n c : ℕ) → 0 < Q → F ≡ A + Q * q → L ≡ Q * n → F + L ≤ A + Q * c → q + n ≤ c
quanta_here Q F A L q n c h at long end = quanta_within Q q n c h (omega arith)
