-- The number and the bytes of the live blocks after an event. Blocks that are as often among some as among others add up to the same.
use Rattle.std.proofs.Common.{◌≡◌, ℕ, ◌+◌, ◌<◌, ◌≤◌, Bool, true, false, cond, not, List, [], ◌∷◌, ◌++◌, map, filter, length, arith, refl, ap, sym, subst, ◌∙◌, inl, inr}
use Rattle.std.specs.Prelude.{◌&&◌, ◌||◌, sum_by, nat_lt}
use Rattle.std.specs.List.{list_any, All}
use Rattle.std.proofs.lemmas.Bool.{cases_Bool, false≢true}
use Rattle.std.proofs.lemmas.List.{length-map}
use Rattle.std.proofs.lemmas.List.Sums.{sum_by-append, sum_by-cons}
use Rattle.std.proofs.lemmas.List.Elements.{All-head, All-tail}
use Rattle.mz_base.specs.declared.profile.Profile.{Profile}
use Rattle.mz_base.specs.Space.{Block, block_at, block_end, same_block}
use Rattle.mz_base.specs.Lists.{insert_by}
use Rattle.mz_events.specs.declared.entry.Entry.{Entry}
use Rattle.mz_events.specs.declared.place.Place.{Place}
use Rattle.mz_events.specs.declared.event.Event.{Event}
use Rattle.mz_events.specs.declared.event.Event.TheVariants.{Take, Back, Move, New, End, Size, Full, Dry, No, Open, Shut}
use Rattle.mz_events.specs.Places.{Spot, spot_at}
use Rattle.mz_events.specs.State.{State, opening, live_blocks}
use Rattle.mz_events.specs.Changes.{one_for}
use Rattle.mz_events.specs.Effect.{after}
use Rattle.mz_events.specs.Rules.{Fits}
use Rattle.mz_events.specs.History.{AreLawful, after_all}
use Rattle.mz_events.specs.Separation.{InOrder, by_address}
use Rattle.mz_book.specs.Account.{is_live, entry_at}
use Rattle.mz_book.specs.Living.{times, blocks_of, made_by, ended_by, SumsAfter}
use Rattle.mz_book.specs.HistoryLaws.{HistoryLaws}
use Rattle.mz_book.proofs.OwnerLemmas.{same_true, same_refl}
use Rattle.mz_book.proofs.LiveLemmas.{to_live, once_s, once_t, then_lawful, then_is, live_after, new_is_fresh, sized_is_fresh}

-- how often: one element at a time

times_case : (b x : Block) (xs : List Block) (d : Bool) → length (cond d (x ∷ filter (same_block b) xs) (filter (same_block b) xs)) ≡ one_for d + times b xs
times_case b x xs true = omega arith
times_case b x xs false = omega arith

times_cons : (b x : Block) (xs : List Block) → times b (x ∷ xs) ≡ one_for (same_block b x) + times b xs
times_cons b x xs = times_case b x xs (same_block b x)

times_joined : (b : Block) (xs ys : List Block) → times b (xs ++ ys) ≡ times b xs + times b ys
times_joined b [] ys = omega arith
times_joined b (x ∷ xs) ys = times_cons b x (xs ++ ys) ∙ (ap (λ n. one_for (same_block b x) + n) (times_joined b xs ys) ∙ (let h = times_cons b x xs in omega (arith, h)))

-- the list without the block, where it first stands
without : Block → List Block → List Block
without b [] = []
without b (x ∷ xs) = cond (same_block b x) xs (x ∷ without b xs)

without_case : (c b x : Block) (xs : List Block) (d : Bool) → same_block b x ≡ d → (1 ≤ times b xs → times c (without b xs) + one_for (same_block c b) ≡ times c xs)
    → 1 ≤ times b (x ∷ xs) → times c (cond d xs (x ∷ without b xs)) + one_for (same_block c b) ≡ times c (x ∷ xs)
without_case c b x xs true same go some =
    let here : one_for (same_block c b) ≡ one_for (same_block c x) = ap (λ y. one_for (same_block c y)) (same_true b x same) in
    let all = times_cons c x xs in
    omega (arith, here, all)
without_case c b x xs false other go some =
    let n = times_cons b x xs in
    let none : one_for (same_block b x) ≡ 0 = ap one_for other in
    let ih = go (omega (arith, n, none, some)) in
    let u = times_cons c x (without b xs) in
    let v = times_cons c x xs in
    omega (arith, ih, u, v)

without_times : (c b : Block) (xs : List Block) → 1 ≤ times b xs → times c (without b xs) + one_for (same_block c b) ≡ times c xs
unfolding without
without_times c b [] some = absurd (omega (arith, some))
without_times c b (x ∷ xs) some = without_case c b x xs (same_block b x) refl (λ more. without_times c b xs more) some

sum_case : (f : Block → ℕ) (b x : Block) (xs : List Block) (d : Bool) → same_block b x ≡ d → (1 ≤ times b xs → sum_by f (without b xs) + f b ≡ sum_by f xs)
    → 1 ≤ times b (x ∷ xs) → sum_by f (cond d xs (x ∷ without b xs)) + f b ≡ sum_by f (x ∷ xs)
sum_case f b x xs true same go some =
    let here : f b ≡ f x = ap f (same_true b x same) in
    let all = sum_by-cons f x xs in
    omega (arith, here, all)
sum_case f b x xs false other go some =
    let n = times_cons b x xs in
    let none : one_for (same_block b x) ≡ 0 = ap one_for other in
    let ih = go (omega (arith, n, none, some)) in
    let u = sum_by-cons f x xs in
    let v = sum_by-cons f x (without b xs) in
    omega (arith, ih, u, v)

without_sum : (f : Block → ℕ) (b : Block) (xs : List Block) → 1 ≤ times b xs → sum_by f (without b xs) + f b ≡ sum_by f xs
unfolding without
without_sum f b [] some = absurd (omega (arith, some))
without_sum f b (x ∷ xs) some = sum_case f b x xs (same_block b x) refl (λ more. without_sum f b xs more) some

-- blocks that are as often among some as among others add up to the same
pub sums_agree : (f : Block → ℕ) (xs ys : List Block) → ((b : Block) → times b xs ≡ times b ys) → sum_by f xs ≡ sum_by f ys
sums_agree f [] [] same = refl
sums_agree f [] (y ∷ ys) same =
    let n = times_cons y y ys in
    let one : one_for (same_block y y) ≡ 1 = ap one_for (same_refl y) in
    let none = same y in
    absurd (omega (arith, n, one, none))
sums_agree f (x ∷ xs) ys same =
    let n = times_cons x x xs in
    let one : one_for (same_block x x) ≡ 1 = ap one_for (same_refl x) in
    let all = same x in
    let some : 1 ≤ times x ys = omega (arith, n, one, all) in
    let rest : (b : Block) → times b xs ≡ times b (without x ys) = λ b.
    let u = times_cons b x xs in
    let v = without_times b x ys some in
    let w = same b in
    omega (arith, u, v, w) in
    let ih = sums_agree f xs (without x ys) rest in
    let last = without_sum f x ys some in
    let sum = sum_by-cons f x xs in
    omega (arith, ih, last, sum)

-- in ascending order a block stands once at most

none_behind : (x : Block) (xs : List (Spot × Block)) → x.first < block_end x → All (λ y. block_end x ≤ y.1.first) xs → times x (map (λ y. y.1) xs) ≡ 0
none_behind x [] some behind = refl
none_behind x (y ∷ ys) some behind =
    let far : block_end x ≤ y.1.first = All-head (λ (z : Spot × Block). block_end x ≤ z.1.first) y ys behind in
    let ih = none_behind x ys some (All-tail (λ (z : Spot × Block). block_end x ≤ z.1.first) y ys behind) in
    let n = times_cons x y.1 (map (λ z. z.1) ys) in
    elim (cases_Bool (same_block x y.1)) [
      | inl same ↦
          let at : x.first ≡ y.1.first = ap (λ z. z.first) (same_true x y.1 same) in
          absurd (omega (arith, far, some, at))
      | inr other ↦
          let none : one_for (same_block x y.1) ≡ 0 = ap one_for other in
          omega (arith, ih, n, none)
    ]

times_at_most_once : (b : Block) (xs : List (Spot × Block)) → InOrder (λ x. x.1.first) (λ x. block_end x.1) xs → times b (map (λ x. x.1) xs) ≤ 1
times_at_most_once b [] order = omega arith
times_at_most_once b (x ∷ xs) order =
    let n = times_cons b x.1 (map (λ y. y.1) xs) in
    elim (cases_Bool (same_block b x.1)) [
      | inl same ↦
          let one : one_for (same_block b x.1) ≡ 1 = ap one_for same in
          let none : times b (map (λ y. y.1) xs) ≡ 0 = subst (λ z. times z (map (λ y. y.1) xs) ≡ 0) (sym (same_true b x.1 same)) (none_behind x.1 xs order.0 order.1) in
          omega (arith, n, one, none)
      | inr other ↦
          let none : one_for (same_block b x.1) ≡ 0 = ap one_for other in
          let ih = times_at_most_once b xs order.2 in
          omega (arith, n, none, ih)
    ]

-- sorting counts nothing twice

insert_case : (b : Block) (x y : Spot × Block) (ys zs : List (Spot × Block)) (d : Bool) → times b (map (λ z. z.1) zs) ≡ one_for (same_block b x.1) + times b (map (λ z. z.1) ys)
    → times b (map (λ z. z.1) (cond d (x ∷ y ∷ ys) (y ∷ zs))) ≡ one_for (same_block b x.1) + times b (map (λ z. z.1) (y ∷ ys))
insert_case b x y ys zs true ih = times_cons b x.1 (map (λ z. z.1) (y ∷ ys))
insert_case b x y ys zs false ih =
    let u = times_cons b y.1 (map (λ z. z.1) zs) in
    let v = times_cons b y.1 (map (λ z. z.1) ys) in
    omega (arith, ih, u, v)

times_inserted : (b : Block) (x : Spot × Block) (ys : List (Spot × Block)) → times b (map (λ z. z.1) (insert_by (λ z. z.1.first) x ys)) ≡ one_for (same_block b x.1) + times b (map (λ z. z.1) ys)
unfolding insert_by
times_inserted b x [] = times_cons b x.1 []
times_inserted b x (y ∷ ys) = insert_case b x y ys (insert_by (λ z. z.1.first) x ys) (nat_lt x.1.first y.1.first) (times_inserted b x ys)

pub times_sorted : (b : Block) (xs : List (Spot × Block)) → times b (map (λ x. x.1) (by_address xs)) ≡ times b (map (λ x. x.1) xs)
unfolding by_address
times_sorted b [] = refl
times_sorted b (x ∷ xs) =
    let u = times_inserted b x (by_address xs) in
    let v = times_cons b x.1 (map (λ y. y.1) xs) in
    let ih = times_sorted b xs in
    omega (arith, u, v, ih)

-- a block is there exactly where the test finds it
any_times : (b : Block) (xs : List (Spot × Block)) → one_for (list_any (λ x. same_block b x.1) xs) ≤ times b (map (λ x. x.1) xs)
any_times b [] = omega arith
any_times b (x ∷ xs) =
    let n = times_cons b x.1 (map (λ y. y.1) xs) in
    let ih = any_times b xs in
    either (same_block b x.1) (list_any (λ y. same_block b y.1) xs) n ih
  where
    either : (d e : Bool) → times b (map (λ y. y.1) (x ∷ xs)) ≡ one_for d + times b (map (λ y. y.1) xs) → one_for e ≤ times b (map (λ y. y.1) xs) → one_for (d || e) ≤ times b (map (λ y. y.1) (x ∷ xs))
    either true e n ih = omega (arith, n)
    either false e n ih = omega (arith, n, ih)

none_times : (b : Block) (xs : List (Spot × Block)) → list_any (λ x. same_block b x.1) xs ≡ false → times b (map (λ x. x.1) xs) ≡ 0
none_times b [] none = refl
none_times b (x ∷ xs) none =
    let n = times_cons b x.1 (map (λ y. y.1) xs) in
    neither (same_block b x.1) (list_any (λ y. same_block b y.1) xs) n none (λ rest. none_times b xs rest)
  where
    neither : (d e : Bool) → times b (map (λ y. y.1) (x ∷ xs)) ≡ one_for d + times b (map (λ y. y.1) xs) → (d || e) ≡ false → (e ≡ false → times b (map (λ y. y.1) xs) ≡ 0) → times b (map (λ y. y.1) (x ∷ xs)) ≡ 0
    neither true e n none go = absurd (false≢true (sym none))
    neither false e n none go = let ih = go none in omega (arith, n, ih)

pub live_once : (L : HistoryLaws) (p : Profile) (es : List Entry) (b : Block) → AreLawful p opening es → times b (blocks_of (after_all p opening es)) ≡ one_for (is_live (after_all p opening es) b)
live_once L p es b ok =
    let s : State = after_all p opening es in
    let few : times b (blocks_of s) ≤ 1 =
    let sorted = times_sorted b (live_blocks s) in
    let once = times_at_most_once b (by_address (live_blocks s)) (L.ascending p es ok).all in
    omega (arith, sorted, once) in
    elim (cases_Bool (is_live s b)) [
      | inl live ↦
          let one : one_for (is_live s b) ≡ 1 = ap one_for live in
          let some = any_times b (live_blocks s) in
          omega (arith, few, one, some)
      | inr dead ↦ none_times b (live_blocks s) dead ∙ sym (ap one_for dead)
    ]

-- what the event makes and ends, counted

made_case : (x now was : Bool) → now ≡ (x || was) → (x ≡ true → was ≡ false) → one_for now + 0 ≡ one_for was + one_for x
made_case true now true h fresh = absurd (false≢true (sym (fresh refl)))
made_case true now false h fresh = let u : one_for now ≡ 1 = ap one_for h in omega (arith, u)
made_case false now was h fresh = let u : one_for now ≡ one_for was = ap one_for h in omega (arith, u)

ended_case : (x now was : Bool) → now ≡ (not x && was) → (x ≡ true → was ≡ true) → one_for now + one_for x ≡ one_for was + 0
ended_case true now true h there = let u : one_for now ≡ 0 = ap one_for h in omega (arith, u)
ended_case true now false h there = absurd (false≢true (there refl))
ended_case false now was h there = let u : one_for now ≡ one_for was = ap one_for h in omega (arith, u)

sized_case : (x y now was : Bool) → now ≡ (y || (not x && was)) → (x ≡ true → was ≡ true) → (y ≡ true → x ≡ false → was ≡ false) → one_for now + one_for x ≡ one_for was + one_for y
sized_case true y now false h there fresh = absurd (false≢true (there refl))
sized_case true true now true h there fresh = let u : one_for now ≡ 1 = ap one_for h in omega (arith, u)
sized_case true false now true h there fresh = let u : one_for now ≡ 0 = ap one_for h in omega (arith, u)
sized_case false true now true h there fresh = absurd (false≢true (sym (fresh refl refl)))
sized_case false true now false h there fresh = let u : one_for now ≡ 1 = ap one_for h in omega (arith, u)
sized_case false false now was h there fresh = let u : one_for now ≡ one_for was = ap one_for h in omega (arith, u)

-- sums over live blocks, each with its spot

sizes_mapped : (xs : List (Spot × Block)) → sum_by (λ b. b.size) (map (λ x. x.1) xs) ≡ sum_by (λ x. x.1.size) xs
sizes_mapped [] = refl
sizes_mapped (x ∷ xs) =
    let u = sum_by-cons (λ (b : Block). b.size) x.1 (map (λ y. y.1) xs) in
    let v = sum_by-cons (λ (y : Spot × Block). y.1.size) x xs in
    let ih = sizes_mapped xs in
    omega (arith, u, v, ih)

ones : (xs : List Block) → sum_by (λ b. 1) xs ≡ length xs
ones [] = refl
ones (x ∷ xs) =
    let u = sum_by-cons (λ (b : Block). 1) x xs in
    let ih = ones xs in
    omega (arith, u, ih)

times_one : (b x : Block) → times b (x ∷ []) ≡ one_for (same_block b x)
times_one b x = let n = times_cons b x [] in omega (arith, n)

module _ (L : HistoryLaws) (p : Profile) (es : List Entry) (c : ℕ) (ok : AreLawful p opening es) where
  abbrev st : State
  st = after_all p opening es

  abbrev then : Event → State
  then e = after p st c e

  same_sum : (e : Event) (b : Block) → is_live (then e) b ≡ is_live st b → one_for (is_live (then e) b) + 0 ≡ one_for (is_live st b) + 0
  same_sum e b same = ap (λ d. one_for d + 0) same

  -- a block that ends is live
  end_is_live : (k : Place) (a n : ℕ) → Fits p st c (End k a n) → is_live st (block_at a n) ≡ true
  end_is_live k a n f = to_live L st (block_at a n) (once_s L p es c (End k a n) ok f) (spot_at k a, (((L.fits p st c).ends k a n).0 f).live)

  size_is_live : (k : Place) (a n m : ℕ) → Fits p st c (Size k a n m) → is_live st (block_at a n) ≡ true
  size_is_live k a n m f = to_live L st (block_at a n) (once_s L p es c (Size k a n m) ok f) (spot_at k a, (((L.fits p st c).resize k a n m).0 f).live)

  balanced : (e : Event) (b : Block) → Fits p st c e → one_for (is_live (then e) b) + times b (ended_by e) ≡ one_for (is_live st b) + times b (made_by e)
  balanced (New k a n al) b f =
      let d = block_at a n in
      made_case (same_block b d) _ _ (live_after L p es c ok (New k a n al) b f)
      (λ same. ap (is_live st) (same_true b d same) ∙ new_is_fresh L p es c ok k a n al f)
      ∙ ap (λ i. one_for (is_live st b) + i) (sym (times_one b d))
  balanced (End k a n) b f =
      let d = block_at a n in
      ap (λ i. one_for (is_live (then (End k a n)) b) + i) (times_one b d)
      ∙ ended_case (same_block b d) _ _ (live_after L p es c ok (End k a n) b f)
      (λ same. ap (is_live st) (same_true b d same) ∙ end_is_live k a n f)
  balanced (Size k a n m) b f =
      let d = block_at a n in
      let g = block_at a m in
      ap (λ i. one_for (is_live (then (Size k a n m)) b) + i) (times_one b d)
      ∙ (sized_case (same_block b d) (same_block b g) _ _ (live_after L p es c ok (Size k a n m) b f)
      (λ same. ap (is_live st) (same_true b d same) ∙ size_is_live k a n m f)
      (λ same other. ap (is_live st) (same_true b g same) ∙ sized_is_fresh L p es c ok k a n m f (sym (ap (λ z. same_block z d) (same_true b g same)) ∙ other))
      ∙ ap (λ i. one_for (is_live st b) + i) (sym (times_one b g)))
  balanced (Take k g w) b f = same_sum (Take k g w) b (live_after L p es c ok (Take k g w) b f)
  balanced (Back k g w) b f = same_sum (Back k g w) b (live_after L p es c ok (Back k g w) b f)
  balanced (Move g from to) b f = same_sum (Move g from to) b (live_after L p es c ok (Move g from to) b f)
  balanced (Full k n al) b f = same_sum (Full k n al) b (live_after L p es c ok (Full k n al) b f)
  balanced (Dry z w al) b f = same_sum (Dry z w al) b (live_after L p es c ok (Dry z w al) b f)
  balanced (No k z a n) b f = same_sum (No k z a n) b (live_after L p es c ok (No k z a n) b f)
  balanced (Open z) b f = same_sum (Open z) b (live_after L p es c ok (Open z) b f)
  balanced (Shut z) b f = same_sum (Shut z) b (live_after L p es c ok (Shut z) b f)

  -- and so any number that is added up over them
  pub sum_after : (f : Block → ℕ) (e : Event) → Fits p st c e → sum_by f (blocks_of (then e)) + sum_by f (ended_by e) ≡ sum_by f (blocks_of st) + sum_by f (made_by e)
  sum_after f e fits =
      let counts : (b : Block) → times b (blocks_of (then e) ++ ended_by e) ≡ times b (blocks_of st ++ made_by e) = λ b.
      let u = times_joined b (blocks_of (then e)) (ended_by e) in
      let v = times_joined b (blocks_of st) (made_by e) in
      let x : times b (blocks_of (then e)) ≡ one_for (is_live (then e) b) =
      subst (λ (s : State). times b (blocks_of s) ≡ one_for (is_live s b)) (then_is L p es c e ok fits) (live_once L p (es ++ entry_at st.entries c e ∷ []) b (then_lawful L p es c e ok fits)) in
      let y : times b (blocks_of st) ≡ one_for (is_live st b) = live_once L p es b ok in
      let z = balanced e b fits in
      omega (arith, u, v, x, y, z) in
      let all = sums_agree f (blocks_of (then e) ++ ended_by e) (blocks_of st ++ made_by e) counts in
      let left = sum_by-append f (blocks_of (then e)) (ended_by e) in
      let right = sum_by-append f (blocks_of st) (made_by e) in
      omega (arith, all, left, right)

  pub sums_after : (e : Event) → Fits p st c e → SumsAfter e st (then e)
  sums_after e f = record {
    number =
        let all = sum_after (λ b. 1) e f in
        let u = ones (blocks_of (then e)) in
        let v = ones (blocks_of st) in
        let x = ones (ended_by e) in
        let y = ones (made_by e) in
        let m = length-map (live_blocks (then e)) (λ (z : Spot × Block). z.1) in
        let n = length-map (live_blocks st) (λ (z : Spot × Block). z.1) in
        omega (arith, all, u, v, x, y, m, n);
    bytes =
        let all = sum_after (λ b. b.size) e f in
        let u = sizes_mapped (live_blocks (then e)) in
        let v = sizes_mapped (live_blocks st) in
        let x = (L.by_spot (then e) (once_t L p es c e ok f)).size in
        let y = (L.by_spot st (once_s L p es c e ok f)).size in
        omega (arith, all, u, v, x, y);
  }
