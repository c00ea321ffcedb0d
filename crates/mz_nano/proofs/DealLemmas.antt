-- Seats by their places in a list, and slots that move between them.
use Rattle.std.proofs.Common.{◌≡◌, ℕ, zero, suc, ◌+◌, ◌<◌, ◌≤◌, ◌⊎◌, List, [], ◌∷◌, ◌++◌, length, map, get_or, set, drop, Option, refl, sym, ap, ◌∙◌, subst, arith, inl, inr, ⊎_elim, length-set, get_or-set_same}
use Rattle.std.proofs.lemmas.List.{map-set, get_or-map, set-get_or, get_or-set_other}
use Rattle.std.proofs.lemmas.Bool.{cases_eq}
use Rattle.atomic_table.specs.declared.shared.Seat.{Seat}
use Rattle.mz_ground.specs.Views.{SpanView}
use Rattle.mz_nano.specs.declared.nano.Nano.{Nano}
use Rattle.mz_nano.specs.declared.seat.NanoSeat.{NanoSeat}
use Rattle.mz_nano.specs.declared.deal.Deal.{Deal}
use Rattle.mz_nano.specs.declared.view.Held.{Held}
use Rattle.mz_nano.specs.declared.view.View.{View}
use Rattle.mz_nano.specs.Lists.{In, without}
use Rattle.mz_nano.specs.Rule.{held}
use Rattle.mz_nano.specs.SeatMoves.{class_in}
use Rattle.mz_nano.specs.SeatLists.{BelongsTo, AllOf, hand_of}
use Rattle.mz_nano.specs.Deals.{hands_of, counts_of, parts_in, hand_at, moved, CanDeal, Changed, Gives, TakesIn, LendsPart}
use Rattle.mz_nano.proofs.MemberLemmas.{without_in}
use Rattle.mz_nano.proofs.CountLemmas.{index_in}

pub map_length : {A B : Type 0} (f : A → B) (xs : List A) → length (map f xs) ≡ length xs
map_length f [] = refl
map_length f (x ∷ xs) = let e = map_length f xs in omega arith

set_set : {A : Type 0} (xs : List A) (i : ℕ) (x y : A) → set (set xs i x) i y ≡ set xs i y
set_set [] i x y = refl
set_set {A = A} (z ∷ zs) zero x y = refl
set_set {A = A} (z ∷ zs) (suc i) x y = ap (λ (l : List A). z ∷ l) (set_set zs i x y)

pub in_set : {A : Type 0} (xs : List A) (i : ℕ) (x y : A) → In y (set xs i x) → (y ≡ x) ⊎ In y xs
in_set [] i x y h = absurd h
in_set (z ∷ zs) zero x y h = ⊎_elim (λ (q : y ≡ x). inl q) (λ (q : In y zs). inr (inr q)) h
in_set (z ∷ zs) (suc i) x y h = ⊎_elim (λ (q : y ≡ z). inr (inl q)) (λ (q : In y (set zs i x)). ⊎_elim (λ (t : y ≡ x). inl t) (λ (t : In y zs). inr (inr t)) (in_set zs i x y q)) h

in_map : {A B : Type 0} (f : A → B) (xs : List A) (x : A) → In x xs → In (f x) (map f xs)
in_map f [] x h = absurd h
in_map f (y ∷ ys) x h = ⊎_elim (λ (q : x ≡ y). inl (ap f q)) (λ (q : In x ys). inr (in_map f ys x q)) h

of_map : {A B : Type 0} (f : A → B) (xs : List A) (y : B) → In y (map f xs) → (x : A) × In x xs × (y ≡ f x)
of_map f [] y h = absurd h
of_map f (x ∷ xs) y h = ⊎_elim (λ (q : y ≡ f x). (x, inl refl, q)) (λ (q : In y (map f xs)). let t = of_map f xs y q in (t.0, inr t.1, t.2)) h

module _ (nano : Nano) (ss : List NanoSeat) (i : ℕ) (o s : NanoSeat) (ss' : List NanoSeat) (ch : Changed nano ss i o s ss') (lt : i < length ss) where
  pub same_length : length ss' ≡ length ss
  same_length = ap length ch.now ∙ length-set ss i s

  pub before_in : In o ss
  before_in = subst (λ (x : NanoSeat). In x ss) ch.there (index_in ss i o lt)

  pub after_there : (d : NanoSeat) → get_or ss' i d ≡ s
  after_there d = ap (λ (l : List NanoSeat). get_or l i d) ch.now ∙ get_or-set_same ss i s d lt

  pub in_after : (x : NanoSeat) → In x ss' → (x ≡ s) ⊎ In x ss
  in_after x h = in_set ss i s x (subst (In x) ch.now h)

  -- what f shows of the seats
  pub seen_after : {B : Type 0} (f : NanoSeat → B) → map f ss' ≡ set (map f ss) i (f s)
  seen_after f = ap (map f) ch.now ∙ map-set f ss i s

  pub seen_before : {B : Type 0} (f : NanoSeat → B) (e : B) → get_or (map f ss) i e ≡ f o
  seen_before f e = get_or-map f ss i o e lt ∙ ap f ch.there

  pub seen_same : {B : Type 0} (f : NanoSeat → B) → f s ≡ f o → map f ss' ≡ map f ss
  seen_same {B = B} f e = seen_after f ∙ (ap (λ (x : B). set (map f ss) i x) (e ∙ sym (seen_before f (f o))) ∙ set-get_or (map f ss) i (f o))

  pub all_sit : ((x : NanoSeat) → In x ss → BelongsTo nano x) → (x : NanoSeat) → In x ss' → BelongsTo nano x
  all_sit all x h = ⊎_elim (λ (q : x ≡ s). subst (BelongsTo nano) (sym q) ch.one) (λ (q : In x ss). all x q) (in_after x h)

pub sits_at : (nano : Nano) (ss : List NanoSeat) → ((x : NanoSeat) → In x ss → BelongsTo nano x) → (i : ℕ) → i < length ss → (d : NanoSeat) → BelongsTo nano (get_or ss i d)
sits_at nano ss all i lt d = all (get_or ss i d) (index_in ss i d lt)

-- the steps of one move
module _ (nano : Nano) (d : Deal) (ss0 ss1 ss2 ss3 ss4 : List NanoSeat) (temp part : Seat (Option SpanView) View)
    (from : d.from < length ss0) (to : d.to < length ss0) (all : AllOf nano.table.shared.table_id nano.table.shared.key ss0)
    (g : Gives nano ss0 d.from d.block d.slot ss1 temp) where
  pub sit0 : (x : NanoSeat) → In x ss0 → BelongsTo nano x
  sit0 x h = (all x h).0

  pub length1 : length ss1 ≡ length ss0
  length1 = same_length nano ss0 d.from g.before g.after ss1 g.changed from

  pub sit1 : (x : NanoSeat) → In x ss1 → BelongsTo nano x
  sit1 = all_sit nano ss0 d.from g.before g.after ss1 g.changed from sit0

  to1 : d.to < length ss1
  to1 = let l = length1 in omega arith

  two0 : (x : NanoSeat) → In x ss0 → parts_in x ≡ 2
  two0 x h = (all x h).1

  part1 : parts_in g.after ≡ 1
  part1 = let p = g.parts in let q = two0 g.before (before_in nano ss0 d.from g.before g.after ss1 g.changed from) in omega arith

  some1 : (x : NanoSeat) → In x ss1 → 1 ≤ parts_in x
  some1 x h = ⊎_elim (λ (q : x ≡ g.after). let t = ap parts_in q in let p = part1 in omega arith) (λ (q : In x ss0). let t = two0 x q in omega arith) (in_after nano ss0 d.from g.before g.after ss1 g.changed from x h)

  module _ (t : TakesIn nano ss1 d.to temp ss2) where
    pub length2 : length ss2 ≡ length ss0
    length2 = same_length nano ss1 d.to t.before t.after ss2 t.changed to1 ∙ length1

    pub sit2 : (x : NanoSeat) → In x ss2 → BelongsTo nano x
    sit2 = all_sit nano ss1 d.to t.before t.after ss2 t.changed to1 sit1

    to2 : d.to < length ss2
    to2 = let l = length2 in omega arith

    pub enough2 : (x : NanoSeat) → 2 ≤ parts_in (get_or ss2 d.to x)
    enough2 x =
        let e = ap parts_in (after_there nano ss1 d.to t.before t.after ss2 t.changed to1 x) in
        let p = t.parts in let q = g.part in
        let s = some1 t.before (before_in nano ss1 d.to t.before t.after ss2 t.changed to1) in omega arith

    module _ (l : LendsPart nano ss2 d.to ss3 part) where
      pub length3 : length ss3 ≡ length ss0
      length3 = same_length nano ss2 d.to l.before l.after ss3 l.changed to2 ∙ length2

      pub sit3 : (x : NanoSeat) → In x ss3 → BelongsTo nano x
      sit3 = all_sit nano ss2 d.to l.before l.after ss3 l.changed to2 sit2

      from3 : d.from < length ss3
      from3 = let e = length3 in omega arith

      module _ (u : TakesIn nano ss3 d.from part ss4) where
        pub length4 : length ss4 ≡ length ss0
        length4 = same_length nano ss3 d.from u.before u.after ss4 u.changed from3 ∙ length3

        pub counts4 : map counts_of ss4 ≡ map counts_of ss0
        counts4 =
            seen_same nano ss3 d.from u.before u.after ss4 u.changed from3 counts_of u.changed.counts
            ∙ (seen_same nano ss2 d.to l.before l.after ss3 l.changed to2 counts_of l.changed.counts
            ∙ (seen_same nano ss1 d.to t.before t.after ss2 t.changed to1 counts_of t.changed.counts
            ∙ seen_same nano ss0 d.from g.before g.after ss1 g.changed from counts_of g.changed.counts))

        pub hands4 : hands_of ss4 ≡ moved d (hands_of ss0)
        hands4 =
            let h0 : List (List Held) = hands_of ss0 in
            let left : List (List Held) = set h0 d.from (without d.block d.slot (hand_at h0 d.from)) in
            let was : hand_of g.before ≡ hand_at h0 d.from = sym (seen_before nano ss0 d.from g.before g.after ss1 g.changed from hand_of []) in
            let h1 : hands_of ss1 ≡ left = seen_after nano ss0 d.from g.before g.after ss1 g.changed from hand_of ∙ ap (λ (x : List Held). set h0 d.from x) (g.hand ∙ ap (without d.block d.slot) was) in
            let met : hand_of t.before ≡ hand_at left d.to = sym (seen_before nano ss1 d.to t.before t.after ss2 t.changed to1 hand_of []) ∙ ap (λ (x : List (List Held)). hand_at x d.to) h1 in
            let got : hand_of t.after ≡ held d.block d.slot (class_in d.block d.slot (hand_at h0 d.from)) ∷ hand_at left d.to =
            t.hand ∙ (ap (λ (x : List Held). x ++ hand_of t.before) g.gift ∙ (ap (λ (x : List Held). held d.block d.slot (class_in d.block d.slot x) ∷ hand_of t.before) was ∙ ap (λ (x : List Held). held d.block d.slot (class_in d.block d.slot (hand_at h0 d.from)) ∷ x) met)) in
            let h2 : hands_of ss2 ≡ moved d h0 = seen_after nano ss1 d.to t.before t.after ss2 t.changed to1 hand_of
            ∙ (ap (λ (x : List (List Held)). set x d.to (hand_of t.after)) h1 ∙ ap (λ (x : List Held). set left d.to x) got) in
            let h3 = seen_same nano ss2 d.to l.before l.after ss3 l.changed to2 hand_of l.hand in
            let h4 = seen_same nano ss3 d.from u.before u.after ss4 u.changed from3 hand_of (u.hand ∙ ap (λ (x : List Held). x ++ hand_of u.before) l.gift) in
            h4 ∙ (h3 ∙ h2)

        parts4 : map parts_in ss4 ≡ map parts_in ss0
        parts4 =
            let p0 : List ℕ = map parts_in ss0 in
            let p1 : List ℕ = map parts_in ss1 in
            let p2 : List ℕ = map parts_in ss2 in
            let e1 : p1 ≡ set p0 d.from 1 = seen_after nano ss0 d.from g.before g.after ss1 g.changed from parts_in ∙ ap (λ (n : ℕ). set p0 d.from n) part1 in
            let met : get_or p1 d.to 0 ≡ parts_in t.before = seen_before nano ss1 d.to t.before t.after ss2 t.changed to1 parts_in 0 in
            let e2 : p2 ≡ set p1 d.to (parts_in t.after) = seen_after nano ss1 d.to t.before t.after ss2 t.changed to1 parts_in in
            let same : parts_in l.before ≡ parts_in t.after = ap parts_in (sym l.changed.there ∙ after_there nano ss1 d.to t.before t.after ss2 t.changed to1 l.before) in
            let back : parts_in l.after ≡ get_or p1 d.to 0 = let a = l.parts in let b = t.parts in let c = g.part in omega arith in
            let e3 : map parts_in ss3 ≡ p1 = seen_after nano ss2 d.to l.before l.after ss3 l.changed to2 parts_in
            ∙ (ap (λ (x : List ℕ). set x d.to (parts_in l.after)) e2 ∙ (set_set p1 d.to (parts_in t.after) (parts_in l.after) ∙ (ap (λ (n : ℕ). set p1 d.to n) back ∙ set-get_or p1 d.to 0))) in
            let wide : d.from < length p0 = subst (λ (n : ℕ). d.from < n) (sym (map_length parts_in ss0)) from in
            let left : parts_in u.before ≡ 1 = sym (seen_before nano ss3 d.from u.before u.after ss4 u.changed from3 parts_in 0)
            ∙ (ap (λ (x : List ℕ). get_or x d.from 0) (e3 ∙ e1) ∙ get_or-set_same p0 d.from 1 0 wide) in
            let was : get_or p0 d.from 0 ≡ 2 = seen_before nano ss0 d.from g.before g.after ss1 g.changed from parts_in 0 ∙ two0 g.before (before_in nano ss0 d.from g.before g.after ss1 g.changed from) in
            let now : parts_in u.after ≡ get_or p0 d.from 0 = let a = u.parts in let b = l.part in omega arith in
            seen_after nano ss3 d.from u.before u.after ss4 u.changed from3 parts_in
            ∙ (ap (λ (x : List ℕ). set x d.from (parts_in u.after)) (e3 ∙ e1) ∙ (set_set p0 d.from 1 (parts_in u.after) ∙ (ap (λ (n : ℕ). set p0 d.from n) now ∙ set-get_or p0 d.from 0)))

        pub all4 : AllOf nano.table.shared.table_id nano.table.shared.key ss4
        all4 s h =
            let sits = all_sit nano ss3 d.from u.before u.after ss4 u.changed from3 sit3 s h in
            let q = of_map parts_in ss0 (parts_in s) (subst (In (parts_in s)) parts4 (in_map parts_in ss4 s h)) in
            (sits, q.2 ∙ two0 q.0 q.1)

-- the hands after a move
module _ (d : Deal) (hs : List (List Held)) (from : d.from < length hs) (to : d.to < length hs) where
  left : List (List Held)
  left = set hs d.from (without d.block d.slot (hand_at hs d.from))

  stays_left : (x : Held) (k : ℕ) → ((x.block ≡ d.block) × (x.slot ≡ d.slot) → ⊥) → In x (hand_at hs k) → In x (hand_at left k)
  unfolding left
  stays_left x k n h = ⊎_elim
      (λ (e : k ≡ d.from). subst (λ (i : ℕ). In x (hand_at left i)) (sym e)
      (subst (In x) (sym (get_or-set_same hs d.from (without d.block d.slot (hand_at hs d.from)) [] from)) (without_in d.block d.slot x (hand_at hs d.from) n (subst (λ (i : ℕ). In x (hand_at hs i)) e h))))
      (λ (e : k ≡ d.from → ⊥). subst (In x) (sym (get_or-set_other hs d.from k (without d.block d.slot (hand_at hs d.from)) [] e)) h)
      (cases_eq k d.from)

  pub stays_moved : (x : Held) (k : ℕ) → ((x.block ≡ d.block) × (x.slot ≡ d.slot) → ⊥) → In x (hand_at hs k) → In x (hand_at (moved d hs) k)
  unfolding left
  stays_moved x k n h =
      let new : List Held = held d.block d.slot (class_in d.block d.slot (hand_at hs d.from)) ∷ hand_at left d.to in
      let in_left = stays_left x k n h in
      let wide : d.to < length left = subst (λ (m : ℕ). d.to < m) (sym (length-set hs d.from (without d.block d.slot (hand_at hs d.from)))) to in
      ⊎_elim
      (λ (e : k ≡ d.to). subst (λ (i : ℕ). In x (hand_at (moved d hs) i)) (sym e) (subst (In x) (sym (get_or-set_same left d.to new [] wide)) (inr (subst (λ (i : ℕ). In x (hand_at left i)) e in_left))))
      (λ (e : k ≡ d.to → ⊥). subst (In x) (sym (get_or-set_other left d.to k new [] e)) in_left)
      (cases_eq k d.to)

  pub moved_length : length (moved d hs) ≡ length hs
  unfolding left
  moved_length = length-set left d.to (held d.block d.slot (class_in d.block d.slot (hand_at hs d.from)) ∷ hand_at left d.to) ∙ length-set hs d.from (without d.block d.slot (hand_at hs d.from))

-- after the first move the others can follow
pub can_follow : (d : Deal) (ds : List Deal) (hs : List (List Held)) → CanDeal (d ∷ ds) hs → CanDeal ds (moved d hs)
can_follow d ds hs can =
    let first = can.each d (inl refl) in
    let len = moved_length d hs first.from first.to in
    record {
      each = λ e h.
          let t = can.each e (inr h) in
          let lf = t.from in let lt = t.to in
          record {
            from = omega arith;
            to = omega arith;
            class_ = t.class_;
            mine = stays_moved d hs first.from first.to (held e.block e.slot t.class_) e.from (λ q. can.once.0 e h q.0 q.1) t.mine;
          };
      once = can.once.1;
    }

pub drop_at : {A : Type 0} (xs : List A) (i : ℕ) (d : A) → i < length xs → drop i xs ≡ get_or xs i d ∷ drop (i + 1) xs
drop_at [] i d l = absurd (omega arith)
drop_at (x ∷ xs) zero d l = refl
drop_at {A = A} (x ∷ xs) (suc i) d l = let e : suc (i + 1) ≡ suc i + 1 = omega arith in drop_at xs i d (omega arith) ∙ ap (λ (n : ℕ). get_or xs i d ∷ drop n (x ∷ xs)) e
