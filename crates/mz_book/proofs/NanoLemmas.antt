-- What the rule of a plain book tells of nano: which events are lawful there, and that the rule holds after an event.
use Rattle.std.proofs.Common.{◌≡◌, ◌≢◌, ℕ, ◌==◌, Bool, true, false, cond, not, get_or, ◌<◌, List, ◌≤◌, ◌+◌, ◌*◌, ◌/◌, ◌%◌, arith, subst, refl, ap, sym, ◌∙◌, eq-eqb, inl, inr}
use Rattle.std.specs.Prelude.{◌&&◌, ◌||◌, nat_lt, nat_le}
use Rattle.std.specs.List.{list_all}
use Rattle.std.proofs.lemmas.Bool.{cases_Bool, eqb-true, and_parts, and_from, false≢true}
use Rattle.std.proofs.lemmas.Bool.Decides.{nat_tests}
use Rattle.mz_base.specs.declared.range.TheConstants.{PAGE}
use Rattle.mz_base.specs.declared.profile.Profile.{Profile}
use Rattle.mz_base.specs.Space.{Block, block_at, blocks_apart, same_block, page_of}
use Rattle.mz_base.specs.Lists.{has_block, drop_block, add_block}
use Rattle.mz_events.specs.declared.place.Place.{Place}
use Rattle.mz_events.specs.declared.place.Place.TheVariants.{Pages, Tiny, TinyDepot, Small, SmallDepot, Large, Nano}
use Rattle.mz_events.specs.declared.entry.Entry.{Entry}
use Rattle.mz_events.specs.declared.event.Event.{Event}
use Rattle.mz_events.specs.declared.event.Event.TheVariants.{Take, Back, Move, New, End, Size, Full, Dry, No, Open, Shut}
use Rattle.mz_events.specs.Places.{is_nano, zone_of, nano_page, nano_start, same_spot, spot_of, spot_at}
use Rattle.mz_events.specs.State.{State, opening, kept_at, is_open}
use Rattle.mz_events.specs.Changes.{one_for}
use Rattle.mz_events.specs.Effect.{touches, after}
use Rattle.mz_events.specs.Rules.{Fits}
use Rattle.mz_events.specs.History.{AreLawful, after_all}
use Rattle.mz_events.specs.Hands.{hand_after}
use Rattle.mz_events.specs.Holding.{ReadsHeld}
use Rattle.mz_book.specs.declared.pair.Pair.{Pair}
use Rattle.mz_book.specs.HistoryLaws.{HistoryLaws}
use Rattle.mz_book.specs.Keepers.{is_held}
use Rattle.mz_book.specs.Pairs.{hand_among, pairs_after, owners}
use Rattle.mz_book.specs.Account.{is_live}
use Rattle.mz_book.specs.Lights.{slot_size, slots_of, page_of_block, slot_address, slot_number, has_slot, is_slot_live, has_light, light_at, lights_from}
use Rattle.mz_book.specs.Calls.{is_at_nano}
use Rattle.mz_book.specs.Rule.{AreInOneHand, AreOfClass, AreWords, is_word}
use Rattle.mz_book.proofs.OwnerLemmas.{same_true, same_refl, hand_live}
use Rattle.mz_book.proofs.PairLemmas.{hand_is}
use Rattle.mz_book.proofs.ListLemmas.{or_elim, or_left, or_right, not_false, not_true, find_any, any_from, has_there, there_has, has_added, has_dropped, all_from}
use Rattle.mz_book.proofs.LiveLemmas.{from_live, one_spot}
use Rattle.mz_book.proofs.LightLemmas.{light_of_slot}
use Rattle.mz_book.proofs.DutyLemmas.{page_is_calm, page_is_no_place}
use Rattle.mz_book.proofs.SlotLemmas.{slot_test, any_added, any_dropped, any_snoc, map_has, slot_end, page_at, spot_is, slot_once, slots_apart, new_page, new_rest, new_number, new_whole}

-- one word

pub word_lit : (c w : ℕ) (live owned : Bool) → nat_lt w 2 ≡ false → is_word c live owned w ≡ true → (w ≡ 2 + c) × (live ≡ true → owned ≡ true)
word_lit c w true owned n h = let t = and_parts (w == 2 + c) (false || owned) (rw n at h) in (eqb-true w (2 + c) t.0, λ y. t.1)
word_lit c w false owned n h = let t = and_parts (w == 2 + c) (true || owned) (rw n at h) in (eqb-true w (2 + c) t.0, λ y. absurd (false≢true y))

pub word_idle : (c w : ℕ) (live owned : Bool) → nat_lt w 2 ≡ true → is_word c live owned w ≡ true → w ≡ one_for live
word_idle c w live owned n h = eqb-true w (one_for live) (rw n at h)

pub lit_word : (c w : ℕ) (live owned : Bool) → nat_lt w 2 ≡ false → w ≡ 2 + c → (live ≡ true → owned ≡ true) → is_word c live owned w ≡ true
lit_word c w true owned n e f = rw n (and_from (w == 2 + c) (false || owned) (eq-eqb w (2 + c) e) (f refl))
lit_word c w false owned n e f = rw n (and_from (w == 2 + c) (true || owned) (eq-eqb w (2 + c) e) refl)

pub idle_word : (c w : ℕ) (live owned : Bool) → nat_lt w 2 ≡ true → w ≡ one_for live → is_word c live owned w ≡ true
idle_word c w live owned n e = rw n (eq-eqb w (one_for live) e)

-- a word after something else
pub word_more : (c w : ℕ) (live owned now mine : Bool) → is_word c live owned w ≡ true → (nat_lt w 2 ≡ true → now ≡ live) → (nat_lt w 2 ≡ false → (live ≡ true → owned ≡ true) → now ≡ true → mine ≡ true) → is_word c now mine w ≡ true
word_more c w live owned now mine h f g = elim (cases_Bool (nat_lt w 2)) [
  | inl y ↦ idle_word c w now mine y (word_idle c w live owned y h ∙ ap one_for (sym (f y)))
  | inr n ↦ let t = word_lit c w live owned n h in lit_word c w now mine n t.0 (g n t.1)
]

plain_spot : (k : Place) (a : ℕ) → is_nano k ≡ false → spot_at k a ≡ spot_of k
plain_spot Pages a n = refl
plain_spot (Tiny z m) a n = refl
plain_spot (TinyDepot z) a n = refl
plain_spot (Small z m) a n = refl
plain_spot (SmallDepot z) a n = refl
plain_spot (Large z) a n = refl
plain_spot Nano a n = absurd (false≢true (sym n))

-- a light that is held has its owner
pub word_of_light : (p : Profile) (s : State) (c : ℕ) (pairs : List Pair) (ws : List ℕ) (b j : ℕ) → AreWords p s c pairs ws → b < p.nano → j < 1024 → has_light (lights_from 0 ws) (light_at b j) ≡ true → is_slot_live p s b j ≡ true → has_slot p (hand_among c pairs) b j ≡ true
word_of_light p s c pairs ws b j words lb lj lit live =
    let w = get_or ws (b * 1024 + j) 0 in
    let n : nat_lt w 2 ≡ false = not_false (nat_lt w 2) (sym (light_of_slot b j ws lj) ∙ lit) in
    (word_lit c w (is_slot_live p s b j) (has_slot p (hand_among c pairs) b j) n (words b j lb lj)).1 live

module _ (L : HistoryLaws) (p : Profile) (es : List Entry) (ok : AreLawful p opening es) where
  abbrev st : State
  st = after_all p opening es

  sep : Rattle.mz_events.specs.Separation.IsSeparate p st
  sep = L.separate p es ok

  asc : Rattle.mz_events.specs.Separation.IsAscending p st
  asc = L.ascending p es ok

  -- a block in a hand, in one of nano's pages, is live there
  pub hand_at : (pairs : List Pair) (c : ℕ) (x : Block) → owners pairs x ≤ one_for (is_live st x) → has_block (hand_among c pairs) x ≡ true → nano_start p ≤ page_of x.first → has_block (kept_at st (nano_page (page_of x.first))).live x ≡ true
  hand_at pairs c x few h n =
      let l = from_live L st x (L.once p opening es L.once_first) (hand_live st pairs c x few h) in
      let e : l.0 ≡ nano_page (page_of x.first) = spot_is p st l.0 x sep (asc.sizes l.0 x l.1) n (sep.at_home l.0 x l.1) in
      subst (λ j. has_block (kept_at st j).live x ≡ true) e l.1

  pub owned_at : (pairs : List Pair) (c : ℕ) (x : Block) → AreInOneHand st pairs → has_block (hand_among c pairs) x ≡ true → nano_start p ≤ page_of x.first → has_block (kept_at st (nano_page (page_of x.first))).live x ≡ true
  owned_at pairs c x one h n = hand_at pairs c x (let e = one x in omega arith) h n

  -- where a slot's pair is in a hand, it is live
  pub slot_of_owned : (pairs : List Pair) (c b j : ℕ) → ((x : Block) → owners pairs x ≤ one_for (is_live st x)) → has_slot p (hand_among c pairs) b j ≡ true → is_slot_live p st b j ≡ true
  slot_of_owned pairs c b j own h =
      let r = find_any (slot_test p b j) (hand_among c pairs) h in
      let x = r.0 in
      let t = and_parts (page_of x.first == page_of_block p b) (slot_number x == j) r.1.1 in
      let page : page_of x.first ≡ page_of_block p b = eqb-true (page_of x.first) (page_of_block p b) t.0 in
      let at = hand_at pairs c x (own x) (there_has (hand_among c pairs) x r.1.0) (omega arith) in
      let at2 : has_block (kept_at st (nano_page (page_of_block p b))).live x ≡ true = subst (λ i. has_block (kept_at st (nano_page i)).live x ≡ true) page at in
      any_from (slot_test p b j) (kept_at st (nano_page (page_of_block p b))).live x (has_there (kept_at st (nano_page (page_of_block p b))).live x at2) r.1.1

  pub owned_slot : (pairs : List Pair) (c b j : ℕ) → AreInOneHand st pairs → has_slot p (hand_among c pairs) b j ≡ true → is_slot_live p st b j ≡ true
  owned_slot pairs c b j one h = slot_of_owned pairs c b j (λ x. let e = one x in omega arith) h

  page_of_live : (i : ℕ) (x : Block) → has_block (kept_at st (nano_page i)).live x ≡ true → page_of x.first ≡ i
  page_of_live i x h = page_at i x (asc.sizes (nano_page i) x h) ((sep.at_home (nano_page i) x h).2)

  whole : (i : ℕ) (x : Block) → has_block (kept_at st (nano_page i)).live x ≡ true → x.first % PAGE % x.size ≡ 0
  whole i x h = (L.forms p es (nano_page i) x ok h).slot refl

  -- what is live in a page has one size, and each slot once
  pub one_slot : (i : ℕ) (x y : Block) → has_block (kept_at st (nano_page i)).live x ≡ true → has_block (kept_at st (nano_page i)).live y ≡ true → slot_number x ≡ slot_number y → x ≡ y
  one_slot i x y hx hy e = slot_once x y (whole i x hx) (whole i y hy) ((L.forms p es (nano_page i) y ok hy).alike refl x hx) (page_of_live i x hx ∙ sym (page_of_live i y hy)) e

  pub lit_owned : (c : ℕ) (pairs : List Pair) (ws : List ℕ) (b j : ℕ) → AreWords p st c pairs ws → b < p.nano → j < 1024 → has_light (lights_from 0 ws) (light_at b j) ≡ true → is_slot_live p st b j ≡ true → has_slot p (hand_among c pairs) b j ≡ true
  lit_owned c pairs ws b j words lb lj lit live = word_of_light p st c pairs ws b j words lb lj lit live

  -- events elsewhere

  module _ (c : ℕ) (pairs : List Pair) (held : List ℕ) (e : Event) (fits : Fits p st c e) (reads : ReadsHeld p (is_held p held) e) (far : is_at_nano e ≡ false) (one : AreInOneHand st pairs) where
    no_touch : (i : ℕ) → touches p e (nano_page i) ≡ false
    no_touch i = elim (cases_Bool (touches p e (nano_page i))) [ inl y ↦ absurd (false≢true (reads (nano_page i) (L.touched_is_read p e (nano_page i) y))) | inr n ↦ n ]

    same_page : (i : ℕ) → (kept_at (after p st c e) (nano_page i)).live ≡ (kept_at st (nano_page i)).live
    same_page i = ap (λ v. v.kept.live) (L.untouched p st c e (nano_page i) (no_touch i))

    -- a block of nano is none that the event ends or resizes
    not_that : (k : Place) (a n i : ℕ) (x : Block) → is_nano k ≡ false → has_block (kept_at st (spot_at k a)).live (block_at a n) ≡ true → has_block (kept_at st (nano_page i)).live x ≡ true → x ≢ block_at a n
    not_that k a n i x plain hk hx same =
        let at : has_block (kept_at st (spot_of k)).live x ≡ true = ap (λ j. has_block (kept_at st j).live x) (sym (plain_spot k a plain)) ∙ (ap (λ y. has_block (kept_at st (spot_at k a)).live y) same ∙ hk) in
        page_is_no_place i k plain (one_spot p st (nano_page i) (spot_of k) x sep asc hx at)

    kept_in_hand : (d : Event) → Fits p st c d → is_at_nano d ≡ false → (hand : List Block) (x : Block) (i : ℕ) → has_block (kept_at st (nano_page i)).live x ≡ true → has_block hand x ≡ true → has_block (hand_after hand d) x ≡ true
    kept_in_hand (New k a n al) f o hand x i hx h = any_snoc (same_block x) hand (block_at a n) ∙ or_left (has_block hand x) (same_block x (block_at a n)) h
    kept_in_hand (End k a n) f o hand x i hx h =
        let other : same_block x (block_at a n) ≡ false = elim (cases_Bool (same_block x (block_at a n))) [ inl y ↦ absurd (not_that k a n i x o (((L.fits p st c).ends k a n).0 f).live hx (same_true x (block_at a n) y)) | inr z ↦ z ] in
        has_dropped (block_at a n) x hand ∙ and_from (not (same_block x (block_at a n))) (has_block hand x) (not_true _ other) h
    kept_in_hand (Size k a n m) f o hand x i hx h =
        let other : same_block (block_at a n) x ≡ false = elim (cases_Bool (same_block (block_at a n) x)) [ inl y ↦ absurd (not_that k a n i x o (((L.fits p st c).resize k a n m).0 f).live hx (sym (same_true (block_at a n) x y))) | inr z ↦ z ] in
        map_has (λ b. cond (same_block (block_at a n) b) (block_at a m) b) x hand (ap (λ q. cond q (block_at a m) x) other) h
    kept_in_hand (Take k g w) f o hand x i hx h = h
    kept_in_hand (Back k g w) f o hand x i hx h = h
    kept_in_hand (Move g from to) f o hand x i hx h = h
    kept_in_hand (Full k n al) f o hand x i hx h = h
    kept_in_hand (Dry z w al) f o hand x i hx h = h
    kept_in_hand (No k z a n) f o hand x i hx h = h
    kept_in_hand (Open z) f o hand x i hx h = h
    kept_in_hand (Shut z) f o hand x i hx h = h

    still_owned : (b j : ℕ) → has_slot p (hand_among c pairs) b j ≡ true → has_slot p (hand_among c (pairs_after c pairs e)) b j ≡ true
    still_owned b j h =
        let r = find_any (slot_test p b j) (hand_among c pairs) h in
        let x = r.0 in
        let t = and_parts (page_of x.first == page_of_block p b) (slot_number x == j) r.1.1 in
        let page : page_of x.first ≡ page_of_block p b = eqb-true (page_of x.first) (page_of_block p b) t.0 in
        let mine = there_has (hand_among c pairs) x r.1.0 in
        let at = owned_at pairs c x one mine (omega arith) in
        let now : has_block (hand_among c (pairs_after c pairs e)) x ≡ true = ap (λ bs. has_block bs x) (hand_is c pairs e) ∙ kept_in_hand e fits far (hand_among c pairs) x (page_of x.first) at mine in
        any_from (slot_test p b j) (hand_among c (pairs_after c pairs e)) x (has_there (hand_among c (pairs_after c pairs e)) x now) r.1.1

    pub words_elsewhere : (ws : List ℕ) → AreWords p st c pairs ws → AreWords p (after p st c e) c (pairs_after c pairs e) ws
    words_elsewhere ws words b j lb lj =
        let same : is_slot_live p (after p st c e) b j ≡ is_slot_live p st b j = ap (λ bs. has_slot p bs b j) (same_page (page_of_block p b)) in
        word_more c (get_or ws (b * 1024 + j) 0) (is_slot_live p st b j) (has_slot p (hand_among c pairs) b j) (is_slot_live p (after p st c e) b j) (has_slot p (hand_among c (pairs_after c pairs e)) b j) (words b j lb lj)
        (λ y. same) (λ n f y. still_owned b j (f (sym same ∙ y)))

    pub class_elsewhere : (classes : List ℕ) → AreOfClass p st classes → AreOfClass p (after p st c e) classes
    class_elsewhere classes of b x lb h = of b x lb (sym (ap (λ bs. has_block bs x) (same_page (page_of_block p b))) ∙ h)

  -- a new slot

  module _ (c : ℕ) (pairs : List Pair) (classes ws : List ℕ) (b0 j0 a n al : ℕ) (nano : p.nano ≤ p.pages) (few : p.nano ≤ 1024) (caller : c < p.callers)
      (below : b0 < p.nano) (small : get_or classes b0 0 ≤ 16) (one : AreInOneHand st pairs) (words : AreWords p st c pairs ws) (of : AreOfClass p st classes)
      (light : has_light (lights_from 0 ws) (light_at b0 j0) ≡ true) (class : 1 ≤ get_or classes b0 0) (there : j0 < slots_of (get_or classes b0 0)) (size : n ≡ slot_size (get_or classes b0 0)) (address : a ≡ slot_address p b0 j0 n) (some : 1 ≤ al) (aligned : a % al ≡ 0)
      (fresh : has_block (hand_among c pairs) (block_at a n) ≡ false) (zone_open : is_open st (zone_of Nano) ≡ true) where
    abbrev new : Block
    new = block_at a n

    byte : 1 ≤ n
    byte = omega arith

    there_n : j0 < PAGE / n
    there_n = subst (λ m. j0 < PAGE / m) (sym size) there

    page : page_of a ≡ page_of_block p b0
    page = new_page p b0 j0 n a byte there_n address

    number : slot_number new ≡ j0
    number = new_number p b0 j0 n a byte there_n address

    in_page : a % PAGE + n ≤ PAGE
    in_page = let e = slot_end j0 n byte there_n in let r = new_rest p b0 j0 n a byte there_n address in omega arith

    slot_few : j0 < 1024
    slot_few = let e = slot_end j0 n byte there_n in let m : j0 * 16 ≤ j0 * n = Rattle.std.proofs.lemmas.Nat.mul-le j0 16 j0 n (omega arith) (omega arith) in omega arith

    -- it isn't live yet
    idle : (x : Block) → has_block (kept_at st (nano_page (page_of a))).live x ≡ true → slot_number x ≢ j0
    idle x h e =
        let at : has_block (kept_at st (nano_page (page_of_block p b0))).live x ≡ true = subst (λ i. has_block (kept_at st (nano_page i)).live x ≡ true) page h in
        let xp : page_of x.first ≡ page_of_block p b0 = page_of_live (page_of_block p b0) x at in
        let live : is_slot_live p st b0 j0 ≡ true = any_from (slot_test p b0 j0) (kept_at st (nano_page (page_of_block p b0))).live x (has_there (kept_at st (nano_page (page_of_block p b0))).live x at) (and_from (page_of x.first == page_of_block p b0) (slot_number x == j0) (eq-eqb _ _ xp) (eq-eqb _ _ e)) in
        let r = find_any (slot_test p b0 j0) (hand_among c pairs) (lit_owned c pairs ws b0 j0 words below slot_few light live) in
        let y = r.0 in
        let t = and_parts (page_of y.first == page_of_block p b0) (slot_number y == j0) r.1.1 in
        let yp : page_of y.first ≡ page_of_block p b0 = eqb-true (page_of y.first) (page_of_block p b0) t.0 in
        let mine = there_has (hand_among c pairs) y r.1.0 in
        let yl : has_block (kept_at st (nano_page (page_of_block p b0))).live y ≡ true = subst (λ i. has_block (kept_at st (nano_page i)).live y ≡ true) yp (owned_at pairs c y one mine (omega arith)) in
        let is : y ≡ new = slot_once y new (whole (page_of_block p b0) y yl) (new_whole p b0 j0 n a byte there_n address) (of b0 y below yl ∙ sym size) (yp ∙ sym page) (eqb-true (slot_number y) j0 t.1 ∙ sym number) in
        false≢true (sym fresh ∙ (ap (λ z. has_block (hand_among c pairs) z) (sym is) ∙ mine))

    all_apart : list_all (λ x. blocks_apart x new) (kept_at st (nano_page (page_of a))).live ≡ true
    all_apart = all_from (λ x. blocks_apart x new) (kept_at st (nano_page (page_of a))).live (λ x h.
        let at = there_has (kept_at st (nano_page (page_of a))).live x h in
        let sz : x.size ≡ n = of b0 x below (subst (λ i. has_block (kept_at st (nano_page i)).live x ≡ true) page at) ∙ sym size in
        slots_apart x new (asc.sizes (nano_page (page_of a)) x at) (whole (page_of a) x at) (new_whole p b0 j0 n a byte there_n address) sz (page_of_live (page_of a) x at) (λ e. idle x at (e ∙ number)))

    all_sizes : list_all (λ x. x.size == n) (kept_at st (nano_page (page_of a))).live ≡ true
    all_sizes = all_from (λ (x : Block). x.size == n) (kept_at st (nano_page (page_of a))).live (λ x h.
        let at = there_has (kept_at st (nano_page (page_of a))).live x h in
        eq-eqb x.size n (of b0 x below (subst (λ i. has_block (kept_at st (nano_page i)).live x ≡ true) page at) ∙ sym size))

    pub new_fits : Fits p st c (New Nano a n al)
    new_fits = ((L.fits p st c).make Nano a n al).1 (record {
      standing = record { caller = caller; exists = grind (arith, nat_tests, below); zone_open = zone_open };
      kind = refl;
      calm = page_is_calm L p es (page_of a) ok;
      size =
          let m : n % 16 ≡ 0 = omega arith in
          let l : nat_le 16 n ≡ true = grind (arith, nat_tests) in
          let u : nat_le n 256 ≡ true = grind (arith, nat_tests) in
          and_from ((n % 16 == 0) && nat_le 16 n) (nat_le n 256) (and_from (n % 16 == 0) (nat_le 16 n) (eq-eqb (n % 16) 0 m) l) u;
      some = some;
      aligned = aligned;
      lies =
          let d = Rattle.std.proofs.lemmas.Nat.div-add-mod' a PAGE in
          let pg = page in
          let e = in_page in
          let l : nat_le (nano_start p * PAGE) a ≡ true = grind (arith, nat_tests) in
          let u : nat_le (a + n) (p.pages * PAGE) ≡ true = grind (arith, nat_tests) in
          and_from (nat_le (nano_start p * PAGE) a) (nat_le (a + n) (p.pages * PAGE)) l u;
      apart = all_apart;
      in_magazine = λ h. absurd (false≢true h);
      in_large = λ h. absurd (false≢true h);
      in_nano = λ h.
          let e = in_page in
          let l : nat_le (a % PAGE + n) PAGE ≡ true = grind (arith, nat_tests) in
          and_from ((a % PAGE % n == 0) && nat_le (a % PAGE + n) PAGE) (list_all (λ x. x.size == n) (kept_at st (nano_page (page_of a))).live)
          (and_from (a % PAGE % n == 0) (nat_le (a % PAGE + n) PAGE) (eq-eqb (a % PAGE % n) 0 (new_whole p b0 j0 n a byte there_n address)) l) all_sizes;
    })

    abbrev now : State
    now = after p st c (New Nano a n al)

    -- what is live in a page now
    page_now : (i : ℕ) → (page_of a == i) ≡ true → (kept_at now (nano_page i)).live ≡ add_block new (kept_at st (nano_page i)).live
    page_now i y =
        let at : nano_page i ≡ nano_page (page_of a) = ap nano_page (sym (eqb-true (page_of a) i y)) in
        ap (λ v. v.kept.live) (L.touched p st c (New Nano a n al) (nano_page i) (or_left (same_spot (nano_page i) (nano_page (page_of a))) false ((L.spots (nano_page i) (nano_page (page_of a))).1 at)))

    page_same : (i : ℕ) → (page_of a == i) ≡ false → (kept_at now (nano_page i)).live ≡ (kept_at st (nano_page i)).live
    page_same i o =
        let out : touches p (New Nano a n al) (nano_page i) ≡ false = elim (cases_Bool (same_spot (nano_page i) (nano_page (page_of a)))) [
          | inl y ↦ absurd (false≢true (sym o ∙ eq-eqb (page_of a) i (sym (eqb-true i (page_of a) y))))
          | inr z ↦ ap (λ q. q || false) z
        ] in
        ap (λ v. v.kept.live) (L.untouched p st c (New Nano a n al) (nano_page i) out)

    pub new_class : AreOfClass p now classes
    new_class b x lb h = elim (cases_Bool (page_of a == page_of_block p b)) [
      | inl y ↦ or_elim (same_block x new) (has_block (kept_at st (nano_page (page_of_block p b))).live x)
          (λ q.
          let e : page_of_block p b0 ≡ page_of_block p b = sym page ∙ eqb-true (page_of a) (page_of_block p b) y in
          let same : b0 ≡ b = omega arith in
          ap (λ z. z.size) (same_true x new q) ∙ (size ∙ ap (λ i. slot_size (get_or classes i 0)) same))
          (λ q. of b x lb q)
          (sym (has_added new x (kept_at st (nano_page (page_of_block p b))).live) ∙ (sym (ap (λ bs. has_block bs x) (page_now (page_of_block p b) y)) ∙ h))
      | inr z ↦ of b x lb (sym (ap (λ bs. has_block bs x) (page_same (page_of_block p b) z)) ∙ h)
    ]

    hand_now : (b j : ℕ) → has_slot p (hand_among c (pairs_after c pairs (New Nano a n al))) b j ≡ (has_slot p (hand_among c pairs) b j || slot_test p b j new)
    hand_now b j = ap (λ bs. has_slot p bs b j) (hand_is c pairs (New Nano a n al)) ∙ any_snoc (slot_test p b j) (hand_among c pairs) new

    live_now : (b j : ℕ) → slot_test p b j new ≡ false → is_slot_live p now b j ≡ is_slot_live p st b j
    live_now b j o = elim (cases_Bool (page_of a == page_of_block p b)) [
      | inl y ↦ ap (λ bs. has_slot p bs b j) (page_now (page_of_block p b) y) ∙ (any_added (slot_test p b j) new (kept_at st (nano_page (page_of_block p b))).live ∙ ap (λ q. q || is_slot_live p st b j) o)
      | inr z ↦ ap (λ bs. has_slot p bs b j) (page_same (page_of_block p b) z)
    ]

    pub new_words : AreWords p now c (pairs_after c pairs (New Nano a n al)) ws
    new_words b j lb lj =
        word_more c (get_or ws (b * 1024 + j) 0) (is_slot_live p st b j) (has_slot p (hand_among c pairs) b j) (is_slot_live p now b j) (has_slot p (hand_among c (pairs_after c pairs (New Nano a n al))) b j) (words b j lb lj)
        (λ y. elim (cases_Bool (slot_test p b j new)) [
          | inl t ↦
              let u = and_parts (page_of a == page_of_block p b) (slot_number new == j) t in
              let e : page_of_block p b0 ≡ page_of_block p b = sym page ∙ eqb-true (page_of a) (page_of_block p b) u.0 in
              let eb : b0 ≡ b = omega arith in
              let ej : j0 ≡ j = sym number ∙ eqb-true (slot_number new) j u.1 in
              let lit : has_light (lights_from 0 ws) (light_at b j) ≡ true = subst (λ i. has_light (lights_from 0 ws) (light_at i j) ≡ true) eb (subst (λ i. has_light (lights_from 0 ws) (light_at b0 i) ≡ true) ej light) in
              let n2 : nat_lt (get_or ws (b * 1024 + j) 0) 2 ≡ false = not_false _ (sym (light_of_slot b j ws lj) ∙ lit) in
              absurd (false≢true (sym n2 ∙ y))
          | inr o ↦ live_now b j o
        ])
        (λ z f y. elim (cases_Bool (slot_test p b j new)) [
          | inl t ↦ hand_now b j ∙ or_right (has_slot p (hand_among c pairs) b j) (slot_test p b j new) t
          | inr o ↦ hand_now b j ∙ or_left (has_slot p (hand_among c pairs) b j) (slot_test p b j new) (f (sym (live_now b j o) ∙ y))
        ])

  -- the end of a slot, and its denial

  module _ (c : ℕ) (pairs : List Pair) (ws : List ℕ) (a n : ℕ) (caller : c < p.callers) (one : AreInOneHand st pairs) (words : AreWords p st c pairs ws)
      (mine : has_block (hand_among c pairs) (block_at a n) ≡ true) (page : nano_start p ≤ page_of a) (zone_open : is_open st (zone_of Nano) ≡ true) where
    abbrev old : Block
    old = block_at a n

    live_old : has_block (kept_at st (nano_page (page_of a))).live old ≡ true
    live_old = owned_at pairs c old one mine page

    some_nano : nat_lt 0 p.nano ≡ true
    some_nano = let h = sep.at_home (nano_page (page_of a)) old live_old in let x = h.0 in let y = h.1 in grind (arith, nat_tests)

    pub end_fits : Fits p st c (End Nano a n)
    end_fits = ((L.fits p st c).ends Nano a n).1 (record {
      standing = record { caller = caller; exists = some_nano; zone_open = zone_open };
      kind = refl;
      calm = page_is_calm L p es (page_of a) ok;
      live = live_old;
    })

    pub no_fits : (z : ℕ) → z < p.zones → is_open st z ≡ true → z ≢ zone_of Nano → Fits p st c (No Nano z a n)
    no_fits z l o other = ((L.fits p st c).deny Nano z a n).1 (record {
      standing = record { caller = caller; exists = some_nano; zone_open = zone_open };
      kind = refl;
      zone = l;
      zone_open = o;
      calm = page_is_calm L p es (page_of a) ok;
      live = live_old;
      of_another = λ e. other (sym e);
    })

    no_same : (z i : ℕ) → (kept_at (after p st c (No Nano z a n)) (nano_page i)).live ≡ (kept_at st (nano_page i)).live
    no_same z i = elim (cases_Bool (touches p (No Nano z a n) (nano_page i))) [
      | inl y ↦ ap (λ v. v.kept.live) (L.touched p st c (No Nano z a n) (nano_page i) y)
      | inr o ↦ ap (λ v. v.kept.live) (L.untouched p st c (No Nano z a n) (nano_page i) o)
    ]

    pub no_class : (z : ℕ) (classes : List ℕ) → AreOfClass p st classes → AreOfClass p (after p st c (No Nano z a n)) classes
    no_class z classes of b x lb h = of b x lb (sym (ap (λ bs. has_block bs x) (no_same z (page_of_block p b))) ∙ h)

    pub no_words : (z : ℕ) → AreWords p (after p st c (No Nano z a n)) c pairs ws
    no_words z b j lb lj =
        let same : is_slot_live p (after p st c (No Nano z a n)) b j ≡ is_slot_live p st b j = ap (λ bs. has_slot p bs b j) (no_same z (page_of_block p b)) in
        word_more c (get_or ws (b * 1024 + j) 0) (is_slot_live p st b j) (has_slot p (hand_among c pairs) b j) (is_slot_live p (after p st c (No Nano z a n)) b j) (has_slot p (hand_among c pairs) b j) (words b j lb lj) (λ y. same) (λ m f y. f (sym same ∙ y))

    abbrev then : State
    then = after p st c (End Nano a n)

    end_now : (i : ℕ) → (page_of a == i) ≡ true → (kept_at then (nano_page i)).live ≡ drop_block old (kept_at st (nano_page i)).live
    end_now i y =
        let at : nano_page i ≡ nano_page (page_of a) = ap nano_page (sym (eqb-true (page_of a) i y)) in
        ap (λ v. v.kept.live) (L.touched p st c (End Nano a n) (nano_page i) (or_left (same_spot (nano_page i) (nano_page (page_of a))) false ((L.spots (nano_page i) (nano_page (page_of a))).1 at)))

    end_same : (i : ℕ) → (page_of a == i) ≡ false → (kept_at then (nano_page i)).live ≡ (kept_at st (nano_page i)).live
    end_same i o =
        let out : touches p (End Nano a n) (nano_page i) ≡ false = elim (cases_Bool (same_spot (nano_page i) (nano_page (page_of a)))) [
          | inl y ↦ absurd (false≢true (sym o ∙ eq-eqb (page_of a) i (sym (eqb-true i (page_of a) y))))
          | inr z ↦ ap (λ q. q || false) z
        ] in
        ap (λ v. v.kept.live) (L.untouched p st c (End Nano a n) (nano_page i) out)

    pub end_class : (classes : List ℕ) → AreOfClass p st classes → AreOfClass p then classes
    end_class classes of b x lb h = elim (cases_Bool (page_of a == page_of_block p b)) [
      | inl y ↦ of b x lb ((and_parts (not (same_block x old)) (has_block (kept_at st (nano_page (page_of_block p b))).live x) (sym (has_dropped old x (kept_at st (nano_page (page_of_block p b))).live) ∙ (sym (ap (λ bs. has_block bs x) (end_now (page_of_block p b) y)) ∙ h))).1)
      | inr z ↦ of b x lb (sym (ap (λ bs. has_block bs x) (end_same (page_of_block p b) z)) ∙ h)
    ]

    then_hand : (b j : ℕ) → slot_test p b j old ≡ false → has_slot p (hand_among c (pairs_after c pairs (End Nano a n))) b j ≡ has_slot p (hand_among c pairs) b j
    then_hand b j o = ap (λ bs. has_slot p bs b j) (hand_is c pairs (End Nano a n)) ∙ any_dropped (slot_test p b j) old (hand_among c pairs) o

    then_live : (b j : ℕ) → slot_test p b j old ≡ false → is_slot_live p then b j ≡ is_slot_live p st b j
    then_live b j o = elim (cases_Bool (page_of a == page_of_block p b)) [
      | inl y ↦ ap (λ bs. has_slot p bs b j) (end_now (page_of_block p b) y) ∙ any_dropped (slot_test p b j) old (kept_at st (nano_page (page_of_block p b))).live o
      | inr z ↦ ap (λ bs. has_slot p bs b j) (end_same (page_of_block p b) z)
    ]

    -- the slot that ended isn't live
    then_idle : (b j : ℕ) → slot_test p b j old ≡ true → is_slot_live p then b j ≡ true → ⊥
    then_idle b j t y =
        let u = and_parts (page_of a == page_of_block p b) (slot_number old == j) t in
        let i = page_of_block p b in
        let pg : page_of a ≡ i = eqb-true (page_of a) i u.0 in
        let r = find_any (slot_test p b j) (kept_at then (nano_page i)).live y in
        let x = r.0 in
        let v = and_parts (page_of x.first == i) (slot_number x == j) r.1.1 in
        let at : has_block (drop_block old (kept_at st (nano_page i)).live) x ≡ true = sym (ap (λ bs. has_block bs x) (end_now i u.0)) ∙ there_has (kept_at then (nano_page i)).live x r.1.0 in
        let w = and_parts (not (same_block x old)) (has_block (kept_at st (nano_page i)).live x) (sym (has_dropped old x (kept_at st (nano_page i)).live) ∙ at) in
        let lo : has_block (kept_at st (nano_page i)).live old ≡ true = subst (λ k. has_block (kept_at st (nano_page k)).live old ≡ true) pg live_old in
        let is : x ≡ old = one_slot i x old w.1 lo (eqb-true (slot_number x) j v.1 ∙ sym (eqb-true (slot_number old) j u.1)) in
        false≢true (sym (not_false _ w.0) ∙ (ap (λ z. same_block z old) is ∙ same_refl old))

    pub end_words : (b0 : ℕ) → page_of a ≡ page_of_block p b0 → has_light (lights_from 0 ws) (light_at b0 (slot_number old)) ≡ true → AreWords p then c (pairs_after c pairs (End Nano a n)) ws
    end_words b0 pg light b j lb lj =
        word_more c (get_or ws (b * 1024 + j) 0) (is_slot_live p st b j) (has_slot p (hand_among c pairs) b j) (is_slot_live p then b j) (has_slot p (hand_among c (pairs_after c pairs (End Nano a n))) b j) (words b j lb lj)
        (λ y. elim (cases_Bool (slot_test p b j old)) [
          | inl t ↦
              let u = and_parts (page_of a == page_of_block p b) (slot_number old == j) t in
              let e : page_of_block p b0 ≡ page_of_block p b = sym pg ∙ eqb-true (page_of a) (page_of_block p b) u.0 in
              let eb : b0 ≡ b = omega arith in
              let ej : slot_number old ≡ j = eqb-true (slot_number old) j u.1 in
              let lit : has_light (lights_from 0 ws) (light_at b j) ≡ true = subst (λ i. has_light (lights_from 0 ws) (light_at i j) ≡ true) eb (subst (λ i. has_light (lights_from 0 ws) (light_at b0 i) ≡ true) ej light) in
              let n2 : nat_lt (get_or ws (b * 1024 + j) 0) 2 ≡ false = not_false _ (sym (light_of_slot b j ws lj) ∙ lit) in
              absurd (false≢true (sym n2 ∙ y))
          | inr o ↦ then_live b j o
        ])
        (λ z f y. elim (cases_Bool (slot_test p b j old)) [
          | inl t ↦ absurd (then_idle b j t y)
          | inr o ↦ then_hand b j o ∙ f (sym (then_live b j o) ∙ y)
        ])
