-- What an event of a caller leaves of hands, lights and classes, whatever lights others hold.
use Rattle.std.proofs.Common.{◌≡◌, ◌≢◌, ℕ, ◌==◌, Bool, true, false, cond, not, get_or, ◌<◌, List, [], ◌∷◌, length, ◌≤◌, ◌+◌, ◌*◌, ◌/◌, ◌%◌, suc, zero, None, arith, subst, refl, ap, sym, ◌∙◌, eq-eqb, inl, inr}
use Rattle.std.specs.Prelude.{◌&&◌, nat_lt}
use Rattle.std.proofs.lemmas.Bool.{cases_Bool, eqb-true, and_parts, false≢true}
use Rattle.std.proofs.lemmas.Bool.Decides.{nat_tests}
use Rattle.std.proofs.lemmas.Nat.{div-mul-add, mod-mul-add}
use Rattle.mz_base.specs.declared.range.TheConstants.{PAGE}
use Rattle.mz_base.specs.declared.profile.Profile.{Profile}
use Rattle.mz_base.specs.Space.{Block, block_at, same_block, page_of}
use Rattle.mz_base.specs.Lists.{has_block}
use Rattle.mz_events.specs.declared.entry.Entry.{Entry}
use Rattle.mz_events.specs.declared.event.Event.{Event}
use Rattle.mz_events.specs.declared.event.Event.TheVariants.{Take, Back, Move, New, End, Size, Full, Dry, No, Open, Shut}
use Rattle.mz_events.specs.declared.place.Place.{Place}
use Rattle.mz_events.specs.Places.{keeper_at, nano_page}
use Rattle.mz_events.specs.State.{opening, kept_at}
use Rattle.mz_events.specs.Changes.{one_for}
use Rattle.mz_events.specs.Effect.{touches, after}
use Rattle.mz_events.specs.Rules.{Fits}
use Rattle.mz_events.specs.History.{AreLawful, after_all}
use Rattle.mz_book.specs.declared.pair.Pair.{Pair}
use Rattle.mz_book.specs.HistoryLaws.{HistoryLaws}
use Rattle.mz_book.specs.Pairs.{hand_among, pairs_after, owners, is_pair, block_of}
use Rattle.mz_book.specs.Lights.{slots_of, slot_number, page_of_block, has_slot, is_slot_live, has_light, light_at, lights_from}
use Rattle.mz_book.specs.Account.{Account, is_live, state_of, holds_spot, holds_light}
use Rattle.mz_book.specs.Calls.{is_at_nano, CanNote, CanNoteAtNano}
use Rattle.mz_book.specs.Living.{lives_after}
use Rattle.mz_book.specs.Noting.{HandsAreKept, NoteIsKept}
use Rattle.mz_book.specs.Plain.{plain_account}
use Rattle.mz_book.specs.Rule.{AreInOneHand, AreWords, is_word}
use Rattle.mz_book.proofs.ListLemmas.{find_any, there_has}
use Rattle.mz_book.proofs.LightLemmas.{light_of_slot}
use Rattle.mz_book.proofs.NanoLemmas.{word_lit, lit_word, idle_word, owned_at, one_slot}
use Rattle.mz_book.proofs.OwnerLemmas.{times_owned, owned_times, times_cons, owners_cons}
use Rattle.mz_book.proofs.PlainLemmas.{nano_is, note_fits, note_class, note_words, note_one, note_far}
use Rattle.mz_book.proofs.SlotLemmas.{slot_test}

-- the n values of f from i on
abbrev values_from : (ℕ → ℕ) → ℕ → ℕ → List ℕ
values_from f i zero = []
values_from f i (suc n) = f i ∷ values_from f (i + 1) n

value_there : (f : ℕ → ℕ) (i n k : ℕ) → k < n → get_or (values_from f i n) k 0 ≡ f (i + k)
value_there f i zero k l = absurd (omega arith)
value_there f i (suc n) zero l = let e : i ≡ i + 0 = omega arith in ap f e
value_there f i (suc n) (suc k) l = let e : i + 1 + k ≡ i + suc k = omega arith in value_there f (i + 1) n k (omega arith) ∙ ap f e

-- the word of a slot whose light the caller holds or not, as if nobody else held one
abbrev told : ℕ → Bool → Bool → ℕ
told c held live = cond held (2 + c) (one_for live)

two_more : (c : ℕ) → nat_lt (2 + c) 2 ≡ false
two_more c = grind (arith, nat_tests)

told_light : (c : ℕ) (held live : Bool) → not (nat_lt (told c held live) 2) ≡ held
told_light c true live = ap not (two_more c)
told_light c false true = refl
told_light c false false = refl

told_word : (c : ℕ) (held live owned : Bool) → (held ≡ true → live ≡ true → owned ≡ true) → is_word c live owned (told c held live) ≡ true
told_word c true live owned f = lit_word c (2 + c) live owned (two_more c) refl (f refl)
told_word c false true owned f = idle_word c 1 true owned refl refl
told_word c false false owned f = idle_word c 0 false owned refl refl

told_dark : (c : ℕ) (live owned now mine : Bool) → is_word c now mine (told c false live) ≡ true → now ≡ live
told_dark c true owned true mine h = refl
told_dark c false owned false mine h = refl
told_dark c true owned false mine h = absurd (cc)
told_dark c false owned true mine h = absurd (cc)

-- an event at nano touches no place that has a keeper
nano_elsewhere : (p : Profile) (e : Event) (q : Place) → is_at_nano e ≡ true → touches p e (keeper_at q) ≡ false
nano_elsewhere p (New k a n al) q h = subst (λ r. touches p (New r a n al) (keeper_at q) ≡ false) (sym (nano_is k h)) refl
nano_elsewhere p (End k a n) q h = subst (λ r. touches p (End r a n) (keeper_at q) ≡ false) (sym (nano_is k h)) refl
nano_elsewhere p (No k z a n) q h = subst (λ r. touches p (No r z a n) (keeper_at q) ≡ false) (sym (nano_is k h)) refl
nano_elsewhere p (Size k a n m) q h = subst (λ r. touches p (Size r a n m) (keeper_at q) ≡ false) (sym (nano_is k h)) refl
nano_elsewhere p (Take k f w) q h = absurd (false≢true h)
nano_elsewhere p (Back k f w) q h = absurd (false≢true h)
nano_elsewhere p (Move f from to) q h = absurd (false≢true h)
nano_elsewhere p (Full k n al) q h = absurd (false≢true h)
nano_elsewhere p (Dry z w al) q h = absurd (false≢true h)
nano_elsewhere p (Open z) q h = absurd (false≢true h)
nano_elsewhere p (Shut z) q h = absurd (false≢true h)

note_elsewhere : (L : HistoryLaws) (s : Account) (e : Event) → CanNote s e → (q : Place) → holds_spot s (keeper_at q) ≡ false → touches s.profile e (keeper_at q) ≡ false
note_elsewhere L s e can q out = elim (cases_Bool (is_at_nano e)) [
  | inl y ↦ nano_elsewhere s.profile e q y
  | inr n ↦ elim (cases_Bool (touches s.profile e (keeper_at q))) [
    | inl t ↦ absurd (false≢true (sym out ∙ (can.by_held n).held (keeper_at q) (L.touched_is_read s.profile e (keeper_at q) t)))
    | inr o ↦ o
  ]
]

-- a block has at most 1,024 slots
few_slots : (class j : ℕ) → 1 ≤ class → j < slots_of class → j < 1024
few_slots class j l h =
    let d = Rattle.std.proofs.lemmas.Nat.div-add-mod' PAGE (16 * class) in
    let q = slots_of class in
    let t : q * 16 ≤ q * (16 * class) = Rattle.std.proofs.lemmas.Nat.mul-le q 16 q (16 * class) (omega arith) (omega arith) in
    omega arith

one_most : (b : Bool) → one_for b ≤ 1
one_most true = omega arith
one_most false = omega arith

module _ (L : HistoryLaws) (living : (p : Profile) (es : List Entry) (c : ℕ) (e : Event) (b : Block) → AreLawful p opening es → Fits p (after_all p opening es) c e → is_live (after p (after_all p opening es) c e) b ≡ lives_after e b (is_live (after_all p opening es) b))
    (s : Account) (hands : HandsAreKept s) where
  word_at : ℕ → ℕ
  word_at i = told s.caller (has_light s.lights (light_at (i / 1024) (i % 1024))) (is_slot_live s.profile (state_of s) (i / 1024) (i % 1024))

  words : List ℕ
  words = values_from word_at 0 (s.profile.nano * 1024)

  word_is : (b j : ℕ) → b < s.profile.nano → j < 1024 → get_or words (b * 1024 + j) 0 ≡ told s.caller (holds_light s b j) (is_slot_live s.profile (state_of s) b j)
  unfolding words word_at
  word_is b j lb lj =
      let m : b * 1024 + 1024 ≤ s.profile.nano * 1024 = omega arith in
      let e : 0 + (b * 1024 + j) ≡ b * 1024 + j = omega arith in
      value_there word_at 0 (s.profile.nano * 1024) (b * 1024 + j) (omega arith)
      ∙ (ap word_at e
      ∙ (ap (λ x. told s.caller (has_light s.lights (light_at x ((b * 1024 + j) % 1024))) (is_slot_live s.profile (state_of s) x ((b * 1024 + j) % 1024))) (div-mul-add b 1024 j lj)
      ∙ ap (λ y. told s.caller (has_light s.lights (light_at b y)) (is_slot_live s.profile (state_of s) b y)) (mod-mul-add b 1024 j lj)))

  light_is : (b j : ℕ) → b < s.profile.nano → j < 1024 → has_light (lights_from 0 words) (light_at b j) ≡ holds_light s b j
  light_is b j lb lj = light_of_slot b j words lj ∙ (ap (λ w. not (nat_lt w 2)) (word_is b j lb lj) ∙ told_light s.caller (holds_light s b j) (is_slot_live s.profile (state_of s) b j))

  are_words : AreWords s.profile (state_of s) s.caller s.pairs words
  are_words b j lb lj =
      let live = is_slot_live s.profile (state_of s) b j in
      let mine = has_slot s.profile (hand_among s.caller s.pairs) b j in
      subst (λ w. is_word s.caller live mine w ≡ true) (sym (word_is b j lb lj)) (told_word s.caller (holds_light s b j) live mine (λ h l. hands.lit_is_owned b j h l))

  -- the account of a plain book with these words
  abbrev plain : Account
  plain = plain_account s.profile s.caller s.site s.seen (length s.seen + 1) s.held s.pairs s.settled words 0 0 None

  can_at_nano : (e : Event) → CanNoteAtNano s e → CanNoteAtNano plain e
  can_at_nano (New k a n al) m =
      let few : m.slot < 1024 = few_slots (get_or s.settled m.block 0) m.slot m.class m.there in record {
        block = m.block;
        slot = m.slot;
        below = m.below;
        light = light_is m.block m.slot m.below few ∙ m.light;
        class = m.class;
        there = m.there;
        size = m.size;
        address = m.address;
        some = m.some;
        aligned = m.aligned;
        fresh = m.fresh;
        zone_open = m.zone_open;
      }
  can_at_nano (End k a n) m =
      let o = hands.of_slots m.block (slot_number (block_at a n)) m.light in
      record { block = m.block; below = m.below; page = m.page; light = light_is m.block (slot_number (block_at a n)) o.0 o.1 ∙ m.light; zone_open = m.zone_open }
  can_at_nano (No k z a n) m = record { page = m.page; zone = m.zone; zone_open = m.zone_open; of_another = m.of_another; nano_open = m.nano_open }
  can_at_nano (Size k a n m) h = absurd h
  can_at_nano (Take k f w) h = absurd h
  can_at_nano (Back k f w) h = absurd h
  can_at_nano (Move f from to) h = absurd h
  can_at_nano (Full k n al) h = absurd h
  can_at_nano (Dry z w al) h = absurd h
  can_at_nano (Open z) h = absurd h
  can_at_nano (Shut z) h = absurd h

  can_note : (e : Event) → CanNote s e → CanNote plain e
  can_note e can = record {
    room = omega arith;
    between = λ y. refl;
    in_hand = can.in_hand;
    by_held = λ n. let h = can.by_held n in record { held = h.held; fits = h.fits };
    at_nano = λ y. can_at_nano e (can.at_nano y);
  }

  pub note_is_kept : (e : Event) → CanNote s e → NoteIsKept s e
  note_is_kept e can =
      let p = s.profile in
      let c = s.caller in
      let st = state_of s in
      let can' = can_note e can in
      let fits : Fits p st c e = note_fits L p c s.site s.seen (length s.seen + 1) s.held s.pairs s.settled words 0 0 None hands.limits hands.caller hands.lawful hands.in_one_hand hands.classes hands.of_class are_words e can' in
      let then : AreWords p (after p st c e) c (pairs_after c s.pairs e) words = note_words L p c s.site s.seen (length s.seen + 1) s.held s.pairs s.settled words 0 0 None hands.limits hands.caller hands.lawful hands.in_one_hand hands.classes hands.of_class are_words e can' in
      let now : (b j : ℕ) → b < p.nano → j < 1024 → is_word c (is_slot_live p (after p st c e) b j) (has_slot p (hand_among c (pairs_after c s.pairs e)) b j) (told c (holds_light s b j) (is_slot_live p st b j)) ≡ true =
      λ b j lb lj. subst (λ w. is_word c (is_slot_live p (after p st c e) b j) (has_slot p (hand_among c (pairs_after c s.pairs e)) b j) w ≡ true) (word_is b j lb lj) (then b j lb lj) in
      record {
        fits = fits;
        in_one_hand = note_one L p c s.site s.seen (length s.seen + 1) s.held s.pairs s.settled words 0 0 None hands.limits hands.caller hands.lawful hands.in_one_hand hands.classes hands.of_class are_words e can' (λ x. living p s.seen c e x hands.lawful fits);
        of_class = note_class L p c s.site s.seen (length s.seen + 1) s.held s.pairs s.settled words 0 0 None hands.limits hands.caller hands.lawful hands.in_one_hand hands.classes hands.of_class are_words e can';
        dark = λ b j lb lj h. told_dark c (is_slot_live p st b j) false (is_slot_live p (after p st c e) b j) (has_slot p (hand_among c (pairs_after c s.pairs e)) b j) (subst (λ d. is_word c (is_slot_live p (after p st c e) b j) (has_slot p (hand_among c (pairs_after c s.pairs e)) b j) (told c d (is_slot_live p st b j)) ≡ true) h (now b j lb lj));
        lit_is_owned = λ b j h l.
            let o = hands.of_slots b j h in
            let w = subst (λ d. is_word c (is_slot_live p (after p st c e) b j) (has_slot p (hand_among c (pairs_after c s.pairs e)) b j) (told c d (is_slot_live p st b j)) ≡ true) h (now b j o.0 o.1) in
            (word_lit c (2 + c) (is_slot_live p (after p st c e) b j) (has_slot p (hand_among c (pairs_after c s.pairs e)) b j) (two_more c) w).1 l;
        elsewhere = λ q out. note_elsewhere L s e can q out;
        far = λ k l out. note_far L p c s.site s.seen (length s.seen + 1) s.held s.pairs s.settled words 0 0 None hands.limits hands.caller hands.lawful hands.in_one_hand hands.classes hands.of_class are_words e k can' l out;
      }

-- two callers have no more pairs of a block than there are

two_cases : (c d : ℕ) (x : Block) (h : Pair) → c ≢ d → one_for (is_pair c x h) + one_for (is_pair d x h) ≤ one_for (same_block x (block_of h))
two_cases c d x h ne = elim (cases_Bool (is_pair c x h)) [
  | inl y ↦
      let t = and_parts (h.caller == c) (same_block x (block_of h)) y in
      let o : is_pair d x h ≡ false = elim (cases_Bool (h.caller == d)) [
        | inl z ↦ absurd (ne (sym (eqb-true h.caller c t.0) ∙ eqb-true h.caller d z))
        | inr z ↦ ap (λ q. q && same_block x (block_of h)) z
      ] in
      rw (y, o, t.1) (omega arith)
  | inr n ↦ elim (cases_Bool (is_pair d x h)) [
    | inl z ↦ rw (n, z, (and_parts (h.caller == d) (same_block x (block_of h)) z).1) (omega arith)
    | inr z ↦ rw (n, z) (omega arith)
  ]
]

two_owners : (c d : ℕ) (x : Block) (hs : List Pair) → c ≢ d → times_owned c x hs + times_owned d x hs ≤ owners hs x
two_owners c d x [] ne = omega arith
two_owners c d x (h ∷ hs) ne =
    let a = times_cons c x h hs in
    let b = times_cons d x h hs in
    let o = owners_cons h hs x in
    let r = two_owners c d x hs ne in
    let t = two_cases c d x h ne in
    omega arith

pub one_owner : (L : HistoryLaws) (p : Profile) (es : List Entry) → AreLawful p opening es → (pairs : List Pair) (c d b j : ℕ) → AreInOneHand (after_all p opening es) pairs → has_slot p (hand_among c pairs) b j ≡ true → has_slot p (hand_among d pairs) b j ≡ true → c ≡ d
one_owner L p es ok pairs c d b j one h i = elim (cases_Bool (c == d)) [
  | inl y ↦ eqb-true c d y
  | inr n ↦
      let st = after_all p opening es in
      let page = page_of_block p b in
      let f = find_any (slot_test p b j) (hand_among c pairs) h in
      let x = f.0 in
      let t = and_parts (page_of x.first == page) (slot_number x == j) f.1.1 in
      let g = find_any (slot_test p b j) (hand_among d pairs) i in
      let y = g.0 in
      let u = and_parts (page_of y.first == page) (slot_number y == j) g.1.1 in
      let mine = there_has (hand_among c pairs) x f.1.0 in
      let yours = there_has (hand_among d pairs) y g.1.0 in
      let px : page_of x.first ≡ page = eqb-true (page_of x.first) page t.0 in
      let py : page_of y.first ≡ page = eqb-true (page_of y.first) page u.0 in
      let lx : has_block (kept_at st (nano_page page)).live x ≡ true = subst (λ k. has_block (kept_at st (nano_page k)).live x ≡ true) px (owned_at L p es ok pairs c x one mine (omega arith)) in
      let ly : has_block (kept_at st (nano_page page)).live y ≡ true = subst (λ k. has_block (kept_at st (nano_page k)).live y ≡ true) py (owned_at L p es ok pairs d y one yours (omega arith)) in
      let same : x ≡ y = one_slot L p es ok page x y lx ly (eqb-true (slot_number x) j t.1 ∙ sym (eqb-true (slot_number y) j u.1)) in
      let a = owned_times c x pairs mine in
      let b' = owned_times d x pairs (ap (λ z. has_block (hand_among d pairs) z) same ∙ yours) in
      let two = two_owners c d x pairs (λ e. false≢true (sym n ∙ eq-eqb c d e)) in
      let o = one x in
      let w = one_most (is_live st x) in
      absurd (omega arith)
]
