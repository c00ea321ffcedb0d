-- What a note does to a plain book.
use Rattle.std.proofs.Common.{◌≡◌, ℕ, true, false, cond, get_or, ◌<◌, List, [], ◌∷◌, ◌≤◌, suc, zero, arith, subst, refl, ap, sym, ◌∙◌, inl, inr, Option}
use Rattle.std.specs.Prelude.{◌||◌, nat_le}
use Rattle.std.specs.List.{list_all}
use Rattle.std.proofs.lemmas.Bool.{cases_Bool, and_parts, false≢true}
use Rattle.std.proofs.lemmas.Bool.Decides.{nat_tests}
use Rattle.mz_base.specs.declared.profile.Profile.{Profile}
use Rattle.mz_base.specs.Limits.{IsWithinLimits}
use Rattle.mz_base.specs.Site.{Site}
use Rattle.mz_base.specs.Space.{Block, page_of}
use Rattle.mz_events.specs.declared.place.Place.{Place}
use Rattle.mz_events.specs.declared.place.Place.TheVariants.{Pages, Tiny, TinyDepot, Small, SmallDepot, Large, Nano}
use Rattle.mz_events.specs.declared.entry.Entry.{Entry}
use Rattle.mz_events.specs.declared.event.Event.{Event}
use Rattle.mz_events.specs.declared.event.Event.TheVariants.{Take, Back, Move, New, End, Size, Full, Dry, No, Open, Shut}
use Rattle.mz_events.specs.Places.{is_nano, Spot, nano_page, same_spot, spot_of}
use Rattle.mz_events.specs.State.{State, opening, value_at, is_open}
use Rattle.mz_events.specs.Effect.{touches, value_after, after}
use Rattle.mz_events.specs.Rules.{Fits}
use Rattle.mz_events.specs.History.{AreLawful, after_all}
use Rattle.mz_book.specs.declared.light.Asked.{Asked}
use Rattle.mz_book.specs.declared.pair.Pair.{Pair}
use Rattle.mz_book.specs.HistoryLaws.{HistoryLaws}
use Rattle.mz_book.specs.Keepers.{keeper_count, keeper_spot, place_at, is_among}
use Rattle.mz_book.specs.Pairs.{pairs_after}
use Rattle.mz_book.specs.Account.{Account, is_live}
use Rattle.mz_book.specs.Calls.{is_at_nano, CanNote, CanNoteAtNano, opened_after}
use Rattle.mz_book.specs.Living.{lives_after}
use Rattle.mz_book.specs.Rule.{AreInOneHand, AreOfClass, AreWords}
use Rattle.mz_book.specs.Plain.{plain_account}
use Rattle.mz_book.proofs.NumberLemmas.{held_number, not_nano}
use Rattle.mz_book.proofs.OneHandLemmas.{one_then}
use Rattle.mz_book.proofs.NanoLemmas.{words_elsewhere, class_elsewhere, new_fits, new_class, new_words, end_fits, end_class, end_words, no_fits, no_class, no_words}

pub nano_is : (k : Place) → is_nano k ≡ true → k ≡ Nano
nano_is Nano h = refl
nano_is Pages h = absurd (false≢true h)
nano_is (Tiny z m) h = absurd (false≢true h)
nano_is (TinyDepot z) h = absurd (false≢true h)
nano_is (Small z m) h = absurd (false≢true h)
nano_is (SmallDepot z) h = absurd (false≢true h)
nano_is (Large z) h = absurd (false≢true h)

page_apart : (q : Place) (i : ℕ) → is_nano q ≡ false → (same_spot (spot_of q) (nano_page i) || false) ≡ false
page_apart Pages i n = refl
page_apart (Tiny z m) i n = refl
page_apart (TinyDepot z) i n = refl
page_apart (Small z m) i n = refl
page_apart (SmallDepot z) i n = refl
page_apart (Large z) i n = refl
page_apart Nano i n = absurd (false≢true (sym n))

few_case : (c : ℕ) → nat_le c 16 ≡ true → c ≤ 16
few_case c h = grind (arith, nat_tests)

-- a class is at most 16
pub class_few : (classes : List ℕ) (b : ℕ) → list_all (λ c. nat_le c 16) classes ≡ true → get_or classes b 0 ≤ 16
class_few [] b h = omega arith
class_few (c ∷ cs) zero h = few_case c ((and_parts (nat_le c 16) (list_all (λ d. nat_le d 16) cs) h).0)
class_few (c ∷ cs) (suc b) h = class_few cs b ((and_parts (nat_le c 16) (list_all (λ d. nat_le d 16) cs) h).1)

pub zones_then : (L : HistoryLaws) (p : Profile) (s : State) (c : ℕ) (e : Event) (y : ℕ) → is_open (after p s c e) y ≡ opened_after e y (is_open s y)
zones_then L p s c (Open z) y = L.opened p s c z y
zones_then L p s c (Shut z) y = L.shut p s c z y
zones_then L p s c (Take k f w) y = L.zones p s c (Take k f w) refl y
zones_then L p s c (Back k f w) y = L.zones p s c (Back k f w) refl y
zones_then L p s c (Move f from to) y = L.zones p s c (Move f from to) refl y
zones_then L p s c (New k a n al) y = L.zones p s c (New k a n al) refl y
zones_then L p s c (End k a n) y = L.zones p s c (End k a n) refl y
zones_then L p s c (Size k a n m) y = L.zones p s c (Size k a n m) refl y
zones_then L p s c (Full k n al) y = L.zones p s c (Full k n al) refl y
zones_then L p s c (Dry z w al) y = L.zones p s c (Dry z w al) refl y
zones_then L p s c (No k z a n) y = L.zones p s c (No k z a n) refl y

pub either : (L : HistoryLaws) (p : Profile) (s : State) (c : ℕ) (e : Event) (j : Spot) → value_at (after p s c e) j ≡ cond (touches p e j) (value_after s c e j) (value_at s j)
either L p s c e j = elim (cases_Bool (touches p e j)) [
  | inl y ↦ L.touched p s c e j y ∙ sym (ap (λ b. cond b (value_after s c e j) (value_at s j)) y)
  | inr n ↦ L.untouched p s c e j n ∙ sym (ap (λ b. cond b (value_after s c e j) (value_at s j)) n)
]

module _ (L : HistoryLaws) (p : Profile) (c : ℕ) (x : Site) (es : List Entry) (limit : ℕ) (held : List ℕ) (pairs : List Pair) (classes ws : List ℕ) (holds founds : ℕ) (found : Option Asked)
    (limits : IsWithinLimits p) (caller : c < p.callers) (ok : AreLawful p opening es) (one : AreInOneHand (after_all p opening es) pairs) (most : list_all (λ d. nat_le d 16) classes ≡ true) (of : AreOfClass p (after_all p opening es) classes) (words : AreWords p (after_all p opening es) c pairs ws) where
  abbrev st : State
  st = after_all p opening es

  abbrev A : Account
  A = plain_account p c x es limit held pairs classes ws holds founds found

  nano_fits : (e : Event) → is_at_nano e ≡ true → CanNote A e → CanNoteAtNano A e → Fits p st c e
  nano_fits (New k a n al) h can m =
      subst (λ q. Fits p st c (New q a n al)) (sym (nano_is k h))
      (new_fits L p es ok c pairs classes ws m.block m.slot a n al limits.nano_within limits.nano.1 caller m.below (class_few classes m.block most) one words of m.light m.class m.there m.size m.address m.some m.aligned m.fresh m.zone_open)
  nano_fits (End k a n) h can m =
      let pg = m.page in
      subst (λ q. Fits p st c (End q a n)) (sym (nano_is k h))
      (end_fits L p es ok c pairs ws a n caller one words can.in_hand (omega arith) m.zone_open)
  nano_fits (No k z a n) h can m =
      subst (λ q. Fits p st c (No q z a n)) (sym (nano_is k h))
      (no_fits L p es ok c pairs ws a n caller one words can.in_hand m.page m.nano_open z m.zone m.zone_open m.of_another)
  nano_fits (Size k a n m) h can b = absurd b
  nano_fits (Take k f w) h can b = absurd b
  nano_fits (Back k f w) h can b = absurd b
  nano_fits (Move f from to) h can b = absurd b
  nano_fits (Full k n al) h can b = absurd b
  nano_fits (Dry z w al) h can b = absurd b
  nano_fits (Open z) h can b = absurd b
  nano_fits (Shut z) h can b = absurd b

  -- what may be noted is lawful
  pub note_fits : (e : Event) → CanNote A e → Fits p st c e
  note_fits e can = elim (cases_Bool (is_at_nano e)) [ inl y ↦ nano_fits e y can (can.at_nano y) | inr n ↦ (can.by_held n).fits ]

  nano_class : (e : Event) → is_at_nano e ≡ true → CanNote A e → CanNoteAtNano A e → AreOfClass p (after p st c e) classes
  nano_class (New k a n al) h can m =
      subst (λ q. AreOfClass p (after p st c (New q a n al)) classes) (sym (nano_is k h))
      (new_class L p es ok c pairs classes ws m.block m.slot a n al limits.nano_within limits.nano.1 caller m.below (class_few classes m.block most) one words of m.light m.class m.there m.size m.address m.some m.aligned m.fresh m.zone_open)
  nano_class (End k a n) h can m =
      let pg = m.page in
      subst (λ q. AreOfClass p (after p st c (End q a n)) classes) (sym (nano_is k h))
      (end_class L p es ok c pairs ws a n caller one words can.in_hand (omega arith) m.zone_open classes of)
  nano_class (No k z a n) h can m =
      subst (λ q. AreOfClass p (after p st c (No q z a n)) classes) (sym (nano_is k h))
      (no_class L p es ok c pairs ws a n caller one words can.in_hand m.page m.nano_open z classes of)
  nano_class (Size k a n m) h can b = absurd b
  nano_class (Take k f w) h can b = absurd b
  nano_class (Back k f w) h can b = absurd b
  nano_class (Move f from to) h can b = absurd b
  nano_class (Full k n al) h can b = absurd b
  nano_class (Dry z w al) h can b = absurd b
  nano_class (Open z) h can b = absurd b
  nano_class (Shut z) h can b = absurd b

  pub note_class : (e : Event) → CanNote A e → AreOfClass p (after p st c e) classes
  note_class e can = elim (cases_Bool (is_at_nano e)) [
    | inl y ↦ nano_class e y can (can.at_nano y)
    | inr n ↦ let h = can.by_held n in class_elsewhere L p es ok c pairs held e h.fits h.held n one classes of
  ]

  nano_words : (e : Event) → is_at_nano e ≡ true → CanNote A e → CanNoteAtNano A e → AreWords p (after p st c e) c (pairs_after c pairs e) ws
  nano_words (New k a n al) h can m =
      subst (λ q. AreWords p (after p st c (New q a n al)) c (pairs_after c pairs (New q a n al)) ws) (sym (nano_is k h))
      (new_words L p es ok c pairs classes ws m.block m.slot a n al limits.nano_within limits.nano.1 caller m.below (class_few classes m.block most) one words of m.light m.class m.there m.size m.address m.some m.aligned m.fresh m.zone_open)
  nano_words (End k a n) h can m =
      let pg = m.page in
      subst (λ q. AreWords p (after p st c (End q a n)) c (pairs_after c pairs (End q a n)) ws) (sym (nano_is k h))
      (end_words L p es ok c pairs ws a n caller one words can.in_hand (omega arith) m.zone_open m.block m.page m.light)
  nano_words (No k z a n) h can m =
      subst (λ q. AreWords p (after p st c (No q z a n)) c (pairs_after c pairs (No q z a n)) ws) (sym (nano_is k h))
      (no_words L p es ok c pairs ws a n caller one words can.in_hand m.page m.nano_open z)
  nano_words (Size k a n m) h can b = absurd b
  nano_words (Take k f w) h can b = absurd b
  nano_words (Back k f w) h can b = absurd b
  nano_words (Move f from to) h can b = absurd b
  nano_words (Full k n al) h can b = absurd b
  nano_words (Dry z w al) h can b = absurd b
  nano_words (Open z) h can b = absurd b
  nano_words (Shut z) h can b = absurd b

  pub note_words : (e : Event) → CanNote A e → AreWords p (after p st c e) c (pairs_after c pairs e) ws
  note_words e can = elim (cases_Bool (is_at_nano e)) [
    | inl y ↦ nano_words e y can (can.at_nano y)
    | inr n ↦ let h = can.by_held n in words_elsewhere L p es ok c pairs held e h.fits h.held n one ws words
  ]

  -- each live block is in one hand still
  pub note_one : (e : Event) → CanNote A e → ((b : Block) → is_live (after p st c e) b ≡ lives_after e b (is_live st b)) → AreInOneHand (after p st c e) (pairs_after c pairs e)
  note_one e can live = one_then L p es c ok pairs one e (note_fits e can) can.in_hand live

  -- a keeper at home is touched by none of this
  nano_far : (e : Event) (k : ℕ) → is_at_nano e ≡ true → CanNoteAtNano A e → touches p e (keeper_spot p k) ≡ false
  nano_far (New q a n al) k h m = subst (λ r. touches p (New r a n al) (keeper_spot p k) ≡ false) (sym (nano_is q h)) (page_apart (place_at p k) (page_of a) (not_nano p k))
  nano_far (End q a n) k h m = subst (λ r. touches p (End r a n) (keeper_spot p k) ≡ false) (sym (nano_is q h)) (page_apart (place_at p k) (page_of a) (not_nano p k))
  nano_far (No q z a n) k h m = subst (λ r. touches p (No r z a n) (keeper_spot p k) ≡ false) (sym (nano_is q h)) (page_apart (place_at p k) (page_of a) (not_nano p k))
  nano_far (Size q a n m) k h b = absurd b
  nano_far (Take q f w) k h b = absurd b
  nano_far (Back q f w) k h b = absurd b
  nano_far (Move f from to) k h b = absurd b
  nano_far (Full q n al) k h b = absurd b
  nano_far (Dry z w al) k h b = absurd b
  nano_far (Open z) k h b = absurd b
  nano_far (Shut z) k h b = absurd b

  pub note_far : (e : Event) (k : ℕ) → CanNote A e → k < keeper_count p → is_among held k ≡ false → touches p e (keeper_spot p k) ≡ false
  note_far e k can l out = elim (cases_Bool (is_at_nano e)) [
    | inl y ↦ nano_far e k y (can.at_nano y)
    | inr n ↦ elim (cases_Bool (touches p e (keeper_spot p k))) [
      | inl y ↦ absurd (false≢true (sym out ∙ (sym (held_number p held k l) ∙ (can.by_held n).held (keeper_spot p k) (L.touched_is_read p e (keeper_spot p k) y))))
      | inr o ↦ o
    ]
  ]
