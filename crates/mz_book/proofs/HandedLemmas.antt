-- Owners and hands after entries of callers, one after another.
use Rattle.std.proofs.Common.{◌≡◌, ℕ, ◌*◌, ◌<◌, ◌==◌, Bool, true, false, cond, List, [], ◌∷◌, ◌++◌, length, subst, refl, ap, sym, ◌∙◌}
use Rattle.std.specs.Prelude.{map}
use Rattle.std.proofs.lemmas.Bool.{eqb-true, eqb-false}
use Rattle.std.proofs.lemmas.List.{append-nil, append_assoc, length-set}
use Rattle.std.proofs.lemmas.List.Elements.{All-nil, All-cons, All-weaker}
use Rattle.mz_base.specs.declared.profile.Profile.{Profile}
use Rattle.mz_base.specs.Space.{Block}
use Rattle.mz_events.specs.declared.entry.Entry.{Entry}
use Rattle.mz_events.specs.declared.event.Event.{Event}
use Rattle.mz_events.specs.declared.event.Event.TheVariants.{Take, Back, Move, New, End, Size, Full, Dry, No, Open, Shut}
use Rattle.mz_events.specs.State.{State, opening}
use Rattle.mz_events.specs.Effect.{after}
use Rattle.mz_events.specs.Rules.{Fits}
use Rattle.mz_events.specs.History.{AreLawful, after_all}
use Rattle.mz_events.specs.Hands.{own, hand_after, hand_through}
use Rattle.mz_book.specs.declared.pair.Pair.{Pair}
use Rattle.mz_book.specs.HistoryLaws.{HistoryLaws}
use Rattle.mz_book.specs.Pairs.{hand_among, pairs_after, is_in_hand}
use Rattle.mz_book.specs.Owners.{quantum_at, owned_pair, pairs_told, quanta_after, BeginsWithin}
use Rattle.mz_book.specs.Living.{lives_after}
use Rattle.mz_book.specs.Account.{is_live}
use Rattle.mz_book.specs.Rule.{AreInOneHand}
use Rattle.mz_book.specs.Handed.{pairs_since, quanta_since, AreHanded, GoesOn}
use Rattle.mz_book.proofs.PairLemmas.{hand_is, hand_other}
use Rattle.mz_book.proofs.OneHandLemmas.{one_then}
use Rattle.mz_book.proofs.QuantumLemmas.{AllFit, through_snoc, note_inside, told_then}

-- how many owners there are doesn't change

pub length_after : (c : ℕ) (q : List ℕ) (e : Event) → length (quanta_after c q e) ≡ length q
length_after c q (New k a n al) = length-set q (quantum_at a) c
length_after c q (End k a n) = refl
length_after c q (Size k a n m) = refl
length_after c q (Take k g w) = refl
length_after c q (Back k g w) = refl
length_after c q (Move g from to) = refl
length_after c q (Full k n al) = refl
length_after c q (Dry z w al) = refl
length_after c q (No k z a n) = refl
length_after c q (Open z) = refl
length_after c q (Shut z) = refl

pub begins_there : (q r : List ℕ) (e : Event) → length r ≡ length q → BeginsWithin r e → BeginsWithin q e
begins_there q r (New k a n al) l b = subst (λ m. quantum_at a < m) l b
begins_there q r (End k a n) l b = tt
begins_there q r (Size k a n m) l b = tt
begins_there q r (Take k g w) l b = tt
begins_there q r (Back k g w) l b = tt
begins_there q r (Move g from to) l b = tt
begins_there q r (Full k n al) l b = tt
begins_there q r (Dry z w al) l b = tt
begins_there q r (No k z a n) l b = tt
begins_there q r (Open z) l b = tt
begins_there q r (Shut z) l b = tt

-- a caller's hand is what its own entries make of it

hand_case : (c : ℕ) (pairs : List Pair) (e : Entry) (es : List Entry) (b : Bool) → (e.caller == c) ≡ b → hand_through (hand_among c (pairs_after e.caller pairs e.event)) (own c es) ≡ hand_through (hand_among c pairs) (cond b (e ∷ own c es) (own c es))
hand_case c pairs e es true is = ap (λ bs. hand_through bs (own c es)) (subst (λ d. hand_among c (pairs_after d pairs e.event) ≡ hand_after (hand_among c pairs) e.event) (sym (eqb-true e.caller c is)) (hand_is c pairs e.event))
hand_case c pairs e es false is = ap (λ bs. hand_through bs (own c es)) (hand_other e.caller c pairs e.event (λ i. eqb-false e.caller c is (sym i)))

pub hand_since : (c : ℕ) (pairs : List Pair) (es : List Entry) → hand_among c (pairs_since pairs es) ≡ hand_through (hand_among c pairs) (own c es)
hand_since c pairs [] = refl
hand_since c pairs (e ∷ es) = hand_since c (pairs_after e.caller pairs e.event) es ∙ hand_case c pairs e es (e.caller == c) refl

-- one entry more

pub handed_more : (pairs : List Pair) (es : List Entry) (e : Entry) → AreHanded pairs es → is_in_hand (hand_among e.caller (pairs_since pairs es)) e.event ≡ true → AreHanded pairs (es ++ e ∷ [])
handed_more pairs [] e h mine = (mine, tt)
handed_more pairs (x ∷ es) e h mine = (h.0, handed_more (pairs_after x.caller pairs x.event) es e h.1 mine)

module _ (L : HistoryLaws) (p : Profile) (fit : AllFit p)
    (live : (es : List Entry) (c : ℕ) (e : Event) (b : Block) → AreLawful p opening es → Fits p (after_all p opening es) c e → is_live (after p (after_all p opening es) c e) b ≡ lives_after e b (is_live (after_all p opening es) b)) where
  pub goes_on : (later before : List Entry) (q : List ℕ) → AreLawful p opening (before ++ later) → length q ≡ p.pages * 1024 → AreInOneHand (after_all p opening before) (pairs_told q before) → AreHanded (pairs_told q before) later → GoesOn p q before later
  goes_on [] before q ok len one h = record {
    within = All-nil (λ (e : Entry). BeginsWithin q e.event);
    told = ap (pairs_told q) (append-nil before);
    in_one_hand = subst (λ es. AreInOneHand (after_all p opening es) (pairs_told q es)) (sym (append-nil before)) one;
  }
  goes_on (e ∷ later) before q ok len one h =
      let parts = (L.joined p opening before (e ∷ later)).0 ok in
      let st : State = after_all p opening before in
      let first = (L.one p st e).0 ((L.joined p st (e ∷ []) later).0 parts.1).0 in
      let lives : (b : Block) → is_live (after p st e.caller e.event) b ≡ lives_after e.event b (is_live st b) = λ b. live before e.caller e.event b parts.0 first.fits in
      let r : List ℕ = quanta_after e.caller q e.event in
      let more : List Entry = before ++ e ∷ [] in
      let all : more ++ later ≡ before ++ e ∷ later = append_assoc before (e ∷ []) later in
      let is : after_all p opening more ≡ after p st e.caller e.event = L.after_joined p opening before (e ∷ []) ∙ L.after_one p st e in
      let told : pairs_told r more ≡ pairs_after e.caller (pairs_told q before) e.event =
      ap (λ bs. map (owned_pair r) bs) (through_snoc [] before e) ∙ told_then L p fit before parts.0 q one len e.caller e.event first.fits lives h.0 in
      let one' : AreInOneHand (after_all p opening more) (pairs_told r more) =
      subst (λ ps. AreInOneHand (after_all p opening more) ps) (sym told) (subst (λ (u : State). AreInOneHand u (pairs_after e.caller (pairs_told q before) e.event)) (sym is) (one_then L p before e.caller parts.0 (pairs_told q before) one e.event first.fits h.0 lives)) in
      let rest = goes_on later more r (subst (AreLawful p opening) (sym all) ok) (length_after e.caller q e.event ∙ len) one' (subst (λ ps. AreHanded ps later) (sym told) h.1) in
      record {
        within = All-cons (λ (x : Entry). BeginsWithin q x.event) e later (note_inside L p fit before parts.0 q one len e.caller e.event first.fits lives) (All-weaker (λ (x : Entry). BeginsWithin r x.event) (λ (x : Entry). BeginsWithin q x.event) (λ x b. begins_there q r x.event (length_after e.caller q e.event) b) later rest.within);
        told = ap (pairs_told (quanta_since r later)) (sym all) ∙ (rest.told ∙ ap (λ ps. pairs_since ps later) told);
        in_one_hand = subst (λ es. AreInOneHand (after_all p opening es) (pairs_told (quanta_since r later) es)) all rest.in_one_hand;
      }
