-- What each call on one slot makes of the account of a book of toys, and that the call may be made.
use Rattle.std.proofs.Common.{◌≡◌, ℕ, ◌≤◌, ◌-◌, List, length, [], ◌∷◌, ◌++◌, true, false, refl, ap, sym, subst, ◌∙◌, arith, Some}
use Rattle.std.specs.Prelude.{Ok, Err, slice_set}
use Rattle.std.proofs.lemmas.Bool.{false≢true}
use Rattle.mz_base.specs.Lists.{insert_by}
use Rattle.mz_events.specs.declared.entry.Entry.{Entry}
use Rattle.mz_events.specs.declared.event.Event.{Event}
use Rattle.mz_events.specs.State.{look_up, write}
use Rattle.mz_events.specs.Effect.{after, write_all}
use Rattle.mz_events.specs.History.{after_all}
use Rattle.mz_book.specs.declared.light.Light.{Light}
use Rattle.mz_book.specs.declared.light.Found.{Found}
use Rattle.mz_book.specs.declared.light.Asked.TheVariants.{Settle, HoldLight}
use Rattle.mz_book.specs.Pairs.{pairs_after}
use Rattle.mz_book.specs.Lights.{light_at, add_light, drop_light}
use Rattle.mz_book.specs.Account.{Account, entry_at, one_more, slot_word}
use Rattle.mz_book.specs.Calls.{Settles, HoldsLight, CanNote, Notes, CanReleaseLight, ReleasesLight}
use Rattle.mz_threads_tests.specs.Toys.{slot_is_made, slot_ends, with_room, with_slot, with_given_slot, with_ended_slot}

-- what a note leaves where nobody acts beside the book
noted : (s t a : Account) (x : Event) (n : ℕ) → s ≡ a → a.between ≡ true → Notes s x n t
    → t ≡ record a { seen = (a.seen ++ []) ++ entry_at (length (a.seen ++ [])) a.caller x ∷ []; noted = a.noted ++ entry_at (length (a.seen ++ [])) a.caller x ∷ []; pairs = pairs_after a.caller a.pairs x; spare = a.spare - 1 }
noted s t a x n e alone h =
    let none : h.others ≡ [] = h.alone (ap (λ (b : Account). b.between) e ∙ alone) in
    let f : List Entry → ℕ → Account = λ os i. record s { seen = (s.seen ++ os) ++ entry_at i s.caller x ∷ []; noted = s.noted ++ entry_at i s.caller x ∷ []; pairs = pairs_after s.caller s.pairs x; spare = s.spare - 1 } in
    let ticket : n ≡ length (a.seen ++ []) = h.ticket ∙ (ap (λ os. length (s.seen ++ os)) none ∙ ap (λ (b : Account). length (b.seen ++ [])) e) in
    let g : Account → Account = λ b. record b { seen = (b.seen ++ []) ++ entry_at (length (a.seen ++ [])) b.caller x ∷ []; noted = b.noted ++ entry_at (length (a.seen ++ [])) b.caller x ∷ []; pairs = pairs_after b.caller b.pairs x; spare = b.spare - 1 } in
    h.after ∙ (ap (λ os. f os n) none ∙ (ap (f []) ticket ∙ ap g e))

-- between the calls that make the slot's block

abbrev pub with_class : ℕ → Account
with_class r = record (with_room r) { settled = 0 ∷ 4 ∷ [] }

abbrev pub with_found : ℕ → Account
with_found r = record (with_class r) { founds = 1; found = Some (Settle 1 5) }

abbrev pub with_light : ℕ → Account
with_light r = record (with_found r) { lights = light_at 1 3 ∷ [] }

abbrev pub with_block : ℕ → Account
with_block r = record (with_slot r) { lights = light_at 1 3 ∷ [] }

pub first_settles : (s t : Account) (r : ℕ) (u : Unit {0}) → s ≡ with_room r → Settles s 1 4 (Ok u) t → t ≡ with_class r
first_settles s t r u e h = h.after ∙ ap (λ (a : Account). record a { settled = slice_set a.settled 1 4 }) e

pub second_finds : (s t : Account) (r : ℕ) (f : Found) → s ≡ with_class r → Settles s 1 5 (Err f) t → t ≡ with_found r
second_finds s t r f e h = h.after ∙ ap (λ (a : Account). record a { founds = one_more a.founds; found = Some (Settle 1 5) }) e

-- the slot is idle
pub light_answers : (s t : Account) (r : ℕ) (f : Found) → s ≡ with_found r → HoldsLight s 1 3 0 (Err f) t → ⊥
unfolding after_all look_up
light_answers s t r f e h =
    let w : 0 ≡ f.word = sym (ap (λ (a : Account). slot_word a 1 3) e) ∙ h.alone (ap (λ (a : Account). a.between) e) in
    h.other (sym w)

pub light_taken : (s t : Account) (r : ℕ) (l : Light) → s ≡ with_found r → HoldsLight s 1 3 0 (Ok l) t → (t ≡ with_light r) × (l ≡ light_at 1 3)
unfolding insert_by
light_taken s t r l e h = (h.after ∙ ap (λ (a : Account). record a { lights = add_light (light_at 1 3) a.lights }) e, h.light)

pub may_make : (s : Account) (r : ℕ) → 1 ≤ r → s ≡ with_light r → CanNote s slot_is_made
unfolding after_all look_up
may_make s r some e = subst (λ a. CanNote a slot_is_made) (sym e) (record {
  room = some;
  between = λ y. absurd (false≢true y);
  in_hand = refl;
  by_held = λ y. absurd (false≢true (sym y));
  at_nano = λ y. record {
    block = 1;
    slot = 3;
    below = omega arith;
    light = refl;
    class = omega arith;
    there = omega arith;
    size = refl;
    address = refl;
    some = omega arith;
    aligned = refl;
    fresh = refl;
    zone_open = refl;
  };
})

pub made : (s t : Account) (r n : ℕ) → s ≡ with_light r → Notes s slot_is_made n t → t ≡ with_block (r - 1)
made s t r n e h = noted s t (with_light r) slot_is_made n e refl h

pub may_unlight : (s : Account) (r : ℕ) (l : Light) → l ≡ light_at 1 3 → s ≡ with_block r → CanReleaseLight s l true
may_unlight s r l at e = subst (λ k. CanReleaseLight s k true) (sym at) (subst (λ a. CanReleaseLight a (light_at 1 3) true) (sym e) (record { held = refl; tells = refl }))

pub unlit : (s t : Account) (r : ℕ) (l : Light) → l ≡ light_at 1 3 → s ≡ with_block r → ReleasesLight s l t → t ≡ with_slot r
unlit s t r l at e h = h.after ∙ (ap (λ k. record s { lights = drop_light k s.lights }) at ∙ ap (λ (a : Account). record a { lights = drop_light (light_at 1 3) a.lights }) e)

-- between the calls that end the slot's block

abbrev pub with_refusal : ℕ → Account
with_refusal r = record (with_given_slot r) { founds = 2; found = Some (HoldLight 1 3 0) }

abbrev pub with_its_light : ℕ → Account
with_its_light r = record (with_refusal r) { lights = light_at 1 3 ∷ [] }

abbrev pub with_end : ℕ → Account
with_end r = record (with_ended_slot r) { lights = light_at 1 3 ∷ [] }

pub refused : (s t : Account) (r : ℕ) (f : Found) → s ≡ with_given_slot r → HoldsLight s 1 3 0 (Err f) t → t ≡ with_refusal r
refused s t r f e h = h.after ∙ ap (λ (a : Account). record a { founds = one_more a.founds; found = Some (HoldLight 1 3 0) }) e

pub live_taken : (s t : Account) (r : ℕ) (l : Light) → s ≡ with_refusal r → HoldsLight s 1 3 1 (Ok l) t → (t ≡ with_its_light r) × (l ≡ light_at 1 3)
unfolding insert_by
live_taken s t r l e h = (h.after ∙ ap (λ (a : Account). record a { lights = add_light (light_at 1 3) a.lights }) e, h.light)

pub may_end : (s : Account) (r : ℕ) → 1 ≤ r → s ≡ with_its_light r → CanNote s slot_ends
unfolding after_all after look_up write write_all
may_end s r some e = subst (λ a. CanNote a slot_ends) (sym e) (record {
  room = some;
  between = λ y. absurd (false≢true y);
  in_hand = refl;
  by_held = λ y. absurd (false≢true (sym y));
  at_nano = λ y. record { block = 1; below = omega arith; page = refl; light = refl; zone_open = refl };
})

pub ended : (s t : Account) (r n : ℕ) → s ≡ with_its_light r → Notes s slot_ends n t → t ≡ with_end (r - 1)
ended s t r n e h = noted s t (with_its_light r) slot_ends n e refl h

pub may_unlight_idle : (s : Account) (r : ℕ) (l : Light) → l ≡ light_at 1 3 → s ≡ with_end r → CanReleaseLight s l false
may_unlight_idle s r l at e = subst (λ k. CanReleaseLight s k false) (sym at) (subst (λ a. CanReleaseLight a (light_at 1 3) false) (sym e) (record { held = refl; tells = refl }))

pub put_out : (s t : Account) (r : ℕ) (l : Light) → l ≡ light_at 1 3 → s ≡ with_end r → ReleasesLight s l t → t ≡ with_ended_slot r
put_out s t r l at e h = h.after ∙ (ap (λ k. record s { lights = drop_light k s.lights }) at ∙ ap (λ (a : Account). record a { lights = drop_light (light_at 1 3) a.lights }) e)
