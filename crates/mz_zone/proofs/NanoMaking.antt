-- How the account goes from step to step where a slot becomes a block, and where a block ends.
use Rattle.std.proofs.Common.{◌≡◌, ℕ, ◌+◌, ◌*◌, ◌<◌, ◌≤◌, true, false, List, [], ◌∷◌, refl, ap, sym, subst, ◌∙◌, rules, arith, lit≤}
use Rattle.std.specs.Prelude.{slice_set, ◌||◌, not, ◌&&◌, IsTrue}
use Rattle.std.proofs.lemmas.Bool.Decides.{nat_tests}
use Rattle.std.proofs.lemmas.List.{get_or-set_same}
use Rattle.mz_base.specs.Lists.{has_block}
use Rattle.mz_base.specs.Space.{block_at, page_of}
use Rattle.mz_events.specs.declared.event.Event.{Event}
use Rattle.mz_events.specs.Holding.{changes_zones}
use Rattle.mz_base.specs.declared.range.TheConstants.{PAGE}
use Rattle.mz_events.specs.Places.{nano_start}
use Rattle.mz_events.specs.declared.event.Event.TheVariants.{New, End}
use Rattle.mz_events.specs.declared.place.Place.TheVariants.{Nano}
use Rattle.mz_nano.specs.SlotViews.{SlotView}
use Rattle.mz_book.specs.declared.light.Light.{Light}
use Rattle.mz_book.specs.Lights.{light_at, same_light, has_light, add_light, drop_light, slots_of, slot_number, page_of_block}
use Rattle.mz_book.specs.Account.{Account, IsOrderly, class_of, hand, owns_slot, holds_light, entry_at}
use Rattle.mz_book.specs.Calls.{CanHoldLight, CanMakeSlot, CanEndSlot, CanNote, CanReleaseLight, Notes, IsSettled, IsLit, ReleasesLight}
use Rattle.mz_book.specs.Growth.{Adds}
use Rattle.mz_zone.specs.Making.{CanNoteSlot, IsNoted, IsMade, IsEnded, CanBeOfClass, making, ending}
use Rattle.mz_zone.specs.ZoneLaws.{ZoneLaws}
use Rattle.mz_zone.proofs.SlotArithmetic.{slots_alike, slot_begins, slot_page, slot_is, slot_aligned}

same_refl : (b j : ℕ) → same_light (light_at b j) (light_at b j) ≡ true
same_refl b j = grind (arith, nat_tests)

-- What a note adds where the slot's light was taken before and is given back behind it. Only what the book knows of classes differs
-- between s and r.
noted :
    (laws : ZoneLaws) (s t : Account) (x : SlotView) (e : Event) (n : ℕ) (classes : List ℕ) → changes_zones e ≡ false → CanNoteSlot s x
    → holds_light s x.block x.slot ≡ false
    → let lit = record s { settled = classes; lights = add_light (light_at x.block x.slot) s.lights } in
    CanNote lit e → Notes lit e n t → IsNoted s e n (record t { lights = drop_light (light_at x.block x.slot) t.lights })
noted laws s t x e n classes calm can dark may notes =
    let lit : Account = record s { settled = classes; lights = add_light (light_at x.block x.slot) s.lights } in
    let g : Adds lit (entry_at n s.caller e ∷ []) 0 t = (laws.noted lit t e n may calm notes).grows.adds in
    let back : drop_light (light_at x.block x.slot) t.lights ≡ s.lights =
    ap (λ a. drop_light (light_at x.block x.slot) a.lights) notes.after ∙ laws.light_back s.lights (light_at x.block x.slot) dark in
    record {
      adds = record {
        more = g.more;
        same = record {
          name = g.same.name;
          profile = g.same.profile;
          caller = g.same.caller;
          site = g.same.site;
          between = g.same.between;
          lights = back;
          settled = refl;
          founds = refl;
          found = refl;
        };
        seen = g.seen;
        own_is = g.own_is;
        alone = g.alone;
        noted = g.noted;
        pairs = g.pairs;
        spare = g.spare;
        holds = lit≤ tt;
        zones = g.zones;
      };
      nothing_held = record { keepers = ap (λ a. a.held) notes.after ∙ can.nothing_held.keepers; lights = back ∙ can.nothing_held.lights };
      founds = ap (λ a. a.founds) notes.after;
      found = ap (λ a. a.found) notes.after;
    }

module _ (laws : ZoneLaws) (s : Account) (x : SlotView) (orderly : IsOrderly s) (can : CanNoteSlot s x) where
  -- the light of the slot
  abbrev pub light : Light
  light = light_at x.block x.slot

  -- the account once the page has the slot's class, and once the light is held
  abbrev pub classed : Account
  classed = record s { settled = slice_set s.settled x.block x.class }

  abbrev pub lit_from : Account → Account
  lit_from t = record t { lights = add_light light t.lights }

  dark : holds_light s x.block x.slot ≡ false
  dark = ap (λ ls. has_light ls light) can.nothing_held.lights

  class_known : class_of classed x.block ≡ x.class
  class_known = get_or-set_same s.settled x.block x.class 0 (subst (λ n. x.block < n) (sym orderly.settled) can.below)

  some : 1 ≤ x.class
  some = can.placed.class_.0

  there : x.slot < slots_of x.class
  there = subst (λ n. x.slot < n) (sym (slots_alike x.class)) can.placed.slot

  at : x.span.first ≡ nano_start s.profile * PAGE + x.block * 16384 + 16 * x.class * x.slot
  at = can.placed.first ∙ ap (λ b. b + x.block * 16384 + 16 * x.class * x.slot) can.base

  pub can_light : CanHoldLight classed x.block x.slot 0
  can_light = record {
    below = can.below;
    kind = lit≤ tt;
    free = dark;
    settled = λ _. subst (λ c. 1 ≤ c) (sym class_known) some;
    there = λ _. subst (λ c. x.slot < slots_of c) (sym class_known) there;
    owned = λ e. absurd (none e);
  }
    where
      none : ◌≡◌ {A = ℕ} 0 1 → ⊥
      none e = omega arith

  is_lit : (t : Account) → holds_light (lit_from t) x.block x.slot ≡ true
  is_lit t = laws.light_taken t.lights light light ∙ ap (λ b. b || has_light t.lights light) (same_refl x.block x.slot)

  -- the slot's pair isn't in the hand
  module _ (idle : owns_slot classed x.block x.slot ≡ false) where
    pub can_make : CanMakeSlot (lit_from classed) x.span.first (16 * x.class) 16
    can_make = record {
      block = x.block;
      slot = x.slot;
      below = can.below;
      light = is_lit classed;
      class = subst (λ c. 1 ≤ c) (sym class_known) some;
      there = subst (λ c. x.slot < slots_of c) (sym class_known) there;
      size = ap (λ c. 16 * c) (sym class_known);
      address = slot_begins s.profile x.block x.slot x.class x.span.first some can.placed.slot at;
      some = lit≤ tt;
      aligned = slot_aligned s.profile x.block x.slot x.class x.span.first some can.placed.slot at;
      fresh = laws.slot_fresh s x.block x.slot x.class (16 * x.class) x.span.first some there refl (slot_begins s.profile x.block x.slot x.class x.span.first some can.placed.slot at) idle;
      zone_open = can.zone_open;
    }

    pub can_note : CanNote (lit_from classed) (making x)
    can_note = record {
      room = can.room;
      between = λ h. search rules;
      in_hand = refl;
      by_held = λ h. search rules;
      at_nano = λ _. can_make;
    }

    module _ (n : ℕ) (t : Account) (notes : Notes (lit_from classed) (making x) n t) where
      lit_then : holds_light t x.block x.slot ≡ true
      lit_then = ap (λ a. has_light a.lights light) notes.after ∙ is_lit classed

      owned_then : owns_slot t x.block x.slot ≡ true
      unfolding can_make
      owned_then =
          laws.slot_made (lit_from classed) t x.span.first (16 * x.class) 16 n can_make notes x.block x.slot
          ∙ ap (λ b. b || owns_slot s x.block x.slot) (same_refl x.block x.slot)

      pub can_unlight : CanReleaseLight t light true
      can_unlight = record { held = lit_then; tells = sym owned_then }

      pub made : CanBeOfClass s x.block x.class → IsMade s x (record t { lights = drop_light light t.lights })
      made known = record {
        ticket = n;
        notes = noted laws s t x (making x) n (slice_set s.settled x.block x.class) refl can dark can_note notes;
        class_ = known;
        settled = ap (λ a. a.settled) notes.after;
      }

  -- where the slot's pair is in the hand
  module _ (mine : IsTrue (has_block (hand s) (block_at x.span.first (16 * x.class)))) where
    number : slot_number (block_at x.span.first (16 * x.class)) ≡ x.slot
    number = slot_is s.profile x.block x.slot x.class x.span.first some can.placed.slot at

    page : page_of x.span.first ≡ page_of_block s.profile x.block
    page = slot_page s.profile x.block x.slot x.class x.span.first some can.placed.slot at

    owned_first : owns_slot s x.block x.slot ≡ true
    owned_first = subst (λ j. owns_slot s x.block j ≡ true) number (laws.slot_owned s x.block (block_at x.span.first (16 * x.class)) page mine)

    pub can_relight : CanHoldLight s x.block x.slot 1
    can_relight = record {
      below = can.below;
      kind = lit≤ tt;
      free = dark;
      settled = λ e. absurd (none e);
      there = λ e. absurd (none e);
      owned = λ _. owned_first;
    }
      where
        none : ◌≡◌ {A = ℕ} 1 0 → ⊥
        none e = omega arith

    pub can_end : CanEndSlot (lit_from s) x.span.first (16 * x.class)
    can_end = record {
      block = x.block;
      below = can.below;
      page = page;
      light = subst (λ j. holds_light (lit_from s) x.block j ≡ true) (sym number) (is_lit s);
      zone_open = can.zone_open;
    }

    pub can_note_end : CanNote (lit_from s) (ending x)
    can_note_end = record {
      room = can.room;
      between = λ h. search rules;
      in_hand = mine;
      by_held = λ h. search rules;
      at_nano = λ _. can_end;
    }

    orderly_lit : IsOrderly (lit_from s)
    orderly_lit = record {
      limits = orderly.limits;
      caller = orderly.caller;
      lawful = orderly.lawful;
      recorded = orderly.recorded;
      ascending = orderly.ascending;
      below = orderly.below;
      few = orderly.few;
      counted = orderly.counted;
      owned = orderly.owned;
      settled = orderly.settled;
      classes = orderly.classes;
    }

    module _ (n : ℕ) (t : Account) (notes : Notes (lit_from s) (ending x) n t) where
      lit_still : holds_light t x.block x.slot ≡ true
      lit_still = ap (λ a. has_light a.lights light) notes.after ∙ is_lit s

      owned_no_more : owns_slot t x.block x.slot ≡ false
      unfolding can_end
      owned_no_more =
          laws.slot_ended (lit_from s) t x.span.first (16 * x.class) n can_end orderly_lit mine notes x.block x.slot
          ∙ (ap (λ j. not (same_light light (light_at x.block j)) && owns_slot s x.block x.slot) number
          ∙ ap (λ b. not b && owns_slot s x.block x.slot) (same_refl x.block x.slot))

      pub can_unlight_end : CanReleaseLight t light false
      can_unlight_end = record { held = lit_still; tells = sym owned_no_more }

      pub did_end : IsEnded s x (record t { lights = drop_light light t.lights })
      did_end = record {
        ticket = n;
        notes = noted laws s t x (ending x) n s.settled refl can dark can_note_end notes;
        settled = ap (λ a. a.settled) notes.after;
      }

-- the account once the light of the slot j of the block b is held, and once the block b has the class c
abbrev lit_at : Account → ℕ → ℕ → Account
lit_at t b j = record t { lights = add_light (light_at b j) t.lights }

abbrev classed_at : Account → ℕ → ℕ → Account
classed_at t b c = record t { settled = slice_set t.settled b c }

-- the same, as the calls say it: each account by what the call before left
module _ (laws : ZoneLaws) (s : Account) (x : SlotView) (orderly : IsOrderly s) (can : CanNoteSlot s x) where
  module _
      (s1 s2 : Account) (b c j a : ℕ) (l : Light) (eb : b ≡ x.block) (ec : c ≡ x.class) (ej : j ≡ x.slot) (ea : a ≡ x.span.first)
      (set : IsSettled s b c s1) (lit : IsLit s1 b j 0 l s2)
    where
      first : s1 ≡ classed laws s x orderly can
      first = set.after ∙ (ap (λ i. classed_at s i c) eb ∙ ap (λ i. classed_at s x.block i) ec)

      is_light : l ≡ light_at x.block x.slot
      is_light = lit.light ∙ (ap (λ i. light_at i j) eb ∙ ap (λ i. light_at x.block i) ej)

      second : s2 ≡ lit_from laws s x orderly can (classed laws s x orderly can)
      second =
          lit.after
          ∙ (ap (λ t. lit_at t b j) first
          ∙ (ap (λ i. lit_at (classed laws s x orderly can) i j) eb ∙ ap (λ i. lit_at (classed laws s x orderly can) x.block i) ej))

      idle : owns_slot (classed laws s x orderly can) x.block x.slot ≡ false
      idle =
          subst (λ t. owns_slot t x.block x.slot ≡ false) first
          (subst (λ i. owns_slot s1 i x.slot ≡ false) eb (subst (λ i. owns_slot s1 b i ≡ false) ej (lit.idle refl)))

      known : CanBeOfClass s x.block x.class
      known = subst (λ i. CanBeOfClass s i x.class) eb (subst (λ i. CanBeOfClass s b i) ec set.no_other)

      event : New Nano a (16 * c) 16 ≡ making x
      event = ap (λ i. New Nano i (16 * c) 16) ea ∙ ap (λ i. New Nano x.span.first (16 * i) 16) ec

      pub may_note : CanNote s2 (New Nano a (16 * c) 16)
      may_note = rw (second, event) (can_note laws s x orderly can idle)

      module _ (s3 : Account) (n : ℕ) (notes : Notes s2 (New Nano a (16 * c) 16) n s3) where
        noted_so : Notes (lit_from laws s x orderly can (classed laws s x orderly can)) (making x) n s3
        noted_so = rw (second, event) at notes

        pub may_unlight : CanReleaseLight s3 l true
        may_unlight = rw is_light (can_unlight laws s x orderly can idle n s3 noted_so)

        pub was_made : (s4 : Account) → ReleasesLight s3 l s4 → IsMade s x s4
        was_made s4 back = rw (back.after, is_light) (made laws s x orderly can idle n s3 noted_so known)

  -- where the slot's block ends
  module _
      (mine : IsTrue (has_block (hand s) (block_at x.span.first (16 * x.class)))) (s1 : Account) (b c j a : ℕ) (l : Light) (eb : b ≡ x.block)
      (ec : c ≡ x.class) (ej : j ≡ x.slot) (ea : a ≡ x.span.first) (lit : IsLit s b j 1 l s1)
    where
      end_light : l ≡ light_at x.block x.slot
      end_light = lit.light ∙ (ap (λ i. light_at i j) eb ∙ ap (λ i. light_at x.block i) ej)

      end_first : s1 ≡ lit_from laws s x orderly can s
      end_first =
          lit.after
          ∙ (ap (λ i. lit_at s i j) eb ∙ ap (λ i. lit_at s x.block i) ej)

      end_event : End Nano a (16 * c) ≡ ending x
      end_event = ap (λ i. End Nano i (16 * c)) ea ∙ ap (λ i. End Nano x.span.first (16 * i)) ec

      pub may_note_end : CanNote s1 (End Nano a (16 * c))
      may_note_end = rw (end_first, end_event) (can_note_end laws s x orderly can mine)

      module _ (s2 : Account) (n : ℕ) (notes : Notes s1 (End Nano a (16 * c)) n s2) where
        end_noted : Notes (lit_from laws s x orderly can s) (ending x) n s2
        end_noted = rw (end_first, end_event) at notes

        pub may_unlight_end : CanReleaseLight s2 l false
        may_unlight_end = rw end_light (can_unlight_end laws s x orderly can mine n s2 end_noted)

        pub has_ended : (s3 : Account) → ReleasesLight s2 l s3 → IsEnded s x s3
        has_ended s3 back = rw (back.after, end_light) (did_end laws s x orderly can mine n s2 end_noted)

  pub may_relight : IsTrue (has_block (hand s) (block_at x.span.first (16 * x.class))) → CanHoldLight s x.block x.slot 1
  may_relight mine = can_relight laws s x orderly can mine
