-- A block that comes of a call that gives one, or gives it another size, may be handed in again.
use Rattle.std.proofs.Common.{◌≡◌, ℕ, ◌==◌, Bool, true, false, List, [], ◌∷◌, ◌++◌, Option, None, Some, length, map, refl, ap, sym, subst, ◌∙◌, arith}
use Rattle.std.specs.Prelude.{Ok, Err, IfOk, Result, if◌then◌else◌}
use Rattle.std.proofs.lemmas.Option.{same_Some}
use Rattle.std.proofs.lemmas.List.Sums.{fold-append}
use Rattle.std.proofs.lemmas.Bool.{or_left, or_right, and_parts, eqb-true, false≢true}
use Rattle.mz_base.specs.declared.profile.Profile.{Profile}
use Rattle.mz_base.specs.Sizes.{good_size_of}
use Rattle.mz_base.specs.Space.{Block, block_at, same_block}
use Rattle.mz_base.specs.Lists.{has_block, drop_block}
use Rattle.mz_events.specs.declared.entry.Entry.{Entry}
use Rattle.mz_events.specs.declared.event.Event.{Event}
use Rattle.mz_events.specs.declared.event.Event.TheVariants.{Size}
use Rattle.mz_events.specs.Hands.{hand_after, hand_through}
use Rattle.mz_record.specs.Served.{events}
use Rattle.mz_record.specs.Resized.{Resize, IsResized, same_size, in_place, still_large, IsMoved, moved, not_moved}
use Rattle.mz_book.specs.Account.{hand}
use Rattle.mz_rack.specs.Resizing.{resize_at}
use Rattle.mz_zone.specs.declared.fault.ReallocFault.{ReallocFault}
use Rattle.mz_zone.specs.Blocks.{BlockView, block_of}
use Rattle.mz_zone.specs.Calling.{AtView, IsHandedIn, HasSlot}
use Rattle.mz_zone.specs.Answering.{Answers}
use Rattle.mz_zone.specs.Moving.{Stays, MovesOn}
use Rattle.mz_zone.specs.Resizing.{MovesTo}
use Rattle.mz_zone.specs.ZoneLaws.{ZoneLaws}
use Rattle.mz_zone.proofs.Elsewhere.{same_self, last_there}
use Rattle.mz_zone.proofs.Moved.{hand_after_call, hand_then, slot_stays}

-- a block that was made

pub made_handed : (laws : ZoneLaws) (v w : AtView) (z n al : ℕ) (d : BlockView) → Answers v z n al (Ok d) w → IsHandedIn w d
made_handed laws v w z n al d a = record {
  in_hand = ap (λ hs. has_block hs (block_of d)) (hand_then laws v w z n al d a) ∙ last_there (hand v.book) (block_of d);
  space = a.answer.1 ∙ sym a.goes.adds.same.site;
  slot = a.slot;
}

-- a block that stays where it is

-- the block c stands where b did
has_changed : (bs : List Block) (b c : Block) → has_block bs b ≡ true → has_block (map (λ x. if same_block b x then c else x) bs) c ≡ true
has_changed [] b c h = absurd (false≢true h)
has_changed (x ∷ bs) b c h = by_test (same_block b x) refl (has_changed bs b c)
  where
    by_test :
        (t : Bool) → same_block b x ≡ t → (has_block bs b ≡ true → has_block (map (λ y. if same_block b y then c else y) bs) c ≡ true)
        → has_block (map (λ y. if same_block b y then c else y) (x ∷ bs)) c ≡ true
    by_test true e later = rw e (or_left (same_block c c) _ (same_self c))
    by_test false e later = rw e (or_right (same_block c x) _ (later (rw e at h)))

one_event : (bs : List Block) (es : List Entry) (x : Event) → events es ≡ x ∷ [] → hand_through bs es ≡ hand_after bs x
one_event bs [] x h = absurd (let n = ap length h in omega (arith, n))
one_event bs (e ∷ []) x h = ap (hand_after bs) (ap (λ (xs : List Event). elim xs [ [] ↦ x | y ∷ ys ↦ y ]) h)
one_event bs (e ∷ f ∷ es) x h = absurd (let n = ap length h in omega (arith, n))

changed :
    (p : Profile) (bs : List Block) (b c : Block) (n : ℕ) (es : List Entry) → IsResized p b n es (Some c) → has_block bs b ≡ true
    → has_block (hand_through bs es) c ≡ true
changed p bs b c n es (same_size some same none is) h = ap (λ x. has_block (hand_through bs x) c) none ∙ (ap (has_block bs) (same_Some c b is) ∙ h)
changed p bs b c n es (in_place k one other by is) h =
    let now : block_at b.first (good_size_of n) ≡ c = sym (same_Some c (block_at b.first (good_size_of n)) is) in
    ap (λ x. has_block x c) (one_event bs es (Size k b.first b.size (good_size_of n)) by)
    ∙ subst (λ d. has_block (map (λ x. if same_block b x then d else x) bs) c ≡ true) (sym now) (has_changed bs b c h)
changed p bs b c n es (still_large mine its stays none is) h = ap (λ x. has_block (hand_through bs x) c) none ∙ (ap (has_block bs) (same_Some c b is) ∙ h)

pub stays_handed : (laws : ZoneLaws) (v w : AtView) (b d : BlockView) (n : ℕ) → Stays v b n d w → IsHandedIn v b → IsHandedIn w d
stays_handed laws v w b d n s h = record {
  in_hand = ap (λ hs. has_block hs (block_of d)) (hand_after_call laws v w s.mine s.goes)
      ∙ changed v.book.profile (hand v.book) (block_of b) (block_of d) n s.mine s.resized h.in_hand;
  space = ap (λ x. x.span.space) s.place ∙ (h.space ∙ sym s.goes.adds.same.site);
  slot = subst (λ x. HasSlot w.nano x.base x.slot) (sym s.place) (slot_stays v.nano w.nano b.base b.slot None s.goes.nano s.hand h.slot);
}

-- a block that moves

-- a block that begins elsewhere than the one that is dropped is there still
has_others : (bs : List Block) (b c : Block) → (b.first ≡ c.first → ⊥) → has_block bs c ≡ true → has_block (drop_block b bs) c ≡ true
has_others [] b c other h = absurd (false≢true h)
has_others (x ∷ bs) b c other h = by_test (same_block c x) (same_block b x) refl refl (has_others bs b c other)
  where
    not_both : same_block c x ≡ true → same_block b x ≡ true → ⊥
    not_both y e =
        other (eqb-true b.first x.first (and_parts (b.first == x.first) (b.size == x.size) e).0
        ∙ sym (eqb-true c.first x.first (and_parts (c.first == x.first) (c.size == x.size) y).0))

    by_test :
        (s t : Bool) → same_block c x ≡ s → same_block b x ≡ t → (has_block bs c ≡ true → has_block (drop_block b bs) c ≡ true)
        → has_block (drop_block b (x ∷ bs)) c ≡ true
    by_test true true y e rest = absurd (not_both y e)
    by_test true false y e rest = rw e (or_left (same_block c x) _ y)
    by_test false true y e rest = rw e (rest (rw y at h))
    by_test false false y e rest = rw e (or_right (same_block c x) _ (rest (rw y at h)))

moved_there :
    (laws : ZoneLaws) (p : Profile) (hs es : List Entry) (r : Resize) (d : Block) (bs : List Block) → (r.block.first ≡ d.first → ⊥)
    → IsMoved p hs r es (Some d) → has_block (hand_through bs es) d ≡ true
moved_there laws p hs es r d bs other (moved x news olds moves split serves drops got) =
    let is : d ≡ x = same_Some d x got in
    let made : hand_through bs news ≡ bs ++ x ∷ [] = laws.hand_served _ _ _ news (Some x) bs serves.served in
    let left : hand_through bs es ≡ drop_block r.block (bs ++ x ∷ []) =
    ap (hand_through bs) split
    ∙ (fold-append (λ s e. hand_after s e.event) bs news olds ∙ (laws.hand_dropped p hs r.block olds (hand_through bs news) drops ∙ ap (drop_block r.block) made)) in
    ap (λ s. has_block s d) left
    ∙ has_others (bs ++ x ∷ []) r.block d other (subst (λ y. has_block (bs ++ y ∷ []) d ≡ true) is (last_there bs d))
moved_there laws p hs es r d bs other (not_moved moves serves none) = absurd (some_none none)
  where
    some_none : ◌≡◌ {A = Option Block} (Some d) None → ⊥
    some_none e = cc

pub moves_handed : (laws : ZoneLaws) (v w : AtView) (z n : ℕ) (b d : BlockView) → MovesOn v z b n (Ok d) w → IsHandedIn w d
moves_handed laws v w z n b d m = record {
  in_hand = ap (λ hs. has_block hs (block_of d)) (hand_after_call laws v w m.mine m.goes)
      ∙ moved_there laws v.book.profile w.book.seen m.mine (resize_at v.book m.t z (block_of b) n) (block_of d) (hand v.book) m.elsewhere m.moved;
  space = m.answer.1 ∙ sym m.goes.adds.same.site;
  slot = m.slot;
}

pub moved_handed : (laws : ZoneLaws) (v w : AtView) (z n : ℕ) (b : BlockView) (r : Result BlockView ReallocFault) → MovesTo v z b n r w → IfOk r (IsHandedIn w)
moved_handed laws v w z n b (Ok d) m = moves_handed laws v w z n b d m
moved_handed laws v w z n b (Err f) m = tt
