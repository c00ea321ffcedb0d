-- What is in the hand stays there while other requests are served, and a block that gets another size does.
use Rattle.std.proofs.Common.{◌≡◌, ℕ, Bool, true, false, List, [], ◌∷◌, length, map, Some, Ok, refl, ap, sym, subst, ◌∙◌, arith}
use Rattle.std.specs.Option.{option_to_list}
use Rattle.std.specs.Prelude.{Result, if◌then◌else◌}
use Rattle.std.proofs.lemmas.Option.{same_Some}
use Rattle.std.proofs.lemmas.Bool.{or_left, or_right, false≢true}
use Rattle.mz_base.specs.declared.profile.Profile.{Profile}
use Rattle.mz_base.specs.Sizes.{good_size_of}
use Rattle.mz_base.specs.Space.{Block, block_at, same_block}
use Rattle.mz_base.specs.Lists.{has_block}
use Rattle.mz_events.specs.declared.entry.Entry.{Entry}
use Rattle.mz_events.specs.declared.event.Event.{Event}
use Rattle.mz_events.specs.declared.event.Event.TheVariants.{Size}
use Rattle.mz_events.specs.Hands.{hand_after, hand_through}
use Rattle.mz_record.specs.Served.{events}
use Rattle.mz_record.specs.Resized.{IsResized, same_size, in_place as resized_in_place, still_large}
use Rattle.mz_book.specs.Account.{Account, hand}
use Rattle.mz_book.specs.Pairs.{hand_among}
use Rattle.mz_book.specs.Growth.{Adds}
use Rattle.mz_book.specs.Plain.{Reserves}
use Rattle.mz_rack.specs.declared.lot.Null.{Null}
use Rattle.mz_rack.specs.Lots.{LotView}
use Rattle.mz_rack.specs.Ways.{request_of}
use Rattle.mz_rack.specs.Serving.{Answers, block_got}
use Rattle.mz_rack.specs.Freeing.{block_of, IsFreeable}
use Rattle.mz_rack.specs.Resizing.{Resizes}
use Rattle.mz_zone_tests.specs.Tested.{HandLaws}
use Rattle.mz_zone.proofs.Elsewhere.{front_there}
use Rattle.mz_zone_tests.proofs.Tested.{same_itself, has_last}

-- LISTS of blocks
-- the block c stands where b did
has_changed : (bs : List Block) (b c : Block) → has_block bs b ≡ true → has_block (map (λ x. if same_block b x then c else x) bs) c ≡ true
has_changed [] b c h = absurd (false≢true h)
has_changed (x ∷ bs) b c h = by_test (same_block b x) refl (has_changed bs b c)
  where
    by_test :
        (t : Bool) → same_block b x ≡ t → (has_block bs b ≡ true → has_block (map (λ y. if same_block b y then c else y) bs) c ≡ true)
        → has_block (map (λ y. if same_block b y then c else y) (x ∷ bs)) c ≡ true
    by_test true e later = rw e (or_left (same_block c c) _ (same_itself c))
    by_test false e later = rw e (or_right (same_block c x) _ (later (rw e at h)))

-- THE HAND
hand_then : HandLaws → (s t : Account) (es : List Entry) (n : ℕ) → Adds s es n t → hand t ≡ hand_through (hand s) es
hand_then H s t es n g = ap (λ c. hand_among c t.pairs) g.same.caller ∙ (ap (λ ps. hand_among s.caller ps) g.pairs ∙ H.through s.caller s.pairs es)

still : (s t : Account) (es : List Entry) (n : ℕ) (l m : LotView) → Adds s es n t → IsFreeable s l → m.span.space ≡ l.span.space → has_block (hand t) (block_of m) ≡ true → IsFreeable t m
still s t es n l m g lot space there = record { in_hand = there; space = space ∙ (lot.space ∙ sym g.same.site) }

pub still_with : (s t : Account) (n : ℕ) (l : LotView) → IsFreeable s l → Reserves s n t → IsFreeable t l
still_with s t n l lot more = subst (λ u. IsFreeable u l) (sym more.after) (record { in_hand = lot.in_hand; space = lot.space })

pub still_served : HandLaws → (s t : Account) (z n al : ℕ) (got : Result LotView Null) (l : LotView) → Answers s z n al got t → IsFreeable s l → IsFreeable t l
still_served H s t z n al got l a lot =
    let adds = a.grows.adds in
    let hand_is = hand_then H s t a.mine _ adds ∙ H.hand_served s.profile t.seen (request_of s.caller z n al) a.mine (block_got got) (hand s) a.serves.served in
    still s t a.mine _ l l adds lot refl (ap (λ h. has_block h (block_of l)) hand_is ∙ front_there (hand s) (option_to_list (block_got got)) (block_of l) lot.in_hand)

pub served_lot : HandLaws → (s t : Account) (z n al : ℕ) (l : LotView) → Answers s z n al (Ok l) t → IsFreeable t l
served_lot H s t z n al l a =
    let adds = a.grows.adds in
    let b = block_of l in
    let hand_is = hand_then H s t a.mine _ adds ∙ H.hand_served s.profile t.seen (request_of s.caller z n al) a.mine (Some b) (hand s) a.serves.served in
    record { in_hand = ap (λ h. has_block h b) hand_is ∙ has_last (hand s) b; space = a.answer.1 ∙ sym adds.same.site }

-- A BLOCK OF ANOTHER SIZE
one_event : (bs : List Block) (es : List Entry) (x : Event) → events es ≡ x ∷ [] → hand_through bs es ≡ hand_after bs x
one_event bs [] x h = absurd (let n = ap length h in omega (arith, n))
one_event bs (e ∷ []) x h = ap (hand_after bs) (ap (λ (xs : List Event). elim xs [ [] ↦ x | y ∷ ys ↦ y ]) h)
one_event bs (e ∷ f ∷ es) x h = absurd (let n = ap length h in omega (arith, n))

changed : (p : Profile) (bs : List Block) (b c : Block) (n : ℕ) (es : List Entry) → IsResized p b n es (Some c) → has_block bs b ≡ true → has_block (hand_through bs es) c ≡ true
changed p bs b c n es (same_size some same none is) h = ap (λ x. has_block (hand_through bs x) c) none ∙ (ap (has_block bs) (same_Some c b is) ∙ h)
changed p bs b c n es (resized_in_place k one other by is) h =
    let now : block_at b.first (good_size_of n) ≡ c = sym (same_Some c (block_at b.first (good_size_of n)) is) in
    ap (λ x. has_block x c) (one_event bs es (Size k b.first b.size (good_size_of n)) by)
    ∙ subst (λ d. has_block (map (λ x. if same_block b x then d else x) bs) c ≡ true) (sym now) (has_changed bs b c h)
changed p bs b c n es (still_large mine its stays none is) h = ap (λ x. has_block (hand_through bs x) c) none ∙ (ap (has_block bs) (same_Some c b is) ∙ h)

-- nothing happens to any where none is changed
pub unchanged : HandLaws → (s t : Account) (l m : LotView) (n : ℕ) → Resizes s l n false t m → (o : LotView) → IsFreeable s o → IsFreeable t o
unchanged H s t l m n r o lot =
    let adds = r.grows.adds in
    still s t r.mine _ o o adds lot refl (ap (λ h. has_block h (block_of o)) (hand_then H s t r.mine _ adds ∙ ap (hand_through (hand s)) r.in_place.0) ∙ lot.in_hand)

pub still_resized : HandLaws → (s t : Account) (l m : LotView) (n : ℕ) (got : Bool) → Resizes s l n got t m → IsFreeable s l → IsFreeable t m
still_resized H s t l m n true r lot =
    let adds = r.grows.adds in
    let is = r.in_place in
    still s t r.mine _ l m adds lot is.1.space (ap (λ h. has_block h (block_of m)) (hand_then H s t r.mine _ adds) ∙ changed t.profile (hand s) (block_of l) (block_of m) n r.mine is.0 lot.in_hand)
still_resized H s t l m n false r lot = subst (λ x. IsFreeable t x) (sym r.in_place.1) (unchanged H s t l m n r l lot)
