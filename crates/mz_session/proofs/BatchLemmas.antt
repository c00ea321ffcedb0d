-- Batches: requests and ends one after another, and the blocks of a batch by number.
use Rattle.std.proofs.Common.{◌≡◌, ℕ, suc, ◌+◌, List, [], ◌∷◌, ◌++◌, length, Some, None, refl, ap, sym, subst, ◌∙◌, inl, inr, arith, append_assoc, append-nil}
use Rattle.std.specs.Prelude.{Contains}
use Rattle.std.proofs.lemmas.List.Concat.{flat_map-append}
use Rattle.std.proofs.lemmas.List.Elements.{Contains-append_left, Contains-append_right}
use Rattle.mz_base.specs.declared.profile.Profile.{Profile}
use Rattle.mz_base.specs.Space.{Block}
use Rattle.mz_events.specs.declared.entry.Entry.{Entry}
use Rattle.mz_events.specs.State.{opening}
use Rattle.mz_events.specs.History.{AreLawful}
use Rattle.mz_record.specs.Served.{Request, Serves, ServeInTurn, blocks_made}
use Rattle.mz_record.specs.Dropped.{IsDropped, DropInTurn}
use Rattle.mz_session.specs.SessionLaws.{SessionLaws}

-- ends one after another

in-front : (h es front back : List Entry) → es ≡ front ++ back → ((e : Entry) → Contains es e → Contains h e) → (e : Entry) → Contains front e → Contains h e
in-front h es front back is there e at = there e (subst (λ xs. Contains xs e) (sym is) (Contains-append_left front back e at))

in-back : (h es front back : List Entry) → es ≡ front ++ back → ((e : Entry) → Contains es e → Contains h e) → (e : Entry) → Contains back e → Contains h e
in-back h es front back is there e at = there e (subst (λ xs. Contains xs e) (sym is) (Contains-append_right front back e at))

pub drops-later :
    (laws : SessionLaws) (p : Profile) (h later : List Entry) (bs : List Block) (es : List Entry)
    → AreLawful p opening (h ++ later) → ((e : Entry) → Contains es e → Contains h e) → DropInTurn p h bs es → DropInTurn p (h ++ later) bs es
drops-later laws p h later [] es lawful there drops = drops
drops-later laws p h later (b ∷ bs) es lawful there (front, back, is, one, rest) = (
  front,
  back,
  is,
  laws.later_dropped p h later b front lawful (in-front h es front back is there) one,
  drops-later laws p h later bs back lawful (in-back h es front back is there) rest,
)

pub drops-more :
    (p : Profile) (h : List Entry) (bs : List Block) (es : List Entry) (b : Block) (more : List Entry)
    → DropInTurn p h bs es → IsDropped p h b more → DropInTurn p h (bs ++ b ∷ []) (es ++ more)
drops-more p h [] es b more none one = (more, [], ap (λ xs. xs ++ more) none ∙ sym (append-nil more), one, refl)
drops-more p h (x ∷ bs) es b more (front, back, is, first, rest) one =
    (front, back ++ more, ap (λ xs. xs ++ more) is ∙ append_assoc front back more, first, drops-more p h bs back b more rest one)

-- requests one after another, each served with a block

abbrev pub AreServed : Profile → List Entry → Request → List Block → List Entry → Type 0
AreServed p h q [] es = es ≡ []
AreServed p h q (b ∷ bs) es = (front : List Entry) × (back : List Entry) × (es ≡ front ++ back) × Serves p h q front (Some b) × AreServed p h q bs back

pub served-later :
    (laws : SessionLaws) (p : Profile) (h later : List Entry) (q : Request) (bs : List Block) (es : List Entry)
    → AreLawful p opening (h ++ later) → ((e : Entry) → Contains es e → Contains h e) → AreServed p h q bs es → AreServed p (h ++ later) q bs es
served-later laws p h later q [] es lawful there served = served
served-later laws p h later q (b ∷ bs) es lawful there (front, back, is, one, rest) = (
  front,
  back,
  is,
  laws.later_served p h later q front (Some b) lawful (in-front h es front back is there) one,
  served-later laws p h later q bs back lawful (in-back h es front back is there) rest,
)

pub served-more :
    (p : Profile) (h : List Entry) (q : Request) (bs : List Block) (es : List Entry) (b : Block) (more : List Entry)
    → AreServed p h q bs es → Serves p h q more (Some b) → AreServed p h q (bs ++ b ∷ []) (es ++ more)
served-more p h q [] es b more none one = (more, [], ap (λ xs. xs ++ more) none ∙ sym (append-nil more), one, refl)
served-more p h q (x ∷ bs) es b more (front, back, is, first, rest) one =
    (front, back ++ more, ap (λ xs. xs ++ more) is ∙ append_assoc front back more, first, served-more p h q bs back b more rest one)

-- all of so many were served, or those before the last
pub in-turn-all : (p : Profile) (h : List Entry) (q : Request) (bs : List Block) (es : List Entry) → AreServed p h q bs es → ServeInTurn p h q (length bs) es
in-turn-all p h q [] es served = served
in-turn-all p h q (b ∷ bs) es (front, back, is, one, rest) = inr (front, back, b, is, one, in-turn-all p h q bs back rest)

pub in-turn-null :
    (p : Profile) (h : List Entry) (q : Request) (k count : ℕ) (bs : List Block) (es last : List Entry) → AreServed p h q bs es → Serves p h q last None
    → count ≡ length bs + suc k → ServeInTurn p h q count (es ++ last)
in-turn-null p h q k count [] es last none null is =
    let one : count ≡ suc k = omega (arith, is) in
    subst (λ n. ServeInTurn p h q n (es ++ last)) (sym one) (inl (subst (λ xs. Serves p h q xs None) (sym (ap (λ xs. xs ++ last) none)) null))
in-turn-null p h q k count (b ∷ bs) es last (front, back, is, one, rest) null many =
    let more : count ≡ suc (length bs + suc k) = omega (arith, many) in
    subst (λ n. ServeInTurn p h q n (es ++ last)) (sym more)
    (inr (front, back ++ last, b, ap (λ xs. xs ++ last) is ∙ append_assoc front back last, one, in-turn-null p h q k (length bs + suc k) bs back last rest null refl))

-- the blocks that were made are those
pub made-of : (laws : SessionLaws) (p : Profile) (h : List Entry) (q : Request) (bs : List Block) (es : List Entry) → AreServed p h q bs es → blocks_made es ≡ bs
made-of laws p h q [] es none = ap blocks_made none
made-of laws p h q (b ∷ bs) es (front, back, is, one, rest) =
    ap blocks_made is ∙ flat_map-append _ front back ∙ ap (λ xs. xs ++ blocks_made back) (laws.blocks_served p h q front (Some b) one.served)
    ∙ ap (λ xs. b ∷ xs) (made-of laws p h q bs back rest)

pub made-null :
    (laws : SessionLaws) (p : Profile) (h : List Entry) (q : Request) (bs : List Block) (es last : List Entry) → AreServed p h q bs es → Serves p h q last None
    → blocks_made (es ++ last) ≡ bs
made-null laws p h q bs es last served null =
    flat_map-append _ es last ∙ ap (λ xs. blocks_made es ++ xs) (laws.blocks_served p h q last None null.served) ∙ append-nil (blocks_made es) ∙ made-of laws p h q bs es served
