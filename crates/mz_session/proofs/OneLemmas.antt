-- A batch of one is a request, or the end of one block, by itself.
use Rattle.std.proofs.Common.{◌≡◌, ◌≢◌, ℕ, ◌≤◌, List, [], ◌∷◌, ◌++◌, length, map, fold, Result, Ok, Err, refl, ap, sym, subst, ◌∙◌, arith}
use Rattle.std.specs.Prelude.{slice_index_or}
use Rattle.std.specs.List.{AllByRecursion}
use Rattle.std.proofs.lemmas.List.{append-nil}
use Rattle.mz_base.specs.declared.profile.Profile.{Profile}
use Rattle.mz_events.specs.declared.entry.Entry.{Entry}
use Rattle.mz_record.specs.Dropped.{IsDropped, DropInTurn, IsNotOfZone}
use Rattle.mz_zone.specs.declared.fault.NotLiveBlock.{NotLiveBlock}
use Rattle.mz_zone.specs.Blocks.{BlockView, block_of, hand_without}
use Rattle.mz_zone.specs.Calling.{AtView, Goes, hand_at}
use Rattle.mz_zone.specs.Answering.{Answers}
use Rattle.mz_zone.specs.Freeing.{Frees}
use Rattle.mz_zone.specs.Batches.{AnswersBatch, FreesBatch}

-- a member of a list of one is that one, and none is before it
alone : (b x : BlockView) (front back : List BlockView) → b ∷ [] ≡ front ++ x ∷ back → (front ≡ []) × (x ≡ b)
alone b x [] back same = (refl, sym (ap (λ bs. slice_index_or bs 0 b) same))
alone b x (f ∷ []) back same = let sizes = ap length same in absurd (omega (arith, sizes))
alone b x (f ∷ g ∷ front) back same = let sizes = ap length same in absurd (omega (arith, sizes))

-- a request that brought a block, the last of a list that was empty

pub one-made :
    (v w : AtView) (z n : ℕ) (before bs all rest : List BlockView) (x : BlockView) (u : Unit {0}) → AnswersBatch v z n 1 bs (Ok u) w
    → before ≡ [] → all ≡ before ++ bs → all ≡ rest ++ x ∷ [] → Answers v z n 16 (Ok x) w
one-made v w z n before [] all rest x u batch none more last = absurd batch.each
one-made v w z n before (b ∷ []) all rest x u batch none more last =
    let same = ap (λ bs. bs ++ b ∷ []) (sym none) ∙ sym more ∙ last in
    subst (λ y. Answers v z n 16 (Ok y) w) (sym (alone b x rest [] same).1) (subst (λ t. Answers v z n 16 (Ok b) t) (sym batch.each.2) batch.each.1)
one-made v w z n before (b ∷ c ∷ bs) all rest x u batch none more last = absurd batch.each.2

-- a block that ended, or came back

one-alone : (v w : AtView) (z : ℕ) (b : BlockView) (left : List BlockView) (got : Result (Unit {0}) NotLiveBlock) → FreesBatch v z (b ∷ []) got left w → Frees v z b got w
one-alone v w z b left (Ok u) batch =
    let p : Profile = v.book.profile in
    let h : List Entry = w.book.seen in
    let none = batch.stops.2 in
    let one = sym batch.stops.0 in
    let drop : DropInTurn p h (map block_of (b ∷ [])) batch.drops = subst (λ bs. DropInTurn p h (map block_of bs) batch.drops) one batch.drop in
    let of_zone : AllByRecursion (λ c. c.zone ≡ z) (b ∷ []) = subst (AllByRecursion (λ c. c.zone ≡ z)) one batch.of_zone in
    let whole : drop.0 ≡ batch.drops ++ batch.last =
    sym (ap (λ es. batch.drops ++ es) none ∙ append-nil batch.drops ∙ drop.2 ∙ ap (λ es. drop.0 ++ es) drop.4 ∙ append-nil drop.0)
    in
    record {
      mine = batch.drops ++ batch.last;
      few = batch.few;
      goes = batch.goes;
      freed = (of_zone.0, subst (IsDropped p h (block_of b)) whole drop.3);
      hand = batch.hand ∙ ap (fold (λ hand c. hand_without c hand) (hand_at v)) one;
      counts = batch.counts;
    }
one-alone v w z b left (Err e) batch =
    let there = alone b e.block batch.freed left batch.stops.0 in
    let none : batch.drops ≡ [] = subst (λ bs. DropInTurn v.book.profile w.book.seen (map block_of bs) batch.drops) there.0 batch.drop in
    let mine : batch.drops ++ batch.last ≡ batch.last = ap (λ es. es ++ batch.last) none in
    record {
      mine = batch.last;
      few = subst (λ es. length es ≤ 3) mine batch.few;
      goes = subst (λ es. Goes v es w) mine batch.goes;
      freed = (
        subst (λ c. c.zone ≢ z) there.1 batch.stops.1,
        subst (λ c. IsNotOfZone z (block_of c) batch.last) there.1 batch.stops.2,
        batch.stops.3,
        there.1,
      );
      hand = batch.hand ∙ ap (fold (λ hand c. hand_without c hand) (hand_at v)) there.0;
      counts = batch.counts;
    }

pub one-ended :
    (v w : AtView) (z : ℕ) (b : BlockView) (before all left : List BlockView) (got : Result (Unit {0}) NotLiveBlock) → FreesBatch v z all got left w → before ≡ [] → all ≡ before ++ b ∷ []
    → Frees v z b got w
one-ended v w z b before all left got batch none same = one-alone v w z b left got (subst (λ bs. FreesBatch v z bs got left w) (same ∙ ap (λ bs. bs ++ b ∷ []) none) batch)
