-- Requests one after another.
use Rattle.std.proofs.Common.{◌≡◌, ℕ, zero, suc, ◌+◌, ◌-◌, ◌*◌, ◌<◌, ◌≤◌, cond, List, [], ◌∷◌, ◌++◌, Option, None, Some, length, refl, ap, sym, subst, ◌∙◌, arith, inl, inr, append_assoc, append-nil}
use Rattle.std.specs.Prelude.{Result, Ok, Err}
use Rattle.std.proofs.lemmas.Grind.{flat_map-append}
use Rattle.std.specs.Borrow.{Bor, MutBor}
use Rattle.std.specs.Option.{is_none, option_to_list}
use Rattle.mz_base.specs.Sizes.{units_of}
use Rattle.mz_base.specs.declared.profile.Profile.{Profile}
use Rattle.mz_record.specs.Served.{ServeInTurn, block_made, blocks_made}
use Rattle.mz_book.specs.Account.{HoldsNothing, IsOrderly}
use Rattle.mz_rack.specs.declared.lot.Null.{Null}
use Rattle.mz_rack.specs.Ways.{request_of}
use Rattle.mz_zone.specs.Blocks.{BlockView, block_of}
use Rattle.mz_zone.specs.declared.at.At.{At}
use Rattle.mz_zone.specs.Calling.{AtView, CanCall, IsSeatedAt, KeepsReferences, KeepsSeat}
use Rattle.mz_nano.specs.declared.nano.Nano.{Nano}
use Rattle.mz_nano.specs.declared.seat.NanoSeat.{NanoSeat}
use Rattle.mz_zone.specs.Answering.{Answers}
use Rattle.mz_zone.specs.Batches.{AnswersInTurn, AnswersBatch, requests_made, served_without}
use Rattle.mz_zone.specs.Counts.{TriedTimesIf, counts_of, is_for_nano}
use Rattle.mz_zone.specs.ZoneLaws.{ZoneLaws}
use Rattle.mz_zone.proofs.Freed.{can_fewer}
use Rattle.mz_zone.proofs.Going.{goes_on, goes_nowhere}
use Rattle.mz_zone.proofs.Moved.{can_then, seated_after}
use Rattle.mz_zone.proofs.Noted.{served_on}
use Rattle.mz_zone.proofs.Summed.{no_try, once, tries_on, one_made, one_without, still_for_nano}

-- references that two calls keep
keeps_seat : (a b c : Option (Bor Nano × MutBor NanoSeat)) → KeepsSeat a b → KeepsSeat b c → KeepsSeat a c
keeps_seat None None None x y = tt
keeps_seat None None (Some c) x y = y
keeps_seat None (Some b) c x y = absurd x
keeps_seat (Some a) None c x y = absurd x
keeps_seat (Some a) (Some b) None x y = absurd y
keeps_seat (Some a) (Some b) (Some c) x y = (y.0 ∙ x.0, y.1 ∙ x.1)

pub keeps_on : {B : Type 0} (a b c : At B) → KeepsReferences a b → KeepsReferences b c → KeepsReferences a c
keeps_on a b c x y = (y.0 ∙ x.0, keeps_seat a.nano b.nano c.nano x.1 y.1)

keeps_its_seat : (a : Option (Bor Nano × MutBor NanoSeat)) → KeepsSeat a a
keeps_its_seat None = tt
keeps_its_seat (Some a) = (refl, refl)

pub keeps_all : {B : Type 0} (a : At B) → KeepsReferences a a
keeps_all a = (refl, keeps_its_seat a.nano)

-- requests that were answered in turn, all together
pub batch :
    (laws : ZoneLaws) (z n k : ℕ) (bs : List BlockView) (got : Result (Unit {0}) Null) (v w : AtView) → HoldsNothing v.book → IsSeatedAt v.book v.nano
    → IsOrderly w.book → AnswersInTurn v z n k bs got w → AnswersBatch v z n k bs got w
batch laws z n zero [] (Ok u) v w held seat orderly each = subst (λ x. AnswersBatch v z n 0 [] (Ok u) x) (sym each) none
  where
    none : AnswersBatch v z n 0 [] (Ok u) v
    none = record { mine = []; goes = goes_nowhere laws v held seat; serve = refl; made = refl; each = refl; tries = no_try (is_for_nano v z n 16) (units_of n) (counts_of v) }
batch laws z n zero [] (Err e) v w held seat orderly each = absurd each
batch laws z n zero (b ∷ bs) got v w held seat orderly each = absurd each
batch laws z n (suc k) [] (Ok u) v w held seat orderly each = absurd each
batch laws z n (suc k) [] (Err e) v w held seat orderly each = record {
  mine = each.mine;
  goes = each.goes;
  serve = inl each.serves;
  made = sym (laws.blocks_served v.book.profile w.book.seen (request_of v.book.caller z n 16) each.mine None each.serves.served);
  each = each;
  tries = once (is_for_nano v z n 16) (units_of n) (counts_of v) (counts_of w) None each.tries;
}
batch laws z n (suc k) (b ∷ bs) got v w held seat orderly (u, a, rest) =
    let same = a.goes.adds.same in
    let t : AnswersBatch u z n k bs got w =
    batch laws z n k bs got u w a.goes.nothing_held (seated_after v.book u.book v.nano u.nano a.goes.nano same.profile same.site seat) orderly rest in
    let first : blocks_made a.mine ≡ block_of b ∷ [] =
    laws.blocks_served v.book.profile u.book.seen (request_of v.book.caller z n 16) a.mine (Some (block_of b)) a.serves.served in
    record {
      mine = a.mine ++ t.mine;
      goes = goes_on laws v u w a.mine t.mine a.goes t.goes;
      serve = inr (
        a.mine,
        t.mine,
        block_of b,
        refl,
        served_on laws v u w a.mine t.mine (request_of v.book.caller z n 16) (Some (block_of b)) a.goes t.goes orderly a.serves,
        subst (λ c. ServeInTurn v.book.profile w.book.seen (request_of c z n 16) k t.mine) same.caller
            (subst (λ (p : Profile). ServeInTurn p w.book.seen (request_of u.book.caller z n 16) k t.mine) same.profile t.serve),
      );
      made = ap (λ cs. block_of b ∷ cs) t.made ∙ sym (flat_map-append (λ e. option_to_list (block_made e.event)) a.mine t.mine ∙ ap (λ cs. cs ++ blocks_made t.mine) first);
      each = (u, a, rest);
      tries = subst (λ k. TriedTimesIf (is_for_nano v z n 16) (units_of n) (requests_made (b ∷ bs) got) k (counts_of v) (counts_of w)) (one_without b bs got)
          (subst (λ m. TriedTimesIf (is_for_nano v z n 16) (units_of n) m (cond (is_none b.slot) 1 0 + served_without bs got) (counts_of v) (counts_of w)) (one_made b bs got)
          (tries_on (is_for_nano v z n 16) (units_of n) 1 (cond (is_none b.slot) 1 0) (requests_made bs got) (served_without bs got) (counts_of v) (counts_of u) (counts_of w)
          (once (is_for_nano v z n 16) (units_of n) (counts_of v) (counts_of u) b.slot a.tries)
          (subst (λ t. TriedTimesIf t (units_of n) (requests_made bs got) (served_without bs got) (counts_of u) (counts_of w)) (still_for_nano v u z n 16 a.goes.nano) t.tries)));
    }

-- requests after others that all brought blocks
in_turn :
    (z n i k : ℕ) (bs cs : List BlockView) (got : Result (Unit {0}) Null) (v u w : AtView) → AnswersInTurn v z n i bs (Ok tt) u → AnswersInTurn u z n k cs got w
    → AnswersInTurn v z n (i + k) (bs ++ cs) got w
in_turn z n zero k [] cs got v u w first second =
    let more : k ≡ 0 + k = omega arith in
    subst (λ j. AnswersInTurn v z n j cs got w) more (subst (λ x. AnswersInTurn x z n k cs got w) first second)
in_turn z n zero k (b ∷ bs) cs got v u w first second = absurd first
in_turn z n (suc i) k [] cs got v u w first second = absurd first
in_turn z n (suc i) k (b ∷ bs) cs got v u w (x, a, rest) second =
    let later : AnswersInTurn v z n (suc (i + k)) (b ∷ (bs ++ cs)) got w = (x, a, in_turn z n i k bs cs got x u w rest second) in
    let more : suc (i + k) ≡ suc i + k = omega arith in
    subst (λ j. AnswersInTurn v z n j (b ∷ (bs ++ cs)) got w) more later

-- So many of the requests have brought blocks, which stand behind the old ones, and there is room for the others.
pub record Begun (v u : AtView) (p : Profile) (z n k rest : ℕ) (old now : List BlockView) : Type 0 where
  pub bs : List BlockView
  pub items : now ≡ old ++ bs
  pub each : AnswersInTurn v z n k bs (Ok tt) u
  pub can : CanCall u p z (40 * rest)

pub at_first : (v : AtView) (p : Profile) (z n count : ℕ) (old : List BlockView) → CanCall v p z (40 * count) → Begun v v p z n 0 count old old
at_first v p z n count old can = record { bs = []; items = sym (append-nil old); each = refl; can = can }

module _ (v u : AtView) (p : Profile) (z n k count : ℕ) (old now : List BlockView) (begun : Begun v u p z n k (count - k) old now) where
  pub can_next : k < count → CanCall u p z 40
  can_next more = can_fewer u p z (40 * (count - k)) 40 (omega (arith, more)) begun.can

  pub one_more : (w : AtView) (b : BlockView) → k < count → Answers u z n 16 (Ok b) w → Begun v w p z n (k + 1) (count - (k + 1)) old (now ++ b ∷ [])
  one_more w b more a = record {
    bs = begun.bs ++ b ∷ [];
    items = ap (λ xs. xs ++ b ∷ []) begun.items ∙ append_assoc_back;
    each = in_turn z n k 1 begun.bs (b ∷ []) (Ok tt) v u w begun.each (w, a, refl);
    can = can_then u w p z (40 * (count - k)) (40 * (count - (k + 1))) a.mine begun.can a.goes
        (let e : w.book.spare ≡ u.book.spare - length a.mine = a.goes.adds.spare in let r : 40 * (count - k) ≤ u.book.spare = begun.can.serve.room in let f = a.few in omega (arith, e, r, f, more));
  }
    where
      append_assoc_back : (old ++ begun.bs) ++ b ∷ [] ≡ old ++ (begun.bs ++ b ∷ [])
      append_assoc_back = append_assoc old begun.bs (b ∷ [])

  module _ (laws : ZoneLaws) (held : HoldsNothing v.book) (seat : IsSeatedAt v.book v.nano) where
    pub all_served : k ≡ count → IsOrderly u.book → (bs : List BlockView) × (now ≡ old ++ bs) × AnswersBatch v z n count bs (Ok tt) u
    all_served e orderly =
        (begun.bs, begun.items, batch laws z n count begun.bs (Ok tt) v u held seat orderly (subst (λ i. AnswersInTurn v z n i begun.bs (Ok tt) u) e begun.each))

    pub no_more : (w : AtView) (e : Null) → k < count → IsOrderly w.book → Answers u z n 16 (Err e) w → (bs : List BlockView) × (now ≡ old ++ bs) × AnswersBatch v z n count bs (Err e) w
    no_more w e more orderly a =
        let last : AnswersInTurn u z n (suc (count - k - 1)) [] (Err e) w = a in
        let sum : k + suc (count - k - 1) ≡ count = omega (arith, more) in (
          begun.bs,
          begun.items,
          batch laws z n count begun.bs (Err e) v w held seat orderly
              (subst (λ bs. AnswersInTurn v z n count bs (Err e) w) (append-nil begun.bs)
              (subst (λ i. AnswersInTurn v z n i (begun.bs ++ []) (Err e) w) sum (in_turn z n k (suc (count - k - 1)) begun.bs [] (Err e) v u w begun.each last))),
        )
