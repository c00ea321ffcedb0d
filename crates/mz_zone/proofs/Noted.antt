-- The entries of a call are among what its book has seen, behind all that was seen before it.
use Rattle.std.proofs.Common.{◌≡◌, ℕ, zero, suc, ◌+◌, ◌≤◌, ◌==◌, List, [], ◌∷◌, ◌++◌, length, Option, Some, refl, sym, subst, ◌∙◌, arith, inl, inr, ◌⊎◌, ⊎_elim, length-append}
use Rattle.std.specs.Prelude.{slice_get, if◌then◌else◌, Contains}
use Rattle.std.proofs.lemmas.Bool.{cases_Bool}
use Rattle.std.proofs.lemmas.Option.{slice_get_read}
use Rattle.std.proofs.lemmas.List.{get_or-append-add}
use Rattle.std.proofs.lemmas.List.Elements.{Contains-append_right}
use Rattle.mz_events.specs.declared.entry.Entry.{Entry}
use Rattle.mz_events.specs.Hands.{own}
use Rattle.mz_events.specs.History.{AreLawful}
use Rattle.mz_events.specs.State.{opening}
use Rattle.mz_base.specs.Space.{Block}
use Rattle.mz_record.specs.Served.{Request, Serves}
use Rattle.mz_record.specs.Dropped.{IsDropped}
use Rattle.mz_book.specs.Account.{IsOrderly}
use Rattle.mz_zone.specs.Calling.{AtView, Goes}
use Rattle.mz_zone.specs.Moving.{IsBefore}
use Rattle.mz_zone.specs.ZoneLaws.{ZoneLaws}

one_of : (y : Entry) (ys : List Entry) (x : Entry) → Contains (y ∷ ys) x → (y ≡ x) ⊎ Contains ys x
one_of y ys x (zero, l, e) = inl e
one_of y ys x (suc k, l, e) = inr (k, omega arith, e)

-- an own entry is one of all
own_in : (c : ℕ) (es : List Entry) (e : Entry) → Contains (own c es) e → Contains es e
own_in c [] e (k, l, is) = absurd (omega arith)
own_in c (y ∷ ys) e there = elim (cases_Bool (y.caller == c)) [
  | inl t ↦ ⊎_elim (λ (is : y ≡ e). (zero, omega arith, is)) (λ (r : Contains (own c ys) e). later (own_in c ys e r))
      (one_of y (own c ys) e (subst (λ b. Contains (if b then y ∷ own c ys else own c ys) e) t there))
  | inr n ↦ later (own_in c ys e (subst (λ b. Contains (if b then y ∷ own c ys else own c ys) e) n there))
]
  where
    later : Contains ys e → Contains (y ∷ ys) e
    later (k, l, is) = (suc k, omega arith, is)

-- an entry of the second list is so far behind the first
later_at : (xs ys : List Entry) (e : Entry) (at : Contains ys e) → slice_get (xs ++ ys) (length xs + at.0) ≡ Some e
later_at xs ys e at =
    let long = length-append xs ys in
    let low = at.1 in
    slice_get_read (xs ++ ys) (length (xs ++ ys)) (length xs + at.0) e refl (omega (arith, long, low)) (sym (get_or-append-add xs ys at.0 e ∙ at.2))

module _ (v w : AtView) (mine : List Entry) (goes : Goes v mine w) where
  noted_later : (e : Entry) → Contains mine e → Contains goes.adds.more e
  noted_later e i = own_in v.book.caller goes.adds.more e (subst (λ es. Contains es e) (sym goes.adds.own_is) i)

  pub noted_seen : (e : Entry) → Contains mine e → Contains w.book.seen e
  noted_seen e i = subst (λ h. Contains h e) (sym goes.adds.seen) (Contains-append_right v.book.seen goes.adds.more e (noted_later e i))

  pub none_before : (laws : ZoneLaws) → IsOrderly w.book → IsBefore v mine (length v.book.seen)
  none_before laws orderly = record { all_seen = omega arith; none_noted = λ e i. behind e (noted_later e i) }
    where
      behind : (e : Entry) → Contains goes.adds.more e → length v.book.seen ≤ e.ticket
      behind e at =
          let lawful : AreLawful w.book.profile opening (v.book.seen ++ goes.adds.more) = subst (λ h. AreLawful w.book.profile opening h) goes.adds.seen orderly.lawful in
          let t : e.ticket ≡ 0 + (length v.book.seen + at.0) =
          laws.index w.book.profile opening (v.book.seen ++ goes.adds.more) lawful (length v.book.seen + at.0) e (later_at v.book.seen goes.adds.more e at) in
          omega (arith, t)

-- what served a request still does after another call
pub served_on :
    (laws : ZoneLaws) (v u w : AtView) (xs ys : List Entry) (q : Request) (got : Option Block) → Goes v xs u → Goes u ys w → IsOrderly w.book
    → Serves v.book.profile u.book.seen q xs got → Serves v.book.profile w.book.seen q xs got
served_on laws v u w xs ys q got first second orderly serves =
    let lawful : AreLawful v.book.profile opening (u.book.seen ++ second.adds.more) =
    subst (λ h. AreLawful v.book.profile opening h) second.adds.seen
    (subst (λ p. AreLawful p opening w.book.seen) (second.adds.same.profile ∙ first.adds.same.profile) orderly.lawful) in
    subst (λ h. Serves v.book.profile h q xs got) (sym second.adds.seen)
    (laws.served_later v.book.profile u.book.seen second.adds.more q xs got lawful (noted_seen v u xs first) serves)

-- and what dropped a block
pub dropped_on :
    (laws : ZoneLaws) (v u w : AtView) (xs ys : List Entry) (b : Block) → Goes v xs u → Goes u ys w → IsOrderly w.book
    → IsDropped v.book.profile u.book.seen b xs → IsDropped v.book.profile w.book.seen b xs
dropped_on laws v u w xs ys b first second orderly drops =
    let lawful : AreLawful v.book.profile opening (u.book.seen ++ second.adds.more) =
    subst (λ h. AreLawful v.book.profile opening h) second.adds.seen
    (subst (λ p. AreLawful p opening w.book.seen) (second.adds.same.profile ∙ first.adds.same.profile) orderly.lawful) in
    subst (λ h. IsDropped v.book.profile h b xs) (sym second.adds.seen)
    (laws.dropped_later v.book.profile u.book.seen second.adds.more b xs lawful (noted_seen v u xs first) drops)
