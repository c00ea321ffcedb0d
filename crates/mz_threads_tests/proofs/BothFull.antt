-- A client may note, at a book of toys of which nothing was asked yet, that a magazine of tiny and its depot are full.
use Rattle.std.proofs.Common.{◌≡◌, ℕ, ◌<◌, ◌≤◌, ◌==◌, List, [], ◌∷◌, ◌++◌, Bool, true, false, refl, ap, sym, subst, ◌∙◌, zero, suc, arith, None}
use Rattle.std.specs.Prelude.{◌||◌, ◌↔◌}
use Rattle.std.proofs.lemmas.Bool.{false≢true, eqb-true}
use Rattle.mz_base.specs.declared.profile.Profile.{Profile}
use Rattle.mz_events.specs.declared.place.Place.{Place}
use Rattle.mz_events.specs.declared.place.Place.TheVariants.{Tiny, TinyDepot}
use Rattle.mz_events.specs.declared.entry.Entry.{Entry}
use Rattle.mz_events.specs.declared.event.Event.{Event}
use Rattle.mz_events.specs.declared.event.Event.TheVariants.{Full}
use Rattle.mz_events.specs.Places.{Spot, keeper_at, same_spot, spot_of}
use Rattle.mz_events.specs.State.{State, opening, value_at, nothing_kept, look_up, write}
use Rattle.mz_events.specs.Effect.{after, write_all}
use Rattle.mz_events.specs.Rules.{Fits}
use Rattle.mz_events.specs.Fitting.{FitsByEvent}
use Rattle.mz_events.specs.History.{after_all}
use Rattle.mz_events.specs.Holding.{ReadsHeld}
use Rattle.mz_book.specs.Keepers.{keeper_count, keeper_spot, place_at, is_among, is_held}
use Rattle.mz_book.specs.Account.{Account, state_of, known, holds_spot, entry_at}
use Rattle.mz_book.specs.Calls.{CanNote, Notes}
use Rattle.mz_book.specs.Plain.{opening_account, Reserves}
use Rattle.mz_book.specs.Client.{HasTaken, MayNoteBoth}
use Rattle.mz_threads_tests.specs.Toys.{toy_profile, toy_site, tiny_full, depot_full}

or_none : (b : Bool) → (b || false) ≡ b
or_none true = refl
or_none false = refl

or_elim : {P : Type 0} (a b : Bool) → (a ≡ true → P) → (b ≡ true → P) → (a || b) ≡ true → P
or_elim true b f g h = f refl
or_elim false b f g h = g h

fits_by : (p q : Profile) (es fs : List Entry) (c d : ℕ) (e : Event) → p ≡ q → es ≡ fs → c ≡ d → Fits q (after_all q opening fs) d e → Fits p (after_all p opening es) c e
fits_by p q es fs c d e ep ee ec h =
    subst (λ (r : Profile). Fits r (after_all r opening es) c e) (sym ep) (subst (λ gs. Fits q (after_all q opening gs) c e) (sym ee) (subst (λ i. Fits q (after_all q opening fs) i e) (sym ec) h))

first_fits : (fits : (p : Profile) (s : State) (c : ℕ) → FitsByEvent p s c) → Fits toy_profile (after_all toy_profile opening []) 0 tiny_full
unfolding after_all look_up
first_fits fits = ((fits toy_profile (after_all toy_profile opening []) 0).full (Tiny 0 0) 16 16).1 (record {
  standing = record { caller = omega arith; exists = refl; zone_open = refl };
  kind = refl;
  calm = refl;
  some = omega arith;
  some_alignment = omega arith;
  no_room = λ h. refl;
  none_fits = λ h. absurd (false≢true h);
})

second_fits : (fits : (p : Profile) (s : State) (c : ℕ) → FitsByEvent p s c) (m : ℕ) → Fits toy_profile (after_all toy_profile opening (entry_at m 0 tiny_full ∷ [])) 0 depot_full
unfolding after_all after look_up write write_all
second_fits fits m = ((fits toy_profile (after_all toy_profile opening (entry_at m 0 tiny_full ∷ [])) 0).full (TinyDepot 0) 16 16).1 (record {
  standing = record { caller = omega arith; exists = refl; zone_open = refl };
  kind = refl;
  calm = refl;
  some = omega arith;
  some_alignment = omega arith;
  no_room = λ h. refl;
  none_fits = λ h. absurd (false≢true h);
})

kept_first : (i : ℕ) → is_among (0 ∷ 1 ∷ []) i ≡ true → (value_at (after_all toy_profile opening []) (keeper_spot toy_profile i)).kept ≡ nothing_kept
unfolding after_all look_up
kept_first i y = refl

among_two : (i : ℕ) → is_among (0 ∷ 1 ∷ []) i ≡ true → i < 2
among_two i y = or_elim (0 == i) ((1 == i) || false)
    (λ q. let z : 0 ≡ i = eqb-true 0 i q in omega arith)
    (λ q. or_elim (1 == i) false (λ r. let z : 1 ≡ i = eqb-true 1 i r in omega arith) (λ r. absurd (false≢true r)) q)
    y

kept_last : (i m n : ℕ) → is_among (0 ∷ 1 ∷ []) i ≡ true → (value_at (after_all toy_profile opening (entry_at m 0 tiny_full ∷ entry_at n 0 depot_full ∷ [])) (keeper_spot toy_profile i)).kept ≡ nothing_kept
unfolding place_at after_all after look_up write write_all
kept_last zero m n y = refl
kept_last (suc zero) m n y = refl
kept_last (suc (suc i)) m n y = let l = among_two (suc (suc i)) y in absurd (omega arith)

calm_last : (i m n : ℕ) → is_among (0 ∷ 1 ∷ []) i ≡ true → (value_at (after_all toy_profile opening (entry_at m 0 tiny_full ∷ entry_at n 0 depot_full ∷ [])) (keeper_spot toy_profile i)).duty ≡ None
unfolding place_at after_all after look_up write write_all
calm_last zero m n y = refl
calm_last (suc zero) m n y = refl
calm_last (suc (suc i)) m n y = let l = among_two (suc (suc i)) y in absurd (omega arith)

-- an event that reads one place alone reads what is held
reads_one : (spots : (j k : Spot) → (same_spot j k ≡ true) ↔ (j ≡ k)) (t : Account) (q : Place) → spot_of q ≡ keeper_at q → t.profile ≡ toy_profile → t.held ≡ 0 ∷ 1 ∷ [] → is_held toy_profile (0 ∷ 1 ∷ []) (keeper_at q) ≡ true → ReadsHeld t.profile (holds_spot t) (Full q 16 16)
reads_one spots t q at p held there j y =
    let one : same_spot j (spot_of q) ≡ true = (sym (or_none (same_spot j (spot_of q))) ∙ sym (or_none (same_spot j (spot_of q) || false))) ∙ y in
    let is : j ≡ keeper_at q = (spots j (spot_of q)).0 one ∙ at in
    ap (is_held t.profile t.held) is ∙ (ap (λ h. is_held t.profile h (keeper_at q)) held ∙ (ap (λ (r : Profile). is_held r (0 ∷ 1 ∷ []) (keeper_at q)) p ∙ there))

module _ (fits : (p : Profile) (s : State) (c : ℕ) → FitsByEvent p s c) (spots : (j k : Spot) → (same_spot j k ≡ true) ↔ (j ≡ k)) (s : Account) (profile : s.profile ≡ toy_profile) (caller : s.caller ≡ 0) (between : s.between ≡ true) (seen : s.seen ≡ []) (held : s.held ≡ []) (spare : 2 ≤ s.spare) where
  module _ (t : Account) (h : HasTaken s 0 1 t) where
    none_seen : t.seen ≡ []
    none_seen = let g = h.grows.grows.adds in g.seen ∙ (ap (λ es. s.seen ++ es) (g.alone between) ∙ ap (λ es. es ++ []) seen)

    p1 : t.profile ≡ toy_profile
    p1 = h.grows.grows.adds.same.profile ∙ profile

    c1 : t.caller ≡ 0
    c1 = h.grows.grows.adds.same.caller ∙ caller

    b1 : t.between ≡ true
    b1 = h.grows.grows.adds.same.between ∙ between

    may_first : CanNote t tiny_full
    may_first = let r = h.grows.grows.adds.spare in record {
      room = omega arith;
      between = λ y. absurd (false≢true y);
      in_hand = refl;
      by_held = λ y. record {
        held = reads_one spots t (Tiny 0 0) refl p1 h.held refl;
        fits = fits_by t.profile toy_profile t.seen [] t.caller 0 tiny_full p1 none_seen c1 (first_fits fits);
      };
      at_nano = λ y. absurd (false≢true y);
    }

    module _ (u : Account) (m : ℕ) (k : Notes t tiny_full m u) where
      p2 : u.profile ≡ toy_profile
      p2 = ap (λ (a : Account). a.profile) k.after ∙ p1

      one_seen : u.seen ≡ entry_at m 0 tiny_full ∷ []
      one_seen = ap (λ (a : Account). a.seen) k.after ∙ (ap (λ es. (t.seen ++ es) ++ entry_at m t.caller tiny_full ∷ []) (k.alone b1)
          ∙ (ap (λ es. (es ++ []) ++ entry_at m t.caller tiny_full ∷ []) none_seen ∙ ap (λ i. entry_at m i tiny_full ∷ []) c1))

      may_second : CanNote u depot_full
      may_second = let r = h.grows.grows.adds.spare in let r2 = ap (λ (a : Account). a.spare) k.after in record {
        room = omega arith;
        between = λ y. absurd (false≢true y);
        in_hand = refl;
        by_held = λ y. record {
          held = reads_one spots u (TinyDepot 0) refl p2 (ap (λ (a : Account). a.held) k.after ∙ h.held) refl;
          fits = fits_by u.profile toy_profile u.seen (entry_at m 0 tiny_full ∷ []) u.caller 0 depot_full p2 one_seen (ap (λ (a : Account). a.caller) k.after ∙ c1) (second_fits fits m);
        };
        at_nano = λ y. absurd (false≢true y);
      }

      module _ (v : Account) (n : ℕ) (o : Notes u depot_full n v) where
        both_seen : v.seen ≡ entry_at m 0 tiny_full ∷ entry_at n 0 depot_full ∷ []
        both_seen =
            let c2 = ap (λ (a : Account). a.caller) k.after ∙ c1 in
            ap (λ (a : Account). a.seen) o.after ∙ (ap (λ es. (u.seen ++ es) ++ entry_at n u.caller depot_full ∷ []) (o.alone (ap (λ (a : Account). a.between) k.after ∙ b1))
            ∙ (ap (λ es. (es ++ []) ++ entry_at n u.caller depot_full ∷ []) one_seen ∙ ap (λ i. entry_at m 0 tiny_full ∷ entry_at n i depot_full ∷ []) c2))

        last_state : state_of v ≡ after_all toy_profile opening (entry_at m 0 tiny_full ∷ entry_at n 0 depot_full ∷ [])
        last_state = ap (λ (r : Profile). after_all r opening v.seen) (ap (λ (a : Account). a.profile) o.after ∙ p2) ∙ ap (after_all toy_profile opening) both_seen

        at_last : (j : Spot) → known v j ≡ value_at (after_all toy_profile opening (entry_at m 0 tiny_full ∷ entry_at n 0 depot_full ∷ [])) j
        at_last j = ap (λ (x : State). value_at x j) last_state

        same_kept : (i : ℕ) → is_among (0 ∷ 1 ∷ []) i ≡ true → (known v (keeper_spot t.profile i)).kept ≡ (known t (keeper_spot t.profile i)).kept
        same_kept i y =
            let first : state_of t ≡ after_all toy_profile opening [] = ap (λ (r : Profile). after_all r opening t.seen) p1 ∙ ap (after_all toy_profile opening) none_seen in
            let before : (known t (keeper_spot t.profile i)).kept ≡ nothing_kept =
            ap (λ (x : State). (value_at x (keeper_spot t.profile i)).kept) first ∙ (ap (λ (r : Profile). (value_at (after_all toy_profile opening []) (keeper_spot r i)).kept) p1 ∙ kept_first i y) in
            ap (λ w. w.kept) (at_last (keeper_spot t.profile i)) ∙ (ap (λ (r : Profile). (value_at (after_all toy_profile opening (entry_at m 0 tiny_full ∷ entry_at n 0 depot_full ∷ [])) (keeper_spot r i)).kept) p1 ∙ (kept_last i m n y ∙ sym before))

        still_calm : (i : ℕ) → is_among (0 ∷ 1 ∷ []) i ≡ true → (known v (keeper_spot t.profile i)).duty ≡ None
        still_calm i y = ap (λ w. w.duty) (at_last (keeper_spot t.profile i)) ∙ (ap (λ (r : Profile). (value_at (after_all toy_profile opening (entry_at m 0 tiny_full ∷ entry_at n 0 depot_full ∷ [])) (keeper_spot r i)).duty) p1 ∙ calm_last i m n y)

  may_note_both : MayNoteBoth s 0 1 tiny_full depot_full
  may_note_both = record {
    nothing_held = held;
    order = omega arith;
    exists = subst (λ (p : Profile). 1 < keeper_count p) (sym profile) (omega arith);
    no_zone = refl;
    no_zone_either = refl;
    first = λ t h. may_first t h;
    second = λ t u m h k. may_second t h u m k;
    kept = λ t u v m n i h k o y. same_kept t h u m k v n o i y;
    calm = λ t u v m n i h k o y. still_calm t h u m k v n o i y;
  }

-- a book of which nothing was asked yet but room for two entries
pub may_at_first : (fits : (p : Profile) (s : State) (c : ℕ) → FitsByEvent p s c) (spots : (j k : Spot) → (same_spot j k ≡ true) ↔ (j ≡ k)) (s t : Account) → s ≡ opening_account toy_profile toy_site → Reserves s 2 t → MayNoteBoth t 0 1 tiny_full depot_full
may_at_first fits spots s t e r =
    may_note_both fits spots t
    (ap (λ (a : Account). a.profile) r.after ∙ ap (λ (a : Account). a.profile) e)
    (ap (λ (a : Account). a.caller) r.after ∙ ap (λ (a : Account). a.caller) e)
    (ap (λ (a : Account). a.between) r.after ∙ ap (λ (a : Account). a.between) e)
    (ap (λ (a : Account). a.seen) r.after ∙ ap (λ (a : Account). a.seen) e)
    (ap (λ (a : Account). a.held) r.after ∙ ap (λ (a : Account). a.held) e)
    r.room
