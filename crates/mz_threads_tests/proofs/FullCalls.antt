-- A toy may be held while a book is told that large is full, once and again and again.
use Rattle.std.proofs.Common.{◌≡◌, ℕ, ◌+◌, ◌-◌, ◌<◌, ◌≤◌, [], ◌∷◌, ◌++◌, true, refl, ap, sym, subst, ◌∙◌, zero, suc, arith, length-append, append-nil, None, ne_eqb}
use Rattle.std.specs.List.{list_all}
use Rattle.std.proofs.lemmas.Bool.{false≢true}
use Rattle.std.proofs.lemmas.List.{append_assoc}
use Rattle.std.proofs.lemmas.List.Elements.{All-nil, All-cons, All-append}
use Rattle.mz_base.specs.declared.profile.Profile.{Profile}
use Rattle.mz_base.specs.Site.{Site}
use Rattle.mz_events.specs.declared.place.Place.{Place}
use Rattle.mz_events.specs.declared.place.Place.TheVariants.{Large}
use Rattle.mz_events.specs.Places.{Spot, keeper_at}
use Rattle.mz_events.specs.State.{Kept, nothing_kept, is_open, opening}
use Rattle.mz_events.specs.History.{after_all}
use Rattle.mz_events.specs.Room.{any_fits}
use Rattle.mz_events.specs.Fitting.{FitsByEvent}
use Rattle.mz_events.specs.Holding.{read_spots, ReadsHeld}
use Rattle.mz_events.specs.Standing.{Keeping, Stands, of_pages}
use Rattle.mz_book.specs.Keepers.{keeper_spot, place_at, is_held}
use Rattle.mz_book.specs.Account.{Account, state_of, known, holds_spot, entry_at, StandsFor}
use Rattle.mz_book.specs.Calls.{CanHold, Holds, CanNote, Notes, CanRelease, Releases}
use Rattle.mz_book.specs.Plain.{Reserves}
use Rattle.mz_threads_tests.specs.Toys.{toy, toy_site, toy_profile, large_is_full, MayBeFull, WasFull, WereFull}

-- keeper 4 is that of large
large_is : (p : Profile) → p ≡ toy_profile → keeper_spot p 4 ≡ keeper_at (Large 0)
unfolding place_at
large_is p e = ap (λ (q : Profile). keeper_spot q 4) e

last_toy : (n : ℕ) → 5 ≤ n → toy n ≡ of_pages (record { space = toy_site; free = true ∷ true ∷ []; tiny_blanks = 0; small_blanks = 0 })
last_toy n l = rw (ne_eqb n 0 (λ e. absurd (omega arith)), ne_eqb n 1 (λ e. absurd (omega arith)), ne_eqb n 2 (λ e. absurd (omega arith)), ne_eqb n 3 (λ e. absurd (omega arith)), ne_eqb n 4 (λ e. absurd (omega arith))) refl

-- a toy that stands for large keeps nothing
keeps_none : (n : ℕ) (x : Site) (p : Profile) (k : Kept) → Stands (toy n) x p (Large 0) k → k ≡ nothing_kept
keeps_none zero x p k h = absurd (false≢true h.kind)
keeps_none (suc zero) x p k h = absurd (false≢true h.kind)
keeps_none (suc (suc zero)) x p k h = absurd (false≢true h.kind)
keeps_none (suc (suc (suc zero))) x p k h = absurd (false≢true h.kind)
keeps_none (suc (suc (suc (suc zero)))) x p k h = sym h.keeps
keeps_none (suc (suc (suc (suc (suc n))))) x p k h = absurd (false≢true (subst (λ (v : Keeping). Stands v x p (Large 0) k) (last_toy (suc (suc (suc (suc (suc n))))) (omega arith)) h).kind)

place_is : (p : Profile) → p ≡ toy_profile → place_at p 4 ≡ Large 0
unfolding place_at
place_is p e = ap (λ (q : Profile). place_at q 4) e

pub can_hold : (s : Account) → MayBeFull s 1 → CanHold s 4
can_hold s may = record { exists = subst (λ (p : Profile). 4 < Rattle.mz_book.specs.Keepers.keeper_count p) (sym may.profile) (omega arith); above_held = ap (λ xs. list_all (λ x. Rattle.std.specs.Prelude.nat_lt x 4) xs) may.nothing_held }

module _ (s t u w : Account) (n ticket : ℕ) (may : MayBeFull s 1) (h : Holds s 4 t) (stands : StandsFor t 4 (toy n)) where
  p1 : t.profile ≡ toy_profile
  p1 = ap (λ (a : Account). a.profile) h.after ∙ may.profile

  held1 : t.held ≡ 4 ∷ []
  held1 = ap (λ (a : Account). a.held) h.after ∙ ap (λ xs. xs ++ 4 ∷ []) may.nothing_held

  calm1 : (known t (keeper_at (Large 0))).duty ≡ None
  calm1 = ap (λ j. (known t j).duty) (sym (large_is s.profile may.profile)) ∙ h.calm

  kept1 : (known t (keeper_at (Large 0))).kept ≡ nothing_kept
  kept1 = keeps_none n t.site t.profile (known t (keeper_at (Large 0))).kept
      (subst (λ (q : Place). Stands (toy n) t.site t.profile q (known t (keeper_at (Large 0))).kept) (place_is t.profile p1) (subst (λ (j : Spot). Stands (toy n) t.site t.profile (place_at t.profile 4) (known t j).kept) (large_is t.profile p1) stands))

  large_held : is_held t.profile t.held (keeper_at (Large 0)) ≡ true
  large_held = ap (λ (p : Profile). is_held p t.held (keeper_at (Large 0))) p1 ∙ ap (λ xs. is_held (toy_profile) xs (keeper_at (Large 0))) held1

  pub can_note : FitsByEvent t.profile (state_of t) t.caller → ReadsHeld t.profile (holds_spot t) large_is_full → CanNote t large_is_full
  can_note fits reads = record {
    room = let r = ap (λ (a : Account). a.spare) h.after in let m = may.room in omega arith;
    between = λ y. absurd (false≢true y);
    in_hand = refl;
    by_held = λ y. record {
      held = reads;
      fits = (fits.full (Large 0) 1 1).1 (record {
        standing = record {
          caller = let e = ap (λ (p : Profile). p.callers) p1 in let c = ap (λ (a : Account). a.caller) h.after in let m = may.caller in omega arith;
          exists = ap (λ (p : Profile). Rattle.mz_events.specs.Places.exists_in p (Large 0)) p1;
          zone_open = h.zones 0 ∙ may.zone_open;
        };
        kind = refl;
        calm = calm1;
        some = omega arith;
        some_alignment = omega arith;
        no_room = λ z. absurd (false≢true (sym z));
        none_fits = λ z. ap (λ (k : Kept). any_fits k.cached 1) kept1;
      });
    };
    at_nano = λ y. absurd (false≢true y);
  }

  pub reads_large : (All-held : Rattle.std.specs.List.All (λ j. holds_spot t j ≡ true) (read_spots t.profile large_is_full) → ReadsHeld t.profile (holds_spot t) large_is_full) → ReadsHeld t.profile (holds_spot t) large_is_full
  reads_large f = f (All-cons (λ j. holds_spot t j ≡ true) (keeper_at (Large 0)) [] large_held (All-nil (λ j. holds_spot t j ≡ true)))

  module _ (k : Notes t large_is_full ticket u) where
    p2 : u.profile ≡ toy_profile
    p2 = ap (λ (a : Account). a.profile) k.after ∙ p1

    learnt : known u (keeper_at (Large 0)) ≡ Rattle.mz_events.specs.Effect.value_after (state_of t) t.caller large_is_full (keeper_at (Large 0))
    learnt = k.learns (keeper_at (Large 0)) large_held

    pub can_release : CanRelease u 4
    can_release = record {
      held = ap (λ (a : Account). Rattle.mz_book.specs.Keepers.is_among a.held 4) k.after ∙ ap (λ xs. Rattle.mz_book.specs.Keepers.is_among xs 4) held1;
      calm = ap (λ j. (known u j).duty) (large_is u.profile p2) ∙ ap (λ v. v.duty) learnt;
    }

    pub stands_again : StandsFor u 4 (toy n)
    stands_again =
        let kept : (known u (keeper_spot u.profile 4)).kept ≡ (known t (keeper_spot t.profile 4)).kept = ap (λ j. (known u j).kept) (large_is u.profile p2) ∙ (ap (λ v. v.kept) learnt ∙ ap (λ j. (known t j).kept) (sym (large_is t.profile p1))) in
        subst (λ (x : Site). Stands (toy n) x u.profile (place_at u.profile 4) (known u (keeper_spot u.profile 4)).kept) (sym (ap (λ (a : Account). a.site) k.after))
        (subst (λ (p : Profile). Stands (toy n) t.site p (place_at p 4) (known u (keeper_spot u.profile 4)).kept) (sym (ap (λ (a : Account). a.profile) k.after))
        (subst (λ (z : Kept). Stands (toy n) t.site t.profile (place_at t.profile 4) z) (sym kept) stands))

    pub was_full : Releases u 4 w → WasFull s ticket w
    was_full r = record {
      name = ap (λ (a : Account). a.name) r.after ∙ (ap (λ (a : Account). a.name) k.after ∙ ap (λ (a : Account). a.name) h.after);
      caller = ap (λ (a : Account). a.caller) r.after ∙ (ap (λ (a : Account). a.caller) k.after ∙ ap (λ (a : Account). a.caller) h.after);
      profile = ap (λ (a : Account). a.profile) r.after ∙ (ap (λ (a : Account). a.profile) k.after ∙ ap (λ (a : Account). a.profile) h.after);
      between = ap (λ (a : Account). a.between) r.after ∙ (ap (λ (a : Account). a.between) k.after ∙ ap (λ (a : Account). a.between) h.after);
      lights = ap (λ (a : Account). a.lights) r.after ∙ (ap (λ (a : Account). a.lights) k.after ∙ ap (λ (a : Account). a.lights) h.after);
      nothing_held = ap (λ (a : Account). a.held) r.after ∙ ap (λ xs. Rattle.mz_book.specs.Calls.without 4 xs) (ap (λ (a : Account). a.held) k.after ∙ held1);
      noted = ap (λ (a : Account). a.noted) r.after ∙ (ap (λ (a : Account). a.noted) k.after ∙ ap (λ (a : Account). a.noted ++ Rattle.mz_book.specs.Account.entry_at ticket a.caller large_is_full ∷ []) h.after);
      spare = ap (λ (a : Account). a.spare) r.after ∙ (ap (λ (a : Account). a.spare) k.after ∙ ap (λ (a : Account). a.spare - 1) h.after);
      zones = ap (λ (a : Account). is_open (state_of a) 0) r.after ∙ (k.zones 0 ∙ h.zones 0);
    }

-- a book of which nothing was asked yet but room

pub zone_at_first : (p : Profile) → is_open (after_all p opening []) 0 ≡ true
unfolding after_all
zone_at_first p = refl

pub may_at_first : (s t : Account) (n : ℕ) → s.profile ≡ toy_profile → s.caller < 2 → s.held ≡ [] → s.seen ≡ [] → Reserves s n t → MayBeFull t n
may_at_first s t n p c h e r = record {
  profile = ap (λ (a : Account). a.profile) r.after ∙ p;
  caller = let x = ap (λ (a : Account). a.caller) r.after in omega arith;
  nothing_held = ap (λ (a : Account). a.held) r.after ∙ h;
  room = r.room;
  zone_open = ap (λ (a : Account). is_open (state_of a) 0) r.after ∙ (ap (λ es. is_open (after_all s.profile opening es) 0) e ∙ zone_at_first s.profile);
}

-- entries that are noted again and again

pub were_none : (s : Account) → s.held ≡ [] → WereFull s 0 s
were_none s h = record {
  later = [];
  noted = sym (append-nil s.noted);
  count = refl;
  each = All-nil (λ e. (e.caller ≡ s.caller) × (e.event ≡ large_is_full));
  name = refl;
  caller = refl;
  profile = refl;
  between = refl;
  nothing_held = h;
  lights = refl;
  spare = omega arith;
  zones = refl;
}

pub were_more : (s t u : Account) (n ticket : ℕ) → WereFull s n t → WasFull t ticket u → WereFull s (n + 1) u
were_more s t u n ticket w x = record {
  later = w.later ++ entry_at ticket t.caller large_is_full ∷ [];
  noted = x.noted ∙ (ap (λ es. es ++ entry_at ticket t.caller large_is_full ∷ []) w.noted ∙ append_assoc s.noted w.later (entry_at ticket t.caller large_is_full ∷ []));
  count = let l = length-append w.later (entry_at ticket t.caller large_is_full ∷ []) in let k = w.count in omega arith;
  each = All-append (λ e. (e.caller ≡ s.caller) × (e.event ≡ large_is_full)) w.later (entry_at ticket t.caller large_is_full ∷ []) w.each (All-cons (λ e. (e.caller ≡ s.caller) × (e.event ≡ large_is_full)) (entry_at ticket t.caller large_is_full) [] (w.caller, refl) (All-nil (λ e. (e.caller ≡ s.caller) × (e.event ≡ large_is_full))));
  name = x.name ∙ w.name;
  caller = x.caller ∙ w.caller;
  profile = x.profile ∙ w.profile;
  between = x.between ∙ w.between;
  nothing_held = x.nothing_held;
  lights = x.lights ∙ w.lights;
  spare = let a = x.spare in let b = w.spare in omega arith;
  zones = x.zones ∙ w.zones;
}

pub may_next : (s t : Account) (n : ℕ) → n < 1000 → MayBeFull s 1000 → WereFull s n t → MayBeFull t 1
may_next s t n l may w = record {
  profile = w.profile ∙ may.profile;
  caller = let c = w.caller in let m = may.caller in omega arith;
  nothing_held = w.nothing_held;
  room = let a = w.spare in let r = may.room in omega arith;
  zone_open = w.zones ∙ may.zone_open;
}
