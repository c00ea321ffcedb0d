-- How a client of any book goes on from call to call.
use Rattle.std.proofs.Common.{◌≡◌, ℕ, ◌<◌, ◌==◌, Bool, true, false, [], ◌∷◌, ◌++◌, refl, ap, sym, subst, ◌∙◌, arith, eq-eqb, ne_eqb, None}
use Rattle.std.specs.Prelude.{◌||◌, nat_lt}
use Rattle.std.specs.List.{list_all}
use Rattle.std.proofs.lemmas.Bool.{and_from, false≢true, eqb-true}
use Rattle.std.proofs.lemmas.Bool.Decides.{nat_tests}
use Rattle.mz_base.specs.declared.profile.Profile.{Profile}
use Rattle.mz_base.specs.Site.{Site}
use Rattle.mz_events.specs.declared.event.Event.{Event}
use Rattle.mz_events.specs.State.{Kept}
use Rattle.mz_events.specs.Standing.{Keeping, Stands}
use Rattle.mz_book.specs.HistoryLaws.{HistoryLaws}
use Rattle.mz_book.specs.Keepers.{keeper_count, place_at, keeper_spot, is_among, is_held}
use Rattle.mz_book.specs.Account.{Account, known, StandsFor, entry_at}
use Rattle.mz_book.specs.Calls.{CanHold, Holds, Notes, CanRelease, Releases, without}
use Rattle.mz_book.specs.Growth.{Grows, GrowsHolding}
use Rattle.mz_book.specs.Client.{HasTaken, MayNoteBoth}
use Rattle.mz_book.proofs.NumberLemmas.{held_number}
use Rattle.mz_book.proofs.ListLemmas.{or_elim}
use Rattle.mz_book.proofs.GrowthLemmas.{grows_hold, grows_note, grows_joined, grows_release}

stands_by : (v : Keeping) (x y : Site) (p q : Profile) (k : ℕ) (l m : Kept) → y ≡ x → q ≡ p → m ≡ l → Stands v x p (place_at p k) l → Stands v y q (place_at q k) m
stands_by v x y p q k l m ex ep el h = subst (λ (r : Profile). Stands v y r (place_at r k) m) (sym ep) (subst (λ z. Stands v z p (place_at p k) m) (sym ex) (subst (λ (z : Kept). Stands v x p (place_at p k) z) (sym el) h))

pub stands_then : (s t : Account) (k : ℕ) (v : Keeping) → t.site ≡ s.site → t.profile ≡ s.profile → (known t (keeper_spot s.profile k)).kept ≡ (known s (keeper_spot s.profile k)).kept → StandsFor s k v → StandsFor t k v
stands_then s t k v x p e h = stands_by v s.site t.site s.profile t.profile k (known s (keeper_spot s.profile k)).kept (known t (keeper_spot t.profile k)).kept x p (ap (λ (q : Profile). (known t (keeper_spot q k)).kept) p ∙ e) h

module _ (L : HistoryLaws) (s s1 s2 u v : Account) (k l m n : ℕ) (d e : Event) (may : MayNoteBoth s k l d e) where
  pub first_hold : CanHold s k
  first_hold =
      let o = may.order in
      let x = may.exists in
      record { exists = omega arith; above_held = ap (λ h. list_all (λ x. nat_lt x k) h) may.nothing_held }

  pub second_hold : Holds s k s1 → CanHold s1 l
  second_hold h1 =
      let t : nat_lt k l ≡ true = grind (arith, nat_tests, may.order) in
      record {
        exists = subst (λ (p : Profile). l < keeper_count p) (sym (ap (λ (a : Account). a.profile) h1.after)) may.exists;
        above_held = ap (λ h. list_all (λ x. nat_lt x l) h) (ap (λ (a : Account). a.held) h1.after ∙ ap (λ h. h ++ k ∷ []) may.nothing_held) ∙ and_from (nat_lt k l) true t refl;
      }

  module _ (h1 : Holds s k s1) (h2 : Holds s1 l s2) where
    one_held : s1.held ≡ k ∷ []
    one_held = ap (λ (a : Account). a.held) h1.after ∙ ap (λ h. h ++ k ∷ []) may.nothing_held

    p1 : s1.profile ≡ s.profile
    p1 = ap (λ (a : Account). a.profile) h1.after

    p2 : s2.profile ≡ s1.profile
    p2 = ap (λ (a : Account). a.profile) h2.after

    first_there : is_held s1.profile s1.held (keeper_spot s1.profile k) ≡ true
    first_there =
        let o = may.order in
        let x = may.exists in
        let c : keeper_count s1.profile ≡ keeper_count s.profile = ap keeper_count p1 in
        held_number s1.profile s1.held k (omega arith) ∙ (ap (λ h. is_among h k) one_held ∙ rw (eq-eqb k k refl) refl)

    pub taken : HasTaken s k l s2
    taken = record {
      grows = grows_joined s s1 s2 [] [] 1 1 (grows_hold L s s1 k h1) (grows_hold L s1 s2 l h2);
      held = ap (λ (a : Account). a.held) h2.after ∙ ap (λ h. h ++ l ∷ []) one_held;
      calm = λ i y. or_elim (k == i) ((l == i) || false)
          (λ q. subst (λ j. (known s2 (keeper_spot s2.profile j)).duty ≡ None) (eqb-true k i q)
          (ap (λ (p : Profile). (known s2 (keeper_spot p k)).duty) p2 ∙ (ap (λ w. w.duty) (h2.stays (keeper_spot s1.profile k) first_there) ∙ (ap (λ (p : Profile). (known s1 (keeper_spot p k)).duty) p1 ∙ h1.calm))))
          (λ q. or_elim (l == i) false
          (λ r. subst (λ j. (known s2 (keeper_spot s2.profile j)).duty ≡ None) (eqb-true l i r) (ap (λ (p : Profile). (known s2 (keeper_spot p l)).duty) p2 ∙ h2.calm))
          (λ r. absurd (false≢true r)) q)
          y;
    }

    -- what the first keeper stands for stays while the second is taken
    pub first_stands : (x : Keeping) → StandsFor s1 k x → StandsFor s2 k x
    first_stands x h = stands_then s1 s2 k x (ap (λ (a : Account). a.site) h2.after) p2 (ap (λ w. w.kept) (h2.stays (keeper_spot s1.profile k) first_there)) h

    module _ (n1 : Notes s2 d m u) (n2 : Notes u e n v) where
      both_held : v.held ≡ k ∷ l ∷ []
      both_held = ap (λ (a : Account). a.held) n2.after ∙ (ap (λ (a : Account). a.held) n1.after ∙ taken.held)

      p4 : v.profile ≡ s2.profile
      p4 = ap (λ (a : Account). a.profile) n2.after ∙ ap (λ (a : Account). a.profile) n1.after

      x4 : v.site ≡ s2.site
      x4 = ap (λ (a : Account). a.site) n2.after ∙ ap (λ (a : Account). a.site) n1.after

      among_l : is_among (k ∷ l ∷ []) l ≡ true
      among_l = ap (λ b. (k == l) || (b || false)) (eq-eqb l l refl) ∙ always (k == l)
        where
          always : (b : Bool) → (b || true) ≡ true
          always true = refl
          always false = refl

      among_k : is_among (k ∷ l ∷ []) k ≡ true
      among_k = ap (λ b. b || ((l == k) || false)) (eq-eqb k k refl)

      pub then_stands : (i : ℕ) (x : Keeping) → is_among (k ∷ l ∷ []) i ≡ true → StandsFor s2 i x → StandsFor v i x
      then_stands i x y h = stands_then s2 v i x x4 p4 (may.kept s2 u v m n i taken n1 n2 y) h

      pub second_release : CanRelease v l
      second_release = record {
        held = ap (λ h. is_among h l) both_held ∙ among_l;
        calm = ap (λ (p : Profile). (known v (keeper_spot p l)).duty) p4 ∙ may.calm s2 u v m n l taken n1 n2 among_l;
      }

      pub second_stands : (x : Keeping) → StandsFor s2 l x → StandsFor v l x
      second_stands x h = then_stands l x among_l h

      module _ (r : Account) (r1 : Releases v l r) where
        left : r.held ≡ k ∷ []
        left =
            let far : (k == l) ≡ false = ne_eqb k l (λ q. let o = may.order in let z : k ≡ l = q in omega arith) in
            ap (λ (a : Account). a.held) r1.after ∙ (ap (without l) both_held ∙ rw (far, eq-eqb l l refl) refl)

        pr : r.profile ≡ v.profile
        pr = ap (λ (a : Account). a.profile) r1.after

        pub first_release : CanRelease r k
        first_release = record {
          held = ap (λ h. is_among h k) left ∙ rw (eq-eqb k k refl) refl;
          calm = ap (λ (a : Account). (known a (keeper_spot r.profile k)).duty) r1.after ∙ (ap (λ (p : Profile). (known v (keeper_spot p k)).duty) (pr ∙ p4) ∙ may.calm s2 u v m n k taken n1 n2 among_k);
        }

        pub last_stands : (x : Keeping) → StandsFor s1 k x → StandsFor r k x
        last_stands x h = stands_then v r k x (ap (λ (a : Account). a.site) r1.after) pr (ap (λ (a : Account). (known a (keeper_spot v.profile k)).kept) r1.after) (then_stands k x among_k (first_stands x h))

        module _ (z : Account) (r2 : Releases r k z) where
          pub nothing_left : z.held ≡ []
          nothing_left = ap (λ (a : Account). a.held) r2.after ∙ (ap (without k) left ∙ rw (eq-eqb k k refl) refl)

          pub all_grown : Grows s (entry_at m s.caller d ∷ entry_at n s.caller e ∷ []) 2 z
          all_grown =
              let g1 = grows_note L s2 u d m (may.first s2 taken) may.no_zone n1 in
              let g2 = grows_note L u v e n (may.second s2 u m taken n1) may.no_zone_either n2 in
              let j = grows_joined s2 u v (entry_at m s2.caller d ∷ []) (entry_at n u.caller e ∷ []) 0 0 g1 g2 in
              let all = grows_joined s s2 v [] (entry_at m s2.caller d ∷ entry_at n u.caller e ∷ []) 2 0 taken.grows j in
              let c2 : s2.caller ≡ s.caller = taken.grows.grows.adds.same.caller in
              let c3 : u.caller ≡ s.caller = g1.grows.adds.same.caller ∙ c2 in
              let own : GrowsHolding s (entry_at m s.caller d ∷ entry_at n s.caller e ∷ []) 2 v =
              subst (λ i. GrowsHolding s (entry_at m s.caller d ∷ entry_at n i e ∷ []) 2 v) c3 (subst (λ i. GrowsHolding s (entry_at m i d ∷ entry_at n u.caller e ∷ []) 2 v) c2 all) in
              grows_release s r z (entry_at m s.caller d ∷ entry_at n s.caller e ∷ []) 2 k (grows_release s v r (entry_at m s.caller d ∷ entry_at n s.caller e ∷ []) 2 l own.grows r1) r2
