-- What several calls of a book add up to.
use Rattle.std.proofs.Common.{◌≡◌, ℕ, ◌+◌, ◌==◌, Bool, true, false, cond, not, List, [], ◌∷◌, ◌++◌, length, refl, ap, sym, subst, ◌∙◌, ◌≤◌, arith, append-nil, append_assoc, length-append, eq-eqb, ne_eqb, inl, inr}
use Rattle.std.specs.Prelude.{◌&&◌, ◌||◌}
use Rattle.std.proofs.lemmas.Bool.{and_parts, and_from, false≢true, cases_Bool}
use Rattle.std.proofs.lemmas.List.Elements.{All-head, All-tail}
use Rattle.mz_base.specs.declared.profile.Profile.{Profile}
use Rattle.mz_events.specs.declared.place.Place.{Place}
use Rattle.mz_events.specs.declared.entry.Entry.{Entry}
use Rattle.mz_events.specs.declared.event.Event.{Event}
use Rattle.mz_events.specs.declared.event.Event.TheVariants.{Take, Back, Move, New, End, Size, Full, Dry, No, Open, Shut}
use Rattle.mz_events.specs.Places.{Spot, keeper_at}
use Rattle.mz_events.specs.State.{is_open}
use Rattle.mz_events.specs.Effect.{touches}
use Rattle.mz_events.specs.Hands.{own}
use Rattle.mz_events.specs.Holding.{changes_zones, IsAway, AreAway}
use Rattle.mz_book.specs.declared.pair.Pair.{Pair}
use Rattle.mz_book.specs.HistoryLaws.{HistoryLaws}
use Rattle.mz_book.specs.Keepers.{is_held, is_among, keeper_of}
use Rattle.mz_book.specs.Pairs.{pairs_after}
use Rattle.mz_book.specs.Account.{Account, state_of, holds_spot, entry_at, one_more}
use Rattle.mz_book.specs.Calls.{Gains, Holds, CanNote, CanNoteAtNano, Notes, Releases, is_at_nano, opened_after}
use Rattle.mz_book.specs.Growth.{pairs_through, is_own_touch, has_begun, is_undisturbed, IsSame, Adds, Grows, GrowsHolding}
use Rattle.mz_book.proofs.ListLemmas.{or_elim, or_left}
use Rattle.mz_book.proofs.HeldLemmas.{or_none, among_snoc}
use Rattle.mz_book.proofs.PlainLemmas.{nano_is}
use Rattle.mz_book.proofs.OwnLemmas.{own_joined, own_one}

-- whose entries touch a spot

module _ (p : Profile) (c : ℕ) (j : Spot) where
  begun_joined : (b : Bool) (xs ys : List Entry) → has_begun p c j b (xs ++ ys) ≡ has_begun p c j (has_begun p c j b xs) ys
  unfolding has_begun
  begun_joined b [] ys = refl
  begun_joined b (x ∷ xs) ys = begun_joined (b || is_own_touch p c j x) xs ys

  again : (a b d : Bool) → (a && (b && d)) ≡ ((a && b) && d)
  again true b d = refl
  again false b d = refl

  undisturbed_joined : (b : Bool) (xs ys : List Entry) → is_undisturbed p c j b (xs ++ ys) ≡ (is_undisturbed p c j b xs && is_undisturbed p c j (has_begun p c j b xs) ys)
  unfolding has_begun is_undisturbed
  undisturbed_joined b [] ys = refl
  undisturbed_joined b (x ∷ xs) ys =
      let d = b || is_own_touch p c j x in
      ap (λ y. ((x.caller == c) || not (b && touches p x.event j)) && y) (undisturbed_joined d xs ys) ∙ again _ (is_undisturbed p c j d xs) (is_undisturbed p c j (has_begun p c j d xs) ys)

  not_own : (held : Spot → Bool) (e : Entry) → IsAway p c held e → is_own_touch p c j e ≡ false
  not_own held e w = rw (ne_eqb e.caller c w.other) refl

  away_begun : (held : Spot → Bool) (b : Bool) (es : List Entry) → AreAway p c held es → has_begun p c j b es ≡ b
  unfolding has_begun
  away_begun held b [] w = refl
  away_begun held b (e ∷ es) w =
      let one = not_own held e (All-head (IsAway p c held) e es w) in
      let same : (b || is_own_touch p c j e) ≡ b = ap (λ d. b || d) one ∙ or_none b in
      ap (λ d. has_begun p c j d es) same ∙ away_begun held b es (All-tail (IsAway p c held) e es w)

  away_one : (b : Bool) (e : Entry) (held : Spot → Bool) → (b ≡ true → held j ≡ true) → IsAway p c held e → ((e.caller == c) || not (b && touches p e.event j)) ≡ true
  away_one true e held h w = let t = w.untouched j (h refl) in let n = ne_eqb e.caller c w.other in rw (n, t) refl
  away_one false e held h w = let n = ne_eqb e.caller c w.other in rw n refl

  away_undisturbed : (held : Spot → Bool) (b : Bool) (es : List Entry) → (b ≡ true → held j ≡ true) → AreAway p c held es → is_undisturbed p c j b es ≡ true
  unfolding is_undisturbed
  away_undisturbed held b [] h w = refl
  away_undisturbed held b (e ∷ es) h w =
      let first = All-head (IsAway p c held) e es w in
      let same : (b || is_own_touch p c j e) ≡ b = ap (λ d. b || d) (not_own held e first) ∙ or_none b in
      and_from _ _ (away_one b e held h first) (ap (λ d. is_undisturbed p c j d es) same ∙ away_undisturbed held b es h (All-tail (IsAway p c held) e es w))

  own_begun : (b : Bool) (e : Entry) → e.caller ≡ c → has_begun p c j b (e ∷ []) ≡ (b || touches p e.event j)
  unfolding has_begun
  own_begun b e h = rw (eq-eqb e.caller c h) refl

  own_undisturbed : (b : Bool) (e : Entry) → e.caller ≡ c → is_undisturbed p c j b (e ∷ []) ≡ true
  unfolding is_undisturbed
  own_undisturbed b e h = rw (eq-eqb e.caller c h) refl

  -- entries of others alone don't begin it
  quiet_begun : (b : Bool) (es : List Entry) → own c es ≡ [] → has_begun p c j b es ≡ b
  unfolding has_begun
  quiet_begun b [] h = refl
  quiet_begun b (e ∷ es) h = elim (cases_Bool (e.caller == c)) [
    | inl y ↦ let l = ap length (subst (λ d. cond d (e ∷ own c es) (own c es) ≡ []) y h) in absurd (omega arith)
    | inr n ↦
        let rest = subst (λ d. cond d (e ∷ own c es) (own c es) ≡ []) n h in
        let same : (b || is_own_touch p c j e) ≡ b = ap (λ d. b || (d && touches p e.event j)) n ∙ or_none b in
        ap (λ d. has_begun p c j d es) same ∙ quiet_begun b es rest
  ]

  none_begun : (b : Bool) → has_begun p c j b [] ≡ b
  unfolding has_begun
  none_begun b = refl

  none_undisturbed : (b : Bool) → is_undisturbed p c j b [] ≡ true
  unfolding is_undisturbed
  none_undisturbed b = refl

  under : (a b d : Bool) → (a ≡ true → b ≡ true) → (a || d) ≡ true → (b || d) ≡ true
  under true b d h y = rw (h refl) refl
  under false true d h y = refl
  under false false d h y = y

  begun_less : (a b : Bool) (es : List Entry) → (a ≡ true → b ≡ true) → has_begun p c j a es ≡ true → has_begun p c j b es ≡ true
  unfolding has_begun
  begun_less a b [] h y = h y
  begun_less a b (e ∷ es) h y = begun_less (a || is_own_touch p c j e) (b || is_own_touch p c j e) es (under a b (is_own_touch p c j e) h) y

  less_one : (a b o t : Bool) → (a ≡ true → b ≡ true) → (o || not (b && t)) ≡ true → (o || not (a && t)) ≡ true
  less_one a b true t h y = refl
  less_one true b false t h y = subst (λ x. not (x && t) ≡ true) (h refl) y
  less_one false b false t h y = refl

  undisturbed_less : (a b : Bool) (es : List Entry) → (a ≡ true → b ≡ true) → is_undisturbed p c j b es ≡ true → is_undisturbed p c j a es ≡ true
  unfolding is_undisturbed
  undisturbed_less a b [] h y = refl
  undisturbed_less a b (e ∷ es) h y =
      let t = and_parts ((e.caller == c) || not (b && touches p e.event j)) _ y in
      and_from _ _ (less_one a b (e.caller == c) (touches p e.event j) h t.0)
      (undisturbed_less (a || is_own_touch p c j e) (b || is_own_touch p c j e) es (under a b (is_own_touch p c j e) h) t.1)

-- accounts

pairs_joined : (c : ℕ) (pairs : List Pair) (xs ys : List Entry) → pairs_through c pairs (xs ++ ys) ≡ pairs_through c (pairs_through c pairs xs) ys
pairs_joined c pairs [] ys = refl
pairs_joined c pairs (x ∷ xs) ys = pairs_joined c (pairs_after c pairs x.event) xs ys

same_by : (s t : Account) (h : List ℕ) (e n : List Entry) (d : List Pair) (r o : ℕ) → t ≡ record s { held = h; seen = e; noted = n; pairs = d; spare = r; holds = o } → IsSame s t
same_by s t h e n d r o a = record {
  name = ap (λ (u : Account). u.name) a;
  profile = ap (λ (u : Account). u.profile) a;
  caller = ap (λ (u : Account). u.caller) a;
  site = ap (λ (u : Account). u.site) a;
  between = ap (λ (u : Account). u.between) a;
  lights = ap (λ (u : Account). u.lights) a;
  settled = ap (λ (u : Account). u.settled) a;
  founds = ap (λ (u : Account). u.founds) a;
  found = ap (λ (u : Account). u.found) a;
}

same_joined : (s t u : Account) → IsSame s t → IsSame t u → IsSame s u
same_joined s t u a b = record {
  name = b.name ∙ a.name;
  profile = b.profile ∙ a.profile;
  caller = b.caller ∙ a.caller;
  site = b.site ∙ a.site;
  between = b.between ∙ a.between;
  lights = b.lights ∙ a.lights;
  settled = b.settled ∙ a.settled;
  founds = b.founds ∙ a.founds;
  found = b.found ∙ a.found;
}

same_self : (s : Account) → IsSame s s
same_self s = record { name = refl; profile = refl; caller = refl; site = refl; between = refl; lights = refl; settled = refl; founds = refl; found = refl }

pub grows_nothing : (s : Account) → GrowsHolding s [] 0 s
grows_nothing s = record {
  grows = record {
    adds = record {
      more = [];
      same = same_self s;
      seen = sym (append-nil s.seen);
      own_is = refl;
      alone = λ y. refl;
      noted = sym (append-nil s.noted);
      pairs = refl;
      spare = omega arith;
      holds = omega arith;
      zones = λ z. refl;
    };
    undisturbed = λ q. none_undisturbed s.profile s.caller (keeper_at q) (holds_spot s (keeper_at q));
  };
  still = λ q y. sym (none_begun s.profile s.caller (keeper_at q) (holds_spot s (keeper_at q))) ∙ y;
}

held_more : (p : Profile) (held : List ℕ) (k : ℕ) (q : Place) → is_held p held (keeper_at q) ≡ true → is_held p (held ++ k ∷ []) (keeper_at q) ≡ true
held_more p held k q h = among_snoc (keeper_of p q) k held ∙ or_left (is_among held (keeper_of p q)) (k == keeper_of p q) h

pub grows_gain : (L : HistoryLaws) (s t : Account) (k n m : ℕ) → n ≤ s.holds + m → Gains s k n t → GrowsHolding s [] m t
grows_gain L s t k n m few h =
    let holds = ap (λ (u : Account). u.holds) h.after in
    record {
      grows = record {
        adds = record {
          more = h.others;
          same = same_by s t _ _ _ _ _ _ h.after;
          seen = ap (λ (u : Account). u.seen) h.after;
          own_is = (L.known_through s.profile s.caller (holds_spot s) (state_of s) h.others h.away).none_own;
          alone = h.alone;
          noted = ap (λ (u : Account). u.noted) h.after ∙ sym (append-nil s.noted);
          pairs = ap (λ (u : Account). u.pairs) h.after;
          spare = ap (λ (u : Account). u.spare) h.after ∙ omega arith;
          holds = omega arith;
          zones = h.zones;
        };
        undisturbed = λ q. away_undisturbed s.profile s.caller (keeper_at q) (holds_spot s) (holds_spot s (keeper_at q)) h.others (λ y. y) h.away;
      };
      still = λ q y. subst (λ (u : Account). is_held s.profile u.held (keeper_at q) ≡ true) (sym h.after)
          (held_more s.profile s.held k q (sym (away_begun s.profile s.caller (keeper_at q) (holds_spot s) (holds_spot s (keeper_at q)) h.others h.away) ∙ y));
    }

pub grows_hold : (L : HistoryLaws) (s t : Account) (k : ℕ) → Holds s k t → GrowsHolding s [] 1 t
grows_hold L s t k h = grows_gain L s t k (one_more s.holds) 1 (omega arith) h

pub grows_tried : (L : HistoryLaws) (s t : Account) (k : ℕ) → Gains s k s.holds t → GrowsHolding s [] 0 t
grows_tried L s t k h = grows_gain L s t k s.holds 0 (omega arith) h

-- what a note touches of the places that have a keeper is held

nano_touches : (s : Account) (e : Event) (q : Place) → is_at_nano e ≡ true → CanNoteAtNano s e → touches s.profile e (keeper_at q) ≡ false
nano_touches s (New k a n al) q h m = ap (λ r. touches s.profile (New r a n al) (keeper_at q)) (nano_is k h)
nano_touches s (End k a n) q h m = ap (λ r. touches s.profile (End r a n) (keeper_at q)) (nano_is k h)
nano_touches s (No k z a n) q h m = ap (λ r. touches s.profile (No r z a n) (keeper_at q)) (nano_is k h)
nano_touches s (Size k a n m) q h b = absurd b
nano_touches s (Take k f w) q h b = absurd b
nano_touches s (Back k f w) q h b = absurd b
nano_touches s (Move f from to) q h b = absurd b
nano_touches s (Full k n al) q h b = absurd b
nano_touches s (Dry z w al) q h b = absurd b
nano_touches s (Open z) q h b = absurd b
nano_touches s (Shut z) q h b = absurd b

touched_held : (L : HistoryLaws) (s : Account) (e : Event) (q : Place) → CanNote s e → touches s.profile e (keeper_at q) ≡ true → holds_spot s (keeper_at q) ≡ true
touched_held L s e q can y = elim (cases_Bool (is_at_nano e)) [
  | inl t ↦ absurd (false≢true (sym (nano_touches s e q t (can.at_nano t)) ∙ y))
  | inr n ↦ (can.by_held n).held (keeper_at q) (L.touched_is_read s.profile e (keeper_at q) y)
]

zones_stay : (e : Event) (y : ℕ) (was : Bool) → changes_zones e ≡ false → opened_after e y was ≡ was
zones_stay (Open z) y was h = absurd (false≢true (sym h))
zones_stay (Shut z) y was h = absurd (false≢true (sym h))
zones_stay (Take k f w) y was h = refl
zones_stay (Back k f w) y was h = refl
zones_stay (Move f from to) y was h = refl
zones_stay (New k a n al) y was h = refl
zones_stay (End k a n) y was h = refl
zones_stay (Size k a n m) y was h = refl
zones_stay (Full k n al) y was h = refl
zones_stay (Dry z w al) y was h = refl
zones_stay (No k z a n) y was h = refl

pub grows_note : (L : HistoryLaws) (s t : Account) (e : Event) (n : ℕ) → CanNote s e → changes_zones e ≡ false → Notes s e n t → GrowsHolding s (entry_at n s.caller e ∷ []) 0 t
grows_note L s t e n can z h =
    let x = entry_at n s.caller e in
    let p = s.profile in
    let c = s.caller in
    let b : Place → Bool = λ q. holds_spot s (keeper_at q) in
    let begun : (q : Place) → has_begun p c (keeper_at q) (b q) (h.others ++ x ∷ []) ≡ (b q || touches p e (keeper_at q)) = λ q.
    begun_joined p c (keeper_at q) (b q) h.others (x ∷ []) ∙ (ap (λ d. has_begun p c (keeper_at q) d (x ∷ [])) (away_begun p c (keeper_at q) (holds_spot s) (b q) h.others h.away) ∙ own_begun p c (keeper_at q) (b q) x refl) in
    record {
      grows = record {
        adds = record {
          more = h.others ++ x ∷ [];
          same = same_by s t _ _ _ _ _ _ h.after;
          seen = ap (λ (u : Account). u.seen) h.after ∙ append_assoc s.seen h.others (x ∷ []);
          own_is = own_joined c h.others (x ∷ []) ∙ (ap (λ es. es ++ own c (x ∷ [])) ((L.known_through p c (holds_spot s) (state_of s) h.others h.away).none_own) ∙ own_one c x refl);
          alone = λ y. ap (λ es. es ++ x ∷ []) (h.alone y);
          noted = ap (λ (u : Account). u.noted) h.after;
          pairs = ap (λ (u : Account). u.pairs) h.after;
          spare = ap (λ (u : Account). u.spare) h.after;
          holds = let o = ap (λ (u : Account). u.holds) h.after in omega arith;
          zones = λ y. h.zones y ∙ zones_stay e y (is_open (state_of s) y) z;
        };
        undisturbed = λ q. undisturbed_joined p c (keeper_at q) (b q) h.others (x ∷ [])
            ∙ and_from _ _ (away_undisturbed p c (keeper_at q) (holds_spot s) (b q) h.others (λ y. y) h.away) (own_undisturbed p c (keeper_at q) (has_begun p c (keeper_at q) (b q) h.others) x refl);
      };
      still = λ q y. ap (λ (u : Account). is_held p u.held (keeper_at q)) h.after ∙ or_elim (b q) (touches p e (keeper_at q)) (λ f. f) (λ f. touched_held L s e q can f) (sym (begun q) ∙ y);
    }

-- both, one behind the other

pub adds_joined : (s t u : Account) (xs ys : List Entry) (m n : ℕ) → Adds s xs m t → Adds t ys n u → Adds s (xs ++ ys) (m + n) u
adds_joined s t u xs ys m n g b =
    let c = g.same.caller in
    record {
      more = g.more ++ b.more;
      same = same_joined s t u g.same b.same;
      seen = b.seen ∙ (ap (λ es. es ++ b.more) g.seen ∙ append_assoc s.seen g.more b.more);
      own_is = own_joined s.caller g.more b.more ∙ (ap (λ es. es ++ own s.caller b.more) g.own_is ∙ ap (λ es. xs ++ es) (ap (λ i. own i b.more) (sym c) ∙ b.own_is));
      alone = λ y. ap (λ es. es ++ b.more) (g.alone y) ∙ ap (λ es. xs ++ es) (b.alone (g.same.between ∙ y));
      noted = b.noted ∙ (ap (λ es. es ++ ys) g.noted ∙ append_assoc s.noted xs ys);
      pairs = b.pairs ∙ (ap (λ i. pairs_through i t.pairs ys) c ∙ (ap (λ d. pairs_through s.caller d ys) g.pairs ∙ sym (pairs_joined s.caller s.pairs xs ys)));
      spare = let l = length-append xs ys in let e = b.spare in let f = g.spare in omega arith;
      holds = let e = b.holds in let f = g.holds in omega arith;
      zones = λ z. b.zones z ∙ g.zones z;
    }

pub grows_ended : (s t u : Account) (xs ys : List Entry) (m n : ℕ) → GrowsHolding s xs m t → Grows t ys n u → Grows s (xs ++ ys) (m + n) u
unfolding adds_joined
grows_ended s t u xs ys m n a b =
    let g = a.grows.adds in
    let c = g.same.caller in
    let p = g.same.profile in
    record {
      adds = adds_joined s t u xs ys m n g b.adds;
      undisturbed = λ q.
          let j = keeper_at q in
          let start = holds_spot s j in
          let later : is_undisturbed s.profile s.caller j (is_held s.profile t.held j) b.adds.more ≡ true =
          subst (λ (r : Profile). is_undisturbed r s.caller j (is_held r t.held j) b.adds.more ≡ true) p (subst (λ i. is_undisturbed t.profile i j (is_held t.profile t.held j) b.adds.more ≡ true) c (b.undisturbed q)) in
          undisturbed_joined s.profile s.caller j start g.more b.adds.more ∙ and_from _ _ (a.grows.undisturbed q) (undisturbed_less s.profile s.caller j (has_begun s.profile s.caller j start g.more) (is_held s.profile t.held j) b.adds.more (a.still q) later);
    }

pub grows_joined : (s t u : Account) (xs ys : List Entry) (m n : ℕ) → GrowsHolding s xs m t → GrowsHolding t ys n u → GrowsHolding s (xs ++ ys) (m + n) u
unfolding adds_joined grows_ended
grows_joined s t u xs ys m n a b =
    let g = a.grows.adds in
    let more = b.grows.adds.more in
    record {
      grows = grows_ended s t u xs ys m n a b.grows;
      still = λ q y.
          let j = keeper_at q in
          let start = holds_spot s j in
          let later : has_begun s.profile s.caller j (is_held s.profile t.held j) more ≡ true = begun_less s.profile s.caller j (has_begun s.profile s.caller j start g.more) (is_held s.profile t.held j) more (a.still q) (sym (begun_joined s.profile s.caller j start g.more more) ∙ y) in
          let c = g.same.caller in
          let p = g.same.profile in
          let there : has_begun t.profile t.caller j (is_held t.profile t.held j) more ≡ true =
          subst (λ (r : Profile). has_begun r t.caller j (is_held r t.held j) more ≡ true) (sym p) (subst (λ i. has_begun s.profile i j (is_held s.profile t.held j) more ≡ true) (sym c) later) in
          subst (λ (r : Profile). is_held r u.held j ≡ true) p (b.still q there);
    }

pub grows_release : (s t u : Account) (xs : List Entry) (n k : ℕ) → Grows s xs n t → Releases t k u → Grows s xs n u
grows_release s t u xs n k grown r =
    let g = grown.adds in
    record {
      adds = record {
        more = g.more;
        same = same_joined s t u g.same (same_by t u _ _ _ _ _ _ r.after);
        seen = ap (λ (v : Account). v.seen) r.after ∙ g.seen;
        own_is = g.own_is;
        alone = g.alone;
        noted = ap (λ (v : Account). v.noted) r.after ∙ g.noted;
        pairs = ap (λ (v : Account). v.pairs) r.after ∙ g.pairs;
        spare = ap (λ (v : Account). v.spare) r.after ∙ g.spare;
        holds = let o = ap (λ (v : Account). v.holds) r.after in let h = g.holds in omega arith;
        zones = λ z. ap (λ (v : Account). is_open (state_of v) z) r.after ∙ g.zones z;
      };
      undisturbed = grown.undisturbed;
    }

-- where nothing was held and nothing noted, nothing begins
pub grows_looked : (s t : Account) (n : ℕ) → s.held ≡ [] → Grows s [] n t → GrowsHolding s [] n t
grows_looked s t n none g = record {
  grows = g;
  still = λ q y.
      let quiet = quiet_begun s.profile s.caller (keeper_at q) (holds_spot s (keeper_at q)) g.adds.more g.adds.own_is in
      let away = ap (λ h. is_held s.profile h (keeper_at q)) none in
      absurd (false≢true (sym (quiet ∙ away) ∙ y));
}
