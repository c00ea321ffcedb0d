-- What holds of the runs, the live blocks and the last freed block of one spot, and that each change keeps it.
use Rattle.std.proofs.Common.{◌≡◌, ℕ, ◌*◌, ◌<◌, ◌≤◌, ◌⊎◌, Bool, true, false, cond, not, List, [], ◌∷◌, refl, ap, sym, subst, ◌∙◌, inl, inr, arith, Option, Some, None}
use Rattle.std.specs.Prelude.{filter, fold, nat_le, ◌||◌, ◌==◌}
use Rattle.std.proofs.lemmas.Bool.{false≢true, cases_Bool, and_parts, and_from, or_cases, or_left, or_right, eqb-true, eq-eqb, leb-true, le-leb, cond-true, cond-false}
use Rattle.mz_base.specs.declared.range.TheConstants.{PAGE}
use Rattle.mz_base.specs.declared.profile.Profile.{Profile}
use Rattle.mz_base.specs.Space.{Block, Run, block_at, run_at, block_end, run_end, blocks_apart, runs_apart, bytes_of, same_block, same_run}
use Rattle.mz_base.specs.Room.{lies_in}
use Rattle.mz_base.specs.Lists.{add_run, drop_run, add_block, drop_block}
use Rattle.mz_events.specs.declared.place.Place.{Place}
use Rattle.mz_events.specs.declared.place.Place.TheVariants.{Pages, Tiny, TinyDepot, Small, SmallDepot, Large, Nano}
use Rattle.mz_events.specs.Places.{is_magazine, is_depot, is_large, nano_start, Spot, keeper_at, nano_page, spot_at, place_of}
use Rattle.mz_events.specs.Changes.{still_freed}
use Rattle.mz_events.specs.Separation.{InOrder}
use Rattle.mz_events.proofs.InOrderLemmas.{IsIn, in_filter, filter_in, in_insert, insert_new, insert_old, order_some, order_pair, order_filter, order_insert, all_in}

pub same_block-is : (b c : Block) → same_block b c ≡ true → b ≡ c
same_block-is b c h =
    let parts = and_parts (b.first == c.first) (b.size == c.size) h in
    let f : b.first ≡ c.first = eqb-true b.first c.first parts.0 in
    let s : b.size ≡ c.size = eqb-true b.size c.size parts.1 in
    ap (λ n. block_at n b.size) f ∙ ap (λ n. block_at c.first n) s

pub same_run-is : (r t : Run) → same_run r t ≡ true → r ≡ t
same_run-is r t h =
    let parts = and_parts (r.first == t.first) (r.pages == t.pages) h in
    let f : r.first ≡ t.first = eqb-true r.first t.first parts.0 in
    let s : r.pages ≡ t.pages = eqb-true r.pages t.pages parts.1 in
    ap (λ n. run_at n r.pages) f ∙ ap (λ n. run_at t.first n) s

pub same_block-self : (c : Block) → same_block c c ≡ true
same_block-self c = and_from (c.first == c.first) (c.size == c.size) (eq-eqb c.first c.first refl) (eq-eqb c.size c.size refl)

pub same_run-self : (r : Run) → same_run r r ≡ true
same_run-self r = and_from (r.first == r.first) (r.pages == r.pages) (eq-eqb r.first r.first refl) (eq-eqb r.pages r.pages refl)

-- the tests as numbers
pub apart_numbers : (b c : Block) → blocks_apart b c ≡ true → (block_end b ≤ c.first) ⊎ (block_end c ≤ b.first)
apart_numbers b c h = elim (or_cases (nat_le (block_end b) c.first) (nat_le (block_end c) b.first) h) [
  | inl low ↦ inl (leb-true (block_end b) c.first low)
  | inr high ↦ inr (leb-true (block_end c) b.first high)
]

pub numbers_apart : (b c : Block) → (block_end b ≤ c.first) ⊎ (block_end c ≤ b.first) → blocks_apart b c ≡ true
numbers_apart b c (inl low) = or_left (nat_le (block_end b) c.first) (nat_le (block_end c) b.first) (le-leb (block_end b) c.first low)
numbers_apart b c (inr high) = or_right (nat_le (block_end b) c.first) (nat_le (block_end c) b.first) (le-leb (block_end c) b.first high)

pub run_numbers : (r t : Run) → runs_apart r t ≡ true → (run_end r ≤ t.first) ⊎ (run_end t ≤ r.first)
run_numbers r t h = elim (or_cases (nat_le (run_end r) t.first) (nat_le (run_end t) r.first) h) [
  | inl low ↦ inl (leb-true (run_end r) t.first low)
  | inr high ↦ inr (leb-true (run_end t) r.first high)
]

pub numbers_run : (r t : Run) → (run_end r ≤ t.first) ⊎ (run_end t ≤ r.first) → runs_apart r t ≡ true
numbers_run r t (inl low) = or_left (nat_le (run_end r) t.first) (nat_le (run_end t) r.first) (le-leb (run_end r) t.first low)
numbers_run r t (inr high) = or_right (nat_le (run_end r) t.first) (nat_le (run_end t) r.first) (le-leb (run_end t) r.first high)

-- the block lies in the run
abbrev pub Inside : Run → Block → Type 0
Inside r b = (r.first * PAGE ≤ b.first) × (block_end b ≤ run_end r * PAGE)

pub inside_numbers : (r : Run) (b : Block) → lies_in r b.first (block_end b) ≡ true → Inside r b
inside_numbers r b h =
    let parts = and_parts (nat_le (r.first * PAGE) b.first) (nat_le (block_end b) (run_end r * PAGE)) h in
    (leb-true (r.first * PAGE) b.first parts.0, leb-true (block_end b) (run_end r * PAGE) parts.1)

pub numbers_inside : (r : Run) (b : Block) → Inside r b → lies_in r b.first (block_end b) ≡ true
numbers_inside r b h = and_from (nat_le (r.first * PAGE) b.first) (nat_le (block_end b) (run_end r * PAGE)) (le-leb (r.first * PAGE) b.first h.0) (le-leb (block_end b) (run_end r * PAGE) h.1)

-- blocks that lie in runs that are apart are apart
pub inside_apart : (r t : Run) (b c : Block) → Inside r b → Inside t c → (run_end r ≤ t.first) ⊎ (run_end t ≤ r.first) → (block_end b ≤ c.first) ⊎ (block_end c ≤ b.first)
inside_apart r t b c h g (inl low) = inl (omega (arith, h.1, g.0))
inside_apart r t b c h g (inr high) = inr (omega (arith, h.0, g.1))

-- a block of a byte at least that lies in a run isn't apart from its bytes
pub inside_meets : (r : Run) (b : Block) → 1 ≤ b.size → Inside r b → blocks_apart b (bytes_of r) ≡ true → ⊥
inside_meets r b some h apart = elim (apart_numbers b (bytes_of r) apart) [
  | inl low ↦ omega (arith, h.0, low)
  | inr high ↦ omega (arith, h.1, high)
]

-- the spot is of a place that has runs
abbrev pub has_runs : Spot → Bool
has_runs (keeper_at k) = is_magazine k || (is_depot k || is_large k)
has_runs (nano_page i) = false

-- where a live block of a spot lies
abbrev pub Home : Profile → Spot → List Run → Block → Type 0
Home p (keeper_at k) rs b = (r : Run) × IsIn r rs × Inside r b
Home p (nano_page i) rs b = (nano_start p ≤ i) × (i < p.pages) × Inside (run_at i 1) b

pub home_more : (p : Profile) (j : Spot) (rs ts : List Run) (b : Block) → ((r : Run) → IsIn r rs → IsIn r ts) → Home p j rs b → Home p j ts b
home_more p (keeper_at k) rs ts b f h = (h.0, f h.0 h.1, h.2)
home_more p (nano_page i) rs ts b f h = h

-- what holds of the runs, the live blocks and the last freed block of a spot
pub record IsSound (p : Profile) (j : Spot) (rs : List Run) (live : List Block) (freed : Option Block) : Type 0 where
  pub run_order : InOrder (λ r. r.first) run_end rs
  pub below : (r : Run) → IsIn r rs → run_end r ≤ nano_start p
  pub placed : (r : Run) → IsIn r rs → has_runs j ≡ true
  pub live_order : InOrder (λ b. b.first) block_end live
  pub home : (b : Block) → IsIn b live → Home p j rs b
  pub magazine : (f : Block) → freed ≡ Some f → is_magazine (place_of j) ≡ true
  pub byte : (f : Block) → freed ≡ Some f → 1 ≤ f.size
  pub lies : (f : Block) → freed ≡ Some f → Home p j rs f
  pub idle : (f : Block) → freed ≡ Some f → (b : Block) → IsIn b live → (block_end b ≤ f.first) ⊎ (block_end f ≤ b.first)

pub place_of-spot : (k : Place) (a : ℕ) → place_of (spot_at k a) ≡ k
place_of-spot Pages a = refl
place_of-spot (Tiny z m) a = refl
place_of-spot (TinyDepot z) a = refl
place_of-spot (Small z m) a = refl
place_of-spot (SmallDepot z) a = refl
place_of-spot (Large z) a = refl
place_of-spot Nano a = refl

-- a last freed block that is still one was one, and is apart
pub still_was : (b : Block) (o : Option Block) (f : Block) → still_freed b o ≡ Some f → (o ≡ Some f) × (blocks_apart f b ≡ true)
still_was b None f h = absurd (cc)
still_was b (Some g) f h = elim (cases_Bool (blocks_apart g b)) [
  | inl yes_ ↦
      let e : Some g ≡ Some f = sym (cond-true (blocks_apart g b) (Some g) None yes_) ∙ h in
      let i : g ≡ f = cc in
      (e, ap (λ x. blocks_apart x b) (sym i) ∙ yes_)
  | inr no_ ↦ absurd (none_some (sym (cond-false (blocks_apart g b) (Some g) None no_) ∙ h))
]
  where
    none_some : None ≡ Some f → ⊥
    none_some e = cc

module _ (p : Profile) (j : Spot) where
  pub sound_with_block : (rs : List Run) (live : List Block) (freed : Option Block) (b : Block) → IsSound p j rs live freed → 1 ≤ b.size → ((c : Block) → IsIn c live → blocks_apart c b ≡ true) → Home p j rs b → IsSound p j rs (add_block b live) (still_freed b freed)
  sound_with_block rs live freed b h some apart home = record {
    run_order = h.run_order;
    below = h.below;
    placed = h.placed;
    live_order = order_insert (λ (c : Block). c.first) block_end b live (omega arith) (λ c there. apart_numbers c b (apart c there)) h.live_order;
    home = λ c there. elim (in_insert (λ (x : Block). x.first) b live c there) [ inl e ↦ subst (Home p j rs) (sym e) home | inr old ↦ h.home c old ];
    magazine = λ f is. h.magazine f (still_was b freed f is).0;
    byte = λ f is. h.byte f (still_was b freed f is).0;
    lies = λ f is. h.lies f (still_was b freed f is).0;
    idle = λ f is c there. elim (in_insert (λ (x : Block). x.first) b live c there) [
      | inl e ↦ subst (λ x. (block_end x ≤ f.first) ⊎ (block_end f ≤ x.first)) (sym e) (elim (apart_numbers f b (still_was b freed f is).1) [ inl l ↦ inr l | inr l ↦ inl l ])
      | inr old ↦ h.idle f (still_was b freed f is).0 c old
    ];
  }

  pub sound_without_block : (rs : List Run) (live : List Block) (freed : Option Block) (b : Block) (m : Bool) → IsSound p j rs live freed → IsIn b live → (m ≡ true → is_magazine (place_of j) ≡ true) → IsSound p j rs (drop_block b live) (cond m (Some b) None)
  sound_without_block rs live freed b m h there magazine =
      let some : b.first < block_end b = order_some (λ (c : Block). c.first) block_end live b h.live_order there in
      record {
        run_order = h.run_order;
        below = h.below;
        placed = h.placed;
        live_order = order_filter (λ (c : Block). c.first) block_end (λ c. not (same_block b c)) live h.live_order;
        home = λ c in'. h.home c (in_filter (λ x. not (same_block b x)) live c in').0;
        magazine = λ f is. magazine (is_one m f is).0;
        byte = λ f is. subst (λ (x : Block). 1 ≤ x.size) (is_one m f is).1 (omega arith);
        lies = λ f is. subst (Home p j rs) (is_one m f is).1 (h.home b there);
        idle = λ f is c in'. subst (λ x. (block_end c ≤ x.first) ⊎ (block_end x ≤ c.first)) (is_one m f is).1 (others c (in_filter (λ x. not (same_block b x)) live c in').0 (in_filter (λ x. not (same_block b x)) live c in').1);
      }
    where
      others : (c : Block) → IsIn c live → not (same_block b c) ≡ true → (block_end c ≤ b.first) ⊎ (block_end b ≤ c.first)
      others c in' other = elim (order_pair (λ (x : Block). x.first) block_end live c b h.live_order in' there) [
        | inl e ↦ absurd (false≢true (sym (ap not (subst (λ x. same_block b x ≡ true) (sym e) (same_block-self b))) ∙ other))
        | inr beside ↦ beside
      ]

      is_one : (t : Bool) (f : Block) → cond t (Some b) None ≡ Some f → (t ≡ true) × (b ≡ f)
      is_one true f e = (refl, cc)
      is_one false f e = absurd (cc)

  pub sound_resized : (rs : List Run) (live : List Block) (freed : Option Block) (b c : Block) → IsSound p j rs live freed → IsIn b live → c.first ≡ b.first → 1 ≤ c.size → ((x : Block) → IsIn x live → ((x.first == b.first) || blocks_apart x c) ≡ true) → Home p j rs c → IsSound p j rs (add_block c (drop_block b live)) (still_freed c freed)
  sound_resized rs live freed b c h there at some apart home =
      sound_with_block rs (drop_block b live) freed c
      (record {
        run_order = h.run_order;
        below = h.below;
        placed = h.placed;
        live_order = order_filter (λ (x : Block). x.first) block_end (λ x. not (same_block b x)) live h.live_order;
        home = λ x in'. h.home x (in_filter (λ y. not (same_block b y)) live x in').0;
        magazine = h.magazine;
        byte = h.byte;
        lies = h.lies;
        idle = λ f is x in'. h.idle f is x (in_filter (λ y. not (same_block b y)) live x in').0;
      })
      some
      (λ x in'.
      let old = in_filter (λ y. not (same_block b y)) live x in' in
      elim (or_cases (x.first == b.first) (blocks_apart x c) (apart x old.0)) [
        | inl same ↦
            let first : x.first ≡ b.first = eqb-true x.first b.first same in
            let x_some : x.first < block_end x = order_some (λ (y : Block). y.first) block_end live x h.live_order old.0 in
            let b_some : b.first < block_end b = order_some (λ (y : Block). y.first) block_end live b h.live_order there in
            elim (order_pair (λ (y : Block). y.first) block_end live x b h.live_order old.0 there) [
              | inl e ↦ absurd (false≢true (sym (ap not (subst (λ y. same_block b y ≡ true) (sym e) (same_block-self b))) ∙ old.1))
              | inr beside ↦ elim beside [ inl l ↦ absurd (omega (arith, l)) | inr l ↦ absurd (omega (arith, l)) ]
            ]
        | inr apart ↦ apart
      ])
      home

  pub sound_with_run : (rs : List Run) (live : List Block) (freed : Option Block) (r : Run) → IsSound p j rs live freed → 1 ≤ r.pages → has_runs j ≡ true → run_end r ≤ nano_start p → ((t : Run) → IsIn t rs → runs_apart t r ≡ true) → IsSound p j (add_run r rs) live freed
  sound_with_run rs live freed r h some has below apart =
      let more : (t : Run) → IsIn t rs → IsIn t (add_run r rs) = λ t there. insert_old (λ (x : Run). x.first) r rs t there in
      record {
        run_order = order_insert (λ (t : Run). t.first) run_end r rs (omega arith) (λ t there. run_numbers t r (apart t there)) h.run_order;
        below = λ t there. elim (in_insert (λ (x : Run). x.first) r rs t there) [ inl e ↦ subst (λ x. run_end x ≤ nano_start p) (sym e) below | inr old ↦ h.below t old ];
        placed = λ t there. has;
        live_order = h.live_order;
        home = λ b there. home_more p j rs (add_run r rs) b more (h.home b there);
        magazine = h.magazine;
        byte = h.byte;
        lies = λ f is. home_more p j rs (add_run r rs) f more (h.lies f is);
        idle = h.idle;
      }

  pub sound_without_run : (rs : List Run) (live : List Block) (freed : Option Block) (r : Run) → IsSound p j rs live freed → IsSound p j (drop_run r rs) (filter (λ b. blocks_apart b (bytes_of r)) live) (still_freed (bytes_of r) freed)
  sound_without_run rs live freed r h = record {
    run_order = order_filter (λ (t : Run). t.first) run_end (λ t. not (same_run r t)) rs h.run_order;
    below = λ t there. h.below t (in_filter (λ x. not (same_run r x)) rs t there).0;
    placed = λ t there. h.placed t (in_filter (λ x. not (same_run r x)) rs t there).0;
    live_order = order_filter (λ (b : Block). b.first) block_end (λ b. blocks_apart b (bytes_of r)) live h.live_order;
    home = λ b there.
        let old = in_filter (λ x. blocks_apart x (bytes_of r)) live b there in
        let some : b.first < block_end b = order_some (λ (x : Block). x.first) block_end live b h.live_order old.0 in
        elsewhere j b (omega arith) old.1 (h.home b old.0);
    magazine = λ f is. h.magazine f (still_was (bytes_of r) freed f is).0;
    byte = λ f is. h.byte f (still_was (bytes_of r) freed f is).0;
    lies = λ f is. let was = still_was (bytes_of r) freed f is in elsewhere j f (h.byte f was.0) was.1 (h.lies f was.0);
    idle = λ f is b there. h.idle f (still_was (bytes_of r) freed f is).0 b (in_filter (λ x. blocks_apart x (bytes_of r)) live b there).0;
  }
    where
      elsewhere : (i : Spot) (b : Block) → 1 ≤ b.size → blocks_apart b (bytes_of r) ≡ true → Home p i rs b → Home p i (drop_run r rs) b
      elsewhere (nano_page i) b some apart home = home
      elsewhere (keeper_at k) b some apart home = elim (cases_Bool (same_run r home.0)) [
        | inl same ↦ absurd (inside_meets r b some (subst (λ t. Inside t b) (sym (same_run-is r home.0 same)) home.2) apart)
        | inr other ↦ (home.0, filter_in (λ t. not (same_run r t)) rs home.0 home.1 (ap not other), home.2)
      ]

  -- blocks that come one after another
  pub in_fold : (ms bs : List Block) (c : Block) → IsIn c (fold (λ xs b. add_block b xs) bs ms) → IsIn c ms ⊎ IsIn c bs
  in_fold [] bs c h = inr h
  in_fold (m ∷ ms) bs c h = elim (in_fold ms (add_block m bs) c h) [
    | inl later ↦ inl (inr later)
    | inr here ↦ elim (in_insert (λ (x : Block). x.first) m bs c here) [ inl e ↦ inl (inl e) | inr old ↦ inr old ]
  ]

  pub fold_old : (ms bs : List Block) (c : Block) → IsIn c bs → IsIn c (fold (λ xs b. add_block b xs) bs ms)
  fold_old [] bs c h = h
  fold_old (m ∷ ms) bs c h = fold_old ms (add_block m bs) c (insert_old (λ (x : Block). x.first) m bs c h)

  sound_fold : (rs : List Run) (live : List Block) (freed : Option Block) (ms : List Block) → IsSound p j rs live freed → InOrder (λ b. b.first) block_end ms → ((m b : Block) → IsIn m ms → IsIn b live → (block_end b ≤ m.first) ⊎ (block_end m ≤ b.first)) → ((m : Block) → IsIn m ms → Home p j rs m) → ((f : Block) → freed ≡ Some f → (m : Block) → IsIn m ms → (block_end m ≤ f.first) ⊎ (block_end f ≤ m.first)) → IsSound p j rs (fold (λ xs b. add_block b xs) live ms) freed
  sound_fold rs live freed [] h order beside home clear = h
  sound_fold rs live freed (m ∷ ms) h order beside home clear =
      let next : IsSound p j rs (add_block m live) freed = record {
        run_order = h.run_order;
        below = h.below;
        placed = h.placed;
        live_order = order_insert (λ (c : Block). c.first) block_end m live order.0 (λ c there. beside m c (inl refl) there) h.live_order;
        home = λ c there. elim (in_insert (λ (x : Block). x.first) m live c there) [ inl e ↦ subst (Home p j rs) (sym e) (home m (inl refl)) | inr old ↦ h.home c old ];
        magazine = h.magazine;
        byte = h.byte;
        lies = h.lies;
        idle = λ f is c there. elim (in_insert (λ (x : Block). x.first) m live c there) [ inl e ↦ subst (λ x. (block_end x ≤ f.first) ⊎ (block_end f ≤ x.first)) (sym e) (clear f is m (inl refl)) | inr old ↦ h.idle f is c old ];
      } in
      sound_fold rs (add_block m live) freed ms next order.2
      (λ n b there other. elim (in_insert (λ (x : Block). x.first) m live b other) [
        | inl e ↦ inl (subst (λ x. block_end x ≤ n.first) (sym e) (all_in (λ x. block_end m ≤ x.first) ms n order.1 there))
        | inr old ↦ beside n b (inr there) old
      ])
      (λ n there. home n (inr there))
      (λ f is n there. clear f is n (inr there))

  pub sound_with_region : (rs : List Run) (live : List Block) (freed : Option Block) (r : Run) (ms : List Block) → IsSound p j rs live freed → 1 ≤ r.pages → has_runs j ≡ true → run_end r ≤ nano_start p → ((t : Run) → IsIn t rs → runs_apart t r ≡ true) → InOrder (λ b. b.first) block_end ms → ((m : Block) → IsIn m ms → Inside r m) → IsSound p j (add_run r rs) (fold (λ xs b. add_block b xs) live ms) freed
  sound_with_region rs live freed r ms h some has below apart order inside =
      sound_fold (add_run r rs) live freed ms (sound_with_run rs live freed r h some has below apart) order
      (λ m b there other. beside j b m has (inside m there) (h.home b other))
      (λ m there. at_home j has m (inside m there))
      (λ f is m there. elim (beside j f m has (inside m there) (h.lies f is)) [ inl l ↦ inr l | inr l ↦ inl l ])
    where
      at_home : (i : Spot) → has_runs i ≡ true → (m : Block) → Inside r m → Home p i (add_run r rs) m
      at_home (keeper_at k) has m in' = (r, insert_new (λ (x : Run). x.first) r rs, in')
      at_home (nano_page i) has m in' = absurd (false≢true has)

      beside : (i : Spot) (b m : Block) → has_runs i ≡ true → Inside r m → Home p i rs b → (block_end b ≤ m.first) ⊎ (block_end m ≤ b.first)
      beside (keeper_at k) b m has in' home = inside_apart home.0 r b m home.2 in' (run_numbers home.0 r (apart home.0 home.1))
      beside (nano_page i) b m has in' home = absurd (false≢true has)
