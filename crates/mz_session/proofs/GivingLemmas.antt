-- A block that is given is on its way, and at the end of a round all those come that are.
use Rattle.std.proofs.Common.{◌≡◌, ◌∙◌, ℕ, ◌+◌, ◌≤◌, ◌==◌, Bool, true, false, cond, List, [], ◌∷◌, ◌++◌, Option, Some, None, refl, ap, sym, subst, inl, inr, arith, map, append-nil, eq-eqb}
use Rattle.std.specs.Prelude.{◌||◌, filter, is_some, IsTrue, Contains}
use Rattle.std.specs.List.{list_any}
use Rattle.std.specs.Option.{option_map}
use Rattle.std.specs.Str.{bytes_eq}
use Rattle.std.proofs.lemmas.Bool.{cases_Bool, false≢true, and_parts, and_from, or_parts, eqb-true, cond-true, cond-false}
use Rattle.std.proofs.lemmas.List.{map-append}
use Rattle.std.proofs.lemmas.List.Elements.{Contains-append_cases}
use Rattle.mz_base.specs.Space.{Block, same_block}
use Rattle.mz_record.specs.Bytes.{Bytes, is_shown_as}
use Rattle.mz_words.specs.declared.name.Name.{Name}
use Rattle.mz_words.specs.declared.name.Name.TheVariants.{Given}
use Rattle.mz_words.specs.declared.name.GivenName.{GivenName}
use Rattle.mz_lines.specs.declared.answer.Answer.TheVariants as answers
use Rattle.mz_lines.specs.declared.command.Command.TheVariants.{Give}
use Rattle.mz_lines.specs.Lines.{command_gives}
use Rattle.mz_lawful.specs.Names.{same_name}
use Rattle.mz_lawful.specs.Standing.{Holding, Gift, Standing, Caller, caller_at, bytes_of, holding, knowing, with_gift, received, delivered}
use Rattle.mz_lawful.specs.Tasks.{giving}
use Rattle.mz_lawful.specs.After.{changed, without_block}
use Rattle.mz_book.specs.declared.pair.Pair.{Pair}
use Rattle.mz_book.specs.Pairs.{pair_at, is_from, given, hand_among, block_of as block_of_pair}
use Rattle.mz_book.specs.Living.{times}
use Rattle.mz_book.specs.Account.{Account}
use Rattle.mz_book.specs.Plain.{CanGive, Gives}
use Rattle.mz_zone.specs.Blocks.{BlockView, block_of}
use Rattle.mz_session.specs.declared.parcel.Parcel.{Parcel}
use Rattle.mz_session.specs.Names.{NamedBlocks, block_with, holding_of, holding_named}
use Rattle.mz_session.specs.Changes.{AreWith}
use Rattle.mz_session.specs.Sessions.{SessionView, views_kept, AreNewNames, Keeps, IsKept, StandsFor, ArePassed, is_given}
use Rattle.mz_session.specs.Serving.{Takes, IsFree, Serves, AreAtRest, Delivers, setting_of, record_of}
use Rattle.mz_session.specs.Giving.{with_coming, Receives}
use Rattle.mz_session.proofs.CountLemmas.{some-is, count-cons, one-false}
use Rattle.mz_session.proofs.NameLemmas.{name-self, name-symm}
use Rattle.mz_session.proofs.KeepLemmas.{views_coming, view-counted, kept-counted, kept-cases, kept-named, kept-coming, kept-loose, there-first, there-behind, there-cases, kept-apart, loose-apart, with-same, with-other, keeps-held, given-alike}
use Rattle.mz_session.proofs.HeldLemmas.{held-first, given-names, once-more}
use Rattle.mz_session.proofs.KnownLemmas.{known-now, known-others}
use Rattle.mz_session.proofs.StandsLemmas.{stands-changed, stands-gone}
use Rattle.mz_session.proofs.RecordLemmas.{fits-by, given-less, serves-refused, with-none, with-some}

-- the pairs of a caller that gives to itself

-- are those of before
pub given-same : (c a : ℕ) (hs : List Pair) → given c c a hs ≡ hs
given-same c a [] = refl
given-same c a (h ∷ hs) = elim (cases_Bool (is_from c a h)) [
  | inl is ↦
      let mine = eqb-true h.caller c (and_parts (h.caller == c) (h.first == a) is).0 in
      cond-true (is_from c a h) (pair_at c h.first h.size ∷ hs) (h ∷ given c c a hs) is ∙ ap (λ k. pair_at k h.first h.size ∷ hs) (sym mine)
  | inr other ↦ cond-false (is_from c a h) (pair_at c h.first h.size ∷ hs) (h ∷ given c c a hs) other ∙ ap (λ l. h ∷ l) (given-same c a hs)
]

or-true : (b : Bool) → (b || true) ≡ true
or-true true = refl
or-true false = refl

not-here : (c : ℕ) (b : Block) (h : Pair) → (h.caller == c) ≡ true → is_from c b.first h ≡ false → same_block b (block_of_pair h) ≡ false
not-here c b h mine other = elim (cases_Bool (same_block b (block_of_pair h))) [
  | inl same ↦
      let first = eqb-true b.first h.first (and_parts (b.first == h.first) (b.size == h.size) same).0 in
      absurd (false≢true (sym other ∙ and_from (h.caller == c) (h.first == b.first) mine (eq-eqb h.first b.first (sym first))))
  | inr apart ↦ apart
]

-- there is one where the block is in its hand
pub pair-there : (c : ℕ) (b : Block) (hs : List Pair) → 1 ≤ times b (hand_among c hs) → IsTrue (list_any (is_from c b.first) hs)
pair-there c b [] some = absurd (omega (arith, some))
pair-there c b (h ∷ hs) some =
    let rest = list_any (is_from c b.first) hs in
    let theirs = filter (λ x. x.caller == c) hs in
    elim (cases_Bool (is_from c b.first h)) [
      | inl is ↦ ap (λ d. d || rest) is
      | inr other ↦
          let later : 1 ≤ times b (hand_among c hs) = elim (cases_Bool (h.caller == c)) [
            | inl mine ↦
                let hand : hand_among c (h ∷ hs) ≡ block_of_pair h ∷ hand_among c hs = ap (map block_of_pair) (cond-true (h.caller == c) (h ∷ theirs) theirs mine) in
                let count = ap (times b) hand in
                let one = count-cons b (block_of_pair h) (hand_among c hs) in
                let zero = one-false (same_block b (block_of_pair h)) (not-here c b h mine other) in
                omega (arith, some, count, one, zero)
            | inr skipped ↦ subst (λ l. 1 ≤ times b l) (ap (map block_of_pair) (cond-false (h.caller == c) (h ∷ theirs) theirs skipped)) some
          ] in
          ap (λ d. is_from c b.first h || d) (pair-there c b hs later) ∙ or-true (is_from c b.first h)
    ]

-- names of blocks on their way

none-either : (d : Bool) (o : Option BlockView) → o ≡ None → cond d None o ≡ None
none-either true o none = refl
none-either false o none = none

none-from : (o : Option BlockView) → is_some o ≡ false → o ≡ None
none-from None none = refl
none-from (Some b) none = absurd (false≢true (sym none))

none-of-all : {A : Type 0} (f : A → Bool) (xs : List A) (x : A) → list_any f xs ≡ false → Contains xs x → f x ≡ false
none-of-all f [] x none there = absurd (let low = there.1 in omega (arith, low))
none-of-all f (y ∷ ys) x none there =
    let parts = or_parts (f y) (list_any f ys) none in
    elim (there-cases y x ys there) [ inl same ↦ subst (λ z. f z ≡ false) same parts.0 | inr behind ↦ none-of-all f ys x parts.1 behind ]

any-more : {A : Type 0} (f : A → Bool) (xs : List A) (y : A) → list_any f (xs ++ y ∷ []) ≡ (list_any f xs || f y)
any-more f [] y = or-none (f y)
  where
    or-none : (b : Bool) → (b || false) ≡ b
    or-none true = refl
    or-none false = refl
any-more f (x ∷ xs) y = ap (λ b. f x || b) (any-more f xs y) ∙ sym (or-assoc (f x) (list_any f xs) (f y))
  where
    or-assoc : (a b c : Bool) → ((a || b) || c) ≡ (a || (b || c))
    or-assoc true b c = refl
    or-assoc false b c = refl

-- one more name is new
names-more :
    (bs : NamedBlocks) (gs : List Parcel) (p : Parcel) → AreNewNames bs gs → block_with bs (Given p.name) ≡ None → ((g : Parcel) → Contains gs g → g.name ≡ p.name → ⊥)
    → AreNewNames bs (gs ++ p ∷ [])
names-more bs [] p fresh free others = (free, λ h there. absurd (let low = there.1 in omega (arith, low)), tt)
names-more bs (g ∷ gs) p fresh free others = (
  fresh.0,
  λ h there same. elim (Contains-append_cases gs (p ∷ []) h there) [
    | inl front ↦ fresh.1 h front same
    | inr behind ↦ elim (there-cases p h [] behind) [
      | inl is ↦ others g (there-first g gs) (sym same ∙ sym (ap (λ x. x.name) is))
      | inr nowhere ↦ absurd (let low = nowhere.1 in omega (arith, low))
    ]
  ],
  names-more bs gs p fresh.2 free (λ h there. others h (there-behind g h gs there)),
)

-- one more block is on its way

coming-counted :
    (gs : List Parcel) (p : Parcel) (b : Block)
    → times b (map block_of (views_coming (gs ++ p ∷ []))) ≡ times b (map block_of (views_coming gs)) + times b (map block_of (p.block ∷ []))
coming-counted [] p b = omega arith
coming-counted (g ∷ gs) p b =
    let rest = coming-counted gs p b in
    let whole = count-cons b (block_of g.block) (map block_of (views_coming (gs ++ p ∷ []))) in
    let front = count-cons b (block_of g.block) (map block_of (views_coming gs)) in
    omega (arith, rest, whole, front)

-- a block that was kept besides is on its way now, behind the others
keeps-sent :
    (s : SessionView) (p : Parcel) → Keeps s (p.block ∷ []) → block_with s.blocks (Given p.name) ≡ None → ((g : Parcel) → Contains s.parcels g → g.name ≡ p.name → ⊥)
    → IsKept (with_coming s (s.parcels ++ p ∷ []))
keeps-sent s p kept free others =
    let t = with_coming s (s.parcels ++ p ∷ []) in
    let loose = p.block ∷ [] in
    record {
      profile = kept.profile;
      zone = kept.zone;
      for_one = kept.for_one;
      caller = kept.caller;
      alone = kept.alone;
      zone_open = kept.zone_open;
      nothing_held = kept.nothing_held;
      seated = kept.seated;
      nano = kept.nano;
      one_seat = kept.one_seat;
      ours = λ x there. kept.ours x
          (kept-cases t [] x (Contains (views_kept s loose) x) there (λ front. kept-named s loose x front)
          (λ way. elim (Contains-append_cases (views_coming s.parcels) loose x (subst (λ l. Contains l x) (map-append (λ g. g.block) s.parcels (p ∷ [])) way)) [
            | inl before ↦ kept-coming s loose x before
            | inr last ↦ kept-loose s loose x last
          ])
          (λ nowhere. absurd (let low = nowhere.1 in omega (arith, low))));
      in_hand = λ b.
          let old = kept-counted s loose b in
          let new = kept-counted t [] b in
          let way = coming-counted s.parcels p b in
          kept.in_hand b ∙ omega (arith, old, new, way);
      once = kept.once;
      mine = kept.mine;
      new_names = names-more s.blocks s.parcels p kept.new_names free others;
    }

-- what is on its way besides those of before

passed-more :
    (gs : List Parcel) (xs : List Gift) (p : Parcel) (x : Gift) → ArePassed gs xs → x ≡ record { to = 0; holding = holding_of (Given p.name) p.block; bytes = x.bytes }
    → IsTrue (is_shown_as x.bytes p.block.span.bytes) → ArePassed (gs ++ p ∷ []) (xs ++ x ∷ [])
passed-more [] [] p x passed is shown = (is, shown, tt)
passed-more [] (y ∷ ys) p x passed is shown = absurd passed
passed-more (g ∷ gs) [] p x passed is shown = absurd passed
passed-more (g ∷ gs) (y ∷ ys) p x passed is shown = (passed.0, passed.1, passed-more gs ys p x passed.2 is shown)

module _ (s u : SessionView) (name : Name) (to : ℕ) (p : Parcel) (kept : IsKept s) (one : to ≡ 0) (new : is_given s p.name.base ≡ false) (takes : Takes s name (Some p.block) u) where
  abbrev t : SessionView
  t = with_coming u (u.parcels ++ p ∷ [])

  parts : (is_some (block_with s.blocks (Given p.name)) ≡ false) × (list_any (λ g. bytes_eq g.name.base p.name.base) s.parcels ≡ false)
  parts = or_parts (is_some (block_with s.blocks (Given p.name))) (list_any (λ g. bytes_eq g.name.base p.name.base) s.parcels) new

  free : block_with u.blocks (Given p.name) ≡ None
  free =
      takes.2.named (Given p.name)
      ∙ none-either (same_name name (Given p.name)) (block_with s.blocks (Given p.name)) (none-from (block_with s.blocks (Given p.name)) parts.0)

  others : (g : Parcel) → Contains u.parcels g → g.name ≡ p.name → ⊥
  others g there same =
      let other = none-of-all (λ x. bytes_eq x.name.base p.name.base) s.parcels g parts.1 (subst (λ gs. Contains gs g) takes.1.parcels there) in
      false≢true (sym other ∙ (ap (λ x. bytes_eq x.base p.name.base) same ∙ name-self (Given p.name)))

  given-now : (n : List ℕ) → is_given t n ≡ true → (is_given s n || command_gives n (Give name to p.name)) ≡ true
  given-now n is =
      let was = is_some (block_with u.blocks (Given (record { base = n }))) in
      let way = list_any (λ g. bytes_eq g.name.base n) u.parcels in
      let now : (was || (way || bytes_eq p.name.base n)) ≡ true = ap (λ b. was || b) (sym (any-more (λ g. bytes_eq g.name.base n) u.parcels p)) ∙ is in
      go was way (bytes_eq p.name.base n) now (given-less s u name takes.1.parcels takes.2 n)
    where
      go : (a b c : Bool) → (a || (b || c)) ≡ true → ((a || b) ≡ true → is_given s n ≡ true) → (is_given s n || c) ≡ true
      go true b c is before = ap (λ d. d || c) (before refl)
      go false true c is before = ap (λ d. d || c) (before refl)
      go false false c is before = ap (λ d. is_given s n || d) is ∙ or-true (is_given s n)

  stands-given : (v : Standing) → StandsFor s v
      → StandsFor t (with_gift (record { to = to; holding = holding_of (Given p.name) p.block; bytes = bytes_of (caller_at v 0) (block_of p.block) }) (changed 0 (without_block (holding_of name p.block)) v))
  stands-given v stands =
      let gone = stands-gone s u v stands takes.1.parcels name p.block takes.2 (λ w c other named. kept-apart s [] kept w name c p.block (name-symm w name ∙ other) named takes.0) in
      let bytes = bytes_of (caller_at v 0) (block_of p.block) in
      record {
        zones = gone.zones;
        gifts = passed-more u.parcels v.gifts p (record { to = to; holding = holding_of (Given p.name) p.block; bytes = bytes }) gone.gifts
            (ap (λ k. record { to = k; holding = holding_of (Given p.name) p.block; bytes = bytes }) one) (stands.known name p.block takes.0);
        zone = gone.zone;
        held = gone.held;
        held_once = gone.held_once;
        known = gone.known;
      }

  -- a block was given
  pub serves-given : Serves s (Give name to p.name) answers.Done t
  serves-given =
      let at = takes.1.at in
      let fits = λ (v : Standing) (stands : StandsFor s v).
      fits-by (setting_of s t v) (record_of (Give name to p.name) [] answers.Done) t (giving (holding_of name p.block) to (Given p.name))
      (with-some s (setting_of s t v) stands name (λ h. giving h to (Given p.name)) p.block takes.0) refl refl refl refl (stands-given v stands) in
      record {
        entries = [];
        kept = keeps-sent u p takes.3 free others;
        profile = ap (λ x. x.book.profile) at;
        seen = ap (λ x. x.book.seen) at ∙ sym (append-nil s.at.book.seen);
        mine = tt;
        fits = λ v stands. (fits v stands).fits;
        stands = λ v stands. (fits v stands).stands;
        given = given-now;
      }

-- the name isn't held
pub serves-not-given : (s t : SessionView) (name : Name) (to : ℕ) (given : GivenName) → IsKept s → Takes s name None t → Serves s (Give name to given) answers.NotHeld t
serves-not-given s t name to given kept takes =
    subst (λ x. Serves s (Give name to given) answers.NotHeld x) (sym takes.1)
    (serves-refused s (Give name to given) answers.NotHeld kept (λ v stands. with-none s (setting_of s s v) stands name (λ h. giving h to (Given given)) takes.0))

-- at the end of a round

-- the first of the blocks on their way is kept besides
pub keeps-arrived : (s : SessionView) (g : Parcel) (gs : List Parcel) → IsKept (with_coming s (g ∷ gs)) → Keeps (with_coming s gs) (g.block ∷ [])
keeps-arrived s g gs kept =
    let t = with_coming s gs in
    record {
      profile = kept.profile;
      zone = kept.zone;
      for_one = kept.for_one;
      caller = kept.caller;
      alone = kept.alone;
      zone_open = kept.zone_open;
      nothing_held = kept.nothing_held;
      seated = kept.seated;
      nano = kept.nano;
      one_seat = kept.one_seat;
      ours = λ x there. kept.ours x
          (kept-cases t (g.block ∷ []) x (Contains (views_kept (with_coming s (g ∷ gs)) []) x) there
          (λ front. kept-named (with_coming s (g ∷ gs)) [] x front)
          (λ way. kept-coming (with_coming s (g ∷ gs)) [] x (there-behind g.block x (views_coming gs) way))
          (λ last. kept-coming (with_coming s (g ∷ gs)) [] x (elim (there-cases g.block x [] last) [
            | inl same ↦ subst (λ y. Contains (g.block ∷ views_coming gs) y) same (there-first g.block (views_coming gs))
            | inr nowhere ↦ absurd (let low = nowhere.1 in omega (arith, low))
          ])));
      in_hand = λ b.
          let old = kept-counted (with_coming s (g ∷ gs)) [] b in
          let new = kept-counted t (g.block ∷ []) b in
          let first = count-cons b (block_of g.block) (map block_of (views_coming gs)) in
          let last = count-cons b (block_of g.block) [] in
          kept.in_hand b ∙ omega (arith, old, new, first, last);
      once = kept.once;
      mine = kept.mine;
      new_names = kept.new_names.2;
    }

-- its name is free
pub arrived-free : (s : SessionView) (g : Parcel) (gs : List Parcel) → IsKept (with_coming s (g ∷ gs)) → IsFree (with_coming s gs) (Given g.name)
arrived-free s g gs kept = record {
  unnamed = kept.new_names.0;
  not_coming = λ h there same. kept.new_names.1 h there (let e : h.name ≡ g.name = cc in e);
}

-- its pair can be given
pub can-give : (s : SessionView) (g : Parcel) (gs : List Parcel) → IsKept (with_coming s (g ∷ gs)) → CanGive s.at.book 0 0 g.block.span.first
can-give s g gs kept =
    let t = with_coming s (g ∷ gs) in
    let x = block_of g.block in
    let there = view-counted (views_kept t []) g.block (kept-coming t [] g.block (there-first g.block (views_coming gs))) in
    let same : times x (hand_among 0 s.at.book.pairs) ≡ times x (map block_of (views_kept t [])) = ap (λ c. times x (hand_among c s.at.book.pairs)) (sym kept.caller) ∙ kept.in_hand x in
    let callers = kept.for_one.callers in
    record {
      nothing_held = kept.nothing_held;
      there = pair-there 0 x s.at.book.pairs (omega (arith, there, same));
      caller = omega (arith, callers);
    }

-- and then nothing has changed
pub given-again : (s : Account) (a : ℕ) (t : Account) → Gives s 0 0 a t → t ≡ s
given-again s a t gives = gives.after ∙ ap (λ ps. record s { pairs = ps }) (given-same 0 a s.pairs)

-- and it gets it
pub keeps-come :
    (s t : SessionView) (g : Parcel) (gs : List Parcel) → IsKept (with_coming s (g ∷ gs)) → t.zone ≡ s.zone → t.at ≡ s.at → AreWith s.blocks (Given g.name) (Some g.block) t.blocks
    → IsKept (with_coming t gs)
keeps-come s t g gs kept zone at with_it =
    keeps-held (with_coming s gs) (with_coming t gs) (Given g.name) g.block [] (keeps-arrived s g gs kept) (arrived-free s g gs kept) (record { zone = zone; at = at; parcels = refl }) with_it

-- a name got a block whose bytes are known so
stands-got :
    (s t : SessionView) (v : Standing) → StandsFor s v → t.parcels ≡ s.parcels → (name : Name) (b : BlockView) (bs : Bytes) → AreWith s.blocks name (Some b) t.blocks → block_with s.blocks name ≡ None
    → ((w : Name) (c : BlockView) → block_with s.blocks w ≡ Some c → same_block (block_of c) (block_of b) ≡ false)
    → is_shown_as bs b.span.bytes ≡ true
    → StandsFor t (changed 0 (λ me. knowing (block_of b) bs (holding (holding_of name b) me)) v)
stands-got s t v stands coming name b bs with_it free apart shown =
    let x = block_of b in
    let me : Caller = caller_at v 0 in
    let h : Holding = holding_of name b in
    let change = λ (c : Caller). knowing x bs (holding h c) in
    stands-changed s t v stands coming change refl
    (λ w. held-first h me.held w ∙ ap (λ o. cond (same_name name w) (Some h) o) (stands.held w) ∙ given-names s.blocks t.blocks name (Some b) with_it w)
    (once-more h me.held stands.held_once (stands.held name ∙ ap (option_map (holding_of name)) free))
    (λ w c named. elim (cases_Bool (same_name name w)) [
      | inl same ↦
          let is = some-is b c (sym (with-same s.blocks t.blocks name w (Some b) with_it same) ∙ named) in
          subst (λ y. is_shown_as (bytes_of (change me) (block_of y)) y.span.bytes ≡ true) is
          (ap (λ ys. is_shown_as ys b.span.bytes) (known-now x bs (holding h me)) ∙ shown)
      | inr other ↦
          let before = sym (with-other s.blocks t.blocks name w (Some b) with_it other) ∙ named in
          ap (λ ys. is_shown_as ys c.span.bytes) (known-others x (block_of c) bs (holding h me) (apart w c before)) ∙ stands.known w c before
    ])

-- The session stands for a standing that has the same at the end of the round.
pub record StandsBefore (s : SessionView) (end : Standing) : Type 0 where
  pub standing : Standing
  pub stands : StandsFor s standing
  pub ends : delivered standing ≡ end

-- the first gift has come
gift-comes :
    (s t : SessionView) (g : Parcel) (gs : List Parcel) (v : Standing) (xs : List Gift) → IsKept (with_coming s (g ∷ gs)) → AreWith s.blocks (Given g.name) (Some g.block) t.blocks
    → StandsFor (with_coming s (g ∷ gs)) (record v { gifts = xs }) → StandsBefore (with_coming t gs) (delivered (record v { gifts = xs }))
gift-comes s t g gs v [] kept with_it stands = absurd stands.gifts
gift-comes s t g gs v (x ∷ xs) kept with_it stands =
    let w : Standing = record v { gifts = xs } in
    let rest : StandsFor (with_coming s gs) w = record {
      zones = stands.zones;
      gifts = stands.gifts.2;
      zone = stands.zone;
      held = stands.held;
      held_once = stands.held_once;
      known = stands.known;
    } in
    let got = stands-got (with_coming s gs) (with_coming t gs) w rest refl (Given g.name) g.block x.bytes with_it kept.new_names.0
    (loose-apart (with_coming s gs) g.block [] (keeps-arrived s g gs kept)) stands.gifts.1 in
    record {
      standing = received w x;
      stands = subst (λ y. StandsFor (with_coming t gs) (received w y)) (sym stands.gifts.0) got;
      ends = refl;
    }

pub next-comes :
    (s t : SessionView) (g : Parcel) (gs : List Parcel) (end : Standing) → IsKept (with_coming s (g ∷ gs)) → AreWith s.blocks (Given g.name) (Some g.block) t.blocks
    → StandsBefore (with_coming s (g ∷ gs)) end → StandsBefore (with_coming t gs) end
next-comes s t g gs end kept with_it before =
    let next = gift-comes s t g gs before.standing before.standing.gifts kept with_it before.stands in
    record { standing = next.standing; stands = next.stands; ends = next.ends ∙ before.ends }

-- where nothing is on its way it stands for the end of the round
none-coming : (s : SessionView) (v : Standing) (xs : List Gift) → StandsFor (with_coming s []) (record v { gifts = xs }) → StandsFor (with_coming s []) (delivered (record v { gifts = xs }))
none-coming s v [] stands = stands
none-coming s v (x ∷ xs) stands = absurd stands.gifts

pub all-come : (s : SessionView) (end : Standing) → StandsBefore (with_coming s []) end → StandsFor (with_coming s []) end
all-come s end before = subst (StandsFor (with_coming s [])) before.ends (none-coming s before.standing before.standing.gifts before.stands)

-- a name that came was on its way
came-case :
    (d w : Bool) (b : BlockView) (o : Option BlockView) → (is_some (cond d (Some b) o) || w) ≡ true → (is_some o || (d || w)) ≡ true
came-case true w b o is = or-true (is_some o)
came-case false w b o is = is

given-came :
    (s t : SessionView) (g : Parcel) (gs : List Parcel) → AreWith s.blocks (Given g.name) (Some g.block) t.blocks → (n : List ℕ)
    → is_given (with_coming t gs) n ≡ true → is_given (with_coming s (g ∷ gs)) n ≡ true
given-came s t g gs with_it n is =
    let name = Given (record { base = n }) in
    let way = list_any (λ x. bytes_eq x.name.base n) gs in
    came-case (bytes_eq g.name.base n) way g.block (block_with s.blocks name) (ap (λ o. is_some o || way) (sym (with_it.named name)) ∙ is)

-- The session u while blocks of s come: these are still on their way.
pub record Arrives (s : SessionView) (gs : List Parcel) (u : SessionView) : Type 0 where
  pub kept : IsKept (with_coming u gs)
  pub parcels : u.parcels ≡ []
  pub book : u.at.book ≡ s.at.book
  pub stands : (v : Standing) → StandsFor s v → StandsBefore (with_coming u gs) (delivered v)
  pub given : (n : List ℕ) → is_given (with_coming u gs) n ≡ true → is_given s n ≡ true

stands-alike : (s t : SessionView) (v : Standing) → t.blocks ≡ s.blocks → t.parcels ≡ s.parcels → StandsFor s v → StandsFor t v
stands-alike s t v blocks parcels stands = record {
  zones = stands.zones;
  gifts = subst (λ gs. ArePassed gs v.gifts) (sym parcels) stands.gifts;
  zone = stands.zone;
  held = λ name. stands.held name ∙ ap (λ bs. holding_named bs name) (sym blocks);
  held_once = stands.held_once;
  known = λ name b named. stands.known name b (ap (λ bs. block_with bs name) (sym blocks) ∙ named);
}

-- all of them, before the first
pub arrive-first : (s r : SessionView) → AreAtRest s r → Arrives s r.parcels (with_coming r [])
arrive-first s r rests = record {
  kept = rests.kept;
  parcels = refl;
  book = rests.book;
  stands = λ v stands. record { standing = v; stands = stands-alike s r v rests.blocks rests.parcels stands; ends = refl };
  given = given-alike s r rests.blocks rests.parcels;
}

pub arrive-next : (s u t : SessionView) (g : Parcel) (gs : List Parcel) → Arrives s (g ∷ gs) u → Receives u g t → Arrives s gs t
arrive-next s u t g gs before receives = record {
  kept = keeps-come u t g gs before.kept receives.zone receives.at receives.blocks;
  parcels = receives.parcels ∙ before.parcels;
  book = ap (λ x. x.book) receives.at ∙ before.book;
  stands = λ v stands. next-comes u t g gs (delivered v) before.kept receives.blocks (before.stands v stands);
  given = λ n is. before.given n (given-came u t g gs receives.blocks n is);
}

-- and none, behind the last
pub arrive-last : (s u : SessionView) → Arrives s [] u → Delivers s u
arrive-last s u last =
    let same : with_coming u [] ≡ u = ap (with_coming u) (sym last.parcels) in
    record {
      kept = subst IsKept same last.kept;
      profile = ap (λ b. b.profile) last.book;
      seen = ap (λ b. b.seen) last.book;
      parcels = last.parcels;
      stands = λ v stands. subst (λ x. StandsFor x (delivered v)) same (all-come u (delivered v) (last.stands v stands));
      given = λ n is. last.given n (subst (λ x. is_given x n ≡ true) (sym same) is);
    }
