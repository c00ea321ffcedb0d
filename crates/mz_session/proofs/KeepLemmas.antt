-- What a session keeps: each block once, under a name, on its way or besides; and how that moves on where a name gets a block or loses it.
use Rattle.std.proofs.Common.{◌≡◌, ℕ, ◌+◌, ◌≤◌, ◌==◌, Bool, true, false, cond, List, [], ◌∷◌, ◌++◌, Option, Some, None, Result, Ok, Err, refl, ap, sym, subst, ◌∙◌, inl, inr, arith}
use Rattle.std.specs.Prelude.{◌||◌, ◌⊎◌, nat_lt, map, is_some, Contains, OnOk}
use Rattle.std.specs.List.{list_all, list_any}
use Rattle.std.specs.Option.{option_map}
use Rattle.std.specs.Str.{bytes_eq}
use Rattle.std.proofs.lemmas.Bool.{cases_Bool, false≢true}
use Rattle.std.proofs.lemmas.Option.{none-some}
use Rattle.std.proofs.lemmas.List.Elements.{Contains-append_cases, Contains-append_left, Contains-append_right, Contains-push, Contains-push_cases}
use Rattle.mz_base.specs.Space.{Block, same_block}
use Rattle.mz_events.specs.State.{is_open}
use Rattle.mz_events.specs.Changes.{one_for}
use Rattle.mz_words.specs.declared.name.Name.{Name}
use Rattle.mz_words.specs.declared.name.Name.TheVariants.{Given}
use Rattle.mz_lawful.specs.Names.{same_name}
use Rattle.mz_book.specs.Account.{HoldsNothing, state_of, hand}
use Rattle.mz_book.specs.Living.{times}
use Rattle.mz_zone.specs.Blocks.{BlockView, block_of}
use Rattle.mz_zone.specs.Calling.{IsSeatedAt}
use Rattle.mz_zone.specs.Counts.{has_nano}
use Rattle.mz_session.specs.declared.parcel.Parcel.{Parcel}
use Rattle.mz_session.specs.Names.{NamedBlocks, views_named, blocks_named, block_with}
use Rattle.mz_session.specs.Changes.{count_in, AreWith}
use Rattle.mz_session.specs.Seats.{HasOneSeat}
use Rattle.mz_session.specs.Sessions.{SessionView, IsForOne, IsOurs, AreNewNames, views_kept, blocks_kept, Keeps, IsKept, is_given}
use Rattle.mz_session.specs.Serving.{Renames, Takes, IsFree}
use Rattle.mz_session.proofs.CountLemmas.{some-is, same-self, same-is, one-true, count-cons, or-left, or-right}
use Rattle.mz_session.proofs.NameLemmas.{block-kept, two-named, same-is-name}

pub either-true : (a b : Bool) → (a || b) ≡ true → (a ≡ true) ⊎ (b ≡ true)
either-true true b h = inl refl
either-true false b h = inr h

-- how often a block is kept

views-counted : (b : Block) (xs ys : List BlockView) → times b (map block_of (xs ++ ys)) ≡ times b (map block_of xs) + times b (map block_of ys)
views-counted b [] ys = omega arith
views-counted b (x ∷ xs) ys =
    let rest = views-counted b xs ys in
    let whole = count-cons b (block_of x) (map block_of (xs ++ ys)) in
    let front = count-cons b (block_of x) (map block_of xs) in
    omega (arith, rest, whole, front)

pub named-counted : (b : Block) (bs : NamedBlocks) → times b (map block_of (views_named bs)) ≡ times b (blocks_named bs)
named-counted b [] = refl
named-counted b (e ∷ es) =
    let rest = named-counted b es in
    let one = count-cons b (block_of e.1) (map block_of (views_named es)) in
    let other = count-cons b (block_of e.1) (blocks_named es) in
    omega (arith, rest, one, other)

-- the blocks that are on their way
abbrev pub views_coming : List Parcel → List BlockView
views_coming gs = map (λ g. g.block) gs

-- a block is kept under a name, on its way, or besides these
pub kept-counted :
    (s : SessionView) (loose : List BlockView) (b : Block)
    → times b (blocks_kept s loose) ≡ times b (blocks_named s.blocks) + (times b (map block_of (views_coming s.parcels)) + times b (map block_of loose))
kept-counted s loose b =
    let all : times b (blocks_kept s loose) ≡ times b (map block_of (views_named s.blocks ++ views_coming s.parcels)) + times b (map block_of loose) =
    views-counted b (views_named s.blocks ++ views_coming s.parcels) loose in
    let rest = views-counted b (views_named s.blocks) (views_coming s.parcels) in
    let named = named-counted b s.blocks in
    omega (arith, all, rest, named)

-- and one besides more
pub loose-counted : (s : SessionView) (x : BlockView) (loose : List BlockView) (b : Block) → times b (blocks_kept s (x ∷ loose)) ≡ one_for (same_block b (block_of x)) + times b (blocks_kept s loose)
loose-counted s x loose b =
    let all = kept-counted s (x ∷ loose) b in
    let old = kept-counted s loose b in
    let one = count-cons b (block_of x) (map block_of loose) in
    omega (arith, all, old, one)

pub view-counted : (xs : List BlockView) (x : BlockView) → Contains xs x → 1 ≤ times (block_of x) (map block_of xs)
view-counted [] x there = absurd (let low = there.1 in omega (arith, low))
view-counted (y ∷ ys) x there =
    let here = count-cons (block_of x) (block_of y) (map block_of ys) in
    elim (Contains-append_cases (y ∷ []) ys x there) [
      | inl front ↦ elim (Contains-push_cases [] y x front) [
        | inl nowhere ↦ absurd (let low = nowhere.1 in omega (arith, low))
        | inr same ↦
            let one = one-true (same_block (block_of x) (block_of y)) (subst (λ z. same_block (block_of z) (block_of y) ≡ true) same (same-self (block_of y))) in
            omega (arith, here, one)
      ]
      | inr behind ↦ let rest = view-counted ys x behind in omega (arith, here, rest)
    ]

-- which blocks are kept

pub there-first : {A : Type 0} (x : A) (xs : List A) → Contains (x ∷ xs) x
there-first x xs = Contains-append_left (x ∷ []) xs x (Contains-push [] x)

pub there-behind : {A : Type 0} (x y : A) (xs : List A) → Contains xs y → Contains (x ∷ xs) y
there-behind x y xs there = Contains-append_right (x ∷ []) xs y there

pub there-cases : {A : Type 0} (x y : A) (xs : List A) → Contains (x ∷ xs) y → (x ≡ y) ⊎ Contains xs y
there-cases x y xs there = elim (Contains-append_cases (x ∷ []) xs y there) [
  | inl front ↦ elim (Contains-push_cases [] x y front) [ inl nowhere ↦ absurd (let low = nowhere.1 in omega (arith, low)) | inr same ↦ inl same ]
  | inr behind ↦ inr behind
]

pub kept-before : (s : SessionView) (loose : List BlockView) (x : BlockView) → Contains (views_named s.blocks ++ views_coming s.parcels) x → Contains (views_kept s loose) x
kept-before s loose x there = Contains-append_left (views_named s.blocks ++ views_coming s.parcels) loose x there

pub kept-named : (s : SessionView) (loose : List BlockView) (x : BlockView) → Contains (views_named s.blocks) x → Contains (views_kept s loose) x
kept-named s loose x there = kept-before s loose x (Contains-append_left (views_named s.blocks) (views_coming s.parcels) x there)

pub kept-coming : (s : SessionView) (loose : List BlockView) (x : BlockView) → Contains (views_coming s.parcels) x → Contains (views_kept s loose) x
kept-coming s loose x there = kept-before s loose x (Contains-append_right (views_named s.blocks) (views_coming s.parcels) x there)

pub kept-loose : (s : SessionView) (loose : List BlockView) (x : BlockView) → Contains loose x → Contains (views_kept s loose) x
kept-loose s loose x there = Contains-append_right (views_named s.blocks ++ views_coming s.parcels) loose x there

pub kept-cases :
    (s : SessionView) (loose : List BlockView) (x : BlockView) (P : Type 0) → Contains (views_kept s loose) x
    → (Contains (views_named s.blocks) x → P) → (Contains (views_coming s.parcels) x → P) → (Contains loose x → P) → P
kept-cases s loose x P there named coming besides = elim (Contains-append_cases (views_named s.blocks ++ views_coming s.parcels) loose x there) [
  | inl before ↦ elim (Contains-append_cases (views_named s.blocks) (views_coming s.parcels) x before) [ inl front ↦ named front | inr way ↦ coming way ]
  | inr last ↦ besides last
]

-- one that is kept is kept with one more besides
pub kept-more : (s : SessionView) (x b : BlockView) (loose : List BlockView) → Contains (views_kept s loose) x → Contains (views_kept s (b ∷ loose)) x
kept-more s x b loose there =
    kept-cases s loose x (Contains (views_kept s (b ∷ loose)) x) there (kept-named s (b ∷ loose) x) (kept-coming s (b ∷ loose) x) (λ last. kept-loose s (b ∷ loose) x (there-behind b x loose last))

-- one that is kept with one more is that one, or is kept without it
pub kept-fewer : (s : SessionView) (x b : BlockView) (loose : List BlockView) → Contains (views_kept s (b ∷ loose)) x → (b ≡ x) ⊎ Contains (views_kept s loose) x
kept-fewer s x b loose there =
    kept-cases s (b ∷ loose) x ((b ≡ x) ⊎ Contains (views_kept s loose) x) there (λ front. inr (kept-named s loose x front)) (λ way. inr (kept-coming s loose x way))
    (λ last. elim (there-cases b x loose last) [ inl same ↦ inl same | inr other ↦ inr (kept-loose s loose x other) ])

-- blocks of two names, and one of a name and one that is kept besides, are different

pub kept-apart :
    (s : SessionView) (loose : List BlockView) → Keeps s loose → (v w : Name) (b c : BlockView) → same_name v w ≡ false
    → block_with s.blocks v ≡ Some b → block_with s.blocks w ≡ Some c → same_block (block_of b) (block_of c) ≡ false
kept-apart s loose kept v w b c other at_v at_w = elim (cases_Bool (same_block (block_of b) (block_of c))) [
  | inl same ↦
      let twice = two-named s.blocks v w b c other at_v at_w (same-is (block_of b) (block_of c) same) in
      let all = kept-counted s loose (block_of b) in
      let hand = kept.in_hand (block_of b) in
      let once = kept.once (block_of b) in
      absurd (omega (arith, twice, all, hand, once))
  | inr apart ↦ apart
]

-- one that is kept besides is kept nowhere else
pub only-loose : (s : SessionView) (x : BlockView) (loose : List BlockView) → Keeps s (x ∷ loose) → times (block_of x) (blocks_kept s loose) ≡ 0
only-loose s x loose kept =
    let all = loose-counted s x loose (block_of x) in
    let one = one-true (same_block (block_of x) (block_of x)) (same-self (block_of x)) in
    let hand = kept.in_hand (block_of x) in
    let once = kept.once (block_of x) in
    omega (arith, all, one, hand, once)

-- one that is kept is another one than that which is kept besides
pub kept-beside : (s : SessionView) (x : BlockView) (loose : List BlockView) → Keeps s (x ∷ loose) → (y : BlockView) → Contains (views_kept s loose) y → same_block (block_of y) (block_of x) ≡ false
kept-beside s x loose kept y there = elim (cases_Bool (same_block (block_of y) (block_of x))) [
  | inl same ↦
      let none = only-loose s x loose kept in
      let some = subst (λ c. 1 ≤ times c (blocks_kept s loose)) (same-is (block_of y) (block_of x) same) (view-counted (views_kept s loose) y there) in
      absurd (omega (arith, none, some))
  | inr apart ↦ apart
]

pub loose-apart :
    (s : SessionView) (x : BlockView) (loose : List BlockView) → Keeps s (x ∷ loose) → (v : Name) (b : BlockView) → block_with s.blocks v ≡ Some b
    → same_block (block_of b) (block_of x) ≡ false
loose-apart s x loose kept v b at_v = kept-beside s x loose kept b (kept-named s loose b (block-kept s.blocks v b at_v))

-- under which names blocks were given

abbrev is_coming : List ℕ → List Parcel → Bool
is_coming w gs = list_any (λ g. bytes_eq g.name.base w) gs

abbrev given_name : List ℕ → Name
given_name w = Given (record { base = w })

-- what has the name now, by whether it is the one that got another block
pub with-same : (old new : NamedBlocks) (name w : Name) (got : Option BlockView) → AreWith old name got new → same_name name w ≡ true → block_with new w ≡ got
with-same old new name w got with_it same = with_it.named w ∙ ap (λ d. cond d got (block_with old w)) same

pub with-other : (old new : NamedBlocks) (name w : Name) (got : Option BlockView) → AreWith old name got new → same_name name w ≡ false → block_with new w ≡ block_with old w
with-other old new name w got with_it other = with_it.named w ∙ ap (λ d. cond d got (block_with old w)) other

-- a name that has a block now was given where it was, or is a name of the kind of those given that got it
pub kept-given :
    (s t : SessionView) (name : Name) (got : Option BlockView) → AreWith s.blocks name got t.blocks → t.parcels ≡ s.parcels
    → ((w : List ℕ) → same_name name (Given (record { base = w })) ≡ true → is_some got ≡ true → is_given s w ≡ true)
    → (w : List ℕ) → is_given t w ≡ true → is_given s w ≡ true
kept-given s t name got with_it parcels made w given =
    let some = is_some (block_with s.blocks (given_name w)) in
    elim (either-true (is_some (block_with t.blocks (given_name w))) (is_coming w t.parcels) given) [
      | inl here ↦ elim (cases_Bool (same_name name (given_name w))) [
        | inl same ↦ made w same (sym (ap is_some (with-same s.blocks t.blocks name (given_name w) got with_it same)) ∙ here)
        | inr other ↦ or-left some (is_coming w s.parcels) (sym (ap is_some (with-other s.blocks t.blocks name (given_name w) got with_it other)) ∙ here)
      ]
      | inr coming ↦ or-right some (is_coming w s.parcels) (sym (ap (is_coming w) parcels) ∙ coming)
    ]

-- no name is given where one loses its block
pub given-dropped : (s t : SessionView) (name : Name) → AreWith s.blocks name None t.blocks → t.parcels ≡ s.parcels → (w : List ℕ) → is_given t w ≡ true → is_given s w ≡ true
given-dropped s t name with_it parcels = kept-given s t name None with_it parcels (λ w same some. absurd (false≢true some))

-- nor where one of another kind gets a block
pub given-made :
    (s t : SessionView) (name : Name) (got : Option BlockView) → AreWith s.blocks name got t.blocks → t.parcels ≡ s.parcels
    → ((w : List ℕ) → same_name name (Given (record { base = w })) ≡ false)
    → (w : List ℕ) → is_given t w ≡ true → is_given s w ≡ true
given-made s t name got with_it parcels other = kept-given s t name got with_it parcels (λ w same some. absurd (false≢true (sym (other w) ∙ same)))

pub given-alike : (s t : SessionView) → t.blocks ≡ s.blocks → t.parcels ≡ s.parcels → (w : List ℕ) → is_given t w ≡ true → is_given s w ≡ true
given-alike s t blocks parcels w given =
    sym (ap (λ bs. is_some (block_with bs (given_name w)) || is_coming w t.parcels) blocks ∙ ap (λ gs. is_some (block_with s.blocks (given_name w)) || is_coming w gs) parcels) ∙ given

-- the names of blocks on their way stay new where another name gets a block, or one loses its own
pub new-names :
    (old new : NamedBlocks) (name : Name) (got : Option BlockView) → AreWith old name got new → (gs : List Parcel)
    → ((g : Parcel) → Contains gs g → same_name name (Given g.name) ≡ true → got ≡ None) → AreNewNames old gs → AreNewNames new gs
new-names old new name got with_it [] free fresh = tt
new-names old new name got with_it (g ∷ gs) free fresh = (
  elim (cases_Bool (same_name name (Given g.name))) [
    | inl same ↦ with-same old new name (Given g.name) got with_it same ∙ free g (there-first g gs) same
    | inr other ↦ with-other old new name (Given g.name) got with_it other ∙ fresh.0
  ],
  fresh.1,
  new-names old new name got with_it gs (λ h there. free h (there-behind g h gs there)) fresh.2,
)

-- where names have other blocks, the session keeps the same ones, some of them elsewhere
pub keeps-renamed :
    (s t : SessionView) (old new : List BlockView) → Keeps s old → Renames s t → ((x : BlockView) → Contains (views_kept t new) x → Contains (views_kept s old) x)
    → ((b : Block) → times b (blocks_kept t new) ≡ times b (blocks_kept s old)) → AreNewNames t.blocks t.parcels → Keeps t new
keeps-renamed s t old new kept renames members counts fresh =
    let at = sym renames.at in
    record {
      profile = ap (λ z. z.profile) renames.zone ∙ kept.profile ∙ ap (λ v. v.book.profile) at;
      zone = ap (λ z. z.zone) renames.zone ∙ kept.zone;
      for_one = subst (λ v. IsForOne v.book.profile) at kept.for_one;
      caller = ap (λ v. v.book.caller) renames.at ∙ kept.caller;
      alone = ap (λ v. v.book.between) renames.at ∙ kept.alone;
      zone_open = ap (λ v. is_open (state_of v.book) 0) renames.at ∙ kept.zone_open;
      nothing_held = subst (λ v. HoldsNothing v.book) at kept.nothing_held;
      seated = subst (λ v. IsSeatedAt v.book v.nano) at kept.seated;
      nano = subst (λ v. has_nano v.nano ≡ nat_lt 0 v.book.profile.nano) at kept.nano;
      one_seat = subst (λ v. HasOneSeat v.nano) at kept.one_seat;
      ours = λ x there. subst (λ v. IsOurs v x) at (kept.ours x (members x there));
      in_hand = λ b. ap (λ v. times b (hand v.book)) renames.at ∙ kept.in_hand b ∙ sym (counts b);
      once = λ b. subst (λ v. times b (hand v.book) ≤ 1) at (kept.once b);
      mine = ap (λ v. list_all (λ h. h.caller == 0) v.book.pairs) renames.at ∙ kept.mine;
      new_names = fresh;
    }

-- a block that lost its name is kept besides
pub keeps-taken :
    (s t : SessionView) (name : Name) (b : BlockView) (loose : List BlockView) → Keeps s loose → Renames s t → AreWith s.blocks name None t.blocks
    → block_with s.blocks name ≡ Some b → Keeps t (b ∷ loose)
keeps-taken s t name b loose kept renames with_it held =
    keeps-renamed s t loose (b ∷ loose) kept renames
    (λ x there.
    kept-cases t (b ∷ loose) x (Contains (views_kept s loose) x) there
    (λ front. elim (with_it.members x front) [ inl none ↦ absurd (none-some x none) | inr old ↦ kept-named s loose x old ])
    (λ way. kept-coming s loose x (subst (λ gs. Contains (views_coming gs) x) renames.parcels way))
    (λ last. elim (there-cases b x loose last) [
      | inl same ↦ subst (λ y. Contains (views_kept s loose) y) same (kept-named s loose b (block-kept s.blocks name b held))
      | inr other ↦ kept-loose s loose x other
    ]))
    (λ c.
    let new = kept-counted t (b ∷ loose) c in
    let old = kept-counted s loose c in
    let one = count-cons c (block_of b) (map block_of loose) in
    let change = with_it.counted c in
    let found = ap (count_in c) held in
    let way = ap (λ gs. times c (map block_of (views_coming gs))) renames.parcels in
    omega (arith, new, old, one, change, found, way))
    (subst (AreNewNames t.blocks) (sym renames.parcels) (new-names s.blocks t.blocks name None with_it s.parcels (λ g there same. refl) kept.new_names))

-- a block that was kept besides has a name
pub keeps-held :
    (s t : SessionView) (name : Name) (b : BlockView) (loose : List BlockView) → Keeps s (b ∷ loose) → IsFree s name → Renames s t
    → AreWith s.blocks name (Some b) t.blocks → Keeps t loose
keeps-held s t name b loose kept free renames with_it =
    keeps-renamed s t (b ∷ loose) loose kept renames
    (λ x there.
    kept-cases t loose x (Contains (views_kept s (b ∷ loose)) x) there
    (λ front. elim (with_it.members x front) [
      | inl is ↦ subst (λ y. Contains (views_kept s (b ∷ loose)) y) (some-is b x is) (kept-loose s (b ∷ loose) b (there-first b loose))
      | inr old ↦ kept-named s (b ∷ loose) x old
    ])
    (λ way. kept-coming s (b ∷ loose) x (subst (λ gs. Contains (views_coming gs) x) renames.parcels way))
    (λ last. kept-loose s (b ∷ loose) x (there-behind b x loose last)))
    (λ c.
    let new = kept-counted t loose c in
    let old = kept-counted s (b ∷ loose) c in
    let one = count-cons c (block_of b) (map block_of loose) in
    let change = with_it.counted c in
    let none = ap (count_in c) free.unnamed in
    let way = ap (λ gs. times c (map block_of (views_coming gs))) renames.parcels in
    omega (arith, new, old, one, change, none, way))
    (subst (AreNewNames t.blocks) (sym renames.parcels)
    (new-names s.blocks t.blocks name (Some b) with_it s.parcels (λ g there same. absurd (free.not_coming g there (same-is-name name (Given g.name) same))) kept.new_names))

-- what a name's removal answers

pub takes :
    (s t : SessionView) (name : Name) (b : BlockView) (got : Option BlockView) → IsKept s → Renames s t → AreWith s.blocks name None t.blocks
    → got ≡ block_with s.blocks name → block_with s.blocks name ≡ Some b → Takes s name got t
takes s t name b got kept renames with_it is held =
    subst (λ o. Takes s name o t) (sym (is ∙ held)) (held, renames, with_it, keeps-taken s t name b [] kept renames with_it held)

pub takes-none : (s : SessionView) (name : Name) (got : Option BlockView) → got ≡ None → block_with s.blocks name ≡ None → Takes s name got s
takes-none s name got none unnamed = subst (λ o. Takes s name o s) (sym none) (unnamed, refl)

-- what a call that may fail leaves
pub on-ok : {A E : Type 0} (r : Result A E) (P Q : Type 0) → (P → Q) → OnOk r P → OnOk r Q
on-ok (Ok x) P Q so is = so is
on-ok (Err e) P Q so is = tt

pub option-some : {A B : Type 0} (f : A → B) (o : Option A) → is_some o ≡ true → (y : B) × (option_map f o ≡ Some y)
option-some f None some = absurd (false≢true some)
option-some f (Some x) some = (f x, refl)
