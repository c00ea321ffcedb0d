-- A block that has another size, and maybe another name: what a caller holds and knows then, and that the record of it fits.
use Rattle.std.proofs.Common.{◌≡◌, ℕ, zero, suc, ◌-◌, ◌*◌, ◌==◌, Bool, true, false, cond, List, [], ◌∷◌, ◌++◌, length, Option, Some, None, refl, ap, sym, subst, ◌∙◌, inl, inr, eq-eqb}
use Rattle.std.specs.Prelude.{◌&&◌, ◌⊎◌, map, take, drop, not, filter, is_some}
use Rattle.std.specs.List.{AllByRecursion}
use Rattle.std.specs.Option.{option_map}
use Rattle.std.proofs.lemmas.Bool.{cases_Bool, false≢true, and_parts, and_from, eqb-true, cond-true, cond-false}
use Rattle.std.proofs.lemmas.Option.{none-some}
use Rattle.mz_base.specs.declared.profile.Profile.{Profile}
use Rattle.mz_base.specs.Space.{Block, block_at, same_block}
use Rattle.mz_events.specs.declared.entry.Entry.{Entry}
use Rattle.mz_events.specs.declared.event.Event.{Event}
use Rattle.mz_events.specs.Hands.{own}
use Rattle.mz_words.specs.declared.name.Name.{Name}
use Rattle.mz_words.specs.declared.name.Name.TheVariants.{Base, Batch, Given}
use Rattle.mz_words.specs.contracts.name.NamePartialEq.TheImpl as equal
use Rattle.mz_lines.specs.declared.answer.Answer.TheVariants as answers
use Rattle.mz_lines.specs.declared.command.Command.TheVariants.{Realloc}
use Rattle.mz_lines.specs.declared.renaming.Names.{Names}
use Rattle.mz_lines.specs.Commands.{old_name, new_name}
use Rattle.mz_record.specs.Bytes.{Bytes, fresh, kept, kept_in_place, kept_in_move, is_shown_as}
use Rattle.mz_record.specs.Moments.{first_some}
use Rattle.mz_base.specs.declared.range.TheConstants.{PAGE}
use Rattle.mz_record.specs.Served.{events, size_for, block_made, first_made, Request, IsServed, by_nano, by_magazine, by_depot, by_fresh_region, null_in_range, by_cache, by_fresh_run, null_in_large}
use Rattle.mz_record.specs.Resized.{Resize, same_size, in_place, still_large, moved, not_moved, IsReallocated, reallocated, moving_request}
use Rattle.mz_lawful.specs.Names.{same_name}
use Rattle.mz_lawful.specs.Records.{call}
use Rattle.mz_lawful.specs.Settings.{Setting, above, least_ticket}
use Rattle.mz_lawful.specs.Standing.{Holding, Caller, Standing, caller_at, is_held, bytes_of, holding, without_name, forgetting}
use Rattle.mz_lawful.specs.Tasks.{Task, refused, resizing, refuse_if, with_held, resize, task_of}
use Rattle.mz_lawful.specs.Fitting.{AreEntries, block_answer, is_rising_from}
use Rattle.mz_lawful.specs.After.{bytes_kept, changed, with_resized}
use Rattle.mz_zone.specs.Blocks.{BlockView, block_of}
use Rattle.mz_session.specs.Names.{NamedBlocks, block_with, holding_of, holding_named}
use Rattle.mz_session.specs.Changes.{AreWith}
use Rattle.mz_session.specs.Sessions.{SessionView, IsKept, StandsFor}
use Rattle.mz_session.specs.SessionLaws.{SessionLaws}
use Rattle.mz_session.specs.Serving.{resize_of, Holds, Takes, IsFree, IsKeptOrBase, Remakes, Serves, setting_of, record_of}
use Rattle.mz_session.proofs.CountLemmas.{some-is}
use Rattle.mz_session.proofs.NameLemmas.{same-is-name, name-symm}
use Rattle.mz_session.proofs.HeldLemmas.{held_in, held-first, held-forgotten, given-names, put-back, once-more, once-left}
use Rattle.mz_session.proofs.KnownLemmas.{known-now, known-others, known-forgotten}
use Rattle.mz_session.proofs.KeepLemmas.{there-first, kept-loose, kept-apart, loose-apart}
use Rattle.mz_session.proofs.StandsLemmas.{stands-changed}
use Rattle.mz_session.proofs.RecordLemmas.{GivesNone, fits-by, serves-by, given-still, given-same, with-none, with-some}
use Rattle.mz_session.proofs.CommandLemmas.{free-again}

-- bytes

shown-length : (xs : Bytes) (zs : List ℕ) → is_shown_as xs zs ≡ true → length xs ≡ length zs
shown-length [] [] shown = refl
shown-length [] (z ∷ zs) shown = absurd (false≢true shown)
shown-length (x ∷ xs) [] shown = absurd (false≢true shown)
shown-length (None ∷ xs) (z ∷ zs) shown = ap suc (shown-length xs zs shown)
shown-length (Some x ∷ xs) (z ∷ zs) shown = ap suc (shown-length xs zs (and_parts (x == z) (is_shown_as xs zs) shown).1)

-- what is shown as bytes with known ones in front is shown as bytes of which fewer are known there
front-weaker :
    (xs : Bytes) (zs ds : List ℕ) (rest : Bytes) → is_shown_as xs zs ≡ true → is_shown_as (map (λ z. Some z) zs ++ rest) ds ≡ true → is_shown_as (xs ++ rest) ds ≡ true
front-weaker [] [] ds rest shown all = all
front-weaker [] (z ∷ zs) ds rest shown all = absurd (false≢true shown)
front-weaker (x ∷ xs) [] ds rest shown all = absurd (false≢true shown)
front-weaker (None ∷ xs) (z ∷ zs) [] rest shown all = absurd (false≢true all)
front-weaker (None ∷ xs) (z ∷ zs) (d ∷ ds) rest shown all =
    front-weaker xs zs ds rest shown (and_parts (z == d) (is_shown_as (map (λ z. Some z) zs ++ rest) ds) all).1
front-weaker (Some x ∷ xs) (z ∷ zs) [] rest shown all = absurd (false≢true all)
front-weaker (Some x ∷ xs) (z ∷ zs) (d ∷ ds) rest shown all =
    let here = and_parts (x == z) (is_shown_as xs zs) shown in
    let there = and_parts (z == d) (is_shown_as (map (λ z. Some z) zs ++ rest) ds) all in
    and_from (x == d) (is_shown_as (xs ++ rest) ds) (eq-eqb x d (eqb-true x z here.0 ∙ eqb-true z d there.0)) (front-weaker xs zs ds rest here.1 there.1)

take-shown : (n : ℕ) (xs : Bytes) (zs : List ℕ) → is_shown_as xs zs ≡ true → is_shown_as (take n xs) (take n zs) ≡ true
take-shown zero xs zs shown = refl
take-shown (suc n) [] [] shown = refl
take-shown (suc n) [] (z ∷ zs) shown = absurd (false≢true shown)
take-shown (suc n) (x ∷ xs) [] shown = absurd (false≢true shown)
take-shown (suc n) (None ∷ xs) (z ∷ zs) shown = take-shown n xs zs shown
take-shown (suc n) (Some x ∷ xs) (z ∷ zs) shown =
    let parts = and_parts (x == z) (is_shown_as xs zs) shown in
    and_from (x == z) (is_shown_as (take n xs) (take n zs)) parts.0 (take-shown n xs zs parts.1)

take-known : (n : ℕ) (zs : List ℕ) → take n (map (λ z. Some z) zs) ≡ map (λ z. Some z) (take n zs)
take-known zero zs = refl
take-known (suc n) [] = refl
take-known (suc n) (z ∷ zs) = ap (λ xs. Some z ∷ xs) (take-known n zs)

known-length : (zs : List ℕ) → length (map (λ (z : ℕ). Some z) zs) ≡ length zs
known-length [] = refl
known-length (z ∷ zs) = ap suc (known-length zs)

-- what is shown as the bytes kept of known ones is shown as those kept of bytes of which fewer are known
kept-weaker :
    (n s : ℕ) (xs : Bytes) (zs ds : List ℕ) → is_shown_as xs zs ≡ true → is_shown_as (kept n s (map (λ z. Some z) zs)) ds ≡ true → is_shown_as (kept n s xs) ds ≡ true
kept-weaker n s xs zs ds shown all =
    let front = take-shown n xs zs shown in
    let many : length (take n (map (λ (z : ℕ). Some z) zs)) ≡ length (take n xs) = ap length (take-known n zs) ∙ known-length (take n zs) ∙ sym (shown-length (take n xs) (take n zs) front) in
    front-weaker (take n xs) (take n zs) ds (fresh (s - length (take n xs))) front
    (subst (λ (ys : Bytes). is_shown_as (ys ++ fresh (s - length (take n xs))) ds ≡ true) (take-known n zs)
    (subst (λ m. is_shown_as (take n (map (λ (z : ℕ). Some z) zs) ++ fresh (s - m)) ds ≡ true) many all))

resized-weaker :
    (n : ℕ) (b d : Block) (xs : Bytes) (zs ds : List ℕ) → is_shown_as xs zs ≡ true → is_shown_as (bytes_kept n b d (map (λ z. Some z) zs)) ds ≡ true
    → is_shown_as (bytes_kept n b d xs) ds ≡ true
resized-weaker n b d xs zs ds shown all = by-place (b.first == d.first) all
  where
    by-place :
        (t : Bool) → is_shown_as (cond t (kept_in_place d.size (map (λ (z : ℕ). Some z) zs)) (kept_in_move n d.size (map (λ (z : ℕ). Some z) zs))) ds ≡ true
        → is_shown_as (cond t (kept_in_place d.size xs) (kept_in_move n d.size xs)) ds ≡ true
    by-place true here = kept-weaker d.size d.size xs zs ds shown here
    by-place false there = kept-weaker n d.size xs zs ds shown there

-- what stands

module _ (s t : SessionView) (v : Standing) (stands : StandsFor s v) (coming : t.parcels ≡ s.parcels) where
  abbrev me : Caller
  me = caller_at v 0

  -- a block has become another one, under the new name
  pub stands-resized :
      (old new : Name) (n : ℕ) (b d : BlockView) (mid : NamedBlocks) → block_with s.blocks old ≡ Some b → AreWith s.blocks old None mid
      → AreWith mid new (Some d) t.blocks → block_with mid new ≡ None
      → ((w : Name) (c : BlockView) → same_name old w ≡ false → block_with s.blocks w ≡ Some c → same_block (block_of c) (block_of b) ≡ false)
      → ((w : Name) (c : BlockView) → same_name old w ≡ false → block_with s.blocks w ≡ Some c → same_block (block_of c) (block_of d) ≡ false)
      → is_shown_as (bytes_kept n (block_of b) (block_of d) (map (λ x. Some x) b.span.bytes)) d.span.bytes ≡ true → d.zone ≡ b.zone
      → StandsFor t (changed 0 (with_resized new (holding_of old b) n (Some (block_of d))) v)
  stands-resized old new n b d mid held without with_it free apart other shown one_zone =
      let x = block_of b in
      let y = block_of d in
      let bs : Bytes = bytes_kept n x y (bytes_of me x) in
      let was : Holding = holding_of old b in
      let h : Holding = record { name = new; block = y; zone = b.zone } in
      let left : List Holding = filter (λ g. not (same_name g.name old)) me.held in
      let left_is : (w : Name) → held_in left w ≡ holding_named mid w =
      λ w. held-forgotten me.held old w ∙ ap (λ o. cond (same_name old w) None o) (stands.held w) ∙ given-names s.blocks mid old None without w in
      stands-changed s t v stands coming (with_resized new was n (Some y)) refl
      (λ w. held-first h left w ∙ ap (λ o. cond (same_name new w) (Some h) o) (left_is w)
      ∙ ap (λ z. cond (same_name new w) (Some (record { name = new; block = y; zone = z })) (holding_named mid w)) (sym one_zone)
      ∙ given-names mid t.blocks new (Some d) with_it w)
      (once-more h left (once-left (λ g. not (same_name g.name old)) me.held stands.held_once) (left_is new ∙ ap (option_map (holding_of new)) free))
      (λ w c named. elim (cases_Bool (same_name new w)) [
        | inl same ↦
            let is : d ≡ c = some-is d c (sym (ap (λ k. cond k (Some d) (block_with mid w)) same) ∙ sym (with_it.named w) ∙ named) in
            subst (λ z. is_shown_as (bytes_of (with_resized new was n (Some y) me) (block_of z)) z.span.bytes ≡ true) is
            (ap (λ ys. is_shown_as ys d.span.bytes) (known-now y bs (forgetting x (holding h (without_name old me))))
            ∙ resized-weaker n x y (bytes_of me x) b.span.bytes d.span.bytes (stands.known old b held) shown)
        | inr differs ↦
            let in_mid : block_with mid w ≡ Some c = sym (ap (λ k. cond k (Some d) (block_with mid w)) differs) ∙ sym (with_it.named w) ∙ named in
            elim (cases_Bool (same_name old w)) [
              | inl gone ↦ absurd (none-some c (sym (ap (λ k. cond k None (block_with s.blocks w)) gone) ∙ sym (without.named w) ∙ in_mid))
              | inr stays ↦
                  let before : block_with s.blocks w ≡ Some c = sym (ap (λ k. cond k None (block_with s.blocks w)) stays) ∙ sym (without.named w) ∙ in_mid in
                  ap (λ ys. is_shown_as ys c.span.bytes)
                  (known-others y (block_of c) bs (forgetting x (holding h (without_name old me))) (other w c stays before)
                  ∙ known-forgotten x (block_of c) (holding h (without_name old me)) (apart w c stays before))
                  ∙ stands.known w c before
            ]
      ])

  -- none came, and all names have the blocks of before
  pub stands-unresized : (new : Name) (n : ℕ) (h : Holding) → ((w : Name) → block_with t.blocks w ≡ block_with s.blocks w) → StandsFor t (changed 0 (with_resized new h n None) v)
  stands-unresized new n h same =
      stands-changed s t v stands coming (with_resized new h n None) refl
      (λ w. stands.held w ∙ ap (option_map (holding_of w)) (sym (same w)))
      stands.held_once
      (λ w c named. stands.known w c (sym (same w) ∙ named))

-- what entries make of a block

made-of-events : (es : List Entry) → first_made es ≡ first_some (map block_made (events es))
made-of-events es = ap first_some (mapped es)
  where
    mapped : (es : List Entry) → map (λ (e : Entry). block_made e.event) es ≡ map block_made (events es)
    mapped [] = refl
    mapped (e ∷ es) = ap (λ os. block_made e.event ∷ os) (mapped es)

-- where there are entries it is what they make
with-entries : (b : Block) (es : List Entry) (got : Option Block) → (es ≡ [] → ⊥) → got ≡ first_made es → got ≡ reallocated b es
with-entries b [] got some made = absurd (some refl)
with-entries b (e ∷ es) got some made = made

first-in-front : (xs ys : List (Option Block)) (d : Block) → first_some xs ≡ Some d → first_some (xs ++ ys) ≡ Some d
first-in-front [] ys d first = absurd (none-some d first)
first-in-front (None ∷ xs) ys d first = first-in-front xs ys d first
first-in-front (Some x ∷ xs) ys d first = first

maps-append : (xs ys : List Entry) → map (λ (e : Entry). block_made e.event) (xs ++ ys) ≡ map (λ (e : Entry). block_made e.event) xs ++ map (λ (e : Entry). block_made e.event) ys
maps-append [] ys = refl
maps-append (x ∷ xs) ys = ap (λ os. block_made x.event ∷ os) (maps-append xs ys)

cons-nil : {A : Type 0} (x : A) (xs : List A) → x ∷ xs ≡ [] → ⊥
cons-nil x xs is = cc

-- a list with something behind it isn't empty
ends-somehow : {A : Type 0} (xs ys : List A) → (ys ≡ [] → ⊥) → xs ++ ys ≡ [] → ⊥
ends-somehow [] ys some is = some is
ends-somehow (x ∷ xs) ys some is = cons-nil x (xs ++ ys) is

no-events : (es : List Entry) → es ≡ [] → {e : Event} → events es ≡ e ∷ [] → ⊥
no-events es empty {e} ev = cons-nil e [] (sym ev ∙ ap events empty)

-- entries that serve no block are some
null-entries : (p : Profile) (h : List Entry) (q : Request) (es : List Entry) (got : Option Block) → IsServed p h q es got → got ≡ None → es ≡ [] → ⊥
null-entries p h q es got (by_nano a z n bs al ev is) none empty = none-some (block_at a (size_for q)) (sym none ∙ is)
null-entries p h q es got (by_magazine r a for ev is) none empty = none-some (block_at a (size_for q)) (sym none ∙ is)
null-entries p h q es got (by_depot r a f for ev is) none empty = none-some (block_at a (size_for q)) (sym none ∙ is)
null-entries p h q es got (by_fresh_region r a f front flushes back for parts ev fl last is) none empty = none-some (block_at a (size_for q)) (sym none ∙ is)
null-entries p h q es got (null_in_range r front flushes last for parts ev fl dry is) none empty = ends-somehow (front ++ flushes) (last ∷ []) (λ rest. cons-nil last [] rest) (sym parts ∙ empty)
null-entries p h q es got (by_cache e a s large parts ev best is) none empty = none-some (block_at a s) (sym none ∙ is)
null-entries p h q es got (by_fresh_run f first flushes back large parts ev fl last is) none empty = none-some (block_at (f * PAGE) (size_for q)) (sym none ∙ is)
null-entries p h q es got (null_in_large first last flushes large parts ev fl dry is) none empty = cons-nil first (flushes ++ last ∷ []) (sym parts ∙ empty)

-- what becomes of a block by its entries is the block that they gave
pub got-is-reallocated :
    (L : SessionLaws) (p : Profile) (h : List Entry) (r : Resize) (es : List Entry) (got : Option Block) → IsReallocated p h r es got → got ≡ reallocated r.block es
got-is-reallocated L p h r es got (inl (same_size asked size none is)) = is ∙ ap (reallocated r.block) (sym none)
got-is-reallocated L p h r es got (inl (in_place k one size ev is)) =
    with-entries r.block es got (λ empty. no-events es empty ev) (is ∙ sym (made-of-events es ∙ ap (λ xs. first_some (map block_made xs)) ev))
got-is-reallocated L p h r es got (inl (still_large old new stays none is)) = is ∙ ap (reallocated r.block) (sym none)
got-is-reallocated L p h r es got (inr (moved d news olds moves parts serves drops is)) =
    let first : Some d ≡ first_made news = L.made p h (moving_request r) news (Some d) serves.served in
    let whole : first_made es ≡ Some d =
    ap first_made parts ∙ ap first_some (maps-append news olds) ∙ first-in-front (map (λ (e : Entry). block_made e.event) news) (map (λ (e : Entry). block_made e.event) olds) d (sym first) in
    with-entries r.block es got (λ empty. none-some d (sym (ap first_made empty) ∙ whole)) (is ∙ sym whole)
got-is-reallocated L p h r es got (inr (not_moved moves serves is)) =
    with-entries r.block es got (λ empty. null-entries p h (moving_request r) es None serves.served refl empty) (is ∙ L.made p h (moving_request r) es None serves.served)

-- what is to be done

pub is-case : {A B : Type 0} (f : A → B) (o : Option A) → is_some (option_map f o) ≡ is_some o
is-case f None = refl
is-case f (Some x) = refl

pub some-there : {A : Type 0} (o : Option A) → is_some o ≡ true → (x : A) × (o ≡ Some x)
some-there None some = absurd (false≢true some)
some-there (Some x) some = (x, refl)

module _ (s : SessionView) (set : Setting) (stands : StandsFor s set.standing) (names : Names) (old new : Name) (n : ℕ) (old_is : old_name names ≡ Some old) (new_is : new_name names ≡ new) where
  abbrev caller : Caller
  caller = caller_at set.standing 0

  abbrev resized_if : Holding → Task
  resized_if h = refuse_if (not (same_name new old) && is_held caller new) answers.Held (resizing new h n)

  by-names : task_of set (call 0 (Realloc names n)) ≡ with_held caller old resized_if
  by-names = ap (λ (o : Option Name). resize set.standing 0 o (new_name names) n) old_is ∙ ap (λ (w : Name). resize set.standing 0 (Some old) w n) new_is

  held-is : is_held caller new ≡ is_some (block_with s.blocks new)
  held-is = ap is_some (stands.held new) ∙ is-case (holding_of new) (block_with s.blocks new)

  pub resize-none : block_with s.blocks old ≡ None → task_of set (call 0 (Realloc names n)) ≡ refused answers.NotHeld
  resize-none none = by-names ∙ with-none s set stands old resized_if none

  pub resize-held :
      (b : BlockView) → block_with s.blocks old ≡ Some b → same_name new old ≡ false → is_some (block_with s.blocks new) ≡ true
      → task_of set (call 0 (Realloc names n)) ≡ refused answers.Held
  resize-held b held other some =
      by-names ∙ with-some s set stands old resized_if b held
      ∙ cond-true (not (same_name new old) && is_held caller new) (refused answers.Held) (resizing new (holding_of old b) n)
      (and_from (not (same_name new old)) (is_held caller new) (ap not other) (held-is ∙ some))

  pub resize-free :
      (b : BlockView) → block_with s.blocks old ≡ Some b → (same_name new old ≡ true) ⊎ (block_with s.blocks new ≡ None)
      → task_of set (call 0 (Realloc names n)) ≡ resizing new (holding_of old b) n
  resize-free b held free =
      by-names ∙ with-some s set stands old resized_if b held
      ∙ cond-false (not (same_name new old) && is_held caller new) (refused answers.Held) (resizing new (holding_of old b) n)
      (elim free [
        | inl same ↦ ap (λ d. not d && is_held caller new) same
        | inr none ↦ and-none (not (same_name new old)) (is_held caller new) (held-is ∙ ap is_some none)
      ])
    where
      and-none : (a d : Bool) → d ≡ false → (a && d) ≡ false
      and-none true d is = is
      and-none false d is = refl

-- that the record fits

-- a caller's entries behind those that come before are these
own-append : (c : ℕ) (xs ys : List Entry) → AllByRecursion (λ (e : Entry). e.caller ≡ c) ys → own c (xs ++ ys) ≡ own c xs ++ ys
own-append c [] [] mine = refl
own-append c [] (y ∷ ys) mine = ap (λ d. cond d (y ∷ own c ys) (own c ys)) (eq-eqb y.caller c mine.0) ∙ ap (λ es. y ∷ es) (own-append c [] ys mine.1)
own-append c (x ∷ xs) ys mine = own-case (x.caller == c) (own-append c xs ys mine)
  where
    own-case : (d : Bool) → own c (xs ++ ys) ≡ own c xs ++ ys → cond d (x ∷ own c (xs ++ ys)) (own c (xs ++ ys)) ≡ cond d (x ∷ own c xs) (own c xs) ++ ys
    own-case true rest = ap (λ es. x ∷ es) rest
    own-case false rest = rest

drop-front : (xs ys : List Entry) → drop (length xs) (xs ++ ys) ≡ ys
drop-front [] ys = refl
drop-front (x ∷ xs) ys = drop-front xs ys

own-behind : (c : ℕ) (before history mine : List Entry) → history ≡ before ++ mine → AllByRecursion (λ (e : Entry). e.caller ≡ c) mine → drop (length (own c before)) (own c history) ≡ mine
own-behind c before history mine seen all =
    ap (λ es. drop (length (own c before)) es) (ap (own c) seen ∙ own-append c before mine all) ∙ drop-front (own c before) mine

-- where a session was remade between a block's loss of its name and its return
module _ (L : SessionLaws) (s u w t : SessionView) (names : Names) (old new : Name) (n : ℕ) (b : BlockView) (got : Option BlockView) (remakes : Remakes u b n got w) (taken : u.at ≡ s.at) (held : t.at ≡ w.at) where
  abbrev mine : List Entry
  mine = remakes.mine

  abbrev x : Block
  x = block_of b

  seen-is : t.at.book.seen ≡ s.at.book.seen ++ mine
  seen-is = ap (λ a. a.book.seen) held ∙ remakes.notes.seen ∙ ap (λ a. a.book.seen ++ mine) taken

  became : option_map block_of got ≡ reallocated x mine
  became =
      got-is-reallocated L u.at.book.profile w.at.book.seen (resize_of u b n (least_ticket (length w.at.book.seen) mine)) mine (option_map block_of got)
      remakes.resizing

  -- what is asked, where so much was seen before, and these entries come at the latest
  abbrev asked : List Entry → List Entry → ℕ → Resize
  asked before mine_now count = record { caller = 0; zone = b.zone; block = x; bytes = n; low = above before; high = least_ticket count mine_now }

  does-so : (v : Standing) → AreEntries (setting_of s t v) 0 (resizing new (holding_of old b) n) mine
  does-so v =
      subst (λ es. IsReallocated s.at.book.profile t.at.book.seen (asked s.at.book.seen es (length t.at.book.seen)) mine (reallocated x mine))
      (sym (own-behind 0 s.at.book.seen t.at.book.seen mine seen-is remakes.notes.mine))
      (subst (λ a. IsReallocated s.at.book.profile a.book.seen (asked s.at.book.seen mine (length a.book.seen)) mine (reallocated x mine)) (sym held)
      (subst (λ a. IsReallocated a.book.profile w.at.book.seen (asked a.book.seen mine (length w.at.book.seen)) mine (reallocated x mine)) taken
      (subst (λ o. IsReallocated u.at.book.profile w.at.book.seen (asked u.at.book.seen mine (length w.at.book.seen)) mine o) became remakes.resizing)))

  serves-remade :
      IsKept t → GivesNone s t
      → ((v : Standing) → StandsFor s v → task_of (setting_of s t v) (call 0 (Realloc names n)) ≡ resizing new (holding_of old b) n)
      → ((v : Standing) → StandsFor s v → StandsFor t (changed 0 (with_resized new (holding_of old b) n (option_map block_of got)) v))
      → Serves s (Realloc names n) (block_answer (option_map block_of got)) t
  serves-remade kept given task stand =
      let answer = block_answer (option_map block_of got) in
      serves-by s t (Realloc names n) answer mine kept
      (ap (λ a. a.book.profile) held ∙ remakes.notes.profile ∙ ap (λ a. a.book.profile) taken) seen-is remakes.notes.mine given
      (λ v stands.
      fits-by (setting_of s t v) (record_of (Realloc names n) mine answer) t (resizing new (holding_of old b) n) (task v stands) (ap block_answer became) (does-so v) refl
      (subst (λ a. is_rising_from (above a.book.seen) mine ≡ true) taken remakes.notes.rising)
      (subst (λ o. StandsFor t (changed 0 (with_resized new (holding_of old b) n o) v)) became (stand v stands)))

-- the names under which blocks were given are those of before, where the new name is the old one or a base name
given-resized :
    (s t : SessionView) (old new : Name) (b : BlockView) (got : Option BlockView) (mid : NamedBlocks) → t.parcels ≡ s.parcels → IsKeptOrBase old new
    → block_with s.blocks old ≡ Some b → AreWith s.blocks old None mid → AreWith mid new got t.blocks → GivesNone s t
given-resized s t old new b got mid coming kind held without with_it =
    given-still s t coming
    (λ g given.
    let w = Given (record { base = g }) in
    elim (cases_Bool (same_name new w)) [
      | inl same ↦ ap is_some (ap (block_with s.blocks) (sym (subst (λ (m : Name). IsKeptOrBase old m) (same-is-name new w same) kind)) ∙ held)
      | inr differs ↦
          less-case (same_name old w) (block_with s.blocks w)
          (sym (ap is_some (with_it.named w ∙ ap (λ d. cond d got (block_with mid w)) differs ∙ without.named w)) ∙ given)
    ])
  where
    less-case : (d : Bool) (o : Option BlockView) → is_some (cond d None o) ≡ true → is_some o ≡ true
    less-case true o given = absurd (false≢true given)
    less-case false o given = given

-- the new name is free for the block where it is the old one, or has no block
pub free-resized :
    (s u w : SessionView) (old new : Name) (b : BlockView) → IsKept s → IsKeptOrBase old new → Takes s old (Some b) u → w.blocks ≡ u.blocks → w.parcels ≡ u.parcels
    → (same_name new old ≡ true) ⊎ (block_with s.blocks new ≡ None) → IsFree w new
free-resized s u w old new b kept kind takes blocks coming free = elim free [
  | inl same ↦ subst (IsFree w) (sym (same-is-name new old same)) (free-again s u w old b kept takes blocks coming)
  | inr none ↦ record {
    unnamed = ap (λ bs. block_with bs new) blocks ∙ takes.2.named new ∙ none-case (same_name old new) (block_with s.blocks new) none;
    not_coming = λ g there is.
        let old_is : old ≡ Given g.name = subst (IsKeptOrBase old) is kind in
        none-some b (sym none ∙ ap (block_with s.blocks) (is ∙ sym old_is) ∙ takes.0);
  }
]
  where
    none-case : (d : Bool) (o : Option BlockView) → o ≡ None → cond d None o ≡ None
    none-case true o none = refl
    none-case false o none = none

-- a block got another size, and the new name
pub serves-resized :
    (L : SessionLaws) (s u w t : SessionView) (names : Names) (old new : Name) (n : ℕ) (b d : BlockView) → IsKept s → IsKeptOrBase old new → Takes s old (Some b) u
    → Remakes u b n (Some d) w → Holds w new d t → (same_name new old ≡ true) ⊎ (block_with s.blocks new ≡ None) → old_name names ≡ Some old → new_name names ≡ new
    → Serves s (Realloc names n) (answers.Block d.span.first (length d.span.bytes)) t
serves-resized L s u w t names old new n b d kept kind takes remakes holds free old_is new_is =
    let notes = remakes.notes in
    let coming = holds.renames.parcels ∙ notes.parcels ∙ takes.1.parcels in
    let with_it : AreWith u.blocks new (Some d) t.blocks = subst (λ bs. AreWith bs new (Some d) t.blocks) notes.blocks holds.blocks in
    let unnamed : block_with u.blocks new ≡ None = sym (ap (λ bs. block_with bs new) notes.blocks) ∙ (free-resized s u w old new b kept kind takes notes.blocks notes.parcels free).unnamed in
    serves-remade L s u w t names old new n b (Some d) remakes takes.1.at holds.renames.at holds.kept
    (given-resized s t old new b (Some d) u.blocks coming kind takes.0 takes.2 with_it)
    (λ v stands. resize-free s (setting_of s t v) stands names old new n old_is new_is b takes.0 free)
    (λ v stands.
    stands-resized s t v stands coming old new n b d u.blocks takes.0 takes.2 with_it unnamed
    (λ m c other named. kept-apart s [] kept m old c b (name-symm m old ∙ other) named takes.0)
    (λ m c other named.
    loose-apart w d [] remakes.keeps m c
    (ap (λ bs. block_with bs m) notes.blocks ∙ takes.2.named m ∙ ap (λ k. cond k None (block_with s.blocks m)) other ∙ named))
    (remakes.bytes d refl)
    ((remakes.keeps.ours d (kept-loose w (d ∷ []) d (there-first d []))).zone ∙ sym (takes.3.ours b (kept-loose u (b ∷ []) b (there-first b []))).zone))

-- none came, and the block has its name again
pub serves-unresized :
    (L : SessionLaws) (s u w t : SessionView) (names : Names) (old new : Name) (n : ℕ) (b : BlockView) → Takes s old (Some b) u → Remakes u b n None w → Holds w old b t
    → (same_name new old ≡ true) ⊎ (block_with s.blocks new ≡ None) → old_name names ≡ Some old → new_name names ≡ new → Serves s (Realloc names n) answers.Null t
serves-unresized L s u w t names old new n b takes remakes holds free old_is new_is =
    let notes = remakes.notes in
    let coming = holds.renames.parcels ∙ notes.parcels ∙ takes.1.parcels in
    let same : (m : Name) → block_with t.blocks m ≡ block_with s.blocks m =
    put-back s.blocks u.blocks t.blocks old b takes.0 takes.2 (subst (λ bs. AreWith bs old (Some b) t.blocks) notes.blocks holds.blocks) in
    serves-remade L s u w t names old new n b None remakes takes.1.at holds.renames.at holds.kept (given-same s t coming same)
    (λ v stands. resize-free s (setting_of s t v) stands names old new n old_is new_is b takes.0 free)
    (λ v stands. stands-unresized s t v stands coming new n (holding_of old b) same)

-- names are one where the test of the code says so

abbrev pub name_eq : Name → Name → Bool
name_eq = equal.eq-value.it

pub equal-name : (v w : Name) → name_eq v w ≡ same_name v w
equal-name (Base a) (Base b) = refl
equal-name (Base a) (Batch b) = refl
equal-name (Base a) (Given b) = refl
equal-name (Batch a) (Base b) = refl
equal-name (Batch a) (Batch b) = refl
equal-name (Batch a) (Given b) = refl
equal-name (Given a) (Base b) = refl
equal-name (Given a) (Batch b) = refl
equal-name (Given a) (Given b) = refl

not-false : (a : Bool) → not a ≡ false → a ≡ true
not-false true is = refl
not-false false is = absurd (false≢true (sym is))

not-true : (a : Bool) → not a ≡ true → a ≡ false
not-true true is = absurd (false≢true is)
not-true false is = refl

pub same-if : (v w : Name) (d : Bool) → d ≡ not (name_eq v w) → d ≡ false → same_name v w ≡ true
same-if v w d tested is = sym (equal-name v w) ∙ not-false (name_eq v w) (sym tested ∙ is)

pub other-if : (v w : Name) (d : Bool) → d ≡ not (name_eq v w) → d ≡ true → same_name v w ≡ false
other-if v w d tested is = sym (equal-name v w) ∙ not-true (name_eq v w) (sym tested ∙ is)

-- whether a name has a block is whether one was found for it
pub found-if : {A : Type 0} (f : A → BlockView) (o : Option A) (bs : NamedBlocks) (name : Name) (d : Bool) → option_map f o ≡ block_with bs name → is_some o ≡ d → is_some (block_with bs name) ≡ d
found-if f o bs name d found is = sym (ap is_some found) ∙ is-case f o ∙ is
