-- The session stands for what a record leaves.
use Rattle.std.proofs.Common.{◌≡◌, ℕ, true, false, cond, not, [], Option, Some, None, Ok, refl, ap, sym, subst, ◌∙◌, inl, inr, ◌∷◌}
use Rattle.std.specs.Option.{option_map}
use Rattle.std.proofs.lemmas.Bool.{cases_Bool}
use Rattle.std.proofs.lemmas.Option.{none-some}
use Rattle.mz_base.specs.Space.{same_block}
use Rattle.mz_words.specs.declared.name.Name.{Name}
use Rattle.mz_record.specs.Bytes.{Bytes, fresh, cleared, is_shown_as}
use Rattle.mz_lawful.specs.Names.{same_name}
use Rattle.mz_lawful.specs.Standing.{Holding, Caller, Standing, first_standing, caller_at, held_at, bytes_of, holding, without_name, knowing}
use Rattle.mz_lawful.specs.After.{changed, with_served, without_block}
use Rattle.mz_zone.specs.Blocks.{BlockView, block_of}
use Rattle.mz_zone.specs.Answering.{IsCleared}
use Rattle.mz_session.specs.Names.{block_with, holding_of, holding_named}
use Rattle.mz_session.specs.Changes.{AreWith}
use Rattle.mz_session.specs.Sessions.{SessionView, IsKept, StandsFor, AreHeldOnce, ArePassed}
use Rattle.mz_session.specs.Serving.{Makes, Holds, Takes, Ends}
use Rattle.mz_session.proofs.CountLemmas.{some-is}
use Rattle.mz_session.proofs.NameLemmas.{name-symm}
use Rattle.mz_session.proofs.HeldLemmas.{held-first, held-forgotten, given-names, kept-names, once-more, once-left}
use Rattle.mz_session.proofs.KnownLemmas.{known-now, known-others, known-forgotten}
use Rattle.mz_session.proofs.KeepLemmas.{there-first, kept-loose, kept-apart, loose-apart}

-- blocks of one zone with the same bytes' place are held alike
same-holding : (name : Name) (b c : BlockView) → c.zone ≡ b.zone → block_of c ≡ block_of b → holding_of name b ≡ holding_of name c
same-holding name b c zone block =
    ap (λ x. record { name = name; block = x; zone = b.zone }) (sym block) ∙ ap (λ z. record { name = name; block = block_of c; zone = z }) (sym zone)

-- it stands for what is there before the first line
pub stands-first : (s : SessionView) → s.blocks ≡ [] → s.parcels ≡ [] → StandsFor s first_standing
stands-first s empty none = record {
  zones = refl;
  gifts = subst (λ ps. ArePassed ps []) (sym none) tt;
  zone = refl;
  held = λ name. ap (λ bs. holding_named bs name) (sym empty);
  held_once = tt;
  known = λ name b named. absurd (none-some b (ap (λ bs. block_with bs name) (sym empty) ∙ named));
}

module _ (s t : SessionView) (v : Standing) (stands : StandsFor s v) (coming : t.parcels ≡ s.parcels) where
  abbrev me : Caller
  me = caller_at v 0

  -- the caller has changed, as the names have, and what is on its way is as before
  pub stands-changed :
      (change : Caller → Caller) → (change me).zone ≡ me.zone
      → ((name : Name) → held_at (change me) name ≡ holding_named t.blocks name) → AreHeldOnce (change me).held
      → ((name : Name) (b : BlockView) → block_with t.blocks name ≡ Some b → is_shown_as (bytes_of (change me) (block_of b)) b.span.bytes ≡ true)
      → StandsFor t (changed 0 change v)
  stands-changed change same held once known = record {
    zones = stands.zones;
    gifts = subst (λ ps. ArePassed ps v.gifts) (sym coming) stands.gifts;
    zone = same ∙ stands.zone;
    held = held;
    held_once = once;
    known = known;
  }

  -- all names have the blocks of before
  pub stands-same : ((w : Name) → block_with t.blocks w ≡ block_with s.blocks w) → StandsFor t v
  stands-same same = record {
    zones = stands.zones;
    gifts = subst (λ ps. ArePassed ps v.gifts) (sym coming) stands.gifts;
    zone = stands.zone;
    held = λ w. stands.held w ∙ ap (option_map (holding_of w)) (sym (same w));
    held_once = stands.held_once;
    known = λ w b named. stands.known w b (sym (same w) ∙ named);
  }

  -- a name's block among those where one name got this block: that one, or one of before
  block-now : (name w : Name) (b c : BlockView) → AreWith s.blocks name (Some b) t.blocks → block_with t.blocks w ≡ Some c → same_name name w ≡ true → b ≡ c
  block-now name w b c with_it named same = some-is b c (sym (ap (λ d. cond d (Some b) (block_with s.blocks w)) same) ∙ sym (with_it.named w) ∙ named)

  block-before : (name w : Name) (got : Option BlockView) (c : BlockView) → AreWith s.blocks name got t.blocks → block_with t.blocks w ≡ Some c → same_name name w ≡ false → block_with s.blocks w ≡ Some c
  block-before name w got c with_it named other = sym (ap (λ d. cond d got (block_with s.blocks w)) other) ∙ sym (with_it.named w) ∙ named

  -- a block was served, and has the name
  pub stands-served :
      (name : Name) (clear : ℕ) (b : BlockView) → AreWith s.blocks name (Some b) t.blocks → block_with s.blocks name ≡ None
      → ((w : Name) (c : BlockView) → block_with s.blocks w ≡ Some c → same_block (block_of c) (block_of b) ≡ false)
      → IsCleared clear b
      → StandsFor t (changed 0 (with_served name b.zone clear (Some (block_of b))) v)
  stands-served name clear b with_it free apart shown =
      let x = block_of b in
      let bs : Bytes = cleared clear (fresh x.size) in
      let h : Holding = holding_of name b in
      stands-changed (with_served name b.zone clear (Some x)) refl
      (λ w. held-first h me.held w ∙ ap (λ o. cond (same_name name w) (Some h) o) (stands.held w) ∙ given-names s.blocks t.blocks name (Some b) with_it w)
      (once-more h me.held stands.held_once (stands.held name ∙ ap (option_map (holding_of name)) free))
      (λ w c named. elim (cases_Bool (same_name name w)) [
        | inl same ↦
            subst (λ y. is_shown_as (bytes_of (with_served name b.zone clear (Some x) me) (block_of y)) y.span.bytes ≡ true) (block-now name w b c with_it named same)
            (ap (λ ys. is_shown_as ys b.span.bytes) (known-now x bs (holding h me)) ∙ shown)
        | inr other ↦
            let before = block-before name w (Some b) c with_it named other in
            ap (λ ys. is_shown_as ys c.span.bytes) (known-others x (block_of c) bs (holding h me) (apart w c before)) ∙ stands.known w c before
      ])

  -- none was served
  pub stands-unserved : (name : Name) (z clear : ℕ) → ((w : Name) → block_with t.blocks w ≡ block_with s.blocks w) → StandsFor t (changed 0 (with_served name z clear None) v)
  stands-unserved name z clear same =
      stands-changed (with_served name z clear None) refl
      (λ w. stands.held w ∙ ap (option_map (holding_of w)) (sym (same w)))
      stands.held_once
      (λ w b named. stands.known w b (sym (same w) ∙ named))

  -- a block has gone, with its name
  pub stands-gone :
      (name : Name) (b : BlockView) → AreWith s.blocks name None t.blocks
      → ((w : Name) (c : BlockView) → same_name name w ≡ false → block_with s.blocks w ≡ Some c → same_block (block_of c) (block_of b) ≡ false)
      → StandsFor t (changed 0 (without_block (holding_of name b)) v)
  stands-gone name b with_it apart =
      let x = block_of b in
      stands-changed (without_block (holding_of name b)) refl
      (λ w. held-forgotten me.held name w ∙ ap (λ o. cond (same_name name w) None o) (stands.held w) ∙ given-names s.blocks t.blocks name None with_it w)
      (once-left (λ h. not (same_name h.name name)) me.held stands.held_once)
      (λ w c named. elim (cases_Bool (same_name name w)) [
        | inl same ↦ absurd (none-some c (sym (ap (λ d. cond d None (block_with s.blocks w)) same) ∙ sym (with_it.named w) ∙ named))
        | inr other ↦
            let before = block-before name w None c with_it named other in
            ap (λ ys. is_shown_as ys c.span.bytes) (known-forgotten x (block_of c) (without_name name me) (apart w c other before)) ∙ stands.known w c before
      ])

  -- bytes of a block were written
  pub stands-written :
      (name : Name) (b c : BlockView) (bs : Bytes) → block_with s.blocks name ≡ Some b → c.zone ≡ b.zone → block_of c ≡ block_of b → AreWith s.blocks name (Some c) t.blocks
      → ((w : Name) (x : BlockView) → same_name name w ≡ false → block_with s.blocks w ≡ Some x → same_block (block_of x) (block_of b) ≡ false)
      → is_shown_as bs c.span.bytes ≡ true
      → StandsFor t (changed 0 (knowing (block_of b) bs) v)
  stands-written name b c bs held same_zone same_block_of with_it apart shown =
      let x = block_of b in
      stands-changed (knowing x bs) refl
      (λ w. stands.held w ∙ kept-names s.blocks t.blocks name c with_it (ap (option_map (holding_of name)) held ∙ ap Some (same-holding name b c same_zone same_block_of)) w)
      stands.held_once
      (λ w y named. elim (cases_Bool (same_name name w)) [
        | inl same ↦
            subst (λ z. is_shown_as (bytes_of (knowing x bs me) (block_of z)) z.span.bytes ≡ true) (block-now name w c y with_it named same)
            (ap (λ z. is_shown_as (bytes_of (knowing x bs me) z) c.span.bytes) same_block_of ∙ ap (λ ys. is_shown_as ys c.span.bytes) (known-now x bs me) ∙ shown)
        | inr other ↦
            let before = block-before name w (Some c) y with_it named other in
            ap (λ ys. is_shown_as ys y.span.bytes) (known-others x (block_of y) bs me (apart w y other before)) ∙ stands.known w y before
      ])

-- a request was made, and the block that came has the name
pub stands-made :
    (s u t : SessionView) (v : Standing) (name : Name) (n al clear : ℕ) (b : BlockView) → Makes s n al (Ok b) u → Holds u name b t
    → block_with s.blocks name ≡ None → IsCleared clear b → StandsFor s v
    → StandsFor t (changed 0 (with_served name 0 clear (Some (block_of b))) v)
stands-made s u t v name n al clear b makes holds free shown stands =
    let same = makes.notes.blocks in
    let ours = makes.keeps.ours b (kept-loose u (b ∷ []) b (there-first b [])) in
    subst (λ z. StandsFor t (changed 0 (with_served name z clear (Some (block_of b))) v)) ours.zone (
    stands-served s t v stands (holds.renames.parcels ∙ makes.notes.parcels) name clear b (subst (λ bs. AreWith bs name (Some b) t.blocks) same holds.blocks) free
    (λ w c named. loose-apart u b [] makes.keeps w c (ap (λ bs. block_with bs w) same ∙ named)) shown)

-- a block that had the name ended
pub stands-dropped :
    (s u t : SessionView) (v : Standing) (name : Name) (b : BlockView) → IsKept s → Takes s name (Some b) u → Ends u b t → StandsFor s v
    → StandsFor t (changed 0 (without_block (holding_of name b)) v)
stands-dropped s u t v name b kept takes ends stands =
    stands-gone s t v stands (ends.notes.parcels ∙ takes.1.parcels) name b (subst (AreWith s.blocks name None) (sym ends.notes.blocks) takes.2)
    (λ w c other named. kept-apart s [] kept w name c b (name-symm w name ∙ other) named takes.0)
