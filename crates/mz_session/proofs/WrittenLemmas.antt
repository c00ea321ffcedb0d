-- What holds of a session between commands stays where bytes of a block are written, and a command that writes them is served.
use Rattle.std.proofs.Common.{◌≡◌, ℕ, true, false, List, [], ◌∷◌, Option, Some, None, length, refl, ap, sym, subst, ◌∙◌, inl, inr, arith}
use Rattle.std.specs.Prelude.{is_some, IsTrue, Contains}
use Rattle.std.specs.Option.{option_map}
use Rattle.std.specs.List.{list_any}
use Rattle.std.specs.Str.{bytes_eq}
use Rattle.std.proofs.lemmas.Bool.{false≢true}
use Rattle.std.proofs.lemmas.Option.{none-some}
use Rattle.mz_base.specs.Space.{block_at, same_block}
use Rattle.mz_events.specs.Changes.{one_for}
use Rattle.mz_words.specs.declared.name.Name.{Name}
use Rattle.mz_words.specs.declared.name.Name.TheVariants.{Given}
use Rattle.mz_lines.specs.declared.answer.Answer.{Answer}
use Rattle.mz_lines.specs.declared.answer.Answer.TheVariants as answers
use Rattle.mz_lines.specs.declared.command.Command.{Command}
use Rattle.mz_record.specs.Bytes.{Bytes, is_shown_as}
use Rattle.mz_nano.specs.declared.view.Held.{Held}
use Rattle.mz_lawful.specs.Names.{same_name}
use Rattle.mz_lawful.specs.Records.{call}
use Rattle.mz_lawful.specs.Standing.{Standing, caller_at, knowing}
use Rattle.mz_lawful.specs.Tasks.{Task, task_of}
use Rattle.mz_lawful.specs.Fitting.{IsAnswer, AreEntries, are_bytes_shown}
use Rattle.mz_lawful.specs.After.{changed, after_task}
use Rattle.mz_zone.specs.Blocks.{BlockView, block_of, with_block_bytes, IsAtSlotIf}
use Rattle.mz_zone.specs.Calling.{AtView}
use Rattle.mz_session.specs.declared.parcel.Parcel.{Parcel}
use Rattle.mz_session.specs.Names.{NamedBlocks, block_with}
use Rattle.mz_session.specs.Changes.{count_in, AreWith}
use Rattle.mz_session.specs.Sessions.{SessionView, IsOurs, AreNewNames, views_kept, IsKept, StandsFor, is_given}
use Rattle.mz_session.specs.Serving.{Serves, setting_of, record_of}
use Rattle.mz_session.proofs.CountLemmas.{some-is, or-left}
use Rattle.mz_session.proofs.NameLemmas.{block-kept, same-is-name, name-symm}
use Rattle.mz_session.proofs.KeepLemmas.{there-cases, kept-named, kept-coming, kept-cases, kept-counted, kept-apart, kept-given, new-names}
use Rattle.mz_session.proofs.ShownLemmas.{over-all}
use Rattle.mz_session.proofs.StandsLemmas.{stands-written}
use Rattle.mz_session.proofs.RecordLemmas.{fits-by, serves-quietly}

pub option-none : {A B : Type 0} (f : A → B) (o : Option A) → is_some o ≡ false → option_map f o ≡ None
option-none f None none = refl
option-none f (Some x) none = absurd (false≢true (sym none))

pub option-some : {A B : Type 0} (f : A → B) (o : Option A) → is_some o ≡ true → (y : B) × (option_map f o ≡ Some y)
option-some f None some = absurd (false≢true some)
option-some f (Some x) some = (f x, refl)

-- a session with these names, and all else as it is
abbrev pub with_blocks : SessionView → NamedBlocks → SessionView
with_blocks s bs = record { zone = s.zone; at = s.at; blocks = bs; parcels = s.parcels }

-- bytes that are as many as the block has are its bytes once they are written
pub written-bytes : (b : BlockView) (ws : List ℕ) → length ws ≡ length b.span.bytes → (with_block_bytes b ws).span.bytes ≡ ws
written-bytes b ws many = over-all ws b.span.bytes many

pub written-block : (b : BlockView) (ws : List ℕ) → length ws ≡ length b.span.bytes → block_of (with_block_bytes b ws) ≡ block_of b
written-block b ws many = ap (λ xs. block_at b.span.first (length xs)) (written-bytes b ws many) ∙ ap (λ n. block_at b.span.first n) many

-- the block is where it was
at-slot : (b : BlockView) (ws : List ℕ) → length ws ≡ length b.span.bytes → (slot : Option Held) → IsAtSlotIf b slot → IsAtSlotIf (with_block_bytes b ws) slot
at-slot b ws many None at = tt
at-slot b ws many (Some h) at = record {
  zone = at.zone;
  class_ = at.class_;
  slot = at.slot;
  first = at.first;
  size = ap length (written-bytes b ws many) ∙ many ∙ at.size;
}

ours-written : (v : AtView) (b : BlockView) (ws : List ℕ) → length ws ≡ length b.span.bytes → IsOurs v b → IsOurs v (with_block_bytes b ws)
ours-written v b ws many ours = record {
  zone = ours.zone;
  space = ours.space;
  slot = ours.slot;
  place = at-slot b ws many b.slot ours.place;
}

-- a name under which a block comes has none yet
coming-free : (bs : NamedBlocks) (gs : List Parcel) → AreNewNames bs gs → (g : Parcel) → Contains gs g → block_with bs (Given g.name) ≡ None
coming-free bs [] fresh g there = absurd (let low = there.1 in omega (arith, low))
coming-free bs (h ∷ hs) fresh g there = elim (there-cases h g hs there) [
  | inl is ↦ subst (λ x. block_with bs (Given x.name) ≡ None) is fresh.0
  | inr behind ↦ coming-free bs hs fresh.2 g behind
]

module _ (s : SessionView) (bs : NamedBlocks) (name : Name) (b : BlockView) (ws : List ℕ) (kept : IsKept s) (held : block_with s.blocks name ≡ Some b) (many : length ws ≡ length b.span.bytes) (with_it : AreWith s.blocks name (Some (with_block_bytes b ws)) bs) where
  abbrev t : SessionView
  t = with_blocks s bs

  abbrev c : BlockView
  c = with_block_bytes b ws

  our-own : (x : BlockView) → Contains (views_kept t []) x → IsOurs s.at x
  our-own x there = kept-cases t [] x (IsOurs s.at x) there
      (λ front. elim (with_it.members x front) [
        | inl is ↦ subst (IsOurs s.at) (some-is c x is) (ours-written s.at b ws many (kept.ours b (kept-named s [] b (block-kept s.blocks name b held))))
        | inr old ↦ kept.ours x (kept-named s [] x old)
      ])
      (λ way. kept.ours x (kept-coming s [] x way))
      (λ last. absurd (let low = last.1 in omega (arith, low)))

  free : (g : Parcel) → Contains s.parcels g → same_name name (Given g.name) ≡ true → Some c ≡ None
  free g there same =
      absurd (none-some b (sym (coming-free s.blocks s.parcels kept.new_names g there) ∙ ap (block_with s.blocks) (sym (same-is-name name (Given g.name) same)) ∙ held))

  kept-written : IsKept t
  kept-written = record {
    profile = kept.profile;
    zone = kept.zone;
    for_one = kept.for_one;
    caller = kept.caller;
    alone = kept.alone;
    zone_open = kept.zone_open;
    nothing_held = kept.nothing_held;
    seated = kept.seated;
    nano = kept.nano;
    one_seat = kept.one_seat;
    ours = our-own;
    in_hand = λ d.
        let hand_is = kept.in_hand d in
        let old = kept-counted s [] d in
        let new = kept-counted t [] d in
        let change = with_it.counted d in
        let found = ap (count_in d) held in
        let same = ap (λ x. one_for (same_block d x)) (written-block b ws many) in
        omega (arith, hand_is, old, new, change, found, same);
    once = kept.once;
    mine = kept.mine;
    new_names = new-names s.blocks bs name (Some c) with_it s.parcels free kept.new_names;
  }

  -- a name under which a block is held now was one under which one was held
  given-written : (w : List ℕ) → is_given t w ≡ true → is_given s w ≡ true
  given-written = kept-given s t name (Some c) with_it refl
      (λ w same some.
      or-left (is_some (block_with s.blocks (Given (record { base = w })))) (list_any (λ g. bytes_eq g.name.base w) s.parcels)
      (ap (λ n. is_some (block_with s.blocks n)) (sym (same-is-name name (Given (record { base = w })) same)) ∙ ap is_some held))

  -- a command that writes bytes of a block that has a name
  pub serves-written :
      (command : Command) (task : Standing → Task) (known : Standing → Bytes)
      → ((v : Standing) → StandsFor s v → task_of (setting_of s t v) (call 0 command) ≡ task v)
      → ((v : Standing) → IsAnswer (task v) [] answers.Done × (AreEntries (setting_of s t v) 0 (task v) [] × ((after_task 0 (task v) [] v ≡ changed 0 (knowing (block_of b) (known v)) v) × ((x : Answer) → IsTrue (are_bytes_shown (caller_at v 0) (task v) x)))))
      → ((v : Standing) → StandsFor s v → is_shown_as (known v) ws ≡ true)
      → Serves s command answers.Done t
  serves-written command task known is does shown =
      serves-quietly s t command answers.Done kept-written refl given-written
      (λ v stands.
      let d = does v in
      fits-by (setting_of s t v) (record_of command [] answers.Done) t (task v) (is v stands) d.0 d.1.0 (d.1.1.1 answers.Done) refl
      (subst (StandsFor t) (sym d.1.1.0)
      (stands-written s t v stands refl name b c (known v) held refl (written-block b ws many) with_it
      (λ w x other named. kept-apart s [] kept w name x b (name-symm w name ∙ other) named held)
      (subst (λ xs. is_shown_as (known v) xs ≡ true) (sym (written-bytes b ws many)) (shown v stands)))))
