-- What the commands that make and end blocks are to do, and which names are free for blocks.
use Rattle.std.proofs.Common.{◌≡◌, ℕ, ◌*◌, ◌+◌, ◌<◌, ◌≤◌, true, false, cond, not, List, [], ◌∷◌, ◌++◌, Option, Some, None, Ok, Err, refl, ap, sym, subst, ◌∙◌, inl, inr}
use Rattle.std.specs.Prelude.{◌^◌, nat_le, max, Contains, Result, IfOk, OnOk}
use Rattle.std.proofs.lemmas.Bool.{cond-true, cond-false, lt-leb, le-leb}
use Rattle.std.proofs.lemmas.Option.{none-some}
use Rattle.mz_base.specs.Space.{Block}
use Rattle.mz_words.specs.declared.name.Name.{Name}
use Rattle.mz_words.specs.declared.name.Name.TheVariants.{Base, Given}
use Rattle.mz_lines.specs.declared.answer.Answer.{Answer}
use Rattle.mz_lines.specs.declared.answer.Answer.TheVariants as answers
use Rattle.mz_lines.specs.declared.command.Command.{Command}
use Rattle.mz_lines.specs.declared.command.Command.TheVariants.{Calloc, Memalign, FreeAt, SizedFree}
use Rattle.mz_lawful.specs.Records.{call}
use Rattle.mz_lawful.specs.Standing.{Holding, Standing, caller_at}
use Rattle.mz_lawful.specs.Settings.{Setting}
use Rattle.mz_lawful.specs.Tasks.{refused, serving, dropping, refuse_if, drop_from, is_alignment, is_wrong_size, request_of, task_of}
use Rattle.mz_zone.specs.Blocks.{BlockView, block_of}
use Rattle.mz_session.specs.declared.parcel.Parcel.{Parcel}
use Rattle.mz_session.specs.Names.{NamedBlocks, BeginsAt, block_with, holding_of}
use Rattle.mz_session.specs.Sessions.{SessionView, AreNewNames, IsKept, StandsFor}
use Rattle.mz_session.specs.Changes.{AreWith}
use Rattle.mz_session.specs.Serving.{Rests, Holds, Takes, IsFree, Serves, setting_of, record_of}
use Rattle.mz_session.proofs.NameLemmas.{name-self}
use Rattle.mz_session.proofs.HeldLemmas.{contains-first, contains-nothing, put-back}
use Rattle.mz_session.proofs.StandsLemmas.{stands-same}
use Rattle.mz_session.proofs.RecordLemmas.{IsOwn, fits-by, serves-by, given-same, new-free, with-none, with-some, from-nowhere, from-there}

-- names that are free

pub free-own : (s t : SessionView) (name : Name) → IsOwn name → t.blocks ≡ s.blocks → block_with s.blocks name ≡ None → IsFree t name
free-own s t name own same none = record { unnamed = ap (λ bs. block_with bs name) same ∙ none; not_coming = λ g there is. subst IsOwn is own }

coming-unnamed : (bs : NamedBlocks) (gs : List Parcel) (g : Parcel) → AreNewNames bs gs → Contains gs g → block_with bs (Given g.name) ≡ None
coming-unnamed bs [] g new there = absurd (contains-nothing g there)
coming-unnamed bs (x ∷ xs) g new there = elim (contains-first x xs g there) [
  | inl is ↦ ap (λ (y : Parcel). block_with bs (Given y.name)) (sym is) ∙ new.0
  | inr later ↦ coming-unnamed bs xs g new.2 later
]

-- the name of a block that was taken is free for it again
pub free-again : (s u t : SessionView) (name : Name) (b : BlockView) → IsKept s → Takes s name (Some b) u → t.blocks ≡ u.blocks → t.parcels ≡ u.parcels → IsFree t name
free-again s u t name b kept takes same coming = record {
  unnamed = ap (λ bs. block_with bs name) same ∙ takes.2.named name ∙ ap (λ d. cond d None (block_with s.blocks name)) (name-self name);
  not_coming = λ g there is.
      none-some b
      (sym (coming-unnamed s.blocks s.parcels g kept.new_names (subst (λ gs. Contains gs g) (coming ∙ takes.1.parcels) there)) ∙ ap (block_with s.blocks) (sym is) ∙ takes.0);
}

-- a block that was taken has its name again
pub serves-put-back :
    (s u w t : SessionView) (command : Command) (answer : Answer) (name : Name) (b : BlockView) → Takes s name (Some b) u → Rests u (b ∷ []) w → Holds w name b t
    → ((v : Standing) → StandsFor s v → task_of (setting_of s t v) (call 0 command) ≡ refused answer) → Serves s command answer t
serves-put-back s u w t command answer name b takes rests holds task =
    let notes = rests.notes in
    let coming = holds.renames.parcels ∙ notes.parcels ∙ takes.1.parcels in
    let same : (n : Name) → block_with t.blocks n ≡ block_with s.blocks n =
    put-back s.blocks u.blocks t.blocks name b takes.0 takes.2 (subst (λ bs. AreWith bs name (Some b) t.blocks) notes.blocks holds.blocks) in
    serves-by s t command answer [] holds.kept (ap (λ x. x.book.profile) holds.renames.at ∙ notes.profile ∙ ap (λ x. x.book.profile) takes.1.at)
    (ap (λ x. x.book.seen) holds.renames.at ∙ notes.seen ∙ ap (λ x. x.book.seen ++ []) takes.1.at) tt (given-same s t coming same)
    (λ v stands. fits-by (setting_of s t v) (record_of command [] answer) t (refused answer) (task v stands) refl refl refl refl (stands-same s t v stands coming same))

-- what is answered where a name was given to a block
pub answered : {E : Type 0} (r : Result Answer E) (a : Answer) (P : Type 0) (Q : Answer → Type 0) → IfOk r (λ x. x ≡ a) → OnOk r P → (P → Q a) → IfOk r Q
answered (Ok x) a P Q is done to = subst Q (sym is) (to done)
answered (Err e) a P Q is done to = tt

-- what is to be done

module _ (s : SessionView) (set : Setting) (stands : StandsFor s set.standing) where
  pub calloc-free : (word : List ℕ) (n m : ℕ) → block_with s.blocks (Base word) ≡ None → n * m < 2 ^ 64 → task_of set (call 0 (Calloc word n m)) ≡ serving (Base word) (request_of 0 0 (n * m) 16) (n * m)
  calloc-free word n m free few =
      new-free s set stands (Base word) (λ z. refuse_if (nat_le (2 ^ 64) (n * m)) answers.Overflow (serving (Base word) (request_of 0 z (n * m) 16) (n * m))) free
      ∙ cond-false (nat_le (2 ^ 64) (n * m)) (refused answers.Overflow) (serving (Base word) (request_of 0 0 (n * m) 16) (n * m)) (lt-leb (2 ^ 64) (n * m) few)

  pub calloc-many : (word : List ℕ) (n m : ℕ) → block_with s.blocks (Base word) ≡ None → 2 ^ 64 ≤ n * m → task_of set (call 0 (Calloc word n m)) ≡ refused answers.Overflow
  calloc-many word n m free many =
      new-free s set stands (Base word) (λ z. refuse_if (nat_le (2 ^ 64) (n * m)) answers.Overflow (serving (Base word) (request_of 0 z (n * m) 16) (n * m))) free
      ∙ cond-true (nat_le (2 ^ 64) (n * m)) (refused answers.Overflow) (serving (Base word) (request_of 0 0 (n * m) 16) (n * m)) (le-leb (2 ^ 64) (n * m) many)

  pub memalign-free : (word : List ℕ) (al n : ℕ) → block_with s.blocks (Base word) ≡ None → is_alignment al ≡ true → task_of set (call 0 (Memalign word al n)) ≡ serving (Base word) (request_of 0 0 n (max al 16)) 0
  memalign-free word al n free good =
      new-free s set stands (Base word) (λ z. refuse_if (not (is_alignment al)) answers.BadAlign (serving (Base word) (request_of 0 z n (max al 16)) 0)) free
      ∙ cond-false (not (is_alignment al)) (refused answers.BadAlign) (serving (Base word) (request_of 0 0 n (max al 16)) 0) (ap not good)

  pub memalign-bad : (word : List ℕ) (al n : ℕ) → block_with s.blocks (Base word) ≡ None → is_alignment al ≡ false → task_of set (call 0 (Memalign word al n)) ≡ refused answers.BadAlign
  memalign-bad word al n free bad =
      new-free s set stands (Base word) (λ z. refuse_if (not (is_alignment al)) answers.BadAlign (serving (Base word) (request_of 0 z n (max al 16)) 0)) free
      ∙ cond-true (not (is_alignment al)) (refused answers.BadAlign) (serving (Base word) (request_of 0 0 n (max al 16)) 0) (ap not bad)

  pub sized-right : (name : Name) (n : ℕ) (b : BlockView) → block_with s.blocks name ≡ Some b → is_wrong_size (block_of b) n ≡ false → task_of set (call 0 (SizedFree name n)) ≡ dropping (holding_of name b)
  sized-right name n b held right =
      with-some s set stands name (λ (h : Holding). refuse_if (is_wrong_size h.block n) (answers.WrongSize h.block.size) (dropping h)) b held
      ∙ cond-false (is_wrong_size (block_of b) n) (refused (answers.WrongSize (block_of b).size)) (dropping (holding_of name b)) right

  pub sized-wrong : (name : Name) (n : ℕ) (b : BlockView) → block_with s.blocks name ≡ Some b → is_wrong_size (block_of b) n ≡ true → task_of set (call 0 (SizedFree name n)) ≡ refused (answers.WrongSize (block_of b).size)
  sized-wrong name n b held wrong =
      with-some s set stands name (λ (h : Holding). refuse_if (is_wrong_size h.block n) (answers.WrongSize h.block.size) (dropping h)) b held
      ∙ cond-true (is_wrong_size (block_of b) n) (refused (answers.WrongSize (block_of b).size)) (dropping (holding_of name b)) wrong

  nowhere-case :
      (name : Name) (off : ℕ) (o : Option BlockView) → block_with s.blocks name ≡ o
      → ((b : BlockView) → o ≡ Some b → (w : Name) (c : BlockView) → block_with s.blocks w ≡ Some c → c.span.first ≡ b.span.first + off → ⊥)
      → task_of set (call 0 (FreeAt name off)) ≡ refused answers.NotHeld
  nowhere-case name off None is none = with-none s set stands name (λ (h : Holding). drop_from (caller_at set.standing 0) (h.block.first + off)) is
  nowhere-case name off (Some b) is none =
      with-some s set stands name (λ (h : Holding). drop_from (caller_at set.standing 0) (h.block.first + off)) b is
      ∙ from-nowhere s set stands (b.span.first + off) (none b refl)

  pub at-nowhere :
      (name : Name) (off : ℕ)
      → ((b : BlockView) → block_with s.blocks name ≡ Some b → (w : Name) (c : BlockView) → block_with s.blocks w ≡ Some c → c.span.first ≡ b.span.first + off → ⊥)
      → task_of set (call 0 (FreeAt name off)) ≡ refused answers.NotHeld
  at-nowhere name off none = nowhere-case name off (block_with s.blocks name) refl none

  pub at-there :
      (name there : Name) (off : ℕ) (b : BlockView) → block_with s.blocks name ≡ Some b → (begins : BeginsAt s.blocks (b.span.first + off) there)
      → task_of set (call 0 (FreeAt name off)) ≡ dropping (holding_of there begins.block)
  at-there name there off b held begins =
      with-some s set stands name (λ (h : Holding). drop_from (caller_at set.standing 0) (h.block.first + off)) b held
      ∙ from-there s set stands (b.span.first + off) there begins
