-- The record of a command that was served fits.
use Rattle.std.proofs.Common.{◌≡◌, ℕ, true, false, Bool, List, [], ◌∷◌, ◌++◌, length, Option, Some, None, Ok, Err, refl, ap, sym, subst, ◌∙◌}
use Rattle.std.specs.Prelude.{◌||◌, find, is_some, IsTrue, cond}
use Rattle.std.specs.Option.{option_map}
use Rattle.std.specs.Str.{bytes_eq}
use Rattle.std.specs.List.{AllByRecursion, list_any}
use Rattle.std.proofs.lemmas.Bool.{cond-true, cond-false, false≢true}
use Rattle.std.proofs.lemmas.List.{append-nil}
use Rattle.mz_base.specs.Space.{Block}
use Rattle.mz_events.specs.declared.entry.Entry.{Entry}
use Rattle.mz_words.specs.declared.name.Name.{Name}
use Rattle.mz_words.specs.declared.name.Name.TheVariants.{Base, Batch, Given}
use Rattle.mz_lines.specs.declared.answer.Answer.{Answer}
use Rattle.mz_lines.specs.declared.answer.Answer.TheVariants as answers
use Rattle.mz_lines.specs.declared.command.Command.{Command}
use Rattle.mz_lines.specs.Lines.{command_gives}
use Rattle.mz_record.specs.Dropped.{IsDropped}
use Rattle.mz_record.specs.Served.{first_made, Serves as ServesRequest}
use Rattle.mz_lawful.specs.Records.{LineRecord, caller_of, call}
use Rattle.mz_lawful.specs.Standing.{Holding, Caller, Standing, default_zone, caller_at, zone_number, is_held}
use Rattle.mz_lawful.specs.Settings.{Setting, low, above}
use Rattle.mz_lawful.specs.Tasks.{Task, refused, serving, dropping, drop_from, in_zone, with_new, with_held, request_of, task_of}
use Rattle.mz_lawful.specs.Fitting.{IsAnswer, AreEntries, are_bytes_shown, is_rising_from, block_answer, FitsRecord}
use Rattle.mz_lawful.specs.After.{after_task, after_record, changed, with_served}
use Rattle.mz_rack.specs.declared.lot.Null.{Null}
use Rattle.mz_zone.specs.Blocks.{BlockView, block_of}
use Rattle.mz_zone.specs.Answering.{IsCleared}
use Rattle.mz_session.specs.Names.{BeginsAt, block_with, holding_of}
use Rattle.mz_session.specs.Changes.{AreWith}
use Rattle.mz_session.specs.Sessions.{SessionView, IsKept, StandsFor, is_given}
use Rattle.mz_session.specs.SessionLaws.{SessionLaws}
use Rattle.mz_session.specs.Serving.{Notes, Makes, Ends, Rests, Holds, Takes, Serves, setting_of, record_of}
use Rattle.mz_session.proofs.CountLemmas.{or-left, or-right}
use Rattle.mz_session.proofs.HeldLemmas.{held-nowhere, held-there}
use Rattle.mz_session.proofs.StandsLemmas.{stands-same, stands-unserved, stands-made, stands-dropped}

-- A record fits, and the session stands for what it leaves.
pub record Fits (set : Setting) (d : LineRecord) (t : SessionView) : Type 0 where
  pub fits : FitsRecord set d
  pub stands : StandsFor t (after_record set d)

-- and so it is where the task is known to be that of the line
pub fits-by :
    (set : Setting) (d : LineRecord) (t : SessionView) (task : Task) → task_of set d.line ≡ task → IsAnswer task d.entries d.answer
    → AreEntries set (caller_of d.line) task d.entries → IsTrue (are_bytes_shown (caller_at set.standing (caller_of d.line)) task d.answer)
    → IsTrue (is_rising_from (low set) d.entries) → StandsFor t (after_task (caller_of d.line) task d.entries set.standing) → Fits set d t
fits-by set d t task is answer entries bytes in_turn stands = record {
  fits = record {
    answer = subst (λ (x : Task). IsAnswer x d.entries d.answer) (sym is) answer;
    entries = subst (λ (x : Task). AreEntries set (caller_of d.line) x d.entries) (sym is) entries;
    bytes = subst (λ (x : Task). IsTrue (are_bytes_shown (caller_at set.standing (caller_of d.line)) x d.answer)) (sym is) bytes;
    in_turn = in_turn;
  };
  stands = subst (λ (x : Task). StandsFor t (after_task (caller_of d.line) x d.entries set.standing)) (sym is) stands;
}

-- which names were given

-- a name of this kind isn't one under which a block was given
abbrev pub IsOwn : Name → Type 0
IsOwn (Base word) = Unit {0}
IsOwn (Batch b) = Unit {0}
IsOwn (Given g) = ⊥

-- the names under which blocks were given are some of those of before
abbrev pub GivesNone : SessionView → SessionView → Type 0
GivesNone s t = (name : List ℕ) → is_given t name ≡ true → is_given s name ≡ true

or-moves : (a b c : Bool) → (a ≡ true → b ≡ true) → (a || c) ≡ true → (b || c) ≡ true
or-moves true b c moves both = or-left b c (moves refl)
or-moves false b c moves both = or-right b c both

pub given-still :
    (s t : SessionView) → t.parcels ≡ s.parcels
    → ((g : List ℕ) → is_some (block_with t.blocks (Given (record { base = g }))) ≡ true → is_some (block_with s.blocks (Given (record { base = g }))) ≡ true)
    → GivesNone s t
given-still s t coming moves g given =
    or-moves (is_some (block_with t.blocks (Given (record { base = g })))) (is_some (block_with s.blocks (Given (record { base = g })))) (list_any (λ x. bytes_eq x.name.base g) s.parcels) (moves g)
    (ap (λ ps. is_some (block_with t.blocks (Given (record { base = g }))) || list_any (λ x. bytes_eq x.name.base g) ps) (sym coming) ∙ given)

-- none where all names have the blocks of before
pub given-same : (s t : SessionView) → t.parcels ≡ s.parcels → ((w : Name) → block_with t.blocks w ≡ block_with s.blocks w) → GivesNone s t
given-same s t coming same = given-still s t coming (λ g given. ap is_some (sym (same (Given (record { base = g })))) ∙ given)

-- where a name lost its block
pub given-less : (s t : SessionView) (name : Name) → t.parcels ≡ s.parcels → AreWith s.blocks name None t.blocks → GivesNone s t
given-less s t name coming with_it =
    given-still s t coming (λ g given. less-case _ (block_with s.blocks (Given (record { base = g }))) (ap is_some (sym (with_it.named (Given (record { base = g })))) ∙ given))
  where
    less-case : (d : Bool) (o : Option BlockView) → is_some (cond d None o) ≡ true → is_some o ≡ true
    less-case true o given = absurd (false≢true given)
    less-case false o given = given

-- and where a name that isn't of that kind got one
pub given-other : (s t : SessionView) (name : Name) (got : Option BlockView) → IsOwn name → t.parcels ≡ s.parcels → AreWith s.blocks name got t.blocks → GivesNone s t
given-other s t (Base word) got own coming with_it = given-still s t coming (λ g given. ap is_some (sym (with_it.named (Given (record { base = g })))) ∙ given)
given-other s t (Batch b) got own coming with_it = given-still s t coming (λ g given. ap is_some (sym (with_it.named (Given (record { base = g })))) ∙ given)
given-other s t (Given g) got own coming with_it = absurd own

-- served commands

pub serves-by :
    (s t : SessionView) (command : Command) (answer : Answer) (es : List Entry) → IsKept t → t.at.book.profile ≡ s.at.book.profile → t.at.book.seen ≡ s.at.book.seen ++ es
    → AllByRecursion (λ e. e.caller ≡ 0) es → GivesNone s t
    → ((v : Standing) → StandsFor s v → Fits (setting_of s t v) (record_of command es answer) t) → Serves s command answer t
serves-by s t command answer es kept profile seen mine given fits = record {
  entries = es;
  kept = kept;
  profile = profile;
  seen = seen;
  mine = mine;
  fits = λ v stands. (fits v stands).fits;
  stands = λ v stands. (fits v stands).stands;
  given = λ name is. or-left (is_given s name) (command_gives name command) (given name is);
}

-- a command whose entries were noted before the names changed
pub serves-noted :
    (s u t : SessionView) (command : Command) (answer : Answer) (mine : List Entry) → Notes s mine u → t.at ≡ u.at → IsKept t → GivesNone s t
    → ((v : Standing) → StandsFor s v → Fits (setting_of s t v) (record_of command mine answer) t) → Serves s command answer t
serves-noted s u t command answer mine notes at kept given fits =
    serves-by s t command answer mine kept (ap (λ x. x.book.profile) at ∙ notes.profile) (ap (λ x. x.book.seen) at ∙ notes.seen) notes.mine given fits

-- one with no entry
pub serves-quietly :
    (s t : SessionView) (command : Command) (answer : Answer) → IsKept t → t.at.book ≡ s.at.book → GivesNone s t
    → ((v : Standing) → StandsFor s v → Fits (setting_of s t v) (record_of command [] answer) t) → Serves s command answer t
serves-quietly s t command answer kept same given fits =
    serves-by s t command answer [] kept (ap (λ b. b.profile) same) (ap (λ b. b.seen) same ∙ sym (append-nil s.at.book.seen)) tt given fits

-- one that is refused, where all names have the blocks of before
pub refused-after :
    (s u t : SessionView) (command : Command) (answer : Answer) → Notes s [] u → t.at ≡ u.at → t.parcels ≡ s.parcels → ((w : Name) → block_with t.blocks w ≡ block_with s.blocks w) → IsKept t
    → ((v : Standing) → StandsFor s v → task_of (setting_of s t v) (call 0 command) ≡ refused answer) → Serves s command answer t
refused-after s u t command answer notes at coming same kept task =
    serves-noted s u t command answer [] notes at kept (given-same s t coming same)
    (λ v stands. fits-by (setting_of s t v) (record_of command [] answer) t (refused answer) (task v stands) refl refl refl refl (stands-same s t v stands coming same))

-- where nothing else was done
pub serves-rests :
    (s t : SessionView) (command : Command) (answer : Answer) → Rests s [] t
    → ((v : Standing) → StandsFor s v → task_of (setting_of s t v) (call 0 command) ≡ refused answer) → Serves s command answer t
serves-rests s t command answer rests task =
    refused-after s t t command answer rests.notes refl rests.notes.parcels (λ w. ap (λ bs. block_with bs w) rests.notes.blocks) rests.keeps task

pub serves-refused :
    (s : SessionView) (command : Command) (answer : Answer) → IsKept s → ((v : Standing) → StandsFor s v → task_of (setting_of s s v) (call 0 command) ≡ refused answer)
    → Serves s command answer s
serves-refused s command answer kept task =
    serves-quietly s s command answer kept refl (λ name is. is)
    (λ v stands. fits-by (setting_of s s v) (record_of command [] answer) s (refused answer) (task v stands) refl refl refl refl stands)

-- a request was served, and the block that came has the name
pub serves-made :
    (L : SessionLaws) (s u t : SessionView) (command : Command) (name : Name) (n al clear : ℕ) (b : BlockView) → Makes s n al (Ok b) u → Holds u name b t
    → block_with s.blocks name ≡ None → IsCleared clear b → IsOwn name
    → ((v : Standing) → StandsFor s v → task_of (setting_of s t v) (call 0 command) ≡ serving name (request_of 0 0 n al) clear)
    → Serves s command (answers.Block b.span.first (length b.span.bytes)) t
serves-made L s u t command name n al clear b makes holds free shown own task =
    let mine = makes.mine in
    let at = holds.renames.at in
    let coming = holds.renames.parcels ∙ makes.notes.parcels in
    let answer = answers.Block b.span.first (length b.span.bytes) in
    let q = request_of 0 0 n al in
    let made : Some (block_of b) ≡ first_made mine = L.made s.at.book.profile u.at.book.seen q mine (Some (block_of b)) makes.serves.served in
    let request : ServesRequest s.at.book.profile t.at.book.seen q mine (first_made mine) =
    subst (λ o. ServesRequest s.at.book.profile t.at.book.seen q mine o) made
    (subst (λ x. ServesRequest s.at.book.profile x.book.seen q mine (Some (block_of b))) (sym at) makes.serves)
    in
    serves-noted s u t command answer mine makes.notes at holds.kept
    (given-other s t name (Some b) own coming (subst (λ bs. AreWith bs name (Some b) t.blocks) makes.notes.blocks holds.blocks))
    (λ v stands.
    fits-by (setting_of s t v) (record_of command mine answer) t (serving name q clear) (task v stands) (ap block_answer made) request refl makes.notes.rising
    (subst (λ o. StandsFor t (changed 0 (with_served name 0 clear o) v)) made (stands-made s u t v name n al clear b makes holds free shown stands)))

-- none came
pub serves-null :
    (L : SessionLaws) (s t : SessionView) (command : Command) (name : Name) (n al clear : ℕ) (e : Null) → Makes s n al (Err e) t
    → ((v : Standing) → StandsFor s v → task_of (setting_of s t v) (call 0 command) ≡ serving name (request_of 0 0 n al) clear)
    → Serves s command answers.Null t
serves-null L s t command name n al clear e makes task =
    let mine = makes.mine in
    let coming = makes.notes.parcels in
    let q = request_of 0 0 n al in
    let same : (w : Name) → block_with t.blocks w ≡ block_with s.blocks w = λ w. ap (λ bs. block_with bs w) makes.notes.blocks in
    let made : None ≡ first_made mine = L.made s.at.book.profile t.at.book.seen q mine None makes.serves.served in
    let request : ServesRequest s.at.book.profile t.at.book.seen q mine (first_made mine) =
    subst (λ o. ServesRequest s.at.book.profile t.at.book.seen q mine o) made makes.serves in
    serves-noted s t t command answers.Null mine makes.notes refl makes.keeps (given-same s t coming same)
    (λ v stands.
    fits-by (setting_of s t v) (record_of command mine answers.Null) t (serving name q clear) (task v stands) (ap block_answer made) request refl makes.notes.rising
    (subst (λ o. StandsFor t (changed 0 (with_served name 0 clear o) v)) made (stands-unserved s t v stands coming name 0 clear same)))

-- a block ended, and its name with it
pub serves-dropped :
    (s u t : SessionView) (command : Command) (name : Name) (b : BlockView) → IsKept s → Takes s name (Some b) u → Ends u b t
    → ((v : Standing) → StandsFor s v → task_of (setting_of s t v) (call 0 command) ≡ dropping (holding_of name b))
    → Serves s command answers.Done t
serves-dropped s u t command name b kept takes ends task =
    let at = takes.1.at in
    let mine = ends.mine in
    let notes = ends.notes in
    let coming = notes.parcels ∙ takes.1.parcels in
    let with_it : AreWith s.blocks name None t.blocks = subst (AreWith s.blocks name None) (sym notes.blocks) takes.2 in
    serves-by s t command answers.Done mine ends.kept (notes.profile ∙ ap (λ x. x.book.profile) at) (notes.seen ∙ ap (λ x. x.book.seen ++ mine) at) notes.mine
    (given-less s t name coming with_it)
    (λ v stands.
    fits-by (setting_of s t v) (record_of command mine answers.Done) t (dropping (holding_of name b)) (task v stands) refl
    (subst (λ x. IsDropped x.book.profile t.at.book.seen (block_of b) mine) at ends.dropped) refl
    (subst (λ x. is_rising_from (above x.book.seen) mine ≡ true) at notes.rising)
    (stands-dropped s u t v name b kept takes ends stands))

-- what the lines of a session are to do
module _ (s : SessionView) (set : Setting) (stands : StandsFor s set.standing) where
  abbrev me : Caller
  me = caller_at set.standing 0

  mapped-is : (name : Name) (o : Option BlockView) → is_some (option_map (holding_of name) o) ≡ is_some o
  mapped-is name None = refl
  mapped-is name (Some b) = refl

  default-is-open : zone_number set.standing me.zone ≡ Some 0
  default-is-open =
      ap (λ (zs : List (ℕ × List ℕ)). option_map (λ (x : ℕ × List ℕ). x.0) (find (λ (x : ℕ × List ℕ). bytes_eq x.1 me.zone) zs)) stands.zones
      ∙ ap (λ (z : List ℕ). option_map (λ (x : ℕ × List ℕ). x.0) (find (λ (x : ℕ × List ℕ). bytes_eq x.1 z) ((0, default_zone) ∷ []))) stands.zone

  -- what is to be done in the caller's zone is done in zone 0
  pub in-default : (task : ℕ → Task) → in_zone set.standing me.zone task ≡ task 0
  in-default task = ap (λ (o : Option ℕ). elim o [ None ↦ refused answers.NoZone | Some z ↦ task z ]) default-is-open

  -- a name that is held isn't given again
  pub new-held : (name : Name) (task : ℕ → Task) → is_some (block_with s.blocks name) ≡ true → with_new set.standing me name task ≡ refused answers.Held
  new-held name task some =
      cond-true (is_held me name) (refused answers.Held) (in_zone set.standing me.zone task) (ap is_some (stands.held name) ∙ mapped-is name (block_with s.blocks name) ∙ some)

  -- with one that isn't this is done
  pub new-free : (name : Name) (task : ℕ → Task) → block_with s.blocks name ≡ None → with_new set.standing me name task ≡ task 0
  new-free name task free =
      cond-false (is_held me name) (refused answers.Held) (in_zone set.standing me.zone task) (ap is_some (stands.held name) ∙ ap is_some (ap (option_map (holding_of name)) free))
      ∙ in-default task

  -- nothing is done with the block of a name that isn't held
  pub with-none : (name : Name) (task : Holding → Task) → block_with s.blocks name ≡ None → with_held me name task ≡ refused answers.NotHeld
  with-none name task none = ap (λ (o : Option Holding). elim o [ None ↦ refused answers.NotHeld | Some h ↦ task h ]) (stands.held name ∙ ap (option_map (holding_of name)) none)

  -- and this is done with that of one that is
  pub with-some : (name : Name) (task : Holding → Task) (b : BlockView) → block_with s.blocks name ≡ Some b → with_held me name task ≡ task (holding_of name b)
  with-some name task b some = ap (λ (o : Option Holding). elim o [ None ↦ refused answers.NotHeld | Some h ↦ task h ]) (stands.held name ∙ ap (option_map (holding_of name)) some)

  -- nothing ends at an address where no block of a name begins
  pub from-nowhere : (a : ℕ) → ((w : Name) (c : BlockView) → block_with s.blocks w ≡ Some c → c.span.first ≡ a → ⊥) → drop_from me a ≡ refused answers.NotHeld
  from-nowhere a none =
      ap (λ (o : Option Holding). elim o [ None ↦ refused answers.NotHeld | Some h ↦ dropping h ]) (held-nowhere s.blocks me stands.held stands.held_once a none)

  -- and where one does that one is to end
  pub from-there : (a : ℕ) (name : Name) (begins : BeginsAt s.blocks a name) → drop_from me a ≡ dropping (holding_of name begins.block)
  from-there a name begins =
      ap (λ (o : Option Holding). elim o [ None ↦ refused answers.NotHeld | Some h ↦ dropping h ]) (held-there s.blocks me stands.held stands.held_once a name begins)
