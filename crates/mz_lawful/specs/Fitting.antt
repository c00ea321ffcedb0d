-- When a record fits: its answer, its entries, the bytes that it shows, and its tickets. This project's own.
use Rattle.std.specs.Prelude.{ℕ, ◌+◌, ◌≡◌, Bool, true, nat_le, ◌&&◌, List, [], ◌∷◌, length, map, Option, None, Some, IsTrue}
use Rattle.mz_base.specs.Space.{Block}
use Rattle.mz_events.specs.declared.entry.Entry.{Entry}
use Rattle.mz_events.specs.declared.event.Event.TheVariants.{Open}
use Rattle.mz_lines.specs.declared.answer.Answer.{Answer}
use Rattle.mz_lines.specs.declared.answer.Answer.TheVariants as answers
use Rattle.mz_record.specs.Served.{events, blocks_made, first_made, Serves, ServeInTurn}
use Rattle.mz_record.specs.Dropped.{IsDropped, DropInTurn, IsNotOfZone}
use Rattle.mz_record.specs.Resized.{Resize, IsReallocated, reallocated}
use Rattle.mz_record.specs.Zones.{destroying}
use Rattle.mz_record.specs.Bytes.{shows}
use Rattle.mz_lawful.specs.Records.{LineRecord, caller_of}
use Rattle.mz_lawful.specs.Standing.{Holding, Caller, caller_at, bytes_of}
use Rattle.mz_lawful.specs.Settings.{Setting, low, high, now}
use Rattle.mz_lawful.specs.Tasks.{Task, refused, serving, resizing, dropping, denying, telling, filling, showing, linking, giving, batching, unbatching, using, opening_zone, destroying_zone, task_of}

-- the answer that gives a block, or none
abbrev pub block_answer : Option Block → Answer
block_answer None = answers.Null
block_answer (Some b) = answers.Block b.first b.size

-- the answer shows so many bytes
pub record ShowsSome (count : ℕ) (answer : Answer) : Type 0 where
  pub shown : List ℕ
  pub many : length shown ≡ count
  pub bytes : answer ≡ answers.Bytes shown

-- The answer is that of the task, where these are its entries.
abbrev pub IsAnswer : Task → List Entry → Answer → Type 0
IsAnswer (refused a) es answer = answer ≡ a
IsAnswer (serving name q clear) es answer = answer ≡ block_answer (first_made es)
IsAnswer (resizing name h n) es answer = answer ≡ block_answer (reallocated h.block es)
IsAnswer (dropping h) es answer = answer ≡ answers.Done
IsAnswer (denying z b) es answer = answer ≡ answers.NotLive
IsAnswer (telling a) es answer = answer ≡ a
IsAnswer (filling b byte) es answer = answer ≡ answers.Done
IsAnswer (showing b off count) es answer = ShowsSome count answer
IsAnswer (linking b off a) es answer = answer ≡ answers.Done
IsAnswer (giving h to given) es answer = answer ≡ answers.Done
IsAnswer (batching base count q) es answer = answer ≡ answers.Got (length (blocks_made es))
IsAnswer (unbatching hs) es answer = answer ≡ answers.Freed (length hs)
IsAnswer (using zone) es answer = answer ≡ answers.Done
IsAnswer (opening_zone z name) es answer = answer ≡ answers.Done
IsAnswer (destroying_zone z) es answer = answer ≡ answers.Done

-- Caller c gives the held block n bytes, in the block's own zone: after all that has to come before the line, and before all that it does
-- from the line on.
abbrev pub resize_of : Setting → ℕ → Holding → ℕ → Resize
resize_of s c h n = record { caller = c; zone = h.zone; block = h.block; bytes = n; low = low s; high = high s c }

-- The entries are just those of the task, done by caller c.
abbrev pub AreEntries : Setting → ℕ → Task → List Entry → Type 0
AreEntries s c (refused a) es = es ≡ []
AreEntries s c (serving name q clear) es = Serves s.profile s.history q es (first_made es)
AreEntries s c (resizing name h n) es = IsReallocated s.profile s.history (resize_of s c h n) es (reallocated h.block es)
AreEntries s c (dropping h) es = IsDropped s.profile s.history h.block es
AreEntries s c (denying z b) es = IsNotOfZone z b es
AreEntries s c (telling a) es = es ≡ []
AreEntries s c (filling b byte) es = es ≡ []
AreEntries s c (showing b off count) es = es ≡ []
AreEntries s c (linking b off a) es = es ≡ []
AreEntries s c (giving h to given) es = es ≡ []
AreEntries s c (batching base count q) es = ServeInTurn s.profile s.history q count es
AreEntries s c (unbatching hs) es = DropInTurn s.profile s.history (map (λ h. h.block) hs) es
AreEntries s c (using zone) es = es ≡ []
AreEntries s c (opening_zone z name) es = events es ≡ Open z ∷ []
AreEntries s c (destroying_zone z) es = events es ≡ destroying (now s) z

-- Each byte that the caller knows is shown as it is; an unknown one may be shown as any. Other tasks show none.
abbrev pub are_bytes_shown : Caller → Task → Answer → Bool
are_bytes_shown me (showing b off count) (answers.Bytes shown) = shows (bytes_of me b) off shown
are_bytes_shown me _ _ = true

-- the tickets rise, from this number on
abbrev pub is_rising_from : ℕ → List Entry → Bool
is_rising_from n [] = true
is_rising_from n (e ∷ es) = nat_le n e.ticket && is_rising_from (e.ticket + 1) es

-- A record fits.
pub record FitsRecord (s : Setting) (d : LineRecord) : Type 0 where
  -- its answer is that of the first test that refuses the line, or else that of what the entries did
  pub answer : IsAnswer (task_of s d.line) d.entries d.answer
  -- its entries are just those of the line
  pub entries : AreEntries s (caller_of d.line) (task_of s d.line) d.entries
  -- the bytes that it shows are those that were written
  pub bytes : IsTrue (are_bytes_shown (caller_at s.standing (caller_of d.line)) (task_of s d.line) d.answer)
  -- its tickets rise, and are above all that come before the line
  pub in_turn : IsTrue (is_rising_from (low s) d.entries)
