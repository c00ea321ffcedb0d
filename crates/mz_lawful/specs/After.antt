-- What stands after a record: the fold over a run. This project's own.
use Rattle.std.specs.Prelude.{ℕ, ◌+◌, ◌==◌, not, List, [], ◌∷◌, ◌++◌, filter, fold, Option, None, Some, if◌then◌else◌}
use Rattle.mz_base.specs.Space.{Block}
use Rattle.mz_events.specs.declared.entry.Entry.{Entry}
use Rattle.mz_words.specs.declared.name.Name.{Name}
use Rattle.mz_record.specs.Bytes.{Bytes, fresh, cleared, filled, linked, kept_in_place, kept_in_move}
use Rattle.mz_record.specs.Served.{blocks_made, first_made}
use Rattle.mz_record.specs.Resized.{reallocated}
use Rattle.mz_lawful.specs.Names.{batch_name}
use Rattle.mz_lawful.specs.Records.{LineRecord, caller_of}
use Rattle.mz_lawful.specs.Standing.{Holding, Caller, Standing, caller_at, with_caller, bytes_of, with_gift, holding, without_name, forgetting, knowing}
use Rattle.mz_lawful.specs.Settings.{Setting}
use Rattle.mz_lawful.specs.Tasks.{Task, refused, serving, resizing, dropping, denying, telling, filling, showing, linking, giving, batching, unbatching, using, opening_zone, destroying_zone, task_of}

-- a caller that was served a block in a zone, if it was: the block has the name, and its first bytes are 0
abbrev pub with_served : Name → ℕ → ℕ → Option Block → Caller → Caller
with_served name z clear None me = me
with_served name z clear (Some b) me = knowing b (cleared clear (fresh b.size)) (holding (record { name = name; block = b; zone = z }) me)

-- the bytes of an old block that has become the new one of a request for n bytes: where it is, or elsewhere
abbrev pub bytes_kept : ℕ → Block → Block → Bytes → Bytes
bytes_kept n old new bs = if old.first == new.first then kept_in_place new.size bs else kept_in_move n new.size bs

-- a caller whose held block has become another, if it has: the name has it, in the same zone
abbrev pub with_resized : Name → Holding → ℕ → Option Block → Caller → Caller
with_resized name h n None me = me
with_resized name h n (Some b) me =
    knowing b (bytes_kept n h.block b (bytes_of me h.block)) (forgetting h.block (holding (record { name = name; block = b; zone = h.zone }) (without_name h.name me)))

-- a caller that was served blocks of a batch in a zone, from number i on
abbrev pub with_batch : List ℕ → ℕ → ℕ → List Block → Caller → Caller
with_batch base z i [] me = me
with_batch base z i (b ∷ bs) me = with_batch base z (i + 1) bs (with_served (batch_name base i) z 0 (Some b) me)

-- a caller whose held block has gone, with its name
abbrev pub without_block : Holding → Caller → Caller
without_block h me = forgetting h.block (without_name h.name me)

-- a caller whose held blocks have gone, one after another
abbrev pub without_blocks : List Holding → Caller → Caller
without_blocks hs me = fold (λ x h. without_block h x) me hs

-- what stands when this has changed caller c
abbrev pub changed : ℕ → (Caller → Caller) → Standing → Standing
changed c change v = with_caller c (change (caller_at v c)) v

-- what stands after a task by caller c, where these are its entries
abbrev pub after_task : ℕ → Task → List Entry → Standing → Standing
after_task c (refused a) es v = v
after_task c (serving name q clear) es v = changed c (with_served name q.zone clear (first_made es)) v
after_task c (resizing name h n) es v = changed c (with_resized name h n (reallocated h.block es)) v
after_task c (dropping h) es v = changed c (without_block h) v
after_task c (denying z b) es v = v
after_task c (telling a) es v = v
after_task c (filling b byte) es v = changed c (knowing b (filled b.size byte)) v
after_task c (showing b off count) es v = v
after_task c (linking b off a) es v = changed c (λ me. knowing b (linked off a (bytes_of me b)) me) v
after_task c (giving h to given) es v =
    with_gift (record { to = to; holding = record h { name = given }; bytes = bytes_of (caller_at v c) h.block }) (changed c (without_block h) v)
after_task c (batching base count q) es v = changed c (with_batch base q.zone 0 (blocks_made es)) v
after_task c (unbatching hs) es v = changed c (without_blocks hs) v
after_task c (using zone) es v = changed c (λ me. record me { zone = zone }) v
after_task c (opening_zone z name) es v = record v { zones = v.zones ++ (z, name) ∷ [] }
after_task c (destroying_zone z) es v = record v { zones = filter (λ x. not (x.0 == z)) v.zones }

-- what stands after a record
abbrev pub after_record : Setting → LineRecord → Standing
after_record s d = after_task (caller_of d.line) (task_of s d.line) d.entries s.standing
