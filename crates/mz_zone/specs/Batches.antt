-- Batches: requests one after another, and blocks that are freed one after another. After libmalloc's batch calls; the exact entries are
-- this project's own.
use Rattle.std.specs.Prelude.{◌≡◌, ◌≢◌, ℕ, zero, suc, ◌+◌, ◌*◌, ◌≤◌, false, List, [], ◌∷◌, ◌++◌, length, map, fold, count_by, Result, Ok, Err}
use Rattle.std.specs.List.{AllByRecursion}
use Rattle.std.specs.Option.{is_none}
use Rattle.mz_base.specs.Sizes.{units_of}
use Rattle.mz_base.specs.Lists.{has_block}
use Rattle.mz_events.specs.declared.entry.Entry.{Entry}
use Rattle.mz_record.specs.Served.{ServeInTurn, blocks_made}
use Rattle.mz_record.specs.Dropped.{DropInTurn, IsNotOfZone}
use Rattle.mz_rack.specs.declared.lot.Null.{Null}
use Rattle.mz_rack.specs.Ways.{request_of}
use Rattle.mz_zone.specs.declared.fault.NotLiveBlock.{NotLiveBlock}
use Rattle.mz_zone.specs.Blocks.{BlockView, block_of, hand_without}
use Rattle.mz_zone.specs.Calling.{AtView, Goes, IsHandedIn, hand_at}
use Rattle.mz_zone.specs.Counts.{counts_of, is_for_nano, TriedTimesIf}
use Rattle.mz_zone.specs.Answering.{Answers}

-- So many requests one after another, each answered as it would be by itself, brought these blocks. The first null is the last.
abbrev pub AnswersInTurn : AtView → ℕ → ℕ → ℕ → List BlockView → Result (Unit {0}) Null → AtView → Type 0
AnswersInTurn v z n zero [] (Ok u) w = w ≡ v
AnswersInTurn v z n zero [] (Err e) w = ⊥
AnswersInTurn v z n zero (b ∷ bs) got w = ⊥
AnswersInTurn v z n (suc k) [] (Ok u) w = ⊥
AnswersInTurn v z n (suc k) [] (Err e) w = Answers v z n 16 (Err e) w
AnswersInTurn v z n (suc k) (b ∷ bs) got w = (u : AtView) × Answers v z n 16 (Ok b) u × AnswersInTurn u z n k bs got w

-- how many requests were made: one for each of these blocks, and one for a null
abbrev pub requests_made : List BlockView → Result (Unit {0}) Null → ℕ
requests_made bs (Ok u) = length bs
requests_made bs (Err e) = length bs + 1

-- how many of them nano didn't serve: those of the blocks outside nano, and that of a null
abbrev pub served_without : List BlockView → Result (Unit {0}) Null → ℕ
served_without bs (Ok u) = count_by (λ b. is_none b.slot) bs
served_without bs (Err e) = count_by (λ b. is_none b.slot) bs + 1

-- All of them together: the record grew by just the entries that serve them in turn, and the blocks are those that these make. Nano was
-- tried once for each request that is for it.
pub record AnswersBatch (v : AtView) (z n count : ℕ) (bs : List BlockView) (got : Result (Unit {0}) Null) (w : AtView) : Type 0 where
  pub mine : List Entry
  pub goes : Goes v mine w
  pub serve : ServeInTurn v.book.profile w.book.seen (request_of v.book.caller z n 16) count mine
  pub made : map block_of bs ≡ blocks_made mine
  pub each : AnswersInTurn v z n count bs got w
  pub tries : TriedTimesIf (is_for_nano v z n 16) (units_of n) (requests_made bs got) (served_without bs got) (counts_of v) (counts_of w)

-- no block is there twice
abbrev pub AreOther : List BlockView → Type 0
AreOther [] = Unit {0}
AreOther (b ∷ bs) = (has_block (map block_of bs) (block_of b) ≡ false) × AreOther bs

-- each block is handed in, and none twice
pub record AreHandedIn (v : AtView) (all : List BlockView) : Type 0 where
  pub each : AllByRecursion (IsHandedIn v) all
  pub others : AreOther all

-- Where these blocks of zone z were freed out of all, and these entries dropped them in turn: none is left, or the next one is of another
-- zone, which the last entry says, and comes back; those behind it are left.
abbrev pub Stops : ℕ → List BlockView → List BlockView → List BlockView → List Entry → Result (Unit {0}) NotLiveBlock → Type 0
Stops z all freed left last (Ok u) = (all ≡ freed) × (left ≡ []) × (last ≡ [])
Stops z all freed left last (Err e) =
    (all ≡ freed ++ e.block ∷ left) × (e.block.zone ≢ z) × IsNotOfZone z (block_of e.block) last × (map (λ x. x.ticket) last ≡ e.ticket ∷ [])

-- The blocks are freed from the first on, up to the first of another zone: the record grew by just the entries that say so, three at most
-- for each block, and nothing was counted.
pub record FreesBatch (v : AtView) (z : ℕ) (all : List BlockView) (got : Result (Unit {0}) NotLiveBlock) (left : List BlockView) (w : AtView) : Type 0 where
  pub freed : List BlockView
  pub drops : List Entry
  pub last : List Entry
  pub few : length (drops ++ last) ≤ 3 * length all
  pub goes : Goes v (drops ++ last) w
  pub of_zone : AllByRecursion (λ b. b.zone ≡ z) freed
  pub drop : DropInTurn v.book.profile w.book.seen (map block_of freed) drops
  pub stops : Stops z all freed left last got
  pub hand : hand_at w ≡ fold (λ hand b. hand_without b hand) (hand_at v) freed
  pub counts : counts_of w ≡ counts_of v
