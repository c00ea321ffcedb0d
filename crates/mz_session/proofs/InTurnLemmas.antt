-- The commands of a batch: what was served or ended so far, one after another, and the record that all of it makes.
use Rattle.std.proofs.Common.{◌≡◌, ℕ, suc, ◌+◌, ◌-◌, ◌<◌, ◌≤◌, Bool, true, false, cond, List, [], ◌∷◌, ◌++◌, length, length-append, map, Option, Some, None, Ok, Err, refl, ap, sym, subst, ◌∙◌, inl, inr, arith, append_assoc, append-nil}
use Rattle.std.specs.Prelude.{◌||◌, nat_lt, nat_le, max, Contains}
use Rattle.std.specs.List.{AllByRecursion, list_any}
use Rattle.std.specs.Option.{option_map}
use Rattle.std.specs.Str.{bytes_eq}
use Rattle.std.proofs.lemmas.Bool.{cases_Bool, cond-true, cond-false, and_parts, and_from, lt-ltb, le-leb, leb-true, leb-false, ltb-true, ltb-false}
use Rattle.std.proofs.lemmas.List.{map-append}
use Rattle.std.proofs.lemmas.List.Elements.{Contains-append_right}
use Rattle.std.proofs.lemmas.List.Sums.{fold-append}
use Rattle.std.proofs.lemmas.Option.{none-some}
use Rattle.std.proofs.lemmas.Slice.Eq.{bytes_eq-Decides}
use Rattle.mz_base.specs.Space.{Block}
use Rattle.mz_events.specs.declared.entry.Entry.{Entry}
use Rattle.mz_events.specs.State.{opening}
use Rattle.mz_events.specs.History.{AreLawful}
use Rattle.mz_words.specs.declared.count.TheConstants.{MOST_IN_BATCH}
use Rattle.mz_words.specs.declared.name.Name.{Name}
use Rattle.mz_words.specs.declared.name.Name.TheVariants.{Base, Batch, Given}
use Rattle.mz_lines.specs.declared.answer.Answer.TheVariants as answers
use Rattle.mz_lines.specs.declared.command.Command.TheVariants as command
use Rattle.mz_rack.specs.declared.lot.Null.{Null}
use Rattle.mz_record.specs.Served.{Serves as ServesRequest, ServeInTurn, blocks_made}
use Rattle.mz_record.specs.Dropped.{IsDropped, DropInTurn}
use Rattle.mz_lawful.specs.Names.{same_name, batch_name, is_in_batch, index_of}
use Rattle.mz_lawful.specs.Records.{call}
use Rattle.mz_lawful.specs.Standing.{Holding, Caller, Standing, caller_at, held_at, is_batch_held, batch_held, bytes_of}
use Rattle.mz_lawful.specs.Settings.{above}
use Rattle.mz_lawful.specs.Tasks.{refused, batching, unbatching, in_zone, request_of, task_of}
use Rattle.mz_lawful.specs.Fitting.{is_rising_from}
use Rattle.mz_lawful.specs.After.{changed, with_served, with_batch, without_block, without_blocks}
use Rattle.mz_record.specs.Bytes.{is_shown_as}
use Rattle.mz_zone.specs.Blocks.{BlockView, block_of}
use Rattle.mz_session.specs.Names.{NamedBlocks, block_with, holding_of, IsFirstInBatch, HasSomeOfBatch}
use Rattle.mz_session.specs.Changes.{AreWith}
use Rattle.mz_session.specs.Sessions.{SessionView, IsKept, StandsFor, AreHeldOnce, ArePassed}
use Rattle.mz_session.specs.SessionLaws.{SessionLaws}
use Rattle.mz_session.specs.Serving.{Notes, Makes, Ends, Holds, Takes, Serves, setting_of, record_of}
use Rattle.mz_session.proofs.NameLemmas.{name-self, same-is-name, named-here, named-elsewhere}
use Rattle.mz_session.proofs.HeldLemmas.{held_in, held-first}
use Rattle.mz_session.proofs.StandsLemmas.{stands-same, stands-made, stands-dropped}
use Rattle.mz_session.proofs.RecordLemmas.{GivesNone, given-same, given-less, given-other, serves-by, serves-refused, fits-by, in-default}
use Rattle.mz_session.proofs.IndexLemmas.{batch-begins, batch-empty}
use Rattle.mz_session.proofs.BatchLemmas.{AreServed, served-later, served-more, in-turn-all, in-turn-null, made-of, made-null, drops-later, drops-more}

-- tickets that rise in two parts

rising-lower : (m n : ℕ) (es : List Entry) → m ≤ n → is_rising_from n es ≡ true → is_rising_from m es ≡ true
rising-lower m n [] low rises = refl
rising-lower m n (e ∷ es) low rises =
    let parts = and_parts (nat_le n e.ticket) (is_rising_from (e.ticket + 1) es) rises in
    let first = leb-true n e.ticket parts.0 in
    and_from (nat_le m e.ticket) (is_rising_from (e.ticket + 1) es) (le-leb m e.ticket (omega (arith, first, low))) parts.1

rising-over : (n m : ℕ) (es ds : List Entry) → n ≤ m → above es ≤ m → is_rising_from n es ≡ true → is_rising_from m ds ≡ true → is_rising_from n (es ++ ds) ≡ true
rising-over n m [] ds low below rises more = rising-lower n m ds low more
rising-over n m (e ∷ es) ds low below rises more =
    let parts = and_parts (nat_le n e.ticket) (is_rising_from (e.ticket + 1) es) rises in
    and_from (nat_le n e.ticket) (is_rising_from (e.ticket + 1) (es ++ ds)) parts.0
    (rising-over (e.ticket + 1) m es ds (omega (arith, below)) (omega (arith, below)) parts.1 more)

above-both : (es ds : List Entry) → above (es ++ ds) ≡ max (above es) (above ds)
above-both [] ds = omega arith
above-both (e ∷ es) ds = let rest = above-both es ds in omega (arith, rest)

all-of-both : {A : Type 0} (P : A → Type 0) (xs ys : List A) → AllByRecursion P xs → AllByRecursion P ys → AllByRecursion P (xs ++ ys)
all-of-both P [] ys front back = back
all-of-both P (x ∷ xs) ys front back = (front.0, all-of-both P xs ys front.1 back)

-- The history grew by these entries, which are the caller's, with tickets above all others.
pub record Adds (s t : SessionView) (mine : List Entry) : Type 0 where
  pub profile : t.at.book.profile ≡ s.at.book.profile
  pub seen : t.at.book.seen ≡ s.at.book.seen ++ mine
  pub callers : AllByRecursion (λ e. e.caller ≡ 0) mine
  pub rising : is_rising_from (above s.at.book.seen) mine ≡ true

adds-nothing : (s : SessionView) → Adds s s []
adds-nothing s = record { profile = refl; seen = sym (append-nil s.at.book.seen); callers = tt; rising = refl }

adds-on : (s t u : SessionView) (mine more : List Entry) → Adds s t mine → Adds t u more → Adds s u (mine ++ more)
adds-on s t u mine more front back =
    let before = s.at.book.seen in
    let over : above (before ++ mine) ≡ max (above before) (above mine) = above-both before mine in
    record {
      profile = back.profile ∙ front.profile;
      seen = back.seen ∙ ap (λ es. es ++ more) front.seen ∙ append_assoc before mine more;
      callers = all-of-both (λ e. e.caller ≡ 0) mine more front.callers back.callers;
      rising = rising-over (above before) (above (before ++ mine)) mine more (omega (arith, over)) (omega (arith, over)) front.rising
          (subst (λ es. is_rising_from (above es) more ≡ true) front.seen back.rising);
    }

-- entries that were noted after names had changed, or before they did
adds-noted : (s t u w : SessionView) (more : List Entry) → t.at ≡ s.at → Notes t more u → w.at ≡ u.at → Adds s w more
adds-noted s t u w more before notes after = record {
  profile = ap (λ x. x.book.profile) after ∙ notes.profile ∙ ap (λ x. x.book.profile) before;
  seen = ap (λ x. x.book.seen) after ∙ notes.seen ∙ ap (λ x. x.book.seen ++ more) before;
  callers = notes.mine;
  rising = subst (λ x. is_rising_from (above x.book.seen) more ≡ true) before notes.rising;
}

-- a lawful history, seen from before
lawful-before : (s t u : SessionView) (mine more : List Entry) → Adds s t mine → Adds t u more → AreLawful u.at.book.profile opening u.at.book.seen → AreLawful s.at.book.profile opening (t.at.book.seen ++ more)
lawful-before s t u mine more front back lawful =
    subst (λ p. AreLawful p opening (t.at.book.seen ++ more)) (back.profile ∙ front.profile) (subst (λ es. AreLawful u.at.book.profile opening es) back.seen lawful)

added-there : (s t : SessionView) (mine : List Entry) → Adds s t mine → (e : Entry) → Contains mine e → Contains t.at.book.seen e
added-there s t mine adds e at = subst (λ es. Contains es e) (sym adds.seen) (Contains-append_right s.at.book.seen mine e at)

-- standings in which caller 0 is the same

stands-as : (t : SessionView) (v w : Standing) → w.zones ≡ v.zones → w.gifts ≡ v.gifts → caller_at w 0 ≡ caller_at v 0 → StandsFor t v → StandsFor t w
stands-as t v w zones gifts same stands = record {
  zones = zones ∙ stands.zones;
  gifts = subst (λ xs. ArePassed t.parcels xs) (sym gifts) stands.gifts;
  zone = ap (λ (c : Caller). c.zone) same ∙ stands.zone;
  held = λ name. ap (λ (c : Caller). held_at c name) same ∙ stands.held name;
  held_once = subst (λ (c : Caller). AreHeldOnce c.held) (sym same) stands.held_once;
  known = λ name b named. ap (λ (c : Caller). is_shown_as (bytes_of c (block_of b)) b.span.bytes) same ∙ stands.known name b named;
}

-- what two changes made, one after the other, is what this one makes
stands-turned : (t : SessionView) (v : Standing) (f g h : Caller → Caller) → h (caller_at v 0) ≡ f (g (caller_at v 0)) → StandsFor t (changed 0 f (changed 0 g v)) → StandsFor t (changed 0 h v)
stands-turned t v f g h same stands = stands-as t (changed 0 f (changed 0 g v)) (changed 0 h v) refl refl same stands

-- names of a batch

same-number : (base : List ℕ) (i j : ℕ) → same_name (batch_name base i) (batch_name base j) ≡ true → i ≡ j
same-number base i j same = ap index_of (same-is-name (batch_name base i) (batch_name base j) same)

-- a name that has no block has none where another one lost its block
none-still : (old new : NamedBlocks) (name w : Name) → AreWith old name None new → block_with old w ≡ None → block_with new w ≡ None
none-still old new name w with_it none = with_it.named w ∙ none-case (same_name name w) (block_with old w) none
  where
    none-case : (d : Bool) (o : Option BlockView) → o ≡ None → cond d None o ≡ None
    none-case true o is = refl
    none-case false o is = is

in-batch : (base : List ℕ) (count i : ℕ) → i < count → is_in_batch base count (batch_name base i) ≡ true
in-batch base count i within = and_from (bytes_eq base base) (nat_lt i count) ((bytes_eq-Decides base base).1 refl) (lt-ltb i count within)

-- a name of the batch that is held
some-held : (base : List ℕ) (count i : ℕ) (g : Holding) (hs : List Holding) → i < count → held_in hs (batch_name base i) ≡ Some g → list_any (λ h. is_in_batch base count h.name) hs ≡ true
some-held base count i g [] within held = absurd (none-some g held)
some-held base count i g (h ∷ hs) within held = elim (cases_Bool (same_name h.name (batch_name base i))) [
  | inl same ↦
      ap (λ d. d || list_any (λ x. is_in_batch base count x.name) hs)
      (ap (is_in_batch base count) (same-is-name h.name (batch_name base i) same) ∙ in-batch base count i within)
  | inr other ↦
      or-second (is_in_batch base count h.name) (list_any (λ x. is_in_batch base count x.name) hs)
      (some-held base count i g hs within (sym (held-first h hs (batch_name base i) ∙ ap (λ d. cond d (Some h) (held_in hs (batch_name base i))) other) ∙ held))
]
  where
    or-second : (a c : Bool) → c ≡ true → (a || c) ≡ true
    or-second true c is = refl
    or-second false c is = is

-- and where none is
none-held : (base : List ℕ) (count : ℕ) (hs : List Holding) → ((i : ℕ) → i < count → held_in hs (batch_name base i) ≡ None) → list_any (λ h. is_in_batch base count h.name) hs ≡ false
none-held base count [] free = refl
none-held base count (h ∷ hs) free =
    ap (λ d. d || list_any (λ x. is_in_batch base count x.name) hs) (not-this h.name refl)
    ∙ none-held base count hs (λ i within. left i (same_name h.name (batch_name base i)) refl (sym (held-first h hs (batch_name base i)) ∙ free i within))
  where
    here : (i : ℕ) → h.name ≡ batch_name base i → i < count → ⊥
    here i is within =
        none-some h
        (sym (free i within) ∙ held-first h hs (batch_name base i)
        ∙ ap (λ d. cond d (Some h) (held_in hs (batch_name base i))) (ap (λ n. same_name n (batch_name base i)) is ∙ name-self (batch_name base i)))

    not-this : (n : Name) → h.name ≡ n → is_in_batch base count n ≡ false
    not-this (Base a) is = refl
    not-this (Given g) is = refl
    not-this (Batch b) is = elim (cases_Bool (is_in_batch base count (Batch b))) [
      | inl within ↦
          let parts = and_parts (bytes_eq b.base base) (nat_lt b.index count) within in
          absurd (here b.index (is ∙ ap (λ w. batch_name w b.index) ((bytes_eq-Decides b.base base).0 parts.0)) (ltb-true b.index count parts.1))
      | inr without ↦ without
    ]

    left : (i : ℕ) (d : Bool) → same_name h.name (batch_name base i) ≡ d → cond (same_name h.name (batch_name base i)) (Some h) (held_in hs (batch_name base i)) ≡ None → held_in hs (batch_name base i) ≡ None
    left i true same none = absurd (none-some h (sym none ∙ ap (λ d. cond d (Some h) (held_in hs (batch_name base i))) same))
    left i false other none = sym (ap (λ d. cond d (Some h) (held_in hs (batch_name base i))) other) ∙ none

-- batches that are served

-- a batch with one more block
batch-more : (base : List ℕ) (z i : ℕ) (bs : List Block) (b : Block) (me : Caller) → with_batch base z i (bs ++ b ∷ []) me ≡ with_served (batch_name base (i + length bs)) z 0 (Some b) (with_batch base z i bs me)
batch-more base z i [] b me = let same : i ≡ i + 0 = omega arith in ap (λ j. with_served (batch_name base j) z 0 (Some b) me) same
batch-more base z i (x ∷ bs) b me =
    let same : i + 1 + length bs ≡ i + length (x ∷ bs) = omega arith in
    batch-more base z (i + 1) bs b (with_served (batch_name base i) z 0 (Some x) me)
    ∙ ap (λ j. with_served (batch_name base j) z 0 (Some b) (with_batch base z i (x ∷ bs) me)) same

-- So many of the requests for n bytes have brought blocks, which have the first names of the batch. The others of the first `count` have none.
pub record Batched (s t : SessionView) (base : List ℕ) (n count got : ℕ) : Type 0 where
  pub blocks : List Block
  pub many : length blocks ≡ got
  pub mine : List Entry
  pub adds : Adds s t mine
  pub kept : IsKept t
  pub coming : t.parcels ≡ s.parcels
  pub given : GivesNone s t
  pub served : AreServed s.at.book.profile t.at.book.seen (request_of 0 0 n 16) blocks mine
  pub stands : (v : Standing) → StandsFor s v → StandsFor t (changed 0 (with_batch base 0 0 blocks) v)
  pub free : (i : ℕ) → got ≤ i → i < count → block_with t.blocks (batch_name base i) ≡ None
  pub within : got ≤ count

pub batch-first : (s : SessionView) (base : List ℕ) (n count : ℕ) → IsKept s → HasSomeOfBatch s.blocks base count false → Batched s s base n count 0
batch-first s base n count kept free = record {
  blocks = [];
  many = refl;
  mine = [];
  adds = adds-nothing s;
  kept = kept;
  coming = refl;
  given = λ name is. is;
  served = refl;
  stands = λ v stands. stands-as s v (changed 0 (with_batch base 0 0 []) v) refl refl refl stands;
  free = λ i from below. free i below;
  within = omega arith;
}

module _ (laws : SessionLaws) (s t u : SessionView) (base : List ℕ) (n count got : ℕ) (begun : Batched s t base n count got) (more : got < count) (lawful : AreLawful u.at.book.profile opening u.at.book.seen) where
  pub next-free : block_with t.blocks (batch_name base got) ≡ None
  next-free = begun.free got (omega arith) more

  -- one more came
  pub batch-on : (w : SessionView) (b : BlockView) → Makes t n 16 (Ok b) u → Holds u (batch_name base got) b w → Batched s w base n count (got + 1)
  batch-on w b makes holds =
      let name = batch_name base got in
      let new = makes.mine in
      let adds_u : Adds t u new = adds-noted t t u u new refl makes.notes refl in
      let adds_w : Adds t w new = adds-noted t t u w new refl makes.notes holds.renames.at in
      let all_lawful = lawful-before s t u begun.mine new begun.adds adds_u lawful in
      let with_it : AreWith t.blocks name (Some b) w.blocks = subst (λ bs. AreWith bs name (Some b) w.blocks) makes.notes.blocks holds.blocks in
      let come : w.parcels ≡ t.parcels = holds.renames.parcels ∙ makes.notes.parcels in
      let q = request_of 0 0 n 16 in
      let one : ServesRequest s.at.book.profile (t.at.book.seen ++ new) q new (Some (block_of b)) =
      subst (λ es. ServesRequest s.at.book.profile es q new (Some (block_of b))) makes.notes.seen
      (subst (λ p. ServesRequest p u.at.book.seen q new (Some (block_of b))) begun.adds.profile makes.serves)
      in
      let longer : length (begun.blocks ++ block_of b ∷ []) ≡ length begun.blocks + 1 = length-append begun.blocks (block_of b ∷ []) in
      let was = begun.many in
      let place : 0 + length begun.blocks ≡ got = omega (arith, was) in
      record {
        blocks = begun.blocks ++ block_of b ∷ [];
        many = omega (arith, longer, was);
        mine = begun.mine ++ new;
        adds = adds-on s t w begun.mine new begun.adds adds_w;
        kept = holds.kept;
        coming = come ∙ begun.coming;
        given = λ x is. begun.given x (given-other t w name (Some b) tt come with_it x is);
        served = subst (λ es. AreServed s.at.book.profile es q (begun.blocks ++ block_of b ∷ []) (begun.mine ++ new)) (sym adds_w.seen)
            (served-more s.at.book.profile (t.at.book.seen ++ new) q begun.blocks begun.mine (block_of b) new
            (served-later laws s.at.book.profile t.at.book.seen new q begun.blocks begun.mine all_lawful (added-there s t begun.mine begun.adds) begun.served) one);
        stands = λ v stands.
            stands-turned w v (with_served name 0 0 (Some (block_of b))) (with_batch base 0 0 begun.blocks) (with_batch base 0 0 (begun.blocks ++ block_of b ∷ []))
            (batch-more base 0 0 begun.blocks (block_of b) (caller_at v 0)
            ∙ ap (λ j. with_served (batch_name base j) 0 0 (Some (block_of b)) (with_batch base 0 0 begun.blocks (caller_at v 0))) place)
            (stands-made t u w (changed 0 (with_batch base 0 0 begun.blocks) v) name n 16 0 b makes holds next-free (laws.unknown b.span.bytes) (begun.stands v stands));
        free = λ i from below.
            elim (cases_Bool (same_name name (batch_name base i))) [
              | inl same ↦ let is = same-number base got i same in absurd (omega (arith, is, from))
              | inr other ↦ named-elsewhere t.blocks w.blocks name (Some b) (batch_name base i) with_it other ∙ begun.free i (omega (arith, from)) below
            ];
        within = omega (arith, more);
      }

-- what a batch is to do
batch-task :
    (s : SessionView) (base : List ℕ) (n count : ℕ) → HasSomeOfBatch s.blocks base count false → (t : SessionView) (v : Standing) → StandsFor s v
    → task_of (setting_of s t v) (call 0 (command.Batch base count n)) ≡ batching base count (request_of 0 0 n 16)
batch-task s base n count free t v stands =
    let me = caller_at v 0 in
    cond-false (is_batch_held me base count) (refused answers.Held) (in_zone v me.zone (λ z. batching base count (request_of 0 z n 16)))
    (none-held base count me.held (λ i within. stands.held (batch_name base i) ∙ ap (option_map (holding_of (batch_name base i))) (free i within)))
    ∙ in-default s (setting_of s t v) stands (λ z. batching base count (request_of 0 z n 16))

-- one of the names is held
pub batch-refused : (s : SessionView) (base : List ℕ) (n count : ℕ) → IsKept s → HasSomeOfBatch s.blocks base count true → Serves s (command.Batch base count n) answers.Held s
batch-refused s base n count kept (i, within, b, named) =
    serves-refused s (command.Batch base count n) answers.Held kept
    (λ v stands.
    let me = caller_at v 0 in
    cond-true (is_batch_held me base count) (refused answers.Held) (in_zone v me.zone (λ z. batching base count (request_of 0 z n 16)))
    (some-held base count i (holding_of (batch_name base i) b) me.held within (stands.held (batch_name base i) ∙ ap (option_map (holding_of (batch_name base i))) named)))

-- all came
pub batch-whole :
    (laws : SessionLaws) (s t : SessionView) (base : List ℕ) (n count got : ℕ) → HasSomeOfBatch s.blocks base count false → Batched s t base n count got → count ≤ got
    → Serves s (command.Batch base count n) (answers.Got got) t
batch-whole laws s t base n count got free begun all =
    let q = request_of 0 0 n 16 in
    let bs = begun.blocks in
    let es = begun.mine in
    let many = begun.many in
    let within = begun.within in
    let made : blocks_made es ≡ bs = made-of laws s.at.book.profile t.at.book.seen q bs es begun.served in
    let number : length bs ≡ count = omega (arith, many, within, all) in
    serves-by s t (command.Batch base count n) (answers.Got got) es begun.kept begun.adds.profile begun.adds.seen begun.adds.callers begun.given
    (λ v stands.
    fits-by (setting_of s t v) (record_of (command.Batch base count n) es (answers.Got got)) t (batching base count q) (batch-task s base n count free t v stands)
    (ap answers.Got (sym (ap length made ∙ many)))
    (subst (λ k. ServeInTurn s.at.book.profile t.at.book.seen q k es) number (in-turn-all s.at.book.profile t.at.book.seen q bs es begun.served))
    refl begun.adds.rising
    (subst (λ cs. StandsFor t (changed 0 (with_batch base 0 0 cs) v)) (sym made) (begun.stands v stands)))

-- the last brought none
pub batch-null :
    (laws : SessionLaws) (s t u : SessionView) (base : List ℕ) (n count got : ℕ) → HasSomeOfBatch s.blocks base count false → Batched s t base n count got → got < count
    → AreLawful u.at.book.profile opening u.at.book.seen → (e : Null) → Makes t n 16 (Err e) u → Serves s (command.Batch base count n) (answers.Got got) u
batch-null laws s t u base n count got free begun more lawful e makes =
    let q = request_of 0 0 n 16 in
    let bs = begun.blocks in
    let es = begun.mine in
    let last = makes.mine in
    let many = begun.many in
    let adds_u : Adds t u last = adds-noted t t u u last refl makes.notes refl in
    let adds : Adds s u (es ++ last) = adds-on s t u es last begun.adds adds_u in
    let p = s.at.book.profile in
    let h = t.at.book.seen ++ last in
    let served : AreServed p h q bs es =
    served-later laws p t.at.book.seen last q bs es (lawful-before s t u es last begun.adds adds_u lawful) (added-there s t es begun.adds) begun.served
    in
    let null : ServesRequest p h q last None =
    subst (λ x. ServesRequest p x q last None) makes.notes.seen (subst (λ x. ServesRequest x u.at.book.seen q last None) begun.adds.profile makes.serves)
    in
    let made : blocks_made (es ++ last) ≡ bs = made-null laws p h q bs es last served null in
    let number : count ≡ length bs + suc (count - (length bs + 1)) = omega (arith, many, more) in
    serves-by s u (command.Batch base count n) (answers.Got got) (es ++ last) makes.keeps adds.profile adds.seen adds.callers
    (λ x is. begun.given x (given-same t u makes.notes.parcels (λ w. ap (λ cs. block_with cs w) makes.notes.blocks) x is))
    (λ v stands.
    fits-by (setting_of s u v) (record_of (command.Batch base count n) (es ++ last) (answers.Got got)) u (batching base count q) (batch-task s base n count free u v stands)
    (ap answers.Got (sym (ap length made ∙ many)))
    (subst (λ x. ServeInTurn p x q count (es ++ last)) (sym adds_u.seen) (in-turn-null p h q (count - (length bs + 1)) count bs es last served null number))
    refl adds.rising
    (subst (λ cs. StandsFor u (changed 0 (with_batch base 0 0 cs) v)) (sym made)
    (stands-same t u (changed 0 (with_batch base 0 0 bs) v) (begun.stands v stands) makes.notes.parcels (λ w. ap (λ cs. block_with cs w) makes.notes.blocks))))

-- batches that end

-- So many blocks of the batch have ended, in the order of their numbers, and the others are those that are still to end.
pub record Unbatched (s t : SessionView) (base : List ℕ) (freed : ℕ) : Type 0 where
  pub ended : List Holding
  pub many : length ended ≡ freed
  pub mine : List Entry
  pub adds : Adds s t mine
  pub kept : IsKept t
  pub given : GivesNone s t
  pub drops : DropInTurn s.at.book.profile t.at.book.seen (map (λ h. h.block) ended) mine
  pub held : (v : Standing) → StandsFor s v → batch_held (caller_at v 0) base ≡ ended ++ batch_held (without_blocks ended (caller_at v 0)) base
  pub stands : (v : Standing) → StandsFor s v → StandsFor t (changed 0 (without_blocks ended) v)
  pub none : (i : ℕ) → i < freed → block_with t.blocks (batch_name base i) ≡ None
  pub within : freed ≤ MOST_IN_BATCH

pub unbatch-first : (s : SessionView) (base : List ℕ) → IsKept s → Unbatched s s base 0
unbatch-first s base kept = record {
  ended = [];
  many = refl;
  mine = [];
  adds = adds-nothing s;
  kept = kept;
  given = λ name is. is;
  drops = refl;
  held = λ v stands. refl;
  stands = λ v stands. stands-as s v (changed 0 (without_blocks []) v) refl refl refl stands;
  none = λ i below. absurd (omega (arith, below));
  within = omega arith;
}

module _ (s t : SessionView) (base : List ℕ) (freed k : ℕ) (begun : Unbatched s t base freed) (first : IsFirstInBatch t.blocks base (Some k)) (within : k < MOST_IN_BATCH) where
  -- no more have ended than there are lower numbers
  pub next-above : freed ≤ k
  next-above = elim (cases_Bool (nat_le freed k)) [
    | inl low ↦ leb-true freed k low
    | inr high ↦ absurd (none-some first.0.0 (sym (begun.none k (not-low high)) ∙ first.0.1))
  ]
    where
      not-low : nat_le freed k ≡ false → k < freed
      not-low high = leb-false freed k high

  -- one more has ended
  pub unbatch-on :
      (laws : SessionLaws) (u w : SessionView) (b : BlockView) → Takes t (batch_name base k) (Some b) u → Ends u b w
      → AreLawful w.at.book.profile opening w.at.book.seen → Unbatched s w base (freed + 1)
  unbatch-on laws u w b takes ends lawful =
      let name = batch_name base k in
      let h : Holding = holding_of name b in
      let new = ends.mine in
      let hs = begun.ended in
      let p = s.at.book.profile in
      let adds_w : Adds t w new = adds-noted t u w w new takes.1.at ends.notes refl in
      let with_it : AreWith t.blocks name None w.blocks = subst (AreWith t.blocks name None) (sym ends.notes.blocks) takes.2 in
      let come : w.parcels ≡ t.parcels = ends.notes.parcels ∙ takes.1.parcels in
      let one : IsDropped p (t.at.book.seen ++ new) (block_of b) new =
      subst (λ es. IsDropped p es (block_of b) new) adds_w.seen
      (subst (λ x. IsDropped x w.at.book.seen (block_of b) new) (ap (λ x. x.book.profile) takes.1.at ∙ begun.adds.profile) ends.dropped)
      in
      let longer : length (hs ++ h ∷ []) ≡ length hs + 1 = length-append hs (h ∷ []) in
      let was = begun.many in
      let low = next-above in
      record {
        ended = hs ++ h ∷ [];
        many = omega (arith, longer, was);
        mine = begun.mine ++ new;
        adds = adds-on s t w begun.mine new begun.adds adds_w;
        kept = ends.kept;
        given = λ x is. begun.given x (given-less t w name come with_it x is);
        drops = subst (λ es. DropInTurn p es (map (λ x. x.block) (hs ++ h ∷ [])) (begun.mine ++ new)) (sym adds_w.seen)
            (subst (λ bs. DropInTurn p (t.at.book.seen ++ new) bs (begun.mine ++ new)) (sym (map-append (λ (x : Holding). x.block) hs (h ∷ [])))
            (drops-more p (t.at.book.seen ++ new) (map (λ x. x.block) hs) begun.mine (block_of b) new
            (drops-later laws p t.at.book.seen new (map (λ x. x.block) hs) begun.mine (lawful-before s t w begun.mine new begun.adds adds_w lawful)
            (added-there s t begun.mine begun.adds) begun.drops) one));
        held = λ v stands.
            let now = begun.stands v stands in
            let me = without_blocks hs (caller_at v 0) in
            begun.held v stands
            ∙ ap (λ xs. hs ++ xs)
            (batch-begins base MOST_IN_BATCH k h me.held refl within now.held_once (now.held name ∙ ap (option_map (holding_of name)) takes.0)
            (λ i below. now.held (batch_name base i) ∙ ap (option_map (holding_of (batch_name base i))) (first.1 i below)))
            ∙ sym (append_assoc hs (h ∷ []) (batch_held (without_block h me) base))
            ∙ ap (λ x. (hs ++ h ∷ []) ++ batch_held x base) (sym (gone v));
        stands = λ v stands.
            stands-turned w v (without_block h) (without_blocks hs) (without_blocks (hs ++ h ∷ [])) (gone v)
            (stands-dropped t u w (changed 0 (without_blocks hs) v) name b begun.kept takes ends (begun.stands v stands));
        none = λ i below.
            elim (cases_Bool (nat_lt i k)) [
              | inl lower ↦ none-still t.blocks w.blocks name (batch_name base i) with_it (first.1 i (ltb-true i k lower))
              | inr other ↦
                  let least = ltb-false i k other in
                  let is : k ≡ i = omega (arith, least, below, low) in
                  ap (λ j. block_with w.blocks (batch_name base j)) (sym is) ∙ named-here t.blocks w.blocks name None with_it
            ];
        within = omega (arith, low, within);
      }
    where
      gone : (v : Standing) → without_blocks (begun.ended ++ holding_of (batch_name base k) b ∷ []) (caller_at v 0) ≡ without_block (holding_of (batch_name base k) b) (without_blocks begun.ended (caller_at v 0))
      gone v = fold-append (λ x h. without_block h x) (caller_at v 0) begun.ended (holding_of (batch_name base k) b ∷ [])

-- all have ended
pub unbatch-whole : (s t : SessionView) (base : List ℕ) (freed : ℕ) → Unbatched s t base freed → IsFirstInBatch t.blocks base None → Serves s (command.Unbatch base) (answers.Freed freed) t
unbatch-whole s t base freed begun none =
    let hs = begun.ended in
    let es = begun.mine in
    serves-by s t (command.Unbatch base) (answers.Freed freed) es begun.kept begun.adds.profile begun.adds.seen begun.adds.callers begun.given
    (λ v stands.
    let now = begun.stands v stands in
    fits-by (setting_of s t v) (record_of (command.Unbatch base) es (answers.Freed freed)) t (unbatching hs)
    (ap unbatching
    (begun.held v stands
    ∙ ap (λ xs. hs ++ xs)
    (batch-empty base MOST_IN_BATCH (without_blocks hs (caller_at v 0)).held (λ i. now.held (batch_name base i) ∙ ap (option_map (holding_of (batch_name base i))) (none i)))
    ∙ append-nil hs))
    (ap answers.Freed (sym begun.many)) begun.drops refl begun.adds.rising now)
