-- What a command's entries are in a history they are in one that goes on too.
use Rattle.std.proofs.Common.{◌≡◌, ℕ, zero, suc, refl, ◌+◌, ◌<◌, ◌≤◌, true, false, cond, List, [], ◌∷◌, ◌++◌, Option, Some, inl, inr, map, length, drop, ap, sym, subst, ◌∙◌, arith, append_assoc, length-append}
use Rattle.std.specs.Prelude.{Contains, IsTrue, ◌==◌, slice_get}
use Rattle.std.proofs.lemmas.Bool.{false≢true}
use Rattle.std.proofs.lemmas.Option.{slice_get_read}
use Rattle.std.proofs.lemmas.List.Elements.{Contains-append_left, Contains-append_right, filter-append}
use Rattle.std.proofs.Math.Nat.{max-le, le-min, min-le_left, min-le_right}
use Rattle.std.proofs.Math.Seq.{drop-append_seam}
use Rattle.mz_base.specs.declared.profile.Profile.{Profile}
use Rattle.mz_base.specs.Sizes.{good_size_of}
use Rattle.mz_base.specs.Space.{Block}
use Rattle.mz_events.specs.declared.entry.Entry.{Entry}
use Rattle.mz_events.specs.Hands.{own}
use Rattle.mz_events.specs.State.{opening}
use Rattle.mz_events.specs.History.{AreLawful}
use Rattle.mz_lines.specs.declared.answer.Answer.{Answer}
use Rattle.mz_lines.specs.declared.command.Command.{Command}
use Rattle.mz_lines.specs.declared.command.Command.TheVariants.{ZoneFree}
use Rattle.mz_record.specs.Served.{Request, first_made, ServeInTurn}
use Rattle.mz_record.specs.Dropped.{DropInTurn}
use Rattle.mz_record.specs.Resized.{Resize, IsHemmedIn, Moves, to_nothing, between_ranges, out_of_nano, large, hemmed_in, IsMoved, moved, not_moved}
use Rattle.mz_record.specs.Zones.{destroying}
use Rattle.mz_lawful.specs.Standing.{Standing, caller_at}
use Rattle.mz_lawful.specs.Settings.{Setting, above, least_ticket, now, high}
use Rattle.mz_lawful.specs.Tasks.{Task, refused, serving, resizing, dropping, denying, telling, filling, showing, linking, giving, batching, unbatching, using, opening_zone, destroying_zone, task_of_call}
use Rattle.mz_lawful.specs.Fitting.{resize_of, IsAnswer, AreEntries, are_bytes_shown, FitsRecord}
use Rattle.mz_lawful.specs.After.{after_record, after_task}
use Rattle.mz_session.specs.Serving.{record_of}
use Rattle.mz_run.specs.Built.{is_built_command}
use Rattle.mz_run.specs.RunLaws.{RunLaws}

-- where a record stands
abbrev pub setting_at : Profile → List Entry → List Entry → Standing → Setting
setting_at p h pre v = record { profile = p; history = h; before = pre; standing = v }

-- what stands at an index of a list that goes on

get_at : (xs : List Entry) (e : Entry) (at : Contains xs e) → slice_get xs at.0 ≡ Some e
get_at xs e at = slice_get_read xs (length xs) at.0 e refl at.1 (sym at.2)

get_in_front : (xs ys : List Entry) (i : ℕ) → i < length xs → slice_get (xs ++ ys) i ≡ slice_get xs i
get_in_front [] ys i low = absurd (omega (arith, low))
get_in_front (x ∷ xs) ys zero low = refl
get_in_front (x ∷ xs) ys (suc i) low = get_in_front xs ys i (omega (arith, low))

get_behind : (xs ys : List Entry) (i : ℕ) → slice_get (xs ++ ys) (length xs + i) ≡ slice_get ys i
get_behind [] ys i = ap (slice_get ys) (omega arith)
get_behind (x ∷ xs) ys i =
    let next : length (x ∷ xs) + i ≡ suc (length xs + i) = omega arith in
    ap (slice_get (x ∷ (xs ++ ys))) next ∙ get_behind xs ys i

-- the least number above tickets that are all below n
above_least : (n : ℕ) (es : List Entry) → ((e : Entry) → Contains es e → e.ticket < n) → above es ≤ n
above_least n [] all = omega arith
above_least n (e ∷ es) all =
    let here : e.ticket < n = all e (0, omega arith, refl) in
    let rest = above_least n es (λ x listed. all x (Contains-append_right (e ∷ []) es x listed)) in
    max-le (omega (arith, here)) rest

-- a number that is no greater than tickets, nor than the least of others

under_own : (t n : ℕ) (ys : List Entry) → t ≤ n → ((i : ℕ) (e : Entry) → slice_get ys i ≡ Some e → t ≤ e.ticket) → t ≤ least_ticket n (own 0 ys)
under_own t n [] low all = low
under_own t n (y ∷ ys) low all =
    let here = all 0 y refl in
    let rest = under_own t n ys low (λ i e at. all (suc i) e at) in
    elim (y.caller == 0) as (λ b. t ≤ least_ticket n (cond b (y ∷ own 0 ys) (own 0 ys))) [ true ↦ le-min here rest | false ↦ rest ]

under_both : (t n m : ℕ) (xs ys : List Entry) → t ≤ least_ticket n xs → t ≤ least_ticket m ys → t ≤ least_ticket m (xs ++ ys)
under_both t n m [] ys low behind = behind
under_both t n m (x ∷ xs) ys low behind =
    let first = min-le_left x.ticket (least_ticket n xs) in
    let rest = min-le_right x.ticket (least_ticket n xs) in
    le-min (omega (arith, low, first)) (under_both t n m xs ys (omega (arith, low, rest)) behind)

-- a caller's entries behind the first ones
own_rest : (xs ys : List Entry) → drop (length (own 0 xs)) (own 0 (xs ++ ys)) ≡ own 0 ys
own_rest xs ys = ap (drop (length (own 0 xs))) (filter-append (λ e. e.caller == 0) xs ys) ∙ drop-append_seam (own 0 xs) (own 0 ys)

-- all of these entries are among those
abbrev AreAmong : List Entry → List Entry → Type 0
AreAmong h es = (e : Entry) → Contains es e → Contains h e

front_among : (h es front back : List Entry) → es ≡ front ++ back → AreAmong h es → AreAmong h front
front_among h es front back whole there e listed = there e (subst (λ l. Contains l e) (sym whole) (Contains-append_left front back e listed))

back_among : (h es front back : List Entry) → es ≡ front ++ back → AreAmong h es → AreAmong h back
back_among h es front back whole there e listed = there e (subst (λ l. Contains l e) (sym whole) (Contains-append_right front back e listed))

module _ (L : RunLaws) (p : Profile) (h post : List Entry) (lawful : AreLawful p opening (h ++ post)) where
  -- requests that were served one after another, and blocks that were dropped so

  still_served_in_turn : (q : Request) (count : ℕ) (es : List Entry) → AreAmong h es → ServeInTurn p h q count es → ServeInTurn p (h ++ post) q count es
  still_served_in_turn q zero es there none = none
  still_served_in_turn q (suc k) es there (inl last) = inl (L.served p h post q es _ lawful there last)
  still_served_in_turn q (suc k) es there (inr (front, back, b, whole, first, rest)) =
      inr
      (front, back, b, whole, L.served p h post q front (Some b) lawful (front_among h es front back whole there) first, still_served_in_turn q k back (back_among h es front back whole there) rest)

  still_dropped_in_turn : (bs : List Block) (es : List Entry) → AreAmong h es → DropInTurn p h bs es → DropInTurn p (h ++ post) bs es
  still_dropped_in_turn [] es there none = none
  still_dropped_in_turn (b ∷ bs) es there (front, back, whole, first, rest) =
      (front, back, whole, L.dropped p h post b front lawful (front_among h es front back whole there) first, still_dropped_in_turn bs back (back_among h es front back whole there) rest)

  -- a block that moved, from low to high

  still_moves : (r : Resize) (up : ℕ) → ((t : ℕ) → t ≤ length h → t ≤ r.high → t ≤ up) → Moves p h r → Moves p (h ++ post) (record r { high = up })
  still_moves r up under (to_nothing none) = to_nothing none
  still_moves r up under (between_ranges other ranges) = between_ranges other ranges
  still_moves r up under (out_of_nano other place) = out_of_nano other place
  still_moves r up under (large was is waste) = large was is waste
  still_moves r up under (hemmed_in range grows was) =
      let within = was.within in
      hemmed_in range grows
      (record {
        t = was.t;
        not_before = was.not_before;
        not_after = under was.t was.within was.not_after;
        within = omega (arith, within, length-append h post);
        hemmed = subst (λ s. IsHemmedIn s r.block (good_size_of r.bytes)) (sym (L.state p h post was.t lawful was.within)) was.hemmed;
      })

  still_moved : (r : Resize) (up : ℕ) (es : List Entry) (got : Option Block) → ((t : ℕ) → t ≤ length h → t ≤ r.high → t ≤ up) → AreAmong h es
      → IsMoved p h r es got → IsMoved p (h ++ post) (record r { high = up }) es got
  still_moved r up es got under there (moved new news olds moves whole serves drops is) =
      moved new news olds (still_moves r up under moves) whole
      (L.served p h post _ news (Some new) lawful (front_among h es news olds whole there) serves)
      (L.dropped p h post r.block olds lawful (back_among h es news olds whole there) drops) is
  still_moved r up es got under there (not_moved moves serves is) =
      not_moved (still_moves r up under moves) (L.served p h post _ es _ lawful there serves) is

-- Entries that were those of a task are so where the history goes on.
module _ (L : RunLaws) (p : Profile) (pre es post : List Entry) (v : Standing) (lawful : AreLawful p opening ((pre ++ es) ++ post)) where
  ticket_at : (i : ℕ) (e : Entry) → slice_get ((pre ++ es) ++ post) i ≡ Some e → e.ticket ≡ i
  ticket_at i e at = let is : e.ticket ≡ 0 + i = L.index p opening ((pre ++ es) ++ post) lawful i e at in omega (arith, is)

  -- all that was noted before the record has lower tickets than its number
  low_within : above pre ≤ length (pre ++ es)
  low_within =
      above_least (length (pre ++ es)) pre
      (λ e at.
      let low = at.1 in
      let inside : at.0 < length (pre ++ es) = omega (arith, low, length-append pre es) in
      let is = ticket_at at.0 e (get_in_front (pre ++ es) post at.0 inside ∙ (get_in_front pre es at.0 at.1 ∙ get_at pre e at)) in
      omega (arith, is, inside))

  same_now : now (setting_at p ((pre ++ es) ++ post) pre v) ≡ now (setting_at p (pre ++ es) pre v)
  same_now = L.state p (pre ++ es) post (above pre) lawful low_within

  -- what comes later has higher tickets
  still_under : (t : ℕ) → t ≤ length (pre ++ es) → t ≤ high (setting_at p (pre ++ es) pre v) 0 → t ≤ high (setting_at p ((pre ++ es) ++ post) pre v) 0
  still_under t within low =
      let mine : t ≤ least_ticket (length (pre ++ es)) (own 0 es) = subst (λ l. t ≤ least_ticket (length (pre ++ es)) l) (own_rest pre es) low in
      let later : t ≤ least_ticket (length ((pre ++ es) ++ post)) (own 0 post) =
      under_own t (length ((pre ++ es) ++ post)) post (omega (arith, within, length-append (pre ++ es) post))
      (λ i e at. let is = ticket_at (length (pre ++ es) + i) e (get_behind (pre ++ es) post i ∙ at) in omega (arith, is, within)) in
      let both = under_both t (length (pre ++ es)) (length ((pre ++ es) ++ post)) (own 0 es) (own 0 post) mine later in
      let rest : drop (length (own 0 pre)) (own 0 ((pre ++ es) ++ post)) ≡ own 0 es ++ own 0 post =
      ap (λ l. drop (length (own 0 pre)) (own 0 l)) (append_assoc pre es post) ∙ (own_rest pre (es ++ post) ∙ filter-append (λ e. e.caller == 0) es post) in
      subst (λ l. t ≤ least_ticket (length ((pre ++ es) ++ post)) l) (sym rest) both

  there : (e : Entry) → Contains es e → Contains (pre ++ es) e
  there e listed = Contains-append_right pre es e listed

  still_entries : (t : Task) → AreEntries (setting_at p (pre ++ es) pre v) 0 t es → AreEntries (setting_at p ((pre ++ es) ++ post) pre v) 0 t es
  still_entries (refused a) are = are
  still_entries (serving name q clear) are = L.served p (pre ++ es) post q es (first_made es) lawful there are
  still_entries (resizing name h n) are = elim are [
    | inl stays ↦ inl stays
    | inr moves ↦ inr (still_moved L p (pre ++ es) post lawful (resize_of (setting_at p (pre ++ es) pre v) 0 h n) (high (setting_at p ((pre ++ es) ++ post) pre v) 0) es _ still_under there moves)
  ]
  still_entries (dropping h) are = L.dropped p (pre ++ es) post h.block es lawful there are
  still_entries (denying z b) are = are
  still_entries (telling a) are = are
  still_entries (filling b byte) are = are
  still_entries (showing b off count) are = are
  still_entries (linking b off a) are = are
  still_entries (giving h to given) are = are
  still_entries (batching base count q) are = still_served_in_turn L p (pre ++ es) post lawful q count es there are
  still_entries (unbatching hs) are = still_dropped_in_turn L p (pre ++ es) post lawful (map (λ h. h.block) hs) es there are
  still_entries (using zone) are = are
  still_entries (opening_zone z name) are = are
  still_entries (destroying_zone z) are = are ∙ ap (λ s. destroying s z) (sym same_now)

-- what such a command is to do doesn't depend on the history
same_task : (p : Profile) (h k pre : List Entry) (v : Standing) (command : Command) → is_built_command command ≡ true
    → task_of_call (setting_at p h pre v) 0 command ≡ task_of_call (setting_at p k pre v) 0 command
same_task p h k pre v (ZoneFree zone name) built = absurd (false≢true built)
same_task p h k pre v _ built = refl

-- so the record fits where the history goes on
pub still_fits : (L : RunLaws) (p : Profile) (pre es post : List Entry) (v : Standing) → AreLawful p opening ((pre ++ es) ++ post) → (command : Command) (a : Answer) → is_built_command command ≡ true
    → FitsRecord (setting_at p (pre ++ es) pre v) (record_of command es a) → FitsRecord (setting_at p ((pre ++ es) ++ post) pre v) (record_of command es a)
still_fits L p pre es post v lawful command a built fits =
    let same = same_task p (pre ++ es) ((pre ++ es) ++ post) pre v command built in
    record {
      answer = subst (λ t. IsAnswer t es a) same fits.answer;
      entries = subst (λ t. AreEntries (setting_at p ((pre ++ es) ++ post) pre v) 0 t es) same
          (still_entries L p pre es post v lawful (task_of_call (setting_at p (pre ++ es) pre v) 0 command) fits.entries);
      bytes = subst (λ t. IsTrue (are_bytes_shown (caller_at v 0) t a)) same fits.bytes;
      in_turn = fits.in_turn;
    }

-- and what stands after it is the same
pub same_after : (p : Profile) (h k pre : List Entry) (v : Standing) (command : Command) (es : List Entry) (a : Answer) → is_built_command command ≡ true
    → after_record (setting_at p h pre v) (record_of command es a) ≡ after_record (setting_at p k pre v) (record_of command es a)
same_after p h k pre v command es a built = ap (λ t. after_task 0 t es v) (same_task p h k pre v command built)
