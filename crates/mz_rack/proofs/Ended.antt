-- A block ends in its place, or is denied there; and which duty an entry leaves in a history that goes on.
use Rattle.std.proofs.Common.{◌≡◌, ℕ, zero, suc, ◌+◌, ◌<◌, ◌≤◌, ◌==◌, true, false, not, List, [], ◌∷◌, ◌++◌, length, map, take, refl, ap, sym, subst, ◌∙◌, arith, inl, inr, ◌⊎◌, ⊎_elim, Option, None, Some}
use Rattle.std.specs.Prelude.{◌≢◌, ◌&&◌, slice_get}
use Rattle.std.specs.List.{All, Contains}
use Rattle.std.proofs.lemmas.Bool.{false≢true, and_parts, cases_Bool, or_left}
use Rattle.std.proofs.lemmas.List.{append_assoc}
use Rattle.std.proofs.lemmas.List.Elements.{Contains-append_cases}
use Rattle.mz_base.specs.declared.profile.Profile.{Profile}
use Rattle.mz_base.specs.Site.{Site}
use Rattle.mz_base.specs.Space.{Block}
use Rattle.mz_base.specs.Lists.{has_block}
use Rattle.mz_ground.specs.Views.{SpanView}
use Rattle.mz_events.specs.declared.place.Place.{Place}
use Rattle.mz_events.specs.declared.place.Place.TheVariants.{Pages, Tiny, TinyDepot, Small, SmallDepot, Large, Nano}
use Rattle.mz_events.specs.declared.event.Event.{Event}
use Rattle.mz_events.specs.declared.event.Event.TheVariants.{Take, Back, Move, New, End, Size, Full, Dry, No, Open, Shut}
use Rattle.mz_events.specs.declared.entry.Entry.{Entry}
use Rattle.mz_events.specs.Places.{is_nano, is_pages, is_large, zone_of, keeper_at, same_place, same_spot, spot_at, spot_of, place_of}
use Rattle.mz_events.specs.State.{Kept, Value, opening, value_at, is_open}
use Rattle.mz_events.specs.Changes.{without_block}
use Rattle.mz_events.specs.Duties.{is_that, duty_of_end}
use Rattle.mz_events.specs.Effect.{touched, touches}
use Rattle.mz_events.specs.History.{AreLawful, after_entry, after_all}
use Rattle.mz_events.specs.Leaving.{left_by}
use Rattle.mz_events.specs.Standing.{Keeping, Stands}
use Rattle.mz_record.specs.Moments.{state_before, duty_left, first_some}
use Rattle.mz_book.specs.Keepers.{keeper_of, is_among}
use Rattle.mz_book.specs.Account.{Account, state_of, known, holds_spot, entry_at}
use Rattle.mz_book.specs.Calls.{CanNote, Notes, Releases, without}
use Rattle.mz_book.specs.Growth.{Grows, IsSame, is_undisturbed}
use Rattle.mz_rack.specs.BookLaws.{BookLaws}
use Rattle.mz_rack.specs.Ending.{has_blocks}
use Rattle.mz_rack.specs.Flushing.{PushedOut}
use Rattle.mz_rack.specs.FreeStages.{LivesIn, IsLast, HasEnded, IsDenied}
use Rattle.mz_rack.proofs.Steps.{same_number, same_spot_refl, one_spot, held_at, learn_touched, can_note}
use Rattle.mz_rack.proofs.Answered.{MomentLaws, get_at, take_front}
use Rattle.mz_rack.proofs.Undisturbed.{AreIndices, in_front, begun_alone, among_own}

-- what is noted is the last that was seen
pub is_last : (s : Account) (e : Event) (i : ℕ) (t : Account) → Notes s e i t → IsLast t (entry_at i s.caller e)
is_last s e i t h = record { before = s.seen ++ h.others; seen = ap (λ (u : Account). u.seen) h.after }

-- a place in which blocks live has a keeper and isn't the free pages, and its blocks stand at one spot
pub record IsPlain (q : Place) : Type 0 where
  pub not_nano : is_nano q ≡ false
  pub not_pages : is_pages q ≡ false
  pub one_spot : (a : ℕ) → spot_at q a ≡ spot_of q

pub is_plain : (q : Place) → has_blocks q ≡ true → IsPlain q
is_plain Pages h = absurd (false≢true h)
is_plain (Tiny z m) h = record { not_nano = refl; not_pages = refl; one_spot = λ _. refl }
is_plain (TinyDepot z) h = record { not_nano = refl; not_pages = refl; one_spot = λ _. refl }
is_plain (Small z m) h = record { not_nano = refl; not_pages = refl; one_spot = λ _. refl }
is_plain (SmallDepot z) h = record { not_nano = refl; not_pages = refl; one_spot = λ _. refl }
is_plain (Large z) h = record { not_nano = refl; not_pages = refl; one_spot = λ _. refl }
is_plain Nano h = absurd (false≢true h)

-- only large pushes a run out
pub nothing_out : (x : Site) (q : Place) (k : Kept) (is : Kept → Type 0) (got : Option SpanView) → is_large q ≡ false → PushedOut x q k is got → is k
nothing_out x q k is None h y = y.1
nothing_out x q k is (Some s) h y = absurd (false≢true (sym h ∙ y.0))

-- what came out, as it is known later
pub pushed_then : (s t : Account) (q : Place) (k l : Kept) (v : Keeping) (got : Option SpanView) → IsSame s t → l ≡ k → PushedOut s.site q k (Stands v s.site s.profile q) got → PushedOut t.site q l (Stands v t.site t.profile q) got
pushed_then s t q k l v got same e h =
    subst (λ (p : Profile). PushedOut t.site q l (Stands v t.site p q) got) (sym same.profile)
    (subst (λ (x : Site). PushedOut x q l (Stands v x s.profile q) got) (sym same.site) (subst (λ (y : Kept). PushedOut s.site q y (Stands v s.site s.profile q) got) (sym e) h))

-- THE PLACE where a block lives
module _ (L : BookLaws) (s : Account) (q : Place) (b : Block) (l : LivesIn s q b) where
  spot_is : (a : ℕ) → spot_at q a ≡ spot_of q
  spot_is a = (is_plain q l.blocks).one_spot a

  pub plain : is_nano q ≡ false
  plain = (is_plain q l.blocks).not_nano

  here : holds_spot s (spot_of q) ≡ true
  here = L.held s.profile s.held q plain ∙ (ap (λ x. is_among x (keeper_of s.profile q)) l.held ∙ rw (same_number (keeper_of s.profile q)) refl)

  pub can_end : s.caller < s.profile.callers → 1 ≤ s.spare → CanNote s (End q b.first b.size)
  can_end c room =
      let at = sym (spot_is b.first) in
      can_note s (End q b.first b.size) room refl l.in_hand plain
      (λ j y. held_at s j (spot_of q) (one_spot L j (spot_at q b.first) y ∙ spot_is b.first) here)
      (((L.fits s.profile (state_of s) s.caller).ends q b.first b.size).1 (record {
        standing = record { caller = c; exists = l.exists; zone_open = l.zone_open };
        kind = (is_plain q l.blocks).not_pages;
        calm = subst (λ j. (known s j).duty ≡ None) at l.calm;
        live = subst (λ j. has_block (known s j).kept.live b ≡ true) at l.live;
      }))

  pub can_deny : (z : ℕ) → s.caller < s.profile.callers → 1 ≤ s.spare → z < s.profile.zones → is_open (state_of s) z ≡ true → zone_of q ≢ z → CanNote s (No q z b.first b.size)
  can_deny z c room zone opened other =
      let at = sym (spot_is b.first) in
      can_note s (No q z b.first b.size) room refl l.in_hand plain
      (λ j y. held_at s j (spot_of q) (one_spot L j (spot_at q b.first) y ∙ spot_is b.first) here)
      (((L.fits s.profile (state_of s) s.caller).deny q z b.first b.size).1 (record {
        standing = record { caller = c; exists = l.exists; zone_open = l.zone_open };
        kind = (is_plain q l.blocks).not_pages;
        zone = zone;
        zone_open = opened;
        calm = subst (λ j. (known s j).duty ≡ None) at l.calm;
        live = subst (λ j. has_block (known s j).kept.live b ≡ true) at l.live;
        of_another = other;
      }))

  left : (i : ℕ) (t : Account) → Notes s (End q b.first b.size) i t → let now = without_block q b (known s (spot_of q)).kept in known t (spot_of q) ≡ left_by s.caller (End q b.first b.size) now (duty_of_end q now)
  left i t h =
      let e = End q b.first b.size in
      let at = spot_is b.first in
      let found = learn_touched s e i t (spot_at q b.first) h (held_at s (spot_at q b.first) (spot_of q) at here) (rw (same_spot_refl L (spot_at q b.first)) refl) ∙ (L.leaves (state_of s) s.caller).ends q b.first b.size in
      subst (λ j. let now = without_block q b (known s j).kept in known t j ≡ left_by s.caller e now (duty_of_end q now)) at found

  pub has_ended : (i : ℕ) (t : Account) → CanNote s (End q b.first b.size) → Notes s (End q b.first b.size) i t → HasEnded s q b t
  has_ended i t can h = record {
    ticket = i;
    since = L.note s t (End q b.first b.size) i can refl h;
    last = is_last s (End q b.first b.size) i t h;
    held = ap (λ (u : Account). u.held) h.after;
    owes = ap (λ (v : Value). v.duty) (left i t h) ∙ ap (λ (v : Value). duty_of_end q v.kept) (sym (left i t h));
  }

  pub kept_then : (i : ℕ) (t : Account) → Notes s (End q b.first b.size) i t → (known t (spot_of q)).kept ≡ without_block q b (known s (spot_of q)).kept
  kept_then i t h = ap (λ (v : Value). v.kept) (left i t h)

  pub is_denied : (z i k : ℕ) (t u : Account) → k ≡ keeper_of s.profile q → CanNote s (No q z b.first b.size) → Notes s (No q z b.first b.size) i t → Releases t k u → IsDenied s z b i u
  is_denied z i k t u number can h r = record {
    place = q;
    grows = L.release s t u (entry_at i s.caller (No q z b.first b.size) ∷ []) 0 k (L.note s t (No q z b.first b.size) i can refl h).grows r;
    nothing_held =
        ap (λ (v : Account). v.held) r.after ∙ (ap (λ x. without k x) (ap (λ (v : Account). v.held) h.after ∙ (l.held ∙ ap (λ x. x ∷ []) (sym number))) ∙ rw (same_number k) refl);
  }

-- DUTIES
-- the duty that the last entry left is what stands then at what it touched, in each history that goes on
pub duty_then : BookLaws → MomentLaws → (u : Account) (e : Entry) (h later : List Entry) → IsLast u e → AreLawful u.profile opening h → h ≡ u.seen ++ later → duty_left u.profile h e ≡ first_some (map (λ j. (known u j).duty) (touched u.profile e.event))
duty_then L M u e h later last lawful goes =
    let p = u.profile in
    let b = last.before in
    let whole : h ≡ b ++ (e ∷ later) = goes ∙ (ap (λ x. x ++ later) last.seen ∙ append_assoc b (e ∷ []) later) in
    let at : e.ticket ≡ 0 + length b = L.index p opening h lawful (length b) e (ap (λ es. slice_get es (length b)) whole ∙ get_at b e later) in
    let front : take e.ticket h ≡ b = ap (λ k. take k h) (let j : e.ticket ≡ length b = omega arith in j) ∙ (ap (λ es. take (length b) es) whole ∙ take_front b (e ∷ later)) in
    let before : state_before p h e.ticket ≡ after_all p opening b = M.before p h e.ticket lawful ∙ ap (λ es. after_all p opening es) front in
    let now : after_entry p (after_all p opening b) e ≡ state_of u = sym (ap (λ es. after_all p opening es) last.seen ∙ (M.after_joined p opening b (e ∷ []) ∙ M.after_one p (after_all p opening b) e)) in
    ap (λ x. first_some (map (λ j. (value_at x j).duty) (touched p e.event))) (ap (λ x. after_entry p x e) before ∙ now)

same_place_is : BookLaws → (j k : Place) → same_place j k ≡ true → j ≡ k
same_place_is L j k h = ap place_of ((L.spots (keeper_at j) (keeper_at k)).0 h)

-- an event that is a move, or a way back, touches the place from which the region goes
pub move_touches : BookLaws → (p : Profile) (f : ℕ) (a d : Place) (x : Event) → is_that (Move f a d) x ≡ true → touches p x (spot_of a) ≡ true
move_touches L p f a d (Move g y z) h =
    let is = same_place_is L a y (and_parts (f == g) (same_place a y) (and_parts ((f == g) && same_place a y) (same_place d z) h).0).1 in
    or_left (same_spot (spot_of a) (spot_of y)) _ (ap (λ q. same_spot (spot_of a) (spot_of q)) (sym is) ∙ same_spot_refl L (spot_of a))
move_touches L p f a d (Take k g w) h = absurd (false≢true h)
move_touches L p f a d (Back k g w) h = absurd (false≢true h)
move_touches L p f a d (New k g w l) h = absurd (false≢true h)
move_touches L p f a d (End k g w) h = absurd (false≢true h)
move_touches L p f a d (Size k g w l) h = absurd (false≢true h)
move_touches L p f a d (Full k g w) h = absurd (false≢true h)
move_touches L p f a d (Dry k g w) h = absurd (false≢true h)
move_touches L p f a d (No k g w l) h = absurd (false≢true h)
move_touches L p f a d (Open k) h = absurd (false≢true h)
move_touches L p f a d (Shut k) h = absurd (false≢true h)

pub back_touches : BookLaws → (p : Profile) (d : Place) (f w : ℕ) (x : Event) → is_that (Back d f w) x ≡ true → touches p x (spot_of d) ≡ true
back_touches L p d f w (Back y g v) h =
    let is = same_place_is L d y (and_parts (same_place d y) (f == g) (and_parts (same_place d y && (f == g)) (w == v) h).0).0 in
    or_left (same_spot (spot_of d) (spot_of y)) _ (ap (λ q. same_spot (spot_of d) (spot_of q)) (sym is) ∙ same_spot_refl L (spot_of d))
back_touches L p d f w (Take k g v) h = absurd (false≢true h)
back_touches L p d f w (Move k g v) h = absurd (false≢true h)
back_touches L p d f w (New k g v l) h = absurd (false≢true h)
back_touches L p d f w (End k g v) h = absurd (false≢true h)
back_touches L p d f w (Size k g v l) h = absurd (false≢true h)
back_touches L p d f w (Full k g v) h = absurd (false≢true h)
back_touches L p d f w (Dry k g v) h = absurd (false≢true h)
back_touches L p d f w (No k g v l) h = absurd (false≢true h)
back_touches L p d f w (Open k) h = absurd (false≢true h)
back_touches L p d f w (Shut k) h = absurd (false≢true h)

pub spot_is_keeper : (q : Place) → is_nano q ≡ false → spot_of q ≡ keeper_at q
spot_is_keeper Pages h = refl
spot_is_keeper (Tiny z m) h = refl
spot_is_keeper (TinyDepot z) h = refl
spot_is_keeper (Small z m) h = refl
spot_is_keeper (SmallDepot z) h = refl
spot_is_keeper (Large z) h = refl
spot_is_keeper Nano h = absurd (false≢true (sym h))

first_or_rest : (d : Entry) (rest : List Entry) (x : Entry) → Contains (d ∷ rest) x → (d ≡ x) ⊎ Contains rest x
first_or_rest d rest x (zero, l, is) = inl is
first_or_rest d rest x (suc k, l, is) = inr (k, omega arith, is)

one_of_all : (P : Entry → Type 0) (es : List Entry) (x : Entry) → All P es → Contains es x → P x
one_of_all P es x each (k, l, is) = subst P is (each k x l)

-- The duty of the last entry is met by the first entry that comes of its caller's, since the place where it stood is held: nobody
-- else can have met it in between.
pub met_first : BookLaws → (u y : Account) (e d : Entry) (rest : List Entry) (n : ℕ) (q : Place) → IsLast u e → AreLawful y.profile opening y.seen → Grows u (d ∷ rest) n y → is_nano q ≡ false → holds_spot u (spot_of q) ≡ true
    → ((x : Event) → is_that d.event x ≡ true → touches u.profile x (spot_of q) ≡ true) → All (λ x. is_that d.event x.event ≡ false) rest
    → (x : Entry) → Contains y.seen x → e.ticket < x.ticket → x.ticket < d.ticket → not (is_that d.event x.event) ≡ true
met_first L u y e d rest n q last lawful g no_nano held touch other x there after before =
    elim (cases_Bool (is_that d.event x.event)) [
      | inr isnt ↦ ap not isnt
      | inl is_it ↦
          let more = g.adds.more in
          let p = y.profile in
          let c = u.caller in
          let all : AreIndices 0 (u.seen ++ more) = subst (λ h. AreIndices 0 h) g.adds.seen (λ k z at. L.index p opening y.seen lawful k z at) in
          let spot = spot_is_keeper q no_nano in
          let begun : holds_spot u (keeper_at q) ≡ true = subst (λ j. holds_spot u j ≡ true) spot held in
          let touched_it : touches u.profile x.event (keeper_at q) ≡ true = subst (λ j. touches u.profile x.event j ≡ true) spot (touch x.event is_it) in
          ⊎_elim
          (λ (f : Contains u.seen x).
          let low = in_front 0 u.seen more x all f in
          let count : length u.seen ≡ length last.before + 1 = ap length last.seen ∙ count_last last.before e in
          let first : e.ticket ≡ 0 + length last.before = all (length last.before) e (ap (λ es. slice_get (es ++ more) (length last.before)) last.seen ∙ (ap (λ es. slice_get es (length last.before)) (append_assoc last.before (e ∷ []) more) ∙ get_at last.before e more)) in
          absurd (omega (arith, low, count, first, after)))
          (λ (f : Contains more x).
          let mine = begun_alone u.profile c (keeper_at q) more x (subst (λ b. is_undisturbed u.profile c (keeper_at q) b more ≡ true) begun (g.undisturbed q)) f touched_it in
          let among = subst (λ es. Contains es x) g.adds.own_is (among_own c more x f (ap (λ a. a == c) mine ∙ same_number c)) in
          ⊎_elim
          (λ (is : d ≡ x). let t = ap (λ (z : Entry). z.ticket) is in absurd (omega (arith, t, before)))
          (λ (r : Contains rest x). absurd (false≢true (sym (one_of_all (λ z. is_that d.event z.event ≡ false) rest x other r) ∙ is_it)))
          (first_or_rest d rest x among))
          (Contains-append_cases u.seen more x (subst (λ h. Contains h x) g.adds.seen there))
    ]
  where
    count_last : (xs : List Entry) (z : Entry) → length (xs ++ z ∷ []) ≡ length xs + 1
    count_last [] z = refl
    count_last (a ∷ xs) z = let r = count_last xs z in omega (arith, r)
