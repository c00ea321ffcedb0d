-- What a request gets is the block that its entries make: no duty makes one.
use Rattle.std.proofs.Common.{◌≡◌, ℕ, true, List, [], ◌∷◌, ◌++◌, Option, Some, None, map, ap, sym, refl, ◌∙◌, append_assoc}
use Rattle.std.specs.Prelude.{is_none}
use Rattle.std.specs.List.{list_all, flat_map}
use Rattle.std.specs.Option.{option_to_list}
use Rattle.std.proofs.lemmas.Bool.{and_parts, false≢true}
use Rattle.mz_base.specs.declared.profile.Profile.{Profile}
use Rattle.mz_base.specs.Space.{Block}
use Rattle.mz_base.specs.Sizes.{units_of}
use Rattle.mz_events.specs.declared.event.Event.{Event}
use Rattle.mz_events.specs.declared.event.Event.TheVariants.{Take, Back, Move, New, End, Size, Full, Dry, No, Open, Shut}
use Rattle.mz_events.specs.declared.entry.Entry.{Entry}
use Rattle.mz_record.specs.Served.{Request, events, AreFlushes, IsServed, by_nano, by_magazine, by_depot, by_fresh_region, null_in_range, by_cache, by_fresh_run, null_in_large, block_made, first_made, blocks_made}
use Rattle.mz_record.specs.Moments.{first_some, MeetDuties}
use Rattle.mz_record.specs.Dropped.{IsDropped}
use Rattle.mz_record.proofs.DutyLemmas.{changes_no_block, LeavesThere, meets_and_changes_none}

-- an event that changes no block makes none
makes_none : (e : Event) → changes_no_block e ≡ true → block_made e ≡ None
makes_none (New k a n al) only = absurd (false≢true only)
makes_none (End k a n) only = refl
makes_none (Size k a n m) only = absurd (false≢true only)
makes_none (Take k f w) only = refl
makes_none (Back k f w) only = refl
makes_none (Move f from to) only = refl
makes_none (Full k n al) only = refl
makes_none (Dry z w al) only = refl
makes_none (No k z a n) only = refl
makes_none (Open z) only = refl
makes_none (Shut z) only = refl

-- the first block made by entries is the same behind flushes
behind_flushes : LeavesThere → (p : Profile) (h : List Entry) (z w al : ℕ) (fs es : List Entry) → AreFlushes p h z w al fs → first_made (fs ++ es) ≡ first_made es
behind_flushes laws p h z w al [] es between = refl
behind_flushes laws p h z w al (d ∷ []) es between = absurd between
behind_flushes laws p h z w al (d ∷ b ∷ fs) es between =
    rw (between.0, makes_none b.event (meets_and_changes_none laws p h d b between.1.duty)) (behind_flushes laws p h z w al fs es between.2)

-- the first block of events
abbrev made_of : List Event → Option Block
made_of es = first_some (map block_made es)

first_of_events : (es : List Entry) → first_made es ≡ made_of (events es)
first_of_events es = ap first_some (map_twice es)
  where
    map_twice : (ds : List Entry) → map (λ (e : Entry). block_made e.event) ds ≡ map block_made (events ds)
    map_twice [] = refl
    map_twice (d ∷ ds) = ap (λ os. block_made d.event ∷ os) (map_twice ds)

-- behind events that make none, the first block is that of the others
behind_none : (front back : List Entry) → list_all (λ e. is_none (block_made e)) (events front) ≡ true → first_made (front ++ back) ≡ first_made back
behind_none [] back none = refl
behind_none (e ∷ es) back none =
    let parts = and_parts (is_none (block_made e.event)) (list_all (λ d. is_none (block_made d)) (events es)) none in
    skip (block_made e.event) (map (λ (d : Entry). block_made d.event) (es ++ back)) parts.0 ∙ behind_none es back parts.1
  where
    skip : (o : Option Block) (os : List (Option Block)) → is_none o ≡ true → first_some (o ∷ os) ≡ first_some os
    skip None os is = refl
    skip (Some b) os is = absurd (false≢true is)

pub is_made : LeavesThere → (p : Profile) (h : List Entry) (q : Request) (es : List Entry) (got : Option Block) → IsServed p h q es got → got ≡ first_made es
is_made laws p h q es got (by_nano a zone some few align all is) = is ∙ sym (first_of_events es ∙ ap made_of all)
is_made laws p h q es got (by_magazine r a here all is) = is ∙ sym (first_of_events es ∙ ap made_of all)
is_made laws p h q es got (by_depot r a f here all is) = is ∙ sym (first_of_events es ∙ ap made_of all)
is_made laws p h q es got (by_fresh_region r a f front flushes back here whole full between all is) =
    is ∙ sym (ap first_made whole ∙ ap first_made (append_assoc front flushes back)
    ∙ behind_none front (flushes ++ back) (ap (λ xs. list_all (λ e. is_none (block_made e)) xs) full)
    ∙ behind_flushes laws p h q.zone r.pages r.pages flushes back between ∙ first_of_events back ∙ ap made_of all)
is_made laws p h q es got (null_in_range r front flushes last here whole full between dry is) =
    is ∙ sym (ap first_made whole ∙ ap first_made (append_assoc front flushes (last ∷ []))
    ∙ behind_none front (flushes ++ last ∷ []) (ap (λ xs. list_all (λ e. is_none (block_made e)) xs) full)
    ∙ behind_flushes laws p h q.zone r.pages r.pages flushes (last ∷ []) between ∙ ap (λ (e : Event). made_of (e ∷ [])) dry.event)
is_made laws p h q es got (by_cache e a s many whole all best is) = is ∙ sym (ap first_made whole ∙ ap (λ (d : Event). made_of (d ∷ [])) all)
is_made laws p h q es got (by_fresh_run f first flushes back many whole full between all is) =
    is ∙ sym (ap first_made whole ∙ behind_none (first ∷ []) (flushes ++ back) (ap (λ (d : Event). list_all (λ e. is_none (block_made e)) (d ∷ [])) full)
    ∙ behind_flushes laws p h q.zone (units_of q.bytes) 1 flushes back between ∙ first_of_events back ∙ ap made_of all)
is_made laws p h q es got (null_in_large first last flushes many whole full between dry is) =
    is ∙ sym (ap first_made whole ∙ behind_none (first ∷ []) (flushes ++ last ∷ []) (ap (λ (d : Event). list_all (λ e. is_none (block_made e)) (d ∷ [])) full)
    ∙ behind_flushes laws p h q.zone (units_of q.bytes) 1 flushes (last ∷ []) between ∙ ap (λ (e : Event). made_of (e ∷ [])) dry.event)

-- all blocks of events
abbrev blocks_of : List Event → List Block
blocks_of es = flat_map (λ e. option_to_list (block_made e)) es

by_events : (es : List Entry) → blocks_made es ≡ blocks_of (events es)
by_events [] = refl
by_events (e ∷ es) = ap (λ bs. option_to_list (block_made e.event) ++ bs) (by_events es)

made_by_both : (xs ys : List Entry) → blocks_made (xs ++ ys) ≡ blocks_made xs ++ blocks_made ys
made_by_both [] ys = refl
made_by_both (x ∷ xs) ys =
    ap (λ bs. option_to_list (block_made x.event) ++ bs) (made_by_both xs ys)
    ∙ sym (append_assoc (option_to_list (block_made x.event)) (blocks_made xs) (blocks_made ys))

flushes_make_none : LeavesThere → (p : Profile) (h : List Entry) (z w al : ℕ) (fs : List Entry) → AreFlushes p h z w al fs → blocks_made fs ≡ []
flushes_make_none laws p h z w al [] between = refl
flushes_make_none laws p h z w al (d ∷ []) between = absurd between
flushes_make_none laws p h z w al (d ∷ b ∷ fs) between =
    rw (between.0, makes_none b.event (meets_and_changes_none laws p h d b between.1.duty)) (flushes_make_none laws p h z w al fs between.2)

duties_make_none : LeavesThere → (p : Profile) (h : List Entry) (e : Entry) (ds : List Entry) → MeetDuties p h e ds → blocks_made ds ≡ []
duties_make_none laws p h e [] met = refl
duties_make_none laws p h e (d ∷ ds) met =
    rw (makes_none d.event (meets_and_changes_none laws p h e d met.0.duty)) (duties_make_none laws p h d ds met.1)

-- where those in front make none
those_behind : (front flushes back : List Entry) → blocks_made front ≡ [] → blocks_made flushes ≡ [] → blocks_made (front ++ (flushes ++ back)) ≡ blocks_made back
those_behind front flushes back none between =
    made_by_both front (flushes ++ back)
    ∙ (ap (λ bs. bs ++ blocks_made (flushes ++ back)) none ∙ (made_by_both flushes back ∙ ap (λ bs. bs ++ blocks_made back) between))

pub served_blocks : LeavesThere → (p : Profile) (h : List Entry) (q : Request) (es : List Entry) (got : Option Block) → IsServed p h q es got → blocks_made es ≡ option_to_list got
served_blocks laws p h q es got (by_nano a zone some few align all is) = by_events es ∙ ap blocks_of all ∙ ap option_to_list (sym is)
served_blocks laws p h q es got (by_magazine r a here all is) = by_events es ∙ ap blocks_of all ∙ ap option_to_list (sym is)
served_blocks laws p h q es got (by_depot r a f here all is) = by_events es ∙ ap blocks_of all ∙ ap option_to_list (sym is)
served_blocks laws p h q es got (by_fresh_region r a f front flushes back here whole full between all is) =
    ap blocks_made (whole ∙ append_assoc front flushes back)
    ∙ those_behind front flushes back (by_events front ∙ ap blocks_of full) (flushes_make_none laws p h q.zone r.pages r.pages flushes between)
    ∙ (by_events back ∙ ap blocks_of all) ∙ ap option_to_list (sym is)
served_blocks laws p h q es got (null_in_range r front flushes last here whole full between dry is) =
    ap blocks_made (whole ∙ append_assoc front flushes (last ∷ []))
    ∙ those_behind front flushes (last ∷ []) (by_events front ∙ ap blocks_of full) (flushes_make_none laws p h q.zone r.pages r.pages flushes between)
    ∙ ap (λ (d : Event). blocks_of (d ∷ [])) dry.event ∙ ap option_to_list (sym is)
served_blocks laws p h q es got (by_cache e a s many whole all best is) =
    ap blocks_made whole ∙ ap (λ (d : Event). blocks_of (d ∷ [])) all ∙ ap option_to_list (sym is)
served_blocks laws p h q es got (by_fresh_run f first flushes back many whole full between all is) =
    ap blocks_made whole
    ∙ those_behind (first ∷ []) flushes back (ap (λ (d : Event). blocks_of (d ∷ [])) full) (flushes_make_none laws p h q.zone (units_of q.bytes) 1 flushes between)
    ∙ (by_events back ∙ ap blocks_of all) ∙ ap option_to_list (sym is)
served_blocks laws p h q es got (null_in_large first last flushes many whole full between dry is) =
    ap blocks_made whole
    ∙ those_behind (first ∷ []) flushes (last ∷ []) (ap (λ (d : Event). blocks_of (d ∷ [])) full) (flushes_make_none laws p h q.zone (units_of q.bytes) 1 flushes between)
    ∙ ap (λ (d : Event). blocks_of (d ∷ [])) dry.event ∙ ap option_to_list (sym is)

pub dropped_blocks : LeavesThere → (p : Profile) (h : List Entry) (b : Block) (es : List Entry) → IsDropped p h b es → blocks_made es ≡ []
dropped_blocks laws p h b [] is = absurd is
dropped_blocks laws p h b (e ∷ es) is = rw is.1 (duties_make_none laws p h e es is.2)
