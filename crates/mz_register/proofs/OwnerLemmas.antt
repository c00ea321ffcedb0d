-- Owners and zones after entries of callers.
use Rattle.std.proofs.Common.{◌≡◌, ℕ, ◌<◌, Bool, true, false, not, List, [], ◌∷◌, ◌++◌, map, subst, refl, ◌∙◌, if◌then◌else◌}
use Rattle.std.specs.List.{All}
use Rattle.std.proofs.lemmas.List.Elements.{All-nil, All-cons, All-head, All-tail, All-append, All-filter}
use Rattle.mz_base.specs.declared.profile.Profile.{Profile}
use Rattle.mz_base.specs.Space.{Block, block_at}
use Rattle.mz_events.specs.declared.entry.Entry.{Entry}
use Rattle.mz_events.specs.declared.event.Event.{Event}
use Rattle.mz_events.specs.declared.event.Event.TheVariants.{Take, Back, Move, New, End, Size, Full, Dry, No, Open, Shut}
use Rattle.mz_events.specs.State.{State, is_open}
use Rattle.mz_events.specs.Effect.{after}
use Rattle.mz_events.specs.History.{after_entry, after_all}
use Rattle.mz_events.specs.Holding.{changes_zones}
use Rattle.mz_book.specs.declared.pair.Pair.{Pair}
use Rattle.mz_book.specs.Pairs.{pair_at, is_pair, resized_pair, pairs_after}
use Rattle.mz_book.specs.Handed.{pairs_since}

-- whose pairs there are

resized_by : (n m : ℕ) (h : Pair) (b : Bool) → h.caller < n → (if b then pair_at h.caller h.first m else h).caller < n
resized_by n m h true l = l
resized_by n m h false l = l

resized_all : (n c m : ℕ) (b : Block) (pairs : List Pair) → All (λ h. h.caller < n) pairs → All (λ h. h.caller < n) (map (resized_pair c b m) pairs)
resized_all n c m b [] a = All-nil (λ (h : Pair). h.caller < n)
resized_all n c m b (h ∷ hs) a = All-cons (λ (g : Pair). g.caller < n) (resized_pair c b m h) (map (resized_pair c b m) hs)
    (resized_by n m h (is_pair c b h) (All-head (λ (g : Pair). g.caller < n) h hs a))
    (resized_all n c m b hs (All-tail (λ (g : Pair). g.caller < n) h hs a))

owners_then : (n c : ℕ) (pairs : List Pair) (e : Event) → c < n → All (λ h. h.caller < n) pairs → All (λ h. h.caller < n) (pairs_after c pairs e)
owners_then n c pairs (New k a m al) l h = All-append (λ (g : Pair). g.caller < n) pairs (pair_at c a m ∷ []) h (All-cons (λ (g : Pair). g.caller < n) (pair_at c a m) [] l (All-nil (λ (g : Pair). g.caller < n)))
owners_then n c pairs (End k a m) l h = All-filter (λ (g : Pair). not (is_pair c (block_at a m) g)) (λ (g : Pair). g.caller < n) pairs h
owners_then n c pairs (Size k a m q) l h = resized_all n c q (block_at a m) pairs h
owners_then n c pairs (Take k f w) l h = h
owners_then n c pairs (Back k f w) l h = h
owners_then n c pairs (Move f from to) l h = h
owners_then n c pairs (Full k m al) l h = h
owners_then n c pairs (Dry z w al) l h = h
owners_then n c pairs (No k z a m) l h = h
owners_then n c pairs (Open z) l h = h
owners_then n c pairs (Shut z) l h = h

pub owners_since : (n : ℕ) (pairs : List Pair) (es : List Entry) → All (λ h. h.caller < n) pairs → All (λ e. e.caller < n) es → All (λ h. h.caller < n) (pairs_since pairs es)
owners_since n pairs [] h b = h
owners_since n pairs (e ∷ es) h b = owners_since n (pairs_after e.caller pairs e.event) es
    (owners_then n e.caller pairs e.event (All-head (λ (d : Entry). d.caller < n) e es b) h)
    (All-tail (λ (d : Entry). d.caller < n) e es b)

-- which zones are open

pub zones_since : ((p : Profile) (s : State) (c : ℕ) (e : Event) → changes_zones e ≡ false → (z : ℕ) → is_open (after p s c e) z ≡ is_open s z)
    → (p : Profile) (s : State) (es : List Entry) → All (λ e. changes_zones e.event ≡ false) es → (z : ℕ) → is_open (after_all p s es) z ≡ is_open s z
unfolding after_all
zones_since law p s [] h z = refl
zones_since law p s (e ∷ es) h z = zones_since law p (after_entry p s e) es (All-tail (λ (d : Entry). changes_zones d.event ≡ false) e es h) z
    ∙ law p s e.caller e.event (All-head (λ (d : Entry). changes_zones d.event ≡ false) e es h) z
