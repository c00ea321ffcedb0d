-- What each step tells the seat that makes it.
use Rattle.std.specs.Prelude.{◌≡◌, ◌≢◌, ℕ, ◌+◌, ◌-◌, ◌*◌, ◌<◌, ◌≤◌, ◌^◌, List, [], ◌∷◌, ◌++◌, length, Option, Some, None}
use Rattle.atomic_table.specs.Table.{Step, Me, rest}
use Rattle.mz_ground.specs.Views.{SpanView}
use Rattle.mz_nanoword.specs.Words.{word_of}
use Rattle.mz_nano.specs.declared.view.Geometry.{Geometry}
use Rattle.mz_nano.specs.declared.view.Known.{Known}
use Rattle.mz_nano.specs.declared.view.KnownLink.{KnownLink}
use Rattle.mz_nano.specs.declared.view.Load.{Load}
use Rattle.mz_nano.specs.declared.view.Win.{Win}
use Rattle.mz_nano.specs.declared.view.Clash.{Clash}
use Rattle.mz_nano.specs.declared.view.View.{View}
use Rattle.mz_nano.specs.Lists.{In, without}
use Rattle.mz_nano.specs.Rule.{KnownKeeps, Once, IsPiece, IsReady, slots, fresh_link, held, vacant, known, known_link, stored, claim}

abbrev pub Standing : Type 0
Standing = Me (Option SpanView) View

abbrev pub load : ℕ → ℕ → Load
load i n = record { word = i; found = n }

abbrev pub win : ℕ → ℕ → ℕ → Win
win i x n = record { word = i; from = x; to = n }

abbrev pub clash : ℕ → ℕ → ℕ → Clash
clash i x n = record { word = i; expected = x; found = n }

abbrev pub word_loaded : View → ℕ → ℕ → View
word_loaded v b n = record v { loads = load b n ∷ v.loads; known = known b n ∷ v.known }

abbrev pub first_links_of : List Known → ℕ → List KnownLink
first_links_of [] n = []
first_links_of (x ∷ xs) n = known_link x.block x.word n ∷ []

abbrev pub link_loaded : View → ℕ → ℕ → View
link_loaded v i n = record v { loads = load i n ∷ v.loads; first_links = first_links_of v.known n ++ v.first_links }

abbrev pub clash_noted : View → ℕ → ℕ → ℕ → View
clash_noted v i x n = record v { clashes = clash i x n ∷ v.clashes }

abbrev pub popped : View → ℕ → ℕ → ℕ → ℕ → ℕ → View
popped v b j c old new = record v { hand = held b j c ∷ v.hand; vacant = vacant b j ∷ []; stored = []; wins = win b old new ∷ v.wins }

abbrev pub place_given : View → ℕ → ℕ → View
place_given v b n = record v { loads = load b n ∷ v.loads; known = known b n ∷ v.known; vacant = [] }

abbrev pub link_stored : View → ℕ → ℕ → ℕ → View
link_stored v b j n = record v { vacant = vacant b j ∷ []; stored = stored b j n ∷ [] }

abbrev pub pushed : View → ℕ → ℕ → ℕ → ℕ → View
pushed v b j old new = record v { hand = without b j v.hand; vacant = []; stored = []; wins = win b old new ∷ v.wins }

abbrev pub block_claimed : View → ℕ → ℕ → ℕ → ℕ → View
block_claimed v b c old new = record v { claim = claim b c 0 ∷ []; claimed = b ∷ v.claimed; vacant = vacant b 0 ∷ []; stored = []; wins = win b old new ∷ v.wins }

abbrev pub slot_cut : View → ℕ → ℕ → ℕ → View
slot_cut v b c k = record v { claim = claim b c (k + 1) ∷ []; vacant = vacant b (k + 1) ∷ []; stored = [] }

abbrev pub made_ready : View → ℕ → ℕ → ℕ → View
made_ready v b c w = record v { claim = []; vacant = []; stored = []; known = known b w ∷ v.known; first_links = known_link b w (fresh_link c 0) ∷ v.first_links }

-- what holds of each word of a block
pub record IsSound (geometry : Geometry) (n : ℕ) : Type 0 where
  pub small : n < 2 ^ 63
  pub gen : (word_of n).generation ≤ geometry.most_gen
  pub state : (word_of n).state ≤ 17
  pub zero : (word_of n).state ≡ 0 → n ≡ 0
  pub free : IsReady (word_of n) → (word_of n).free ≤ 1024
  pub next : IsReady (word_of n) → (word_of n).next ≤ 1024
  pub first : IsReady (word_of n) → 1 ≤ (word_of n).free → (1 ≤ (word_of n).next) × ((word_of n).next ≤ 1024)

pub record LoadsBlock (st : Step (Option SpanView)) (me : Standing) (n : ℕ) (me' : Standing) : Type 0 where
  pub view : me'.0 ≡ word_loaded me.0 st.word n
  pub carried : me'.1 ≡ me.1
  pub sound : IsSound me.0.geometry n
  pub mine : (j c : ℕ) → In (held st.word j c) me.0.hand → ((word_of n).state ≡ c) × IsReady (word_of n)
  pub once : Once me.0.hand
  pub room : length me.0.hand ≤ me.0.geometry.blocks * 1024

pub record GivesPlace (st : Step (Option SpanView)) (me : Standing) (n : ℕ) (me' : Standing) : Type 0 where
  pub view : me'.0 ≡ place_given me.0 st.word n
  pub carried : me'.1 ≡ rest me.1

pub record LoadsLink (st : Step (Option SpanView)) (me : Standing) (n : ℕ) (me' : Standing) : Type 0 where
  pub view : me'.0 ≡ link_loaded me.0 st.word n
  pub carried : me'.1 ≡ me.1
  pub small : n ≤ 1024

-- the place is taken, with a span that is this piece of the block
pub record TakesPlace (me : Standing) (b j at n : ℕ) (v : View) (me' : Standing) : Type 0 where
  pub span : SpanView
  pub view : me'.0 ≡ v
  pub carried : me'.1 ≡ (b * 1025 + j, Some span) ∷ me.1
  pub piece : IsPiece me.0.geometry b at n span

abbrev pub slot_of : ℕ → ℕ
slot_of w = (word_of w).next - 1

pub record PopsSlot (st : Step (Option SpanView)) (me : Standing) (n : ℕ) (me' : Standing) : Type 0 where
  pub hit : n ≡ st.first → TakesPlace me st.word (slot_of st.first) (16 * (word_of st.first).state * slot_of st.first) (16 * (word_of st.first).state) (popped me.0 st.word (slot_of st.first) (word_of st.first).state st.first st.second) me'
  pub inside : n ≡ st.first → slot_of st.first < slots (word_of st.first).state
  pub fresh : n ≡ st.first → (c : ℕ) → In (held st.word (slot_of st.first) c) me.0.hand → ⊥
  pub knows : KnownKeeps me.0.geometry.most_gen (word_of n) (word_of st.first)
  pub room : length me.0.hand ≤ me.0.geometry.blocks * 1024
  pub miss : n ≢ st.first → me' ≡ (clash_noted me.0 st.word st.first n, me.1)

pub record StoresLink (st : Step (Option SpanView)) (me : Standing) (n : ℕ) (me' : Standing) : Type 0 where
  pub is : (b j : ℕ) → st.word ≡ me.0.geometry.blocks + b * 1024 + j → j < 1024 → me' ≡ (link_stored me.0 b j n, (b * 1025 + j, None) ∷ me.1)

pub record PushesSlot (st : Step (Option SpanView)) (me : Standing) (n : ℕ) (me' : Standing) : Type 0 where
  pub hit : n ≡ st.first → me' ≡ (pushed me.0 st.word (slot_of st.second) st.first st.second, rest me.1)
  pub count : (c : ℕ) → In (held st.word (slot_of st.second) c) me.0.hand → length (without st.word (slot_of st.second) me.0.hand) + 1 ≡ length me.0.hand
  pub miss : n ≢ st.first → me' ≡ (clash_noted me.0 st.word st.first n, me.1)

-- the claimed word has the class in the place of the first slot
pub record ClaimsBlock (st : Step (Option SpanView)) (me : Standing) (n : ℕ) (me' : Standing) : Type 0 where
  pub hit : n ≡ st.first → TakesPlace me st.word 0 0 16384 (block_claimed me.0 st.word (word_of st.second).next st.first st.second) me'
  pub miss : n ≢ st.first → me' ≡ (clash_noted me.0 st.word st.first n, me.1)

pub record CutsSlot (st : Step (Option SpanView)) (me : Standing) (n : ℕ) (me' : Standing) : Type 0 where
  pub is : (b c k : ℕ) → me.0.claim ≡ claim b c k ∷ [] → me' ≡ (slot_cut me.0 b c k, (b * 1025 + (k + 1), None) ∷ rest me.1)

pub record MakesReady (st : Step (Option SpanView)) (me : Standing) (n : ℕ) (me' : Standing) : Type 0 where
  pub view : me'.0 ≡ made_ready me.0 st.word (word_of n).state n
  pub carried : me'.1 ≡ rest me.1
