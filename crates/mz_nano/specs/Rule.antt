-- The nano rule: what holds of the words, links, places and views of a nano between any two steps. This project's own.
use Rattle.std.specs.Prelude.{◌≡◌, ◌≢◌, ℕ, ◌+◌, ◌-◌, ◌*◌, ◌/◌, ◌<◌, ◌≤◌, ◌⊎◌, true, nat_lt, if◌then◌else◌, List, [], ◌∷◌, length, slice_index, Option, Some, None}
use mathlib.Core.Option as m
use lib.ListN.{get_elem?}
use Rattle.atomic_table.specs.Table.{State}
use Rattle.mz_ground.specs.Views.{SpanView}
use Rattle.mz_nanoword.specs.declared.word.NanoWord.{NanoWord}
use Rattle.mz_nanoword.specs.Words.{word_of}
use Rattle.mz_nano.specs.declared.view.Geometry.{Geometry}
use Rattle.mz_nano.specs.declared.view.Held.{Held}
use Rattle.mz_nano.specs.declared.view.Vacant.{Vacant}
use Rattle.mz_nano.specs.declared.view.Known.{Known}
use Rattle.mz_nano.specs.declared.view.KnownLink.{KnownLink}
use Rattle.mz_nano.specs.declared.view.StoredLink.{StoredLink}
use Rattle.mz_nano.specs.declared.view.Claim.{Claim}
use Rattle.mz_nano.specs.declared.view.View.{View}
use Rattle.mz_nano.specs.Lists.{In, Distinct, Chain}

abbrev pub World : Type 0
World = State (Option SpanView) View

-- what a place of the table is seen to have
abbrev pub Home : Type 0
Home = m.Option (m.Option (Option SpanView))

-- a block of the table
pub record Block : Type 0 where
  pub word : NanoWord
  pub links : ℕ → ℕ
  pub homes : ℕ → Home
  pub who : ℕ → ℕ

abbrev pub link_at : ℕ → List ℕ → ℕ → ℕ → ℕ
link_at blocks words b j = if nat_lt j 1024 then slice_index words (blocks + b * 1024 + j) else 0

abbrev pub home_at : List (m.Option (Option SpanView)) → ℕ → ℕ → Home
home_at homes b j = if nat_lt j 1025 then get_elem? homes (b * 1025 + j) else m.none

abbrev pub block_of : Geometry → List ℕ → List (m.Option (Option SpanView)) → (ℕ → ℕ → ℕ) → ℕ → Block
block_of key words homes who b = record { word = word_of (slice_index words b); links = link_at key.blocks words b; homes = home_at homes b; who = who b }

-- how many slots of the class c a page has
unfoldable pub slots : ℕ → ℕ
slots c = 1024 / c

-- the n bytes of the block's page from `at` on
pub record IsPiece (key : Geometry) (b at n : ℕ) (s : SpanView) : Type 0 where
  pub space : s.space ≡ key.edge.space
  pub first : s.first ≡ key.edge.first + b * 16384 + at
  pub len : length s.bytes ≡ n

abbrev pub HasPiece : Geometry → ℕ → ℕ → ℕ → Home → Type 0
HasPiece key b at n h = (s : SpanView) × (h ≡ m.some (m.some (Some s))) × IsPiece key b at n s

abbrev pub IsBare : Home → Type 0
IsBare h = h ≡ m.some (m.some None)

-- the slot j of the class c
abbrev pub HasSlot : Geometry → ℕ → ℕ → ℕ → Home → Type 0
HasSlot key b c j h = HasPiece key b (16 * c * j) (16 * c) h

-- what no slot of the class c has
abbrev pub HasRest : Geometry → ℕ → ℕ → Home → Type 0
HasRest key b c h = HasPiece key b (16 * c * slots c) (16384 - 16 * c * slots c) h

pub record Unassigned (key : Geometry) (b : ℕ) (z : Block) : Type 0 where
  pub word : z.word ≡ word_of 0
  pub who : (j : ℕ) → z.who j ≡ 0
  pub page : HasPiece key b 0 16384 (z.homes 0)
  pub bare : (j : ℕ) → 1 ≤ j → j ≤ 1024 → IsBare (z.homes j)

pub record BeingClaimed (z : Block) : Type 0 where
  pub state : z.word.state ≡ 17
  pub by : ℕ
  pub who : (j : ℕ) → z.who j ≡ by + 1

pub record Ready (key : Geometry) (b : ℕ) (z : Block) : Type 0 where
  pub least : 1 ≤ z.word.state
  pub most : z.word.state ≤ 16
  pub chain : List ℕ
  pub links : Chain z.links z.word.next chain
  pub free : z.word.free ≡ length chain
  pub distinct : Distinct chain
  pub inside : (j : ℕ) → z.who j ≢ 0 → j < slots z.word.state
  pub here : (j : ℕ) → In j chain → (j < slots z.word.state) × (z.who j ≡ 0) × HasSlot key b z.word.state j (z.homes j)
  pub full : (j : ℕ) → j < slots z.word.state → z.who j ≡ 0 → In j chain
  pub rest : HasRest key b z.word.state (z.homes (slots z.word.state))

pub record BlockKeeps (key : Geometry) (b : ℕ) (z : Block) : Type 0 where
  pub gen : z.word.generation ≤ key.most_gen
  pub small : (j : ℕ) → z.links j ≤ 1024
  pub kind : Unassigned key b z ⊎ (BeingClaimed z ⊎ Ready key b z)

abbrev pub IsReady : NanoWord → Type 0
IsReady y = (1 ≤ y.state) × (y.state ≤ 16)

-- of the present word x and the known word y
pub record KnownKeeps (G : ℕ) (x y : NanoWord) : Type 0 where
  pub older : y.generation ≤ x.generation
  pub class_ : IsReady y → x.state ≡ y.state
  pub same : IsReady y → y.generation ≡ x.generation → y.generation < G → x ≡ y

pub record FirstLinkKeeps (G : ℕ) (z : Block) (y : NanoWord) (l : ℕ) : Type 0 where
  pub known : KnownKeeps G z.word y
  pub link : IsReady y → 1 ≤ y.next → y.generation ≡ z.word.generation → y.generation < G → z.links (y.next - 1) ≡ l

abbrev pub fresh_link : ℕ → ℕ → ℕ
fresh_link c j = if nat_lt (j + 1) (slots c) then j + 2 else 0

pub record ClaimKeeps (key : Geometry) (i b c k : ℕ) (z : Block) : Type 0 where
  pub state : z.word.state ≡ 17
  pub gen : z.word.generation ≡ 0
  pub least : 1 ≤ c
  pub most : c ≤ 16
  pub cut : k ≤ slots c
  pub who : (j : ℕ) → z.who j ≡ i + 1
  pub done : (j : ℕ) → j < k → (z.links j ≡ fresh_link c j) × HasSlot key b c j (z.homes j)
  pub bare : (j : ℕ) → k < j → j ≤ 1024 → IsBare (z.homes j)

abbrev pub held : ℕ → ℕ → ℕ → Held
held b j c = record { block = b; slot = j; class = c }

abbrev pub vacant : ℕ → ℕ → Vacant
vacant b j = record { block = b; slot = j }

abbrev pub known : ℕ → ℕ → Known
known b w = record { block = b; word = w }

abbrev pub known_link : ℕ → ℕ → ℕ → KnownLink
known_link b w l = record { block = b; word = w; link = l }

abbrev pub stored : ℕ → ℕ → ℕ → StoredLink
stored b j l = record { block = b; slot = j; link = l }

abbrev pub claim : ℕ → ℕ → ℕ → Claim
claim b c k = record { block = b; class = c; cut = k }

pub record HandKeeps (i : ℕ) (outs : List Vacant) (b j c : ℕ) (z : Block) : Type 0 where
  pub who : z.who j ≡ i + 1
  pub state : z.word.state ≡ c
  pub ready : IsReady z.word
  pub bare : (In (vacant b j) outs → ⊥) → IsBare (z.homes j)

-- no slot is there twice
abbrev pub Once : List Held → Type 0
Once [] = Unit {0}
Once (h ∷ hs) = ((c : ℕ) → In (held h.block h.slot c) hs → ⊥) × Once hs

-- what holds of the block b and the view of the seat i, where it is not spent
pub record SeatKeepsAt (key : Geometry) (i : ℕ) (v : View) (b : ℕ) (z : Block) : Type 0 where
  pub hand : (j c : ℕ) → In (held b j c) v.hand → HandKeeps i v.vacant b j c z
  pub mine : (j : ℕ) → z.who j ≡ i + 1 → ((c : ℕ) × In (held b j c) v.hand) ⊎ ((c : ℕ) × (k : ℕ) × In (claim b c k) v.claim)
  pub knows : (w : ℕ) → In (known b w) v.known → KnownKeeps key.most_gen z.word (word_of w)
  pub first_links : (w l : ℕ) → In (known_link b w l) v.first_links → FirstLinkKeeps key.most_gen z (word_of w) l
  pub stored : (j l : ℕ) → In (stored b j l) v.stored → z.who j ≡ i + 1 → z.links j ≡ l
  pub claim : (c k : ℕ) → In (claim b c k) v.claim → ClaimKeeps key i b c k z
  pub ever : In b v.claimed → z.word.state ≢ 0

pub record SeatKeeps (key : Geometry) (i : ℕ) (v : View) (sc : ℕ → Block) : Type 0 where
  pub geometry : v.geometry ≡ key
  pub some_parts : 1 ≤ v.parts
  pub inside : (b j c : ℕ) → In (held b j c) v.hand → b < key.blocks
  pub once : Once v.hand
  pub at : (b : ℕ) → b < key.blocks → SeatKeepsAt key i v b (sc b)

abbrev pub parts_of : View → ℕ
parts_of v = if v.live then v.parts else 0

abbrev pub total : List View → ℕ
total [] = 0
total (v ∷ vs) = parts_of v + total vs

-- the seat that has a slot
pub record Owner (views : List View) (n : ℕ) : Type 0 where
  pub seat : ℕ
  pub view : View
  pub at : get_elem? views seat ≡ m.some view
  pub live : view.live ≡ true
  pub is : n ≡ seat + 1

pub record RuleWith (key : Geometry) (s : World) (who : ℕ → ℕ → ℕ) : Type 0 where
  pub words : length s.words ≡ key.blocks * 1025
  pub homes : length s.homes ≡ key.blocks * 1025
  pub gen : key.most_gen < 68719476736
  pub blocks : (b : ℕ) → b < key.blocks → BlockKeeps key b (block_of key s.words s.homes who b)
  pub seats : (i : ℕ) (v : View) → get_elem? s.views i ≡ m.some v → v.live ≡ true → SeatKeeps key i v (block_of key s.words s.homes who)
  pub total : total s.views ≡ 2 * key.seats
  pub owner : (b j : ℕ) → b < key.blocks → who b j ≢ 0 → Owner s.views (who b j)

abbrev pub first_view : Geometry → View
first_view key = record { live = true; geometry = key; parts = 2 * key.seats; hand = []; vacant = []; known = []; first_links = []; stored = []; claim = []; claimed = []; loads = []; wins = []; clashes = [] }

abbrev pub Rule : Geometry → World → Type 0
Rule key s = (who : ℕ → ℕ → ℕ) × RuleWith key s who
