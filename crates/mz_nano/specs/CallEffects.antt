-- What the calls say of the seat that makes them. This project's own.
use Rattle.std.specs.Prelude.{◌≡◌, ◌≢◌, ℕ, zero, suc, ◌+◌, ◌-◌, ◌*◌, ◌<◌, ◌≤◌, ◌⊎◌, ◌&&◌, nat_lt, if◌then◌else◌, ◌^◌, Bool, true, false, List, [], ◌∷◌, ◌++◌, length, map, Option}
use Rattle.atomic_table.specs.Seated.{TableId}
use Rattle.atomic_table.specs.declared.shared.Seat.{Seat}
use Rattle.mz_ground.specs.Views.{SpanView}
use Rattle.mz_nanoword.specs.declared.word.NanoWord.{NanoWord}
use Rattle.mz_nanoword.specs.Words.{word_of}
use Rattle.mz_nano.specs.declared.view.Geometry.{Geometry}
use Rattle.mz_nano.specs.declared.view.Held.{Held}
use Rattle.mz_nano.specs.declared.view.Known.{Known}
use Rattle.mz_nano.specs.declared.view.Load.{Load}
use Rattle.mz_nano.specs.declared.view.View.{View}
use Rattle.mz_nano.specs.Lists.{In, without}
use Rattle.mz_nano.specs.Rule.{IsPiece, Once, slots, held, known, claim, vacant}
use Rattle.mz_nano.specs.StepEffects.{Standing, load, win, clash, place_given, popped, IsSound}
use Rattle.mz_nano.specs.declared.seat.Miss.{Miss}
use Rattle.mz_nano.specs.declared.pop.Candidate.{Candidate}
use Rattle.std.proofs.Props.{props}
use Rattle.std.specs.Coded.{Coded-set, coded_bool}

abbrev pub empty : {A : Type 0} → List A → Bool
empty [] = true
empty (x ∷ xs) = false

-- the hand's blocks are below n, and its slots below the most that a block has
abbrev pub hand_ok : ℕ → List Held → Bool
hand_ok n [] = true
hand_ok n (h ∷ hs) = (nat_lt h.block n && nat_lt h.slot 1024) && hand_ok n hs

-- between two calls: the seat has no place of the table and claims no block
pub record IsAtRest (me : Standing) : Type 0 where
  pub live : me.0.live ≡ true
  pub outs : empty me.0.vacant ≡ true
  pub claims : empty me.0.claim ≡ true
  pub carried : empty me.1 ≡ true
  pub hand : hand_ok me.0.geometry.blocks me.0.hand ≡ true

pub is_at_rest-prop : (me : Standing) → IsProp (IsAtRest me)
is_at_rest-prop me = hlevel (props, Coded-set coded_bool)

pub once-prop : (hs : List Held) → IsProp (Once hs)
once-prop [] = hlevel props
once-prop (h ∷ hs) = hlevel (props, once-prop hs)

-- it is a seat of this table
abbrev pub IsSeatOf : TableId → Geometry → Seat (Option SpanView) View → Type 0
IsSeatOf id key seat = (seat.table_id ≡ id) × (seat.me.0.geometry ≡ key)

-- the seat is at rest after the call, and is what it was
pub record StaysAtRest (me me' : Standing) : Type 0 where
  pub live : me'.0.live ≡ true
  pub geometry : me'.0.geometry ≡ me.0.geometry
  pub parts : me'.0.parts ≡ me.0.parts
  pub outs : me'.0.vacant ≡ []
  pub claims : me'.0.claim ≡ []
  pub carried : me'.1 ≡ []

-- the same, with blocks and slots of the hand in bounds and each there once where they were
pub record EndsAtRest (me me' : Standing) : Type 0 where
  pub same : StaysAtRest me me'
  pub hand : hand_ok me.0.geometry.blocks me.0.hand ≡ true → hand_ok me'.0.geometry.blocks me'.0.hand ≡ true
  pub once : Once me.0.hand → Once me'.0.hand

-- a pop may take a slot by the word n: it is ready with the class c, has a free slot and a generation below the last
pub record IsUsable (geometry : Geometry) (c n : ℕ) : Type 0 where
  pub class_ : (word_of n).state ≡ c
  pub free : 1 ≤ (word_of n).free
  pub generation : (word_of n).generation < geometry.most_gen

-- the word n is that of a block just made ready with the class c: each slot is free, from slot 0 on
abbrev pub IsNewlyReady : ℕ → ℕ → Type 0
IsNewlyReady c n = word_of n ≡ record { next = 1; free = slots c; state = c; generation = 0 }

-- from the word x to the word y a slot left the chain, and the generation rose by one
pub record TakesOne (x y : NanoWord) : Type 0 where
  pub state : y.state ≡ x.state
  pub free : y.free + 1 ≡ x.free
  pub generation : y.generation ≡ x.generation + 1

-- from the word x to the word y the slot j came to the front of the chain, and the generation rose by one, or stayed at the last
pub record PutsBack (G j : ℕ) (x y : NanoWord) : Type 0 where
  pub next : y.next ≡ j + 1
  pub free : y.free ≡ x.free + 1
  pub state : y.state ≡ x.state
  pub generation : y.generation ≡ (if nat_lt x.generation G then x.generation + 1 else x.generation)

-- the numbers below k, the greatest first
abbrev pub below : ℕ → List ℕ
below zero = []
below (suc k) = k ∷ below k

-- these loads, newest first, are of the words of the blocks below k, one of each, from block 0 on
abbrev pub InOrder : ℕ → List Load → Type 0
InOrder k scan = map (λ l. l.word) scan ≡ below k

-- of each block below k a word was loaded that isn't usable, and below `first` none was unassigned
abbrev pub NoneUsable : Geometry → ℕ → ℕ → ℕ → List Load → Type 0
NoneUsable geometry c k first scan = (b : ℕ) → b < k → (n : ℕ) × In (load b n) scan × (IsUsable geometry c n → ⊥) × ((word_of n).state ≡ 0 → first ≤ b)

-- the first of these loads were of the blocks below k, in order, and passed them all
pub record Skipped (geometry : Geometry) (c k first : ℕ) (more : List Load) : Type 0 where
  pub later : List Load
  pub scan : List Load
  pub loads : more ≡ later ++ scan
  pub order : InOrder k scan
  pub each : NoneUsable geometry c k first scan

-- only loads of words were made
pub record OnlyLoaded (v v' : View) (more : List Load) : Type 0 where
  pub seen : List Known
  pub view : v' ≡ record v { loads = more ++ v.loads; known = seen ++ v.known }

-- what a scan answers: the first usable block, else the first unassigned one, else nothing
abbrev pub IsCandidate : Geometry → ℕ → List Load → List Known → Candidate → Type 0
IsCandidate geometry c more ks (Candidate.Usable b w x) = (b < geometry.blocks) × ((rest : List Known) × (ks ≡ known b w ∷ rest)) × In (load b w) more × (x ≡ word_of w) × IsUsable geometry c w × IsSound geometry w × Skipped geometry c b 0 more
IsCandidate geometry c more ks (Candidate.Unassigned b) = (b < geometry.blocks) × In (load b 0) more × Skipped geometry c geometry.blocks b more
IsCandidate geometry c more ks Candidate.Nothing = InOrder geometry.blocks more × NoneUsable geometry c geometry.blocks geometry.blocks more

-- where a scan stands at the block k
pub record Scan (me me' : Standing) (c k fresh : ℕ) : Type 0 where
  pub more : List Load
  pub loaded : OnlyLoaded me.0 me'.0 more
  pub carried : me'.1 ≡ me.1
  pub order : InOrder k more
  pub passed : NoneUsable me.0.geometry c k fresh more
  pub first : fresh < me.0.geometry.blocks → In (load fresh 0) more
  pub early : fresh < me.0.geometry.blocks → fresh < k

-- the first slot of the word `old`, whose link is l, was taken by one exchange, and its span is the result
pub record TookFirst (me : Standing) (b j c old l : ℕ) (s : SpanView) (me' : Standing) : Type 0 where
  pub found : ℕ
  pub to : ℕ
  pub taken : TakesOne (word_of old) (word_of to)
  pub next : (word_of to).next ≡ l
  pub inside : j < slots c
  pub fresh : (c' : ℕ) → In (held b j c') me.0.hand → ⊥
  pub view : me'.0 ≡ place_given (popped me.0 b j c old to) b found
  pub carried : me'.1 ≡ me.1
  pub piece : IsPiece me.0.geometry b (16 * c * j) (16 * c) s
  pub room : length me.0.hand ≤ me.0.geometry.blocks * 1024

-- the slot j of the block b came into the hand, from the usable word `from`, whose first slot it was. Where `claimed` it was the first of the newly ready block, else the word was loaded in this call
pub record Popped (me : Standing) (b j c : ℕ) (s : SpanView) (me' : Standing) : Type 0 where
  pub same : StaysAtRest me me'
  pub block : b < me.0.geometry.blocks
  pub slot : j < 1024
  pub inside : j < slots c
  pub fresh : (c' : ℕ) → In (held b j c') me.0.hand → ⊥
  pub hand : me'.0.hand ≡ held b j c ∷ me.0.hand
  pub clashes : me'.0.clashes ≡ me.0.clashes
  pub from : ℕ
  pub to : ℕ
  pub usable : IsUsable me.0.geometry c from
  pub first : (word_of from).next ≡ j + 1
  pub taken : TakesOne (word_of from) (word_of to)
  pub more : List Load
  pub loads : me'.0.loads ≡ more ++ me.0.loads
  pub won : ((me'.0.wins ≡ win b from to ∷ me.0.wins) × (me'.0.claimed ≡ me.0.claimed) × In (load b from) more × Skipped me.0.geometry c b 0 more × In (load (me.0.geometry.blocks + b * 1024 + j) (word_of to).next) more)
      ⊎ ((y : ℕ) × (me'.0.wins ≡ win b from to ∷ win b 0 y ∷ me.0.wins) × (me'.0.claimed ≡ b ∷ me.0.claimed) × IsNewlyReady c from × In (load b 0) more × Skipped me.0.geometry c me.0.geometry.blocks b more × ((word_of to).next ≡ 2))
  pub piece : IsPiece me.0.geometry b (16 * c * j) (16 * c) s
  pub room : length me.0.hand ≤ me.0.geometry.blocks * 1024

-- each block's word was loaded, in order, and was neither usable nor unassigned
pub record Exhausts (me : Standing) (c : ℕ) (me' : Standing) : Type 0 where
  pub same : StaysAtRest me me'
  pub hand : me'.0.hand ≡ me.0.hand
  pub wins : me'.0.wins ≡ me.0.wins
  pub claimed : me'.0.claimed ≡ me.0.claimed
  pub clashes : me'.0.clashes ≡ me.0.clashes
  pub more : List Load
  pub loads : me'.0.loads ≡ more ++ me.0.loads
  pub order : InOrder me.0.geometry.blocks more
  pub none : (b : ℕ) → b < me.0.geometry.blocks → (n : ℕ) × In (load b n) more × (IsUsable me.0.geometry c n → ⊥) × ((word_of n).state ≢ 0)

-- by these loads b is the block to try: the first that was usable, by the word x, or else, where none was, the first unassigned one, and x is 0
abbrev pub Tried : Geometry → ℕ → ℕ → ℕ → List Load → Type 0
Tried geometry b c x more = (IsUsable geometry c x × Skipped geometry c b 0 more) ⊎ ((x ≡ 0) × Skipped geometry c geometry.blocks b more)

-- an exchange on the word of the block b expected x and found n. Either this call had loaded x there, or it had loaded 0, claimed the block and stored the ready word x
pub record Contends (me : Standing) (b c x n : ℕ) (me' : Standing) : Type 0 where
  pub same : StaysAtRest me me'
  pub hand : me'.0.hand ≡ me.0.hand
  pub block : b < me.0.geometry.blocks
  pub clashes : me'.0.clashes ≡ clash b x n ∷ me.0.clashes
  pub other : n ≢ x
  pub more : List Load
  pub loads : me'.0.loads ≡ more ++ me.0.loads
  pub won : ((me'.0.wins ≡ me.0.wins) × (me'.0.claimed ≡ me.0.claimed) × In (load b x) more × Tried me.0.geometry b c x more)
      ⊎ ((y : ℕ) × (me'.0.wins ≡ win b 0 y ∷ me.0.wins) × (me'.0.claimed ≡ b ∷ me.0.claimed) × IsNewlyReady c x × In (load b 0) more × (n ≢ 0) × Skipped me.0.geometry c me.0.geometry.blocks b more)

-- what a miss says
abbrev pub MissOf : Standing → ℕ → Miss → Standing → Type 0
MissOf me c Miss.Exhausted me' = Exhausts me c me'
MissOf me c (Miss.Contended b x n) me' = Contends me b c x n me'

-- a seat that has cut k slots of the block that it claims
abbrev pub cut_view : View → ℕ → ℕ → ℕ → View
cut_view v b c k = record v { claim = claim b c k ∷ []; vacant = vacant b k ∷ []; stored = [] }

-- the block was claimed and made ready, and its first slot taken
pub record ClaimPopped (me : Standing) (b c : ℕ) (s : SpanView) (me' : Standing) : Type 0 where
  pub same : StaysAtRest me me'
  pub hand : me'.0.hand ≡ held b 0 c ∷ me.0.hand
  pub clashes : me'.0.clashes ≡ me.0.clashes
  pub from : ℕ
  pub to : ℕ
  pub ready : IsNewlyReady c from
  pub taken : TakesOne (word_of from) (word_of to)
  pub next : (word_of to).next ≡ 2
  pub fresh : (c' : ℕ) → In (held b 0 c') me.0.hand → ⊥
  pub found : ℕ
  pub loads : me'.0.loads ≡ load b found ∷ me.0.loads
  pub by : ℕ
  pub wins : me'.0.wins ≡ win b from to ∷ win b 0 by ∷ me.0.wins
  pub claimed : me'.0.claimed ≡ b ∷ me.0.claimed
  pub piece : IsPiece me.0.geometry b (16 * c * 0) (16 * c) s
  pub room : length me.0.hand ≤ me.0.geometry.blocks * 1024

-- the claim of a block, or the exchange after it, found another word
pub record ClaimLost (me : Standing) (b c x n : ℕ) (me' : Standing) : Type 0 where
  pub same : StaysAtRest me me'
  pub hand : me'.0.hand ≡ me.0.hand
  pub clashes : me'.0.clashes ≡ clash b x n ∷ me.0.clashes
  pub loads : me'.0.loads ≡ me.0.loads
  pub other : n ≢ x
  pub won : ((me'.0.wins ≡ me.0.wins) × (me'.0.claimed ≡ me.0.claimed) × (x ≡ 0))
      ⊎ ((y : ℕ) × (me'.0.wins ≡ win b 0 y ∷ me.0.wins) × (me'.0.claimed ≡ b ∷ me.0.claimed) × IsNewlyReady c x × (n ≢ 0))

-- a count rises by one, and stays at its end
abbrev pub risen : ℕ → ℕ
risen n = if nat_lt n (2 ^ 64 - 1) then n + 1 else n

-- the slot j, with the class c, went from the hand to the front of its block's chain, by one load and one exchange
pub record Pushed (me : Standing) (b j c : ℕ) (me' : Standing) : Type 0 where
  pub same : StaysAtRest me me'
  pub hand : me'.0.hand ≡ without b j me.0.hand
  pub count : length me'.0.hand + 1 ≡ length me.0.hand
  pub clashes : me'.0.clashes ≡ me.0.clashes
  pub from : ℕ
  pub to : ℕ
  pub class_ : (word_of from).state ≡ c
  pub put : PutsBack me.0.geometry.most_gen j (word_of from) (word_of to)
  pub loads : me'.0.loads ≡ load b from ∷ me.0.loads
  pub wins : me'.0.wins ≡ win b from to ∷ me.0.wins
  pub claimed : me'.0.claimed ≡ me.0.claimed

-- the exchange of a push found n, and expected x, which this call had loaded
pub record PushLost (me : Standing) (b x n : ℕ) (me' : Standing) : Type 0 where
  pub same : StaysAtRest me me'
  pub hand : me'.0.hand ≡ me.0.hand
  pub clashes : me'.0.clashes ≡ clash b x n ∷ me.0.clashes
  pub other : n ≢ x
  pub wins : me'.0.wins ≡ me.0.wins
  pub claimed : me'.0.claimed ≡ me.0.claimed
  pub later : ℕ
  pub loads : me'.0.loads ≡ load b later ∷ load b x ∷ me.0.loads
