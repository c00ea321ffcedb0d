-- What a seat knows before its steps.
use Rattle.std.specs.Prelude.{◌≡◌, ℕ, ◌+◌, ◌-◌, ◌*◌, ◌<◌, ◌≤◌, true, List, [], ◌∷◌, Option, Some}
use Rattle.mz_ground.specs.Views.{SpanView}
use Rattle.mz_nanoword.specs.Words.{word_of}
use Rattle.mz_nano.specs.declared.view.View.{View}
use Rattle.mz_nano.specs.Lists.{In}
use Rattle.mz_nano.specs.Rule.{IsPiece, IsReady, slots, held, vacant, known, known_link, stored, claim}
use Rattle.mz_nano.specs.StepEffects.{Standing}

-- what a pop knows before its exchange
pub record CanPop (v : View) (b old new l : ℕ) : Type 0 where
  pub live : v.live ≡ true
  pub block : b < v.geometry.blocks
  pub known : In (known b old) v.known
  pub first_links : In (known_link b old l) v.first_links
  pub ready : IsReady (word_of old)
  pub first : 1 ≤ (word_of old).next
  pub below : (word_of old).generation < v.geometry.most_gen
  pub none : v.vacant ≡ []
  pub next : (word_of new).next ≡ l
  pub free : (word_of new).free ≡ (word_of old).free - 1
  pub state : (word_of new).state ≡ (word_of old).state
  pub gen : (word_of new).generation ≡ (word_of old).generation + 1

-- what a push knows before its exchange
pub record CanPush (me : Standing) (b j c old new : ℕ) : Type 0 where
  pub live : me.0.live ≡ true
  pub mine : In (held b j c) me.0.hand
  pub stored : In (stored b j (word_of old).next) me.0.stored
  pub outs : me.0.vacant ≡ vacant b j ∷ []
  pub span : SpanView
  pub others : List (ℕ × Option SpanView)
  pub carried : me.1 ≡ (b * 1025 + j, Some span) ∷ others
  pub piece : IsPiece me.0.geometry b (16 * c * j) (16 * c) span
  pub next : (word_of new).next ≡ j + 1
  pub free : (word_of new).free ≡ (word_of old).free + 1
  pub state : (word_of new).state ≡ (word_of old).state
  pub gen : (word_of old).generation ≤ (word_of new).generation
  pub most : (word_of new).generation ≤ me.0.geometry.most_gen
  pub rises : (word_of new).generation < me.0.geometry.most_gen → (word_of new).generation ≡ (word_of old).generation + 1

-- what a claim knows before its exchange
pub record CanClaim (v : View) (b old new c : ℕ) : Type 0 where
  pub live : v.live ≡ true
  pub block : b < v.geometry.blocks
  pub old_state : (word_of old).state ≡ 0
  pub none : v.vacant ≡ []
  pub no_claim : v.claim ≡ []
  pub least : 1 ≤ c
  pub most : c ≤ 16
  pub next : (word_of new).next ≡ c
  pub state : (word_of new).state ≡ 17
  pub gen : (word_of new).generation ≡ 0

-- what the claimer knows before it stores a link
pub record CanCut (me : Standing) (b c k : ℕ) : Type 0 where
  pub live : me.0.live ≡ true
  pub block : b < me.0.geometry.blocks
  pub claim : me.0.claim ≡ claim b c k ∷ []
  pub outs : me.0.vacant ≡ vacant b k ∷ []
  pub more : k < slots c
  pub span : SpanView
  pub others : List (ℕ × Option SpanView)
  pub carried : me.1 ≡ (b * 1025 + k, Some span) ∷ others
  pub piece : IsPiece me.0.geometry b (16 * c * k) (16 * c) span

-- what the claimer knows before it makes the block ready
pub record CanMakeReady (me : Standing) (b c new : ℕ) : Type 0 where
  pub live : me.0.live ≡ true
  pub block : b < me.0.geometry.blocks
  pub claim : me.0.claim ≡ claim b c (slots c) ∷ []
  pub outs : me.0.vacant ≡ vacant b (slots c) ∷ []
  pub span : SpanView
  pub others : List (ℕ × Option SpanView)
  pub carried : me.1 ≡ (b * 1025 + slots c, Some span) ∷ others
  pub piece : IsPiece me.0.geometry b (16 * c * slots c) (16384 - 16 * c * slots c) span
  pub next : (word_of new).next ≡ 1
  pub free : (word_of new).free ≡ slots c
  pub state : (word_of new).state ≡ c
  pub gen : (word_of new).generation ≡ 0
