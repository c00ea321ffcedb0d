-- A region without a live block is all clear, and the other way round.
use Rattle.std.proofs.Common.{◌≡◌, ℕ, zero, suc, ◌+◌, ◌*◌, ◌%◌, ◌^◌, ◌<◌, ◌≤◌, List, [], ◌∷◌, Bool, true, false, length, get_or, replicate, refl, sym, ap, ◌∙◌, subst, arith}
use Rattle.std.specs.List.{Contains}
use Rattle.std.specs.Int.{IsPowerOfTwo}
use Rattle.std.proofs.lemmas.List.{length-replicate, get_or-replicate}
use Rattle.mz_base.specs.Lists.{size_sum}
use Rattle.mz_ground.specs.Views.{GroundView}
use Rattle.mz_region.specs.Quanta.{blocks_of, FitTogether}
use Rattle.mz_region.specs.Held.{IsHeld}
use Rattle.mz_region.proofs.Runs.{Are}
use Rattle.mz_region.proofs.Blocks.{two}

-- clear bits stand for no block
pub no_blocks : (Q a N : ℕ) (us : List Bool) → blocks_of Q a (replicate N false) us ≡ []
unfolding blocks_of
no_blocks Q a zero us = refl
no_blocks Q a (suc N) [] = refl
no_blocks Q a (suc N) (u ∷ us) = no_blocks Q (a + Q) N us

pub fit_clear : (N : ℕ) (p : Bool) → FitTogether p (replicate N false) (replicate N false)
fit_clear zero p = tt
fit_clear (suc N) p = ((λ e. e), (λ used none. absurd (two (sym used))), fit_clear N false)

-- and no block stands for clear bits
pub all_clear : (Q a : ℕ) (p : Bool) (bs us : List Bool) → FitTogether p bs us → (p ≡ false) → blocks_of Q a bs us ≡ [] → (bs ≡ replicate (length us) false) × (us ≡ replicate (length us) false)
unfolding blocks_of
all_clear Q a p [] [] f before none = (refl, refl)
all_clear Q a p [] (u ∷ us) f before none = absurd f
all_clear Q a p (b ∷ bs) [] f before none = absurd f
all_clear Q a p (true ∷ bs) (u ∷ us) f before none = cc
all_clear Q a p (false ∷ bs) (true ∷ us) f before none = absurd (two (sym (f.1 refl refl) ∙ before))
all_clear Q a p (false ∷ bs) (false ∷ us) f before none =
    let rest = all_clear Q (a + Q) false bs us f.2 refl none in
    (ap (λ l. false ∷ l) rest.0, ap (λ l. false ∷ l) rest.1)

-- flags that are clear
pub clear_flags : (N : ℕ) (fs : List Bool) (j : ℕ) → fs ≡ replicate N false → j ≡ length fs → Are false fs 0 j
clear_flags N fs j e long k d low high =
    let count : length fs ≡ N = ap length e ∙ length-replicate N false in
    ap (λ l. get_or l k d) e ∙ get_or-replicate N k false d (omega arith)

pub none_set : (N : ℕ) (fs : List Bool) → fs ≡ replicate N false → Contains fs true → ⊥
none_set N fs e h = two (sym h.2 ∙ clear_flags N fs (length fs) e refl h.0 true (omega arith) h.1)

-- a region that is made of a blank
pub held_clear : (Q N a : ℕ) (bs us : List Bool) (g : GroundView) → IsPowerOfTwo Q → a % (Q * N) ≡ 0 → a + Q * N ≤ g.space.size → g.space.size < 2 ^ 63 → bs ≡ replicate N false → us ≡ replicate N false → g.first ≡ a → g.lent ≡ us → IsHeld Q N a bs us g 0 0
held_clear Q N a bs us g power at inside small begins used based lent =
    let none : blocks_of Q a bs us ≡ [] = ap (λ l. blocks_of Q a l us) begins ∙ no_blocks Q a N us in
    record {
      power = power;
      at = at;
      inside = inside;
      small = small;
      quanta = ap length used ∙ length-replicate N false;
      bits = subst (λ l. FitTogether false l us) (sym begins) (subst (λ l. FitTogether false (replicate N false) l) (sym used) (fit_clear N false));
      based = based;
      lent = lent;
      sum = ap size_sum (sym none);
      counted = ap length (sym none);
    }
