use Rattle.std.proofs.Common.{◌≡◌, ◌∙◌, ◌++◌, ℕ, List, ap}
use Rattle.mz_trace.specs.TailTexts.{tail_text}
use Rattle.mz_run.proofs.top.print_whole.Goals as goal

joined : (out a b front back : List ℕ) → out ≡ a ++ b → a ≡ front → b ≡ back → out ≡ front ++ back
joined out a b front back whole p q = whole ∙ ap (λ l. l ++ b) p ∙ ap (λ l. front ++ l) q

pub returns : goal.returns
returns c =
    joined _ _ _ _ _ c.in_ok-extend_from_slice.ensures.items c.in_ok-output.ensures.printed
    (c.bytes.ensures ∙ ap tail_text c.in_ok-tail.ensures)
