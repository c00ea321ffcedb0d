use Rattle.std.proofs.Common.{◌≡◌, ◌∙◌, ℕ, List, [], ◌∷◌, ◌++◌, refl, ap, append_assoc}
use Rattle.std.specs.Prelude.{codes}
use Rattle.std.specs.Fmt.{decimal}
use Rattle.mz_run.specs.Top.{bad_trace}
use Rattle.mz_run.proofs.reply.Reply.bad_trace.Goals as goal

-- the pieces of the line
in_one : (a b c d e : List ℕ) → a ++ (b ++ (c ++ (d ++ e))) ≡ a ++ b ++ c ++ d ++ e
in_one a b c d e = simp append_assoc

spelled : (line why : ℕ) → codes "bad trace: line " ++ (decimal line ++ (codes ", why " ++ (decimal why ++ 10 ∷ []))) ≡ bad_trace line why
spelled line why = in_one (codes "bad trace: line ") (decimal line) (codes ", why ") (decimal why) (10 ∷ [])

pub returns : goal.returns
returns c = (refl, ap (λ v. v.items) c.into_bytes-output.ensures.value ∙ c.in_ok-text.ensures.ok ∙ spelled c.args.line c.args.why)
