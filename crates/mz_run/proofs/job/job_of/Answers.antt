use Rattle.std.proofs.Common.{◌≡◌, ◌∙◌, List, [], ◌∷◌, length, map, get_or, sym, ap, arith, string_bytes, String, Global}
use Rattle.mz_run.specs.Jobs.{job_of, job_named}
use Rattle.mz_run.proofs.job.job_of.Goals as goal

-- the texts of a single word
single : (words : List (String Global)) (word : String Global) → length words ≡ 1 → word ≡ get_or words 0 word → map string_bytes words ≡ string_bytes word ∷ []
single [] word len is = absurd (omega (arith, len))
single (w ∷ []) word len is = ap (λ t. string_bytes t ∷ []) (sym is)
single (w ∷ v ∷ words) word len is = absurd (omega (arith, len))

pub returns-in-len1 : goal.returns-in-len1
returns-in-len1 c =
    let one = single c.args.words.now c.word-item.result (omega arith) c.word-item.is in
    c.job_named.ensures ∙ ap job_named c.as_str.ensures.value ∙ ap job_of (sym one)
