use Rattle.std.proofs.Common.{◌≡◌, ℕ, List, [], ◌∷◌, ◌++◌, codes, string_bytes, ap, ◌∙◌}
use Rattle.std.specs.Fmt.{decimal}
use Rattle.std.proofs.lemmas.List.{append_assoc}
use Rattle.std.proofs.lemmas.Result.{on_ok_weaker}
use Rattle.mz_base.specs.declared.profile.Profile.{Profile}
use Rattle.mz_words.specs.Lines.{line_text}
use Rattle.mz_lines.specs.Spaces.{space_words}
use Rattle.mz_lines.proofs.space.write_space.Goals as goal

-- the first three numbers of a space, and the others
abbrev front : Profile → List ℕ
front p = codes "space " ++ (decimal p.pages ++ (codes " callers " ++ (decimal p.callers ++ (codes " magazines " ++ decimal p.magazines))))

abbrev back : Profile → List ℕ
back p = codes " nano " ++ (decimal p.nano ++ (codes " gen " ++ (decimal p.most_gen ++ (codes " zones " ++ (decimal p.zones ++ 10 ∷ [])))))

space_words-halves : (p : Profile) → front p ++ back p ≡ line_text (space_words p)
space_words-halves p = simp append_assoc

pub returns : goal.returns
returns c =
    let old = string_bytes c.args.out.now in
    let p = c.args.profile.now in
    let joined = ap (λ bs. bs ++ back p) c.in_ok-write.ensures.bytes ∙ append_assoc old (front p) (back p) ∙ ap (λ words. old ++ words) (space_words-halves p) in
    on_ok_weaker c.writeln.result (λ h. h ∙ joined) c.writeln.ensures.bytes
