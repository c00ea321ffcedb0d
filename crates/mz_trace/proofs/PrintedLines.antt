-- Texts of lines, with one more line behind them.
use Rattle.std.proofs.Common.{◌≡◌, ℕ, suc, ◌+◌, ◌<◌, List, [], ◌∷◌, ◌++◌, map, length, take, get_or, refl, sym, ap, ◌∙◌, append_assoc, arith}
use Rattle.std.proofs.lemmas.List.{append-nil, take_more, map-append, length-take-le}
use Rattle.std.proofs.lemmas.List.Concat.{flat_map-append}
use Rattle.mz_lines.specs.declared.command.Command.{Command}
use Rattle.mz_trace.specs.declared.round.Round.{Round}
use Rattle.mz_lines.specs.declared.line.Line.{Line}
use Rattle.mz_lines.specs.Lines.{line_words}
use Rattle.mz_trace.specs.Rounds.{Call, call_line, calls_from, round_lines, lines_of_rounds}
use Rattle.mz_words.specs.Lines.{line_text}
use Rattle.mz_trace.specs.Texts.{lines_text}
use Rattle.mz_lines.specs.declared.line.Line.TheVariants.{Call as call}

pub lines_text-append : (xs ys : List Line) → lines_text (xs ++ ys) ≡ lines_text xs ++ lines_text ys
lines_text-append xs ys = flat_map-append (λ l. line_text (line_words l)) xs ys

-- the commands of one more caller, and the lines of one more round
pub calls_from-push : (first : ℕ) (lists : List (List Command)) (cs : List Command) → calls_from first (lists ++ cs ∷ []) ≡ calls_from first lists ++ map (λ c. (first + length lists, c)) cs
calls_from-push first [] cs = let e : first + 0 ≡ first = omega arith in rw e (append-nil (map (λ c. (first, c)) cs))
calls_from-push first (ds ∷ lists) cs =
    let e : first + 1 + length lists ≡ first + suc (length lists) = omega arith in
    ap (λ (x : List Call). map (λ c. (first, c)) ds ++ x) (calls_from-push (first + 1) lists cs)
    ∙ rw e (sym (append_assoc (map (λ c. (first, c)) ds) (calls_from (first + 1) lists) (map (λ c. (first + suc (length lists), c)) cs)))

pub lines_of_rounds-push : (rs : List Round) (r : Round) → lines_of_rounds (rs ++ r ∷ []) ≡ lines_of_rounds rs ++ round_lines r
lines_of_rounds-push [] r = append-nil (round_lines r)
lines_of_rounds-push (s ∷ rs) r = ap (λ (x : List Line). round_lines s ++ x) (lines_of_rounds-push rs r) ∙ sym (append_assoc (round_lines s) (lines_of_rounds rs) (round_lines r))

lines_of_caller : (caller : ℕ) (cs : List Command) → map call_line (map (λ c. (caller, c)) cs) ≡ map (λ c. call caller c) cs
lines_of_caller caller [] = refl
lines_of_caller caller (c ∷ cs) = ap (λ (x : List Line). call caller c ∷ x) (lines_of_caller caller cs)

-- the lines of one more caller, written behind those of the others
pub callers_more :
    (lists : List (List Command)) (i : ℕ) (cs : List Command) (first old new : List ℕ) → i < length lists → cs ≡ get_or lists i cs
    → old ≡ first ++ lines_text (map call_line (calls_from 0 (take i lists)))
    → new ≡ old ++ lines_text (map (λ c. call i c) cs)
    → new ≡ first ++ lines_text (map call_line (calls_from 0 (take (i + 1) lists)))
callers_more lists i cs first old new lt at so_far written =
    let more : take (i + 1) lists ≡ take i lists ++ cs ∷ [] = take_more lists i cs lt ∙ ap (λ (x : List Command). take i lists ++ x ∷ []) (sym at) in
    let long : 0 + length (take i lists) ≡ i = omega (arith, length-take-le i lists (omega arith)) in
    let pushed : calls_from 0 (take (i + 1) lists) ≡ calls_from 0 (take i lists) ++ map (λ c. (i, c)) cs = rw more (calls_from-push 0 (take i lists) cs ∙ rw long refl) in
    let mapped : map call_line (calls_from 0 (take i lists) ++ map (λ c. (i, c)) cs) ≡ map call_line (calls_from 0 (take i lists)) ++ map (λ c. call i c) cs =
    map-append call_line (calls_from 0 (take i lists)) (map (λ c. (i, c)) cs) ∙ ap (λ (x : List Line). map call_line (calls_from 0 (take i lists)) ++ x) (lines_of_caller i cs) in
    rw (pushed, mapped, lines_text-append (map call_line (calls_from 0 (take i lists))) (map (λ c. call i c) cs))
    (written ∙ rw so_far (append_assoc first (lines_text (map call_line (calls_from 0 (take i lists)))) (lines_text (map (λ c. call i c) cs))))

-- the lines of one more round, written behind those of the others
pub rounds_more :
    (rs : List Round) (i : ℕ) (r : Round) (first old new : List ℕ) → i < length rs → r ≡ get_or rs i r
    → old ≡ first ++ lines_text (lines_of_rounds (take i rs))
    → new ≡ old ++ lines_text (round_lines r)
    → new ≡ first ++ lines_text (lines_of_rounds (take (i + 1) rs))
rounds_more rs i r first old new lt at so_far written =
    let more : take (i + 1) rs ≡ take i rs ++ r ∷ [] = take_more rs i r lt ∙ ap (λ (x : Round). take i rs ++ x ∷ []) (sym at) in
    rw (more, lines_of_rounds-push (take i rs) r, lines_text-append (lines_of_rounds (take i rs)) (round_lines r))
    (written ∙ rw so_far (append_assoc first (lines_text (lines_of_rounds (take i rs))) (lines_text (round_lines r))))
