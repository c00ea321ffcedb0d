-- Passing over lines, some at a time.
use Rattle.std.proofs.Common.{◌≡◌, ◌∙◌, ◌<◌, ℕ, ◌+◌, true, false, not, ◌&&◌, List, [], ◌∷◌, ◌++◌, map, length, get_or, drop, Result, Ok, Err, Option, Some, None, refl, ap, sym, arith, length-append, if◌then◌else◌}
use Rattle.std.specs.Prelude.{◌==◌, option_map, cond}
use Rattle.std.specs.List.{list_all, position, position_from}
use Rattle.std.proofs.lemmas.List.{drop_more, map-append, length-map}
use Rattle.std.proofs.lemmas.Iterator.Adapters.{position_from-zero}
use Rattle.mz_lines.specs.declared.command.Command.{Command}
use Rattle.mz_trace.specs.declared.round.Round.{Round}
use Rattle.mz_lines.specs.declared.round_line.RoundLine.{RoundLine}
use Rattle.mz_lines.specs.declared.line.Line.{Line}
use Rattle.mz_lines.specs.declared.line.Line.TheVariants as line
use Rattle.mz_trace.specs.Rounds.{call_line, calls_from, round_lines, lines_of_rounds}
use Rattle.mz_run.specs.declared.built.Unbuilt.{Unbuilt}
use Rattle.mz_run.specs.Built.{is_built_line}
use Rattle.mz_run.specs.Passing.{passed}

-- lines that are passed over, and lines behind them
pub passed_front : (n m : ℕ) (xs ys : List Line) → passed n xs ≡ Ok m → passed n (xs ++ ys) ≡ passed m ys
passed_front n m [] ys h = let same : n ≡ m = cc in ap (λ k. passed k ys) same
passed_front n m (x ∷ xs) ys h =
    (elim (is_built_line x) as (λ b. (if b then passed (n + 1) xs else Err (record { line = n })) ≡ Ok m → (if b then passed (n + 1) (xs ++ ys) else Err (record { line = n })) ≡ passed m ys)
    [ true ↦ λ e. passed_front (n + 1) m xs ys e | false ↦ λ e. cc ]) h

-- lines with one that isn't built, and lines behind them
pub stopped_front : (n : ℕ) (u : Unbuilt) (xs ys : List Line) → passed n xs ≡ Err u → passed n (xs ++ ys) ≡ Err u
stopped_front n u [] ys h = cc
stopped_front n u (x ∷ xs) ys h =
    (elim (is_built_line x) as (λ b. (if b then passed (n + 1) xs else Err (record { line = n })) ≡ Err u → (if b then passed (n + 1) (xs ++ ys) else Err (record { line = n })) ≡ Err u)
    [ true ↦ λ e. stopped_front (n + 1) u xs ys e | false ↦ λ e. e ]) h

-- as many lines as were passed over
pub passed_count : (n m : ℕ) (xs : List Line) → passed n xs ≡ Ok m → m ≡ n + length xs
passed_count n m [] h = let same : n ≡ m = cc in omega arith
passed_count n m (x ∷ xs) h =
    (elim (is_built_line x) as (λ b. (if b then passed (n + 1) xs else Err (record { line = n })) ≡ Ok m → m ≡ n + length (x ∷ xs))
    [ true ↦ λ e. let rest = passed_count (n + 1) m xs e in omega arith | false ↦ λ e. cc ]) h

-- all of them are built
pub passed_all : (n m : ℕ) (xs : List Line) → passed n xs ≡ Ok m → list_all is_built_line xs ≡ true
passed_all n m [] h = refl
passed_all n m (x ∷ xs) h =
    (elim (is_built_line x) as (λ b. (if b then passed (n + 1) xs else Err (record { line = n })) ≡ Ok m → (b && list_all is_built_line xs) ≡ true)
    [ true ↦ λ e. passed_all (n + 1) m xs e | false ↦ λ e. cc ]) h

-- the line at which passing stops
abbrev pub stop_of : Result ℕ Unbuilt → Option ℕ
stop_of (Ok n) = None
stop_of (Err u) = Some u.line

stop_from : (n i : ℕ) (xs : List Line) → stop_of (passed (n + i) xs) ≡ option_map (λ k. k + n) (position_from (λ l. not (is_built_line l)) i xs)
stop_from n i [] = refl
stop_from n i (x ∷ xs) =
    elim (is_built_line x) as (λ b. stop_of (if b then passed (n + i + 1) xs else Err (record { line = n + i }))
    ≡ option_map (λ k. k + n) (cond (not b) (Some i) (position_from (λ l. not (is_built_line l)) (i + 1) xs)))
    [ true ↦ let e : n + i + 1 ≡ n + (i + 1) = omega arith in rw e (stop_from n (i + 1) xs) | false ↦ ap (λ k. Some k) (omega arith) ]

pub stop_is_position : (n : ℕ) (xs : List Line) → stop_of (passed n xs) ≡ option_map (λ k. k + n) (position (λ l. not (is_built_line l)) xs)
stop_is_position n xs =
    let e : n ≡ n + 0 = omega arith in
    ap (λ k. stop_of (passed k xs)) e ∙ stop_from n 0 xs ∙ ap (option_map (λ k. k + n)) (sym (position_from-zero (λ l. not (is_built_line l)) xs))

-- a line at the start of a round isn't built
pub stopped_start :
    (n : ℕ) (starts : List RoundLine) (ls : List Line) → (length starts == 0) ≡ false → passed n (map line.Start starts ++ ls) ≡ Err (record { line = n })
stopped_start n [] ls some = cc
stopped_start n (x ∷ starts) ls some = refl

-- commands of one caller
pub caller_lines : (caller : ℕ) (cs : List Command) → map call_line (map (λ c. (caller, c)) cs) ≡ map (line.Call caller) cs
caller_lines caller [] = refl
caller_lines caller (c ∷ cs) = ap (λ ls. line.Call caller c ∷ ls) (caller_lines caller cs)

-- the lines of the lists of callers from one on
pub list_lines : (caller : ℕ) (cs : List Command) (lists : List (List Command)) →
    map call_line (calls_from caller (cs ∷ lists)) ≡ map (line.Call caller) cs ++ map call_line (calls_from (caller + 1) lists)
list_lines caller cs lists =
    map-append call_line (map (λ c. (caller, c)) cs) (calls_from (caller + 1) lists)
    ∙ ap (λ ls. ls ++ map call_line (calls_from (caller + 1) lists)) (caller_lines caller cs)

pub list_count : (caller : ℕ) (cs : List Command) (lists : List (List Command)) →
    length (calls_from caller (cs ∷ lists)) ≡ length cs + length (calls_from (caller + 1) lists)
list_count caller cs lists =
    length-append (map (λ c. (caller, c)) cs) (calls_from (caller + 1) lists)
    ∙ ap (λ k. k + length (calls_from (caller + 1) lists)) (length-map cs (λ c. (caller, c)))

-- One more list of commands, and one more round, behind those that are passed over.
pub lists_count :
    (lists : List (List Command)) (i : ℕ) (cs : List Command) → i < length lists → cs ≡ get_or lists i cs
    → length (calls_from i (drop i lists)) ≡ length cs + length (calls_from (i + 1) (drop (i + 1) lists))
lists_count lists i cs below is =
    ap (λ ls. length (calls_from i ls)) (drop_more lists i cs below ∙ ap (λ c. c ∷ drop (i + 1) lists) (sym is))
    ∙ list_count i cs (drop (i + 1) lists)

lists_lines :
    (lists : List (List Command)) (i : ℕ) (cs : List Command) → i < length lists → cs ≡ get_or lists i cs
    → map call_line (calls_from i (drop i lists)) ≡ map (line.Call i) cs ++ map call_line (calls_from (i + 1) (drop (i + 1) lists))
lists_lines lists i cs below is =
    ap (λ ls. map call_line (calls_from i ls)) (drop_more lists i cs below ∙ ap (λ c. c ∷ drop (i + 1) lists) (sym is))
    ∙ list_lines i cs (drop (i + 1) lists)

pub lists_passed :
    (lists : List (List Command)) (i n m : ℕ) (cs : List Command) (all : Result ℕ Unbuilt) → i < length lists → cs ≡ get_or lists i cs
    → all ≡ passed n (map call_line (calls_from i (drop i lists))) → passed n (map (line.Call i) cs) ≡ Ok m
    → all ≡ passed m (map call_line (calls_from (i + 1) (drop (i + 1) lists)))
lists_passed lists i n m cs all below is so_far here =
    so_far ∙ ap (passed n) (lists_lines lists i cs below is)
    ∙ passed_front n m (map (line.Call i) cs) (map call_line (calls_from (i + 1) (drop (i + 1) lists))) here

pub lists_stopped :
    (lists : List (List Command)) (i n : ℕ) (u : Unbuilt) (cs : List Command) (all : Result ℕ Unbuilt) → i < length lists → cs ≡ get_or lists i cs
    → all ≡ passed n (map call_line (calls_from i (drop i lists))) → passed n (map (line.Call i) cs) ≡ Err u → all ≡ Err u
lists_stopped lists i n u cs all below is so_far here =
    so_far ∙ ap (passed n) (lists_lines lists i cs below is)
    ∙ stopped_front n u (map (line.Call i) cs) (map call_line (calls_from (i + 1) (drop (i + 1) lists))) here

rounds_lines :
    (rs : List Round) (i : ℕ) (r : Round) → i < length rs → r ≡ get_or rs i r
    → lines_of_rounds (drop i rs) ≡ round_lines r ++ lines_of_rounds (drop (i + 1) rs)
rounds_lines rs i r below is =
    ap lines_of_rounds (drop_more rs i r below ∙ ap (λ q. q ∷ drop (i + 1) rs) (sym is))

pub rounds_count :
    (rs : List Round) (i : ℕ) (r : Round) → i < length rs → r ≡ get_or rs i r
    → length (lines_of_rounds (drop i rs)) ≡ length (round_lines r) + length (lines_of_rounds (drop (i + 1) rs))
rounds_count rs i r below is =
    ap length (rounds_lines rs i r below is) ∙ length-append (round_lines r) (lines_of_rounds (drop (i + 1) rs))

pub rounds_passed :
    (rs : List Round) (i n m : ℕ) (r : Round) (all : Result ℕ Unbuilt) → i < length rs → r ≡ get_or rs i r
    → all ≡ passed n (lines_of_rounds (drop i rs)) → passed n (round_lines r) ≡ Ok m
    → all ≡ passed m (lines_of_rounds (drop (i + 1) rs))
rounds_passed rs i n m r all below is so_far here =
    so_far ∙ ap (passed n) (rounds_lines rs i r below is) ∙ passed_front n m (round_lines r) (lines_of_rounds (drop (i + 1) rs)) here

pub rounds_stopped :
    (rs : List Round) (i n : ℕ) (u : Unbuilt) (r : Round) (all : Result ℕ Unbuilt) → i < length rs → r ≡ get_or rs i r
    → all ≡ passed n (lines_of_rounds (drop i rs)) → passed n (round_lines r) ≡ Err u → all ≡ Err u
rounds_stopped rs i n u r all below is so_far here =
    so_far ∙ ap (passed n) (rounds_lines rs i r below is) ∙ stopped_front n u (round_lines r) (lines_of_rounds (drop (i + 1) rs)) here
