-- The lines of a run and of its tail are read as that run and that tail.
use Rattle.std.proofs.Common.{◌≡◌, ℕ, ◌+◌, ◌<◌, ◌≤◌, ◌^◌, Bool, true, false, List, [], ◌∷◌, ◌++◌, map, length, eqb, leb, cond, arith, refl, sym, ap, subst, ◌∙◌, lit<, ◌⊎◌, inl, inr, Option, Some, None, codes}
use Rattle.std.specs.Prelude.{◌&&◌, count_by}
use Rattle.std.specs.List.{list_all, flat_map}
use Rattle.std.proofs.lemmas.Bool.{and_parts, and_from, eq-eqb, eqb-true, lt-ltb, leb-true, false_from_ne_true}
use Rattle.std.proofs.lemmas.List.{append_assoc, append-nil}
use Rattle.std.proofs.lemmas.List.Sums.{sum_by-cons}
use Rattle.std.proofs.lemmas.Slice.Eq.{bytes_eq-Decides}
use Rattle.mz_words.specs.Numbers.{is_u64, ◌>>=◌}
use Rattle.mz_lines.specs.declared.answer.Answer.{Answer}
use Rattle.mz_lines.specs.declared.command.Command.{Command}
use Rattle.mz_trace.specs.declared.run.RunEntry.{RunEntry}
use Rattle.mz_trace.specs.declared.run.StartRecord.{StartRecord}
use Rattle.mz_trace.specs.declared.run.CallRecord.{CallRecord}
use Rattle.mz_trace.specs.declared.run.RunRound.{RunRound}
use Rattle.mz_trace.specs.declared.run.Run.{Run}
use Rattle.mz_trace.specs.declared.tail.Listed.{Listed}
use Rattle.mz_trace.specs.declared.tail.Statistics.{Statistics}
use Rattle.mz_trace.specs.declared.tail.Figures.{Figures}
use Rattle.mz_lines.specs.Lines.{given_by, command_gives}
use Rattle.mz_trace.specs.Given.{has_name, with_name}
use Rattle.mz_lines.specs.Commands.{command_fits}
use Rattle.mz_lines.specs.RoundLines.{start_fits}
use Rattle.mz_lines.specs.Answers.{answer_fits}
use Rattle.mz_trace.specs.RunTexts.{outcome_lines, start_record_lines, call_record_lines, sections_from, run_round_lines, run_lines}
use Rattle.mz_trace.specs.RunForms.{entry_fits, start_record_fits, call_record_fits, round_fits, IsRun, IsTail}
use Rattle.mz_lines.specs.Spaces.{space_words}
use Rattle.mz_trace.specs.TailTexts.{listed_words, listed_fits, statistics_lines, statistics_fit, tail_lines}
use Rattle.mz_transcript.specs.declared.line.Counter.TheVariants.{BlocksInUse, SizeInUse, MaxSizeInUse, SizeAllocated}
use Rattle.mz_transcript.specs.declared.line.RunLine.{RunLine}
use Rattle.mz_transcript.specs.declared.line.RunLine.TheVariants as line
use Rattle.mz_transcript.specs.declared.line.Due.{Due}
use Rattle.mz_transcript.specs.declared.line.Due.TheVariants as due
use Rattle.mz_transcript.specs.declared.book.Book.{Book}
use Rattle.mz_transcript.specs.declared.part.Part.TheVariants.{Outside, Starts, Start, Section, Call}
use Rattle.mz_transcript.specs.declared.tail.Known.TheVariants as known
use Rattle.mz_transcript.specs.declared.stage.Stage.{Stage}
use Rattle.mz_transcript.specs.declared.stage.Stage.TheVariants.{First, Second, Rounds, Tail}
use Rattle.mz_transcript.specs.Stages.{due_of, blank_book, opened, ended, with_round, book_named, with_line, words_read}
use Rattle.mz_transcript.specs.RunLines.{line_in}
use Rattle.mz_transcript.proofs.TextLaws.{TextLaws, and_three, bind_parts, some_same}
use Rattle.mz_transcript.proofs.RunLinesAreWords.{line_words, LineFits, MayStand, callers_at, written_is_read}
use Rattle.mz_transcript.proofs.StageGrows.{Text, commands, run_commands, all_fit, gives, gives_named, one_more_name, count_more}

-- reading one line of words after another
abbrev pub reads_to : Stage → Text → Option Stage
reads_to s [] = Some s
reads_to s (ws ∷ ls) = words_read s ws >>= λ t. reads_to t ls

pub then_reads : (a b : Text) (r s : Stage) → reads_to r a ≡ Some s → reads_to r (a ++ b) ≡ reads_to s b
then_reads [] b r s h = ap (λ (q : Stage). reads_to q b) (some_same r s h)
then_reads (ws ∷ a) b r s h =
    let p = bind_parts (words_read r ws) (λ t. reads_to t a) s h in
    ap (λ (o : Option Stage). o >>= λ t. reads_to t (a ++ b)) p.1 ∙ then_reads a b p.0 s p.2

pub line_then : TextLaws → (s : Stage) (d : Due) (v : RunLine) (t : Stage) (ls : Text) → due_of s ≡ d → callers_at d < 2 ^ 64 → MayStand d v → LineFits (callers_at d) v → with_line s v ≡ Some t
    → reads_to s (line_words v ∷ ls) ≡ reads_to t ls
line_then laws s d v t ls at few may fits e =
    ap (λ (x : Due). line_in x (line_words v) >>= (λ y. with_line s y) >>= λ q. reads_to q ls) at
    ∙ ap (λ (o : Option RunLine). o >>= (λ y. with_line s y) >>= λ q. reads_to q ls) (written_is_read laws d v few may fits)
    ∙ ap (λ (o : Option Stage). o >>= λ q. reads_to q ls) e

-- a record
record Frame (inside : List RunEntry → Stage) (behind : List RunEntry → Answer → Stage) : Type 0 where
  pub told : (es : List RunEntry) → due_of (inside es) ≡ due.Told
  pub more : (es : List RunEntry) (e : RunEntry) → with_line (inside es) (line.Entry e) ≡ Some (inside (es ++ e ∷ []))
  pub ends : (es : List RunEntry) (a : Answer) → with_line (inside es) (line.Answer a) ≡ Some (behind es a)

outcome_read : TextLaws → (inside : List RunEntry → Stage) (behind : List RunEntry → Answer → Stage) (done es : List RunEntry) (a : Answer) → Frame inside behind → list_all entry_fits es ≡ true → answer_fits a ≡ true
    → reads_to (inside done) (outcome_lines es a) ≡ Some (behind (done ++ es) a)
outcome_read laws inside behind done [] a f h k =
    line_then laws (inside done) due.Told (line.Answer a) (behind done a) [] (f.told done) (lit< tt) tt k (f.ends done a)
    ∙ ap (λ (xs : List RunEntry). Some (behind xs a)) (sym (append-nil done))
outcome_read laws inside behind done (e ∷ es) a f h k =
    let p = and_parts (entry_fits e) (list_all entry_fits es) h in
    line_then laws (inside done) due.Told (line.Entry e) (inside (done ++ e ∷ [])) (outcome_lines es a) (f.told done) (lit< tt) tt p.0 (f.more done e)
    ∙ outcome_read laws inside behind (done ++ e ∷ []) es a f p.1 k ∙ ap (λ (xs : List RunEntry). Some (behind xs a)) (append_assoc done (e ∷ []) es)

starts_read : TextLaws → (b : Book) (ss ds : List StartRecord) → list_all start_record_fits ds ≡ true → reads_to (Rounds b (Starts ss)) (flat_map start_record_lines ds) ≡ Some (Rounds b (Starts (ss ++ ds)))
starts_read laws b ss [] h = ap (λ (xs : List StartRecord). Some (Rounds b (Starts xs))) (sym (append-nil ss))
starts_read laws b ss (d ∷ ds) h =
    let p = and_parts (start_record_fits d) (list_all start_record_fits ds) h in
    let q = and_three (start_fits d.line) (list_all entry_fits d.steps) (answer_fits d.answer) p.0 in
    let inside = λ (es : List RunEntry). Rounds b (Start ss d.line es) in
    let behind = λ (es : List RunEntry) (a : Answer). Rounds b (Starts (ss ++ record { line = d.line; steps = es; answer = a } ∷ [])) in
    line_then laws (Rounds b (Starts ss)) due.Start (line.Start d.line) (inside []) (outcome_lines d.steps d.answer ++ flat_map start_record_lines ds) refl (lit< tt) tt q.0 refl
    ∙ then_reads (outcome_lines d.steps d.answer) (flat_map start_record_lines ds) (inside []) (Rounds b (Starts (ss ++ d ∷ [])))
    (outcome_read laws inside behind [] d.steps d.answer (record { told = λ es. refl; more = λ es e. refl; ends = λ es a. refl }) q.1 q.2)
    ∙ starts_read laws b (ss ++ d ∷ []) ds p.1 ∙ ap (λ (xs : List StartRecord). Some (Rounds b (Starts xs))) (append_assoc ss (d ∷ []) ds)

-- the names that commands give: with those before them, each is given once
abbrev given_after : List (List ℕ) → Option (List ℕ) → List (List ℕ)
given_after given None = given
given_after given (Some name) = with_name given name

abbrev givens : List (List ℕ) → List Command → List (List ℕ)
givens given [] = given
givens given (k ∷ ks) = givens (given_after given (given_by k)) ks

abbrev with_givens : Book → List (List ℕ) → Book
with_givens b given = record { profile = b.profile; given = given; rounds = b.rounds }

abbrev Once : List (List ℕ) → List Command → Type 0
Once given ks = (base : List ℕ) → cond (has_name given base) 1 0 + count_by (command_gives base) ks ≤ 1

once_next : (given now : List (List ℕ)) (k : Command) (ks : List Command) (o : Option (List ℕ)) → given_by k ≡ o
    → ((base : List ℕ) → cond (has_name now base) 1 0 ≡ cond (has_name given base) 1 0 + cond (gives o base) 1 0) → Once given (k ∷ ks) → Once now ks
once_next given now k ks o e more h = λ base.
    let first = sum_by-cons (λ (y : Command). cond (command_gives base y) 1 0) k ks in
    let here = ap (λ (t : Bool). let n : ℕ = cond t 1 0 in n) (gives_named k base ∙ ap (λ (x : Option (List ℕ)). gives x base) e) in
    omega (arith, first, here, h base, more base)

none_before : (t : Bool) (n : ℕ) → cond t 1 0 + (1 + n) ≤ 1 → t ≡ false
none_before true n h = absurd (omega arith)
none_before false n h = refl

named_once : TextLaws → (b : Book) (k : Command) (ks : List Command) (o : Option (List ℕ)) → given_by k ≡ o → Once b.given (k ∷ ks)
    → (book_named b o ≡ Some (with_givens b (given_after b.given o))) × Once (given_after b.given o) ks
named_once laws b k ks None e h = (refl, once_next b.given b.given k ks None e (λ base. omega arith) h)
named_once laws b k ks (Some name) e h =
    let first = sum_by-cons (λ (y : Command). cond (command_gives name y) 1 0) k ks in
    let here = ap (λ (t : Bool). let n : ℕ = cond t 1 0 in n) (gives_named k name ∙ ap (λ (x : Option (List ℕ)). gives x name) e ∙ (bytes_eq-Decides name name).1 refl) in
    let new = none_before (has_name b.given name) (count_by (command_gives name) ks) (omega (arith, h name, first, here)) in
    (rw new refl, once_next b.given (with_name b.given name) k ks (Some name) e (λ base. one_more_name laws b.given name base new) h)

once_after : TextLaws → (b : Book) (xs ks : List Command) → Once b.given (xs ++ ks) → Once (givens b.given xs) ks
once_after laws b [] ks h = h
once_after laws b (x ∷ xs) ks h = once_after laws (with_givens b (given_after b.given (given_by x))) xs ks (named_once laws b x (xs ++ ks) (given_by x) refl h).1

givens-append : (given : List (List ℕ)) (xs ys : List Command) → givens given (xs ++ ys) ≡ givens (givens given xs) ys
givens-append given [] ys = refl
givens-append given (x ∷ xs) ys = givens-append (given_after given (given_by x)) xs ys

-- the records of a section
calls_read : TextLaws → (b : Book) (ss : List StartRecord) (ls : List (List CallRecord)) (cs ds : List CallRecord) (ks : List Command) → b.profile.callers < 2 ^ 64
    → list_all (call_record_fits b.profile.callers) ds ≡ true → Once b.given (commands ds ++ ks)
    → reads_to (Rounds b (Section ss ls cs)) (flat_map call_record_lines ds) ≡ Some (Rounds (with_givens b (givens b.given (commands ds))) (Section ss ls (cs ++ ds)))
calls_read laws b ss ls cs [] ks small h once = ap (λ (xs : List CallRecord). Some (Rounds b (Section ss ls xs))) (sym (append-nil cs))
calls_read laws b ss ls cs (d ∷ ds) ks small h once =
    let p = and_parts (call_record_fits b.profile.callers d) (list_all (call_record_fits b.profile.callers) ds) h in
    let q = and_three (command_fits b.profile.callers d.command) (list_all entry_fits d.steps) (answer_fits d.answer) p.0 in
    let n = named_once laws b d.command (commands ds ++ ks) (given_by d.command) refl once in
    let c = with_givens b (given_after b.given (given_by d.command)) in
    let inside = λ (es : List RunEntry). Rounds c (Call ss ls cs d.command es) in
    let behind = λ (es : List RunEntry) (a : Answer). Rounds c (Section ss ls (cs ++ record { command = d.command; steps = es; answer = a } ∷ [])) in
    line_then laws (Rounds b (Section ss ls cs)) (due.Call b.profile.callers) (line.Call d.command) (inside []) (outcome_lines d.steps d.answer ++ flat_map call_record_lines ds) refl small tt q.0
    (ap (λ (o : Option Book). o >>= λ x. Some (Rounds x (Call ss ls cs d.command []))) n.0)
    ∙ then_reads (outcome_lines d.steps d.answer) (flat_map call_record_lines ds) (inside []) (Rounds c (Section ss ls (cs ++ d ∷ [])))
    (outcome_read laws inside behind [] d.steps d.answer (record { told = λ es. refl; more = λ es e. refl; ends = λ es a. refl }) q.1 q.2)
    ∙ calls_read laws c ss ls (cs ++ d ∷ []) ds ks small p.1 n.1
    ∙ ap (λ (xs : List CallRecord). Some (Rounds (with_givens b (givens b.given (commands (d ∷ ds)))) (Section ss ls xs))) (append_assoc cs (d ∷ []) ds)

-- Behind the last section stands `round` or `end`: then it is as if the round were closed.
abbrev Heads : Text → Type 0
Heads [] = ⊥
Heads (ws ∷ ls) = (ws ≡ codes "round" ∷ []) ⊎ (ws ≡ codes "end" ∷ [])

abbrev round_with : List StartRecord → List (List CallRecord) → RunRound
round_with ss lists = record { starts = ss; callers = lists }

whole_reads : (b : Book) (ss : List StartRecord) (ls : List (List CallRecord)) (cs : List CallRecord) (rest : Text) → length ls + 1 ≡ b.profile.callers → Heads rest
    → reads_to (Rounds b (Section ss ls cs)) rest ≡ reads_to (Rounds (with_round b (round_with ss (ls ++ cs ∷ []))) Outside) rest
whole_reads b ss ls cs [] whole h = absurd h
whole_reads b ss ls cs (ws ∷ rest) whole h =
    let closes = λ (f : Book → Option Stage) (t : Bool). (cond t (Some (with_round b (round_with ss (ls ++ cs ∷ [])))) None >>= f) >>= λ q. reads_to q rest in
    let Same : List (List ℕ) → Type 0 = λ x.
    reads_to (Rounds b (Section ss ls cs)) (x ∷ rest) ≡ reads_to (Rounds (with_round b (round_with ss (ls ++ cs ∷ []))) Outside) (x ∷ rest) in
    elim h [
      | inl e ↦ subst Same (sym e) (ap (closes opened) (eq-eqb _ _ whole))
      | inr e ↦ subst Same (sym e) (ap (closes (λ c. Some (ended c))) (eq-eqb _ _ whole))
    ]

-- the sections of further callers
sections_read : TextLaws → (b : Book) (ss : List StartRecord) (ls : List (List CallRecord)) (cs : List CallRecord) (lists : List (List CallRecord)) (ks : List Command) (rest : Text)
    → b.profile.callers < 2 ^ 64 → all_fit b.profile.callers lists ≡ true → Once b.given (flat_map commands lists ++ ks) → length ls + 1 + length lists ≡ b.profile.callers → Heads rest
    → reads_to (Rounds b (Section ss ls cs)) (sections_from (length ls + 1) lists ++ rest)
    ≡ reads_to (Rounds (with_round (with_givens b (givens b.given (flat_map commands lists))) (round_with ss (ls ++ cs ∷ lists))) Outside) rest
sections_read laws b ss ls cs [] ks rest small h once count heads = whole_reads b ss ls cs rest (omega (arith, count)) heads
sections_read laws b ss ls cs (x ∷ xs) ks rest small h once count heads =
    let n = length ls + 1 in
    let p = and_parts (list_all (call_record_fits b.profile.callers) x) (all_fit b.profile.callers xs) h in
    let split : Once b.given (commands x ++ (flat_map commands xs ++ ks)) = λ base. subst (λ (js : List Command). cond (has_name b.given base) 1 0 + count_by (command_gives base) js ≤ 1) (append_assoc (commands x) (flat_map commands xs) ks) (once base) in
    let c = with_givens b (givens b.given (commands x)) in
    let within : n < b.profile.callers = omega (arith, count) in
    let opens : with_line (Rounds b (Section ss ls cs)) (line.Caller n) ≡ Some (Rounds b (Section ss (ls ++ cs ∷ []) [])) =
    ap (λ (t : Bool). cond t (Some (Rounds b (Section ss (ls ++ cs ∷ []) []))) None) (and_from _ _ (eq-eqb n n refl) (lt-ltb _ _ within)) in
    let next : length (ls ++ cs ∷ []) + 1 ≡ n + 1 = omega (arith, count_more ls cs) in
    line_then laws (Rounds b (Section ss ls cs)) (due.Call b.profile.callers) (line.Caller n) (Rounds b (Section ss (ls ++ cs ∷ []) [])) ((flat_map call_record_lines x ++ sections_from (n + 1) xs) ++ rest) refl small tt (lt-ltb _ _ (omega (arith, within, small))) opens
    ∙ ap (reads_to (Rounds b (Section ss (ls ++ cs ∷ []) []))) (append_assoc (flat_map call_record_lines x) (sections_from (n + 1) xs) rest)
    ∙ then_reads (flat_map call_record_lines x) (sections_from (n + 1) xs ++ rest) (Rounds b (Section ss (ls ++ cs ∷ []) [])) (Rounds c (Section ss (ls ++ cs ∷ []) x))
    (calls_read laws b ss (ls ++ cs ∷ []) [] x (flat_map commands xs ++ ks) small p.0 split)
    ∙ ap (λ (m : ℕ). reads_to (Rounds c (Section ss (ls ++ cs ∷ []) x)) (sections_from m xs ++ rest)) (sym next)
    ∙ sections_read laws c ss (ls ++ cs ∷ []) x xs ks rest small p.1 (once_after laws b (commands x) (flat_map commands xs ++ ks) split) (omega (arith, count, next)) heads
    ∙ ap (λ (g : List (List ℕ)). reads_to (Rounds (with_round (with_givens b g) (round_with ss ((ls ++ cs ∷ []) ++ x ∷ xs))) Outside) rest) (sym (givens-append b.given (commands x) (flat_map commands xs)))
    ∙ ap (λ (ys : List (List CallRecord)). reads_to (Rounds (with_round (with_givens b (givens b.given (flat_map commands (x ∷ xs)))) (round_with ss ys)) Outside) rest) (append_assoc ls (cs ∷ []) (x ∷ xs))

-- whole rounds
round_read : TextLaws → (b : Book) (ss : List StartRecord) (lists : List (List CallRecord)) (ks : List Command) (rest : Text) → b.profile.callers < 2 ^ 64 → 1 ≤ b.profile.callers
    → round_fits b.profile.callers (round_with ss lists) ≡ true → Once b.given (flat_map commands lists ++ ks) → Heads rest
    → reads_to (Rounds b (Starts [])) (flat_map start_record_lines ss ++ (sections_from 0 lists ++ rest))
    ≡ reads_to (Rounds (with_round (with_givens b (givens b.given (flat_map commands lists))) (round_with ss lists)) Outside) rest
round_read laws b ss [] ks rest small some h once heads =
    let p = and_three (list_all start_record_fits ss) true (eqb 0 b.profile.callers) h in absurd (omega (arith, eqb-true 0 b.profile.callers p.2))
round_read laws b ss (x ∷ xs) ks rest small some h once heads =
    let p = and_three (list_all start_record_fits ss) (all_fit b.profile.callers (x ∷ xs)) (eqb (length (x ∷ xs)) b.profile.callers) h in
    let q = and_parts (list_all (call_record_fits b.profile.callers) x) (all_fit b.profile.callers xs) p.1 in
    let split : Once b.given (commands x ++ (flat_map commands xs ++ ks)) = λ base. subst (λ (js : List Command). cond (has_name b.given base) 1 0 + count_by (command_gives base) js ≤ 1) (append_assoc (commands x) (flat_map commands xs) ks) (once base) in
    let c = with_givens b (givens b.given (commands x)) in
    then_reads (flat_map start_record_lines ss) (sections_from 0 (x ∷ xs) ++ rest) (Rounds b (Starts [])) (Rounds b (Starts ss)) (starts_read laws b [] ss p.0)
    ∙ line_then laws (Rounds b (Starts ss)) due.Start (line.Caller 0) (Rounds b (Section ss [] [])) ((flat_map call_record_lines x ++ sections_from 1 xs) ++ rest) refl (lit< tt) tt refl refl
    ∙ ap (reads_to (Rounds b (Section ss [] []))) (append_assoc (flat_map call_record_lines x) (sections_from 1 xs) rest)
    ∙ then_reads (flat_map call_record_lines x) (sections_from 1 xs ++ rest) (Rounds b (Section ss [] [])) (Rounds c (Section ss [] x)) (calls_read laws b ss [] [] x (flat_map commands xs ++ ks) small q.0 split)
    ∙ sections_read laws c ss [] x xs ks rest small q.1 (once_after laws b (commands x) (flat_map commands xs ++ ks) split) (omega (arith, eqb-true _ _ p.2)) heads
    ∙ ap (λ (g : List (List ℕ)). reads_to (Rounds (with_round (with_givens b g) (round_with ss (x ∷ xs))) Outside) rest) (sym (givens-append b.given (commands x) (flat_map commands xs)))

abbrev with_rounds : Book → List RunRound → Book
with_rounds b rs = record { profile = b.profile; given = givens b.given (run_commands rs); rounds = b.rounds ++ rs }

heads_more : (rs : List RunRound) (rest : Text) → Heads rest → Heads (flat_map run_round_lines rs ++ rest)
heads_more [] rest h = h
heads_more (r ∷ rs) rest h = inl refl

rounds_read : TextLaws → (b : Book) (rs : List RunRound) (rest : Text) → b.profile.callers < 2 ^ 64 → 1 ≤ b.profile.callers → list_all (round_fits b.profile.callers) rs ≡ true
    → Once b.given (run_commands rs) → length b.rounds + length rs ≤ 4096 → Heads rest
    → reads_to (Rounds b Outside) (flat_map run_round_lines rs ++ rest) ≡ reads_to (Rounds (with_rounds b rs) Outside) rest
rounds_read laws b [] rest small some h once few heads = ap (λ (xs : List RunRound). reads_to (Rounds (record { profile = b.profile; given = b.given; rounds = xs }) Outside) rest) (sym (append-nil b.rounds))
rounds_read laws b (r ∷ rs) rest small some h once few heads =
    let p = and_parts (round_fits b.profile.callers r) (list_all (round_fits b.profile.callers) rs) h in
    let S = flat_map start_record_lines r.starts in
    let T = sections_from 0 r.callers in
    let F = flat_map run_round_lines rs in
    let c = with_round (with_givens b (givens b.given (flat_map commands r.callers))) r in
    let room : leb 4096 (length b.rounds) ≡ false = false_from_ne_true _ (λ e. omega (arith, few, leb-true _ _ e)) in
    let parts : ((S ++ T) ++ F) ++ rest ≡ S ++ (T ++ (F ++ rest)) = simp append_assoc in
    line_then laws (Rounds b Outside) due.Heading line.Round (Rounds b (Starts [])) (((S ++ T) ++ F) ++ rest) refl (lit< tt) tt tt (ap (λ (t : Bool). cond t None (Some (Rounds b (Starts [])))) room)
    ∙ ap (reads_to (Rounds b (Starts []))) parts
    ∙ round_read laws b r.starts r.callers (run_commands rs) (F ++ rest) small some p.0 once (heads_more rs rest heads)
    ∙ rounds_read laws c rs rest small some p.1 (once_after laws b (flat_map commands r.callers) (run_commands rs) once) (omega (arith, few, count_more b.rounds r)) heads
    ∙ ap (λ (g : List (List ℕ)). reads_to (Rounds (record { profile = b.profile; given = g; rounds = (b.rounds ++ r ∷ []) ++ rs }) Outside) rest) (sym (givens-append b.given (flat_map commands r.callers) (run_commands rs)))
    ∙ ap (λ (xs : List RunRound). reads_to (Rounds (record { profile = b.profile; given = givens b.given (run_commands (r ∷ rs)); rounds = xs }) Outside) rest) (append_assoc b.rounds (r ∷ []) rs)

-- what stands behind the rounds
listing_read : TextLaws → (r : Run) (bs ds : List Listed) (rest : Text) → list_all listed_fits ds ≡ true
    → reads_to (Tail r bs known.Nothing) (map listed_words ds ++ rest) ≡ reads_to (Tail r (bs ++ ds) known.Nothing) rest
listing_read laws r bs [] rest h = ap (λ (xs : List Listed). reads_to (Tail r xs known.Nothing) rest) (sym (append-nil bs))
listing_read laws r bs (d ∷ ds) rest h =
    let p = and_parts (listed_fits d) (list_all listed_fits ds) h in
    line_then laws (Tail r bs known.Nothing) due.Block (line.Block d) (Tail r (bs ++ d ∷ []) known.Nothing) (map listed_words ds ++ rest) refl (lit< tt) tt p.0 refl
    ∙ listing_read laws r (bs ++ d ∷ []) ds rest p.1 ∙ ap (λ (xs : List Listed). reads_to (Tail r xs known.Nothing) rest) (append_assoc bs (d ∷ []) ds)

pub statistics_read : TextLaws → (r : Run) (bs : List Listed) (s : Statistics) → statistics_fit s ≡ true → reads_to (Tail r bs known.Nothing) (statistics_lines s) ≡ Some (Tail r bs (known.All s))
statistics_read laws r bs s h =
    let p = and_parts (is_u64 s.blocks_in_use && is_u64 s.size_in_use) (is_u64 s.max_size_in_use && is_u64 s.size_allocated) h in
    let q = and_parts (is_u64 s.blocks_in_use) (is_u64 s.size_in_use) p.0 in
    let z = and_parts (is_u64 s.max_size_in_use) (is_u64 s.size_allocated) p.1 in
    let one = Tail r bs (known.Blocks s.blocks_in_use) in
    let two = Tail r bs (known.Size s.blocks_in_use s.size_in_use) in
    let three = Tail r bs (known.MaxSize s.blocks_in_use s.size_in_use s.max_size_in_use) in
    let last : Text = line_words (line.Statistic SizeAllocated s.size_allocated) ∷ [] in
    let third : Text = line_words (line.Statistic MaxSizeInUse s.max_size_in_use) ∷ last in
    let second : Text = line_words (line.Statistic SizeInUse s.size_in_use) ∷ third in
    line_then laws (Tail r bs known.Nothing) due.Block (line.Statistic BlocksInUse s.blocks_in_use) one second refl (lit< tt) tt q.0 refl
    ∙ line_then laws one (due.Statistic SizeInUse) (line.Statistic SizeInUse s.size_in_use) two third refl (lit< tt) tt q.1 refl
    ∙ line_then laws two (due.Statistic MaxSizeInUse) (line.Statistic MaxSizeInUse s.max_size_in_use) three last refl (lit< tt) tt z.0 refl
    ∙ line_then laws three (due.Statistic SizeAllocated) (line.Statistic SizeAllocated s.size_allocated) (Tail r bs (known.All s)) [] refl (lit< tt) tt z.1 refl

-- the whole text
pub run_read : TextLaws → (r : Run) (t : Figures) → IsRun r → IsTail t → reads_to First (run_lines r ++ tail_lines t) ≡ Some (Tail r t.listing (known.All t.statistics))
run_read laws r t h k =
    let b = blank_book r.profile in
    let lines = flat_map run_round_lines r.rounds in
    let small : r.profile.callers < 2 ^ 64 = omega (arith, h.limits.callers.1) in
    line_then laws First due.First line.First Second (space_words r.profile ∷ ((lines ++ (codes "end" ∷ []) ∷ []) ++ tail_lines t)) refl (lit< tt) tt tt refl
    ∙ line_then laws Second due.Space (line.Space r.profile) (Rounds b Outside) ((lines ++ (codes "end" ∷ []) ∷ []) ++ tail_lines t) refl (lit< tt) tt h.limits refl
    ∙ ap (reads_to (Rounds b Outside)) (append_assoc lines ((codes "end" ∷ []) ∷ []) (tail_lines t))
    ∙ rounds_read laws b r.rounds ((codes "end" ∷ []) ∷ tail_lines t) small h.limits.callers.0 h.each (λ base. omega (arith, h.given_once base)) (omega (arith, h.few)) (inr refl)
    ∙ line_then laws (Rounds (with_rounds b r.rounds) Outside) due.Heading line.End (Tail r [] known.Nothing) (tail_lines t) refl (lit< tt) tt tt refl
    ∙ listing_read laws r [] t.listing (statistics_lines t.statistics) k.each ∙ statistics_read laws r t.listing t.statistics k.numbers
