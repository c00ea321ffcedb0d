-- The lines of a printed run and their words: what is written is read again where it is due, and what is read is written.
use Rattle.std.proofs.Common.{◌≡◌, ℕ, ◌<◌, ◌≤◌, ◌^◌, Bool, true, false, List, [], ◌∷◌, length, cond, leb, arith, refl, sym, ap, subst, ◌∙◌, lit≤, inl, inr, Option, Some, codes}
use Rattle.std.specs.Prelude.{◌&&◌}
use Rattle.std.specs.Str.{bytes_eq}
use Rattle.std.specs.Fmt.{decimal}
use Rattle.std.proofs.lemmas.Bool.{and_parts, and_from, le-leb, false_from_ne_true}
use Rattle.mz_base.specs.declared.profile.Profile.{Profile}
use Rattle.mz_base.specs.Limits.{IsWithinLimits}
use Rattle.mz_words.specs.Numbers.{is_u64, are_digits, number_of, ◌>>=◌}
use Rattle.mz_words.specs.Lines.{is_visible_word, are_visible}
use Rattle.mz_lines.specs.declared.answer.Answer.{Answer}
use Rattle.mz_lines.specs.declared.command.Command.{Command}
use Rattle.mz_lines.specs.declared.command.Command.TheVariants as command
use Rattle.mz_lines.specs.declared.round_line.RoundLine.{RoundLine}
use Rattle.mz_lines.specs.declared.round_line.RoundLine.TheVariants as at
use Rattle.mz_trace.specs.declared.run.RunEntry.{RunEntry}
use Rattle.mz_trace.specs.declared.tail.Listed.{Listed}
use Rattle.mz_lines.specs.Commands.{command_in, command_words, command_fits}
use Rattle.mz_lines.specs.RoundLines.{start_in, start_words, start_fits}
use Rattle.mz_lines.specs.Spaces.{profile_in, space_words}
use Rattle.mz_lines.specs.Events.{event_words}
use Rattle.mz_lines.specs.Answers.{answer_words, answer_fits}
use Rattle.mz_trace.specs.TailTexts.{listed_words, listed_fits}
use Rattle.mz_trace.specs.RunTexts.{entry_words}
use Rattle.mz_trace.specs.RunForms.{entry_fits}
use Rattle.mz_transcript.specs.declared.line.Counter.{Counter}
use Rattle.mz_transcript.specs.declared.line.Counter.TheVariants.{BlocksInUse, SizeInUse, MaxSizeInUse, SizeAllocated}
use Rattle.mz_transcript.specs.declared.line.RunLine.{RunLine}
use Rattle.mz_transcript.specs.declared.line.RunLine.TheVariants as line
use Rattle.mz_transcript.specs.declared.line.Due.{Due}
use Rattle.mz_transcript.specs.declared.line.Due.TheVariants as due
use Rattle.mz_transcript.specs.Entries.{entry_in}
use Rattle.mz_lines.specs.Answers.{answer_in}
use Rattle.mz_transcript.specs.Listings.{listed_in}
use Rattle.mz_transcript.specs.RunLines.{counter_word, heading_of, answer_line_in, entry_line_in, start_line_in, call_line_in, statistic_in, line_in}
use Rattle.mz_transcript.proofs.TextLaws.{TextLaws, bind_parts, some_same, when_parts, either_parts, same_word}
use Rattle.mz_transcript.proofs.EntriesAreSentences.{listed_again, listed_spelled, listed_visible, step_again, step_spelled, step_visible, step_count}

abbrev pub line_words : RunLine → List (List ℕ)
line_words line.First = codes "mzone-run" ∷ codes "1" ∷ []
line_words (line.Space p) = space_words p
line_words line.Round = codes "round" ∷ []
line_words (line.Caller n) = codes "caller" ∷ decimal n ∷ []
line_words line.End = codes "end" ∷ []
line_words (line.Start x) = codes ">" ∷ start_words x
line_words (line.Call k) = codes ">" ∷ command_words k
line_words (line.Entry e) = entry_words e
line_words (line.Answer a) = codes "=" ∷ answer_words a
line_words (line.Block b) = listed_words b
line_words (line.Statistic k n) = counter_word k ∷ decimal n ∷ []

-- a line of a run with so many callers
abbrev pub LineFits : ℕ → RunLine → Type 0
LineFits callers (line.Space p) = IsWithinLimits p
LineFits callers (line.Caller n) = is_u64 n ≡ true
LineFits callers (line.Start x) = start_fits x ≡ true
LineFits callers (line.Call k) = command_fits callers k ≡ true
LineFits callers (line.Entry e) = entry_fits e ≡ true
LineFits callers (line.Answer a) = answer_fits a ≡ true
LineFits callers (line.Block b) = listed_fits b ≡ true
LineFits callers (line.Statistic k n) = is_u64 n ≡ true
LineFits callers _ = Unit {0}

abbrev pub callers_at : Due → ℕ
callers_at (due.Call callers) = callers
callers_at _ = 0

-- where a line may stand
abbrev pub MayStand : Due → RunLine → Type 0
MayStand due.First line.First = Unit {0}
MayStand due.Space (line.Space p) = Unit {0}
MayStand due.Heading line.Round = Unit {0}
MayStand due.Heading line.End = Unit {0}
MayStand due.Start (line.Caller n) = Unit {0}
MayStand due.Start (line.Start x) = Unit {0}
MayStand (due.Call callers) line.Round = Unit {0}
MayStand (due.Call callers) line.End = Unit {0}
MayStand (due.Call callers) (line.Caller n) = Unit {0}
MayStand (due.Call callers) (line.Call k) = Unit {0}
MayStand due.Told (line.Entry e) = Unit {0}
MayStand due.Told (line.Answer a) = Unit {0}
MayStand due.Block (line.Block b) = Unit {0}
MayStand due.Block (line.Statistic BlocksInUse n) = Unit {0}
MayStand (due.Statistic SizeInUse) (line.Statistic SizeInUse n) = Unit {0}
MayStand (due.Statistic MaxSizeInUse) (line.Statistic MaxSizeInUse n) = Unit {0}
MayStand (due.Statistic SizeAllocated) (line.Statistic SizeAllocated n) = Unit {0}
MayStand _ _ = ⊥

-- a ticket isn't the `=` in front of an answer
ticket_is_no : TextLaws → (n : ℕ) → is_u64 n ≡ true → bytes_eq (decimal n) (codes "=") ≡ false
ticket_is_no laws n h = false_from_ne_true _ (λ e.
    let digits : are_digits (codes "=") ≡ true = ap are_digits (sym (same_word (decimal n) (codes "=") e)) ∙ laws.words.numbers.digits n h in
    let bad : false ≡ true = digits in absurd cc)

-- what is written is read again
caller_again : TextLaws → (n : ℕ) → is_u64 n ≡ true → heading_of (codes "caller") (decimal n ∷ []) ≡ Some (line.Caller n)
caller_again laws n h = ap (λ (o : Option ℕ). o >>= λ c. Some (line.Caller c)) (laws.words.numbers.again n h)

entry_again : TextLaws → (e : RunEntry) → entry_fits e ≡ true → line_in due.Told (entry_words e) ≡ Some (line.Entry e)
entry_again laws e h =
    ap (λ (t : Bool). cond t (answer_line_in (event_words e.event)) (entry_line_in (entry_words e))) (ticket_is_no laws e.ticket (and_parts (is_u64 e.ticket) _ h).0)
    ∙ ap (λ (o : Option RunEntry). o >>= λ x. Some (line.Entry x)) (step_again laws e h)

pub written_is_read : TextLaws → (d : Due) (v : RunLine) → callers_at d < 2 ^ 64 → MayStand d v → LineFits (callers_at d) v → line_in d (line_words v) ≡ Some v
written_is_read laws due.First line.First few may h = refl
written_is_read laws due.Space (line.Space p) few may h = ap (λ (o : Option Profile). o >>= λ q. Some (line.Space q)) (laws.lines.profiles.again p h)
written_is_read laws due.Heading line.Round few may h = refl
written_is_read laws due.Heading line.End few may h = refl
written_is_read laws due.Start (line.Caller n) few may h = caller_again laws n h
written_is_read laws due.Start (line.Start x) few may h = ap (λ (o : Option RoundLine). o >>= λ y. Some (line.Start y)) (laws.lines.starts.again x h)
written_is_read laws (due.Call callers) line.Round few may h = refl
written_is_read laws (due.Call callers) line.End few may h = refl
written_is_read laws (due.Call callers) (line.Caller n) few may h = caller_again laws n h
written_is_read laws (due.Call callers) (line.Call k) few may h = ap (λ (o : Option Command). o >>= λ j. Some (line.Call j)) (laws.lines.commands.again callers k few h)
written_is_read laws due.Told (line.Entry e) few may h = entry_again laws e h
written_is_read laws due.Told (line.Answer a) few may h = ap (λ (o : Option Answer). o >>= λ x. Some (line.Answer x)) (laws.lines.answers.again a h)
written_is_read laws due.Block (line.Block b) few may h = ap (λ (o : Option Listed). o >>= λ x. Some (line.Block x)) (listed_again laws b h)
written_is_read laws due.Block (line.Statistic BlocksInUse n) few may h = ap (λ (o : Option ℕ). o >>= λ c. Some (line.Statistic BlocksInUse c)) (laws.words.numbers.again n h)
written_is_read laws (due.Statistic SizeInUse) (line.Statistic SizeInUse n) few may h = ap (λ (o : Option ℕ). o >>= λ c. Some (line.Statistic SizeInUse c)) (laws.words.numbers.again n h)
written_is_read laws (due.Statistic MaxSizeInUse) (line.Statistic MaxSizeInUse n) few may h = ap (λ (o : Option ℕ). o >>= λ c. Some (line.Statistic MaxSizeInUse c)) (laws.words.numbers.again n h)
written_is_read laws (due.Statistic SizeAllocated) (line.Statistic SizeAllocated n) few may h = ap (λ (o : Option ℕ). o >>= λ c. Some (line.Statistic SizeAllocated c)) (laws.words.numbers.again n h)
written_is_read laws _ _ few may h = absurd may

-- and what is read is written
abbrev pub Spells : ℕ → List (List ℕ) → RunLine → Type 0
Spells callers ws v = (ws ≡ line_words v) × LineFits callers v

spells : (callers : ℕ) (ws : List (List ℕ)) (a v : RunLine) → Some a ≡ Some v → ws ≡ line_words a → LineFits callers a → Spells callers ws v
spells callers ws a v e words fits = subst (λ (x : RunLine). Spells callers ws x) (some_same a v e) (words, fits)

-- a value in a line, behind what stands in front of it
value_spelled : {A : Type 0} (callers : ℕ) (ws : List (List ℕ)) (o : Option A) (to : A → RunLine) (v : RunLine) → (o >>= λ x. Some (to x)) ≡ Some v
    → ((x : A) → o ≡ Some x → Spells callers ws (to x)) → Spells callers ws v
value_spelled callers ws o to v h k = let p = bind_parts o _ v h in let s = k p.0 p.1 in spells callers ws (to p.0) v p.2 s.0 s.1

heading_spelled : TextLaws → (callers : ℕ) (w : List ℕ) (ws : List (List ℕ)) (v : RunLine) → heading_of w ws ≡ Some v → Spells callers (w ∷ ws) v
heading_spelled laws callers w [] v h = elim (either_parts (bytes_eq w (codes "round")) _ _ v h) [
  | inl p ↦ spells callers (w ∷ []) line.Round v p.1 (ap (λ (x : List ℕ). x ∷ []) (same_word w _ p.0)) tt
  | inr q ↦ let p = when_parts (bytes_eq w (codes "end")) _ v q in spells callers (w ∷ []) line.End v p.1 (ap (λ (x : List ℕ). x ∷ []) (same_word w _ p.0)) tt
]
heading_spelled laws callers w (n ∷ []) v h =
    let p = when_parts (bytes_eq w (codes "caller")) _ v h in
    value_spelled callers (w ∷ n ∷ []) (number_of n) line.Caller v p.1
    (λ c e. let s = laws.words.numbers.spelled n c e in (rw (same_word w _ p.0, s.0) refl, s.1))
heading_spelled laws callers w (n ∷ x ∷ ws) v h = absurd cc

statistic_spelled : TextLaws → (callers : ℕ) (k : Counter) (ws : List (List ℕ)) (v : RunLine) → statistic_in k ws ≡ Some v → Spells callers ws v
statistic_spelled laws callers k [] v h = absurd cc
statistic_spelled laws callers k (w ∷ []) v h = absurd cc
statistic_spelled laws callers k (w ∷ n ∷ []) v h =
    let p = when_parts (bytes_eq w (counter_word k)) _ v h in
    value_spelled callers (w ∷ n ∷ []) (number_of n) (line.Statistic k) v p.1
    (λ c e. let s = laws.words.numbers.spelled n c e in (rw (same_word w _ p.0, s.0) refl, s.1))
statistic_spelled laws callers k (w ∷ n ∷ x ∷ ws) v h = absurd cc

first_spelled : (callers : ℕ) (ws : List (List ℕ)) (v : RunLine) → line_in due.First ws ≡ Some v → Spells callers ws v
first_spelled callers (w ∷ x ∷ []) v h =
    let p = when_parts (bytes_eq w (codes "mzone-run") && bytes_eq x (codes "1")) _ v h in
    let q = and_parts (bytes_eq w (codes "mzone-run")) (bytes_eq x (codes "1")) p.0 in
    spells callers (w ∷ x ∷ []) line.First v p.1 (rw (same_word w _ q.0, same_word x _ q.1) refl) tt
first_spelled callers _ v h = absurd cc

-- behind a word in front, or something else
behind_word : (callers : ℕ) (w word : List ℕ) (ws : List (List ℕ)) (o p : Option RunLine) (v : RunLine) → cond (bytes_eq w word) o p ≡ Some v
    → (o ≡ Some v → Spells callers (word ∷ ws) v) → (p ≡ Some v → Spells callers (w ∷ ws) v) → Spells callers (w ∷ ws) v
behind_word callers w word ws o p v h k l = elim (either_parts (bytes_eq w word) o p v h) [
  | inl q ↦ subst (λ (x : List ℕ). Spells callers (x ∷ ws) v) (sym (same_word w word q.0)) (k q.1)
  | inr q ↦ l q
]

more_words : (word : List ℕ) (ts ws : List (List ℕ)) → ts ≡ ws → word ∷ ts ≡ word ∷ ws
more_words word ts ws e = ap (λ (x : List (List ℕ)). word ∷ x) e

pub read_is_written : TextLaws → (d : Due) (ws : List (List ℕ)) (v : RunLine) → line_in d ws ≡ Some v → Spells (callers_at d) ws v
read_is_written laws due.First ws v h = first_spelled 0 ws v h
read_is_written laws due.Space ws v h = value_spelled 0 ws (profile_in ws) line.Space v h (λ p e. laws.lines.profiles.spelled ws p e)
read_is_written laws due.Heading [] v h = absurd cc
read_is_written laws due.Heading (w ∷ ws) v h = heading_spelled laws 0 w ws v h
read_is_written laws due.Start [] v h = absurd cc
read_is_written laws due.Start (w ∷ ws) v h =
    behind_word 0 w (codes ">") ws (start_line_in ws) (heading_of w ws) v h
    (λ k. value_spelled 0 (codes ">" ∷ ws) (start_in 0 ws) line.Start v k (λ x e. let s = laws.lines.starts.spelled ws x e in (more_words (codes ">") ws _ s.0, s.1)))
    (heading_spelled laws 0 w ws v)
read_is_written laws (due.Call callers) [] v h = absurd cc
read_is_written laws (due.Call callers) (w ∷ ws) v h =
    behind_word callers w (codes ">") ws (call_line_in callers ws) (heading_of w ws) v h
    (λ k. value_spelled callers (codes ">" ∷ ws) (command_in callers ws) line.Call v k
    (λ x e. let s = laws.lines.commands.spelled callers ws x e in (more_words (codes ">") ws _ s.0, s.1)))
    (heading_spelled laws callers w ws v)
read_is_written laws due.Told [] v h = absurd cc
read_is_written laws due.Told (w ∷ ws) v h =
    behind_word 0 w (codes "=") ws (answer_line_in ws) (entry_line_in (w ∷ ws)) v h
    (λ k. value_spelled 0 (codes "=" ∷ ws) (answer_in ws) line.Answer v k (λ x e. let s = laws.lines.answers.spelled ws x e in (more_words (codes "=") ws _ s.0, s.1)))
    (λ k. value_spelled 0 (w ∷ ws) (entry_in (w ∷ ws)) line.Entry v k (step_spelled laws (w ∷ ws)))
read_is_written laws due.Block [] v h = absurd cc
read_is_written laws due.Block (w ∷ ws) v h = elim (either_parts (bytes_eq w (codes "block")) _ _ v h) [
  | inl p ↦ value_spelled 0 (w ∷ ws) (listed_in (w ∷ ws)) line.Block v p.1 (listed_spelled laws (w ∷ ws))
  | inr q ↦ statistic_spelled laws 0 BlocksInUse (w ∷ ws) v q
]
read_is_written laws (due.Statistic k) ws v h = statistic_spelled laws 0 k ws v h
read_is_written laws due.Nothing ws v h = absurd cc

-- the words of a line can be seen, and are at most twelve
abbrev pub are_plain : List (List ℕ) → Bool
are_plain ws = are_visible ws && leb (length ws) 12

plain : (ws : List (List ℕ)) → are_visible ws ≡ true → length ws ≤ 12 → are_plain ws ≡ true
plain ws h k = and_from _ _ h (le-leb _ _ k)

start_count : (x : RoundLine) → length (start_words x) ≤ 5
start_count (at.Where addr) = lit≤ tt
start_count _ = lit≤ tt

command_count : (k : Command) → length (command_words k) ≤ 5
command_count (command.Use zone) = lit≤ tt
command_count _ = lit≤ tt

counter_visible : (k : Counter) → is_visible_word (counter_word k) ≡ true
counter_visible BlocksInUse = refl
counter_visible _ = refl

pub line_plain : TextLaws → (callers : ℕ) (v : RunLine) → callers < 2 ^ 64 → LineFits callers v → are_plain (line_words v) ≡ true
line_plain laws callers line.First few h = refl
line_plain laws callers (line.Space p) few h = plain (space_words p) (laws.lines.profiles.visible p h) (lit≤ tt)
line_plain laws callers line.Round few h = refl
line_plain laws callers (line.Caller n) few h = plain (codes "caller" ∷ decimal n ∷ []) (and_from _ _ refl (and_from _ _ (laws.words.numbers.visible n h) refl)) (lit≤ tt)
line_plain laws callers line.End few h = refl
line_plain laws callers (line.Start x) few h = let n = start_count x in plain (codes ">" ∷ start_words x) (and_from _ _ refl (laws.lines.starts.visible x h)) (omega (arith, n))
line_plain laws callers (line.Call k) few h = let n = command_count k in plain (codes ">" ∷ command_words k) (and_from _ _ refl (laws.lines.commands.visible callers k few h)) (omega (arith, n))
line_plain laws callers (line.Entry e) few h = let n = step_count laws e in plain (entry_words e) (step_visible laws e h) (omega (arith, n))
line_plain laws callers (line.Answer a) few h = let n = laws.lines.few_answers a in plain (codes "=" ∷ answer_words a) (and_from _ _ refl (laws.lines.answers.visible a h)) (omega (arith, n))
line_plain laws callers (line.Block b) few h = plain (listed_words b) (listed_visible laws b h) (lit≤ tt)
line_plain laws callers (line.Statistic k n) few h = plain (counter_word k ∷ decimal n ∷ []) (and_from _ _ (counter_visible k) (and_from _ _ (laws.words.numbers.visible n h) refl)) (lit≤ tt)
