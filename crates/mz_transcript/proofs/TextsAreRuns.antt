-- What reading a whole text comes to is the run that it is the text of, or the first bad line.
use Rattle.std.proofs.Common.{◌≡◌, ℕ, suc, ◌+◌, ◌<◌, ◌≤◌, ◌^◌, Bool, true, List, [], ◌∷◌, ◌++◌, map, length, take, drop, eqb, leb, cond, arith, refl, sym, ap, subst, ◌∙◌, lit<, Option, Some, None}
use Rattle.std.specs.Prelude.{count_by, Result, Ok, Err, MatchResult, IfOk, IfErr}
use Rattle.std.specs.List.{list_all, flat_map, join_with_byte}
use Rattle.std.proofs.lemmas.Bool.{and_parts, and_from, leb-true, le-leb}
use Rattle.std.proofs.lemmas.List.{append_assoc, append-nil, map-append, length-append, length-map, take-append-le, take-append-drop}
use Rattle.std.proofs.lemmas.List.Concat.{flat_map-append}
use Rattle.std.proofs.lemmas.List.Splits.{length-slice_split}
use Rattle.mz_words.specs.Numbers.{◌>>=◌}
use Rattle.mz_words.specs.Lines.{Cut, cuts, words_of, is_short, line_of, line_text, are_visible}
use Rattle.mz_trace.specs.declared.run.Run.{Run}
use Rattle.mz_trace.specs.declared.tail.Figures.{Figures}
use Rattle.mz_trace.specs.RunTexts.{run_lines, run_text}
use Rattle.mz_trace.specs.RunForms.{IsRunText}
use Rattle.mz_trace.specs.TailTexts.{tail_lines, tail_text}
use Rattle.mz_transcript.specs.declared.fault.RunFault.{RunFault}
use Rattle.mz_transcript.specs.declared.fault.RunFault.TheVariants as fault
use Rattle.mz_transcript.specs.declared.line.RunLine.{RunLine}
use Rattle.mz_transcript.specs.declared.line.Due.{Due}
use Rattle.mz_transcript.specs.declared.line.Due.TheVariants as due
use Rattle.mz_transcript.specs.declared.part.Part.TheVariants.{Section}
use Rattle.mz_transcript.specs.declared.tail.Known.TheVariants as known
use Rattle.mz_transcript.specs.declared.stage.Stage.{Stage}
use Rattle.mz_transcript.specs.declared.stage.Stage.TheVariants.{First, Rounds, Tail}
use Rattle.mz_transcript.specs.RunLines.{line_in}
use Rattle.mz_transcript.specs.Stages.{due_of, with_line, words_read, stage_read, RunAndTail, Outcome, good, bad, finished, after_line, reading, reading_of, FaultIs}
use Rattle.mz_transcript.specs.RunFaults.{BeginsRun, IsFirstBadLine, HasNoRun, TellsFirstBadLine}
use Rattle.mz_transcript.proofs.TextLaws.{TextLaws, bind_parts, some_same, when_parts}
use Rattle.mz_transcript.proofs.RunLinesAreWords.{callers_at, read_is_written, are_plain, line_plain}
use Rattle.mz_transcript.proofs.StageGrows.{Text, Valid, written, Sound, line_sound}
use Rattle.mz_transcript.proofs.RunIsRead.{reads_to, then_reads, run_read}
use Rattle.mz_transcript.proofs.AnyStageCanEnd.{any_stage_can_end}

-- lines of plain words are cut again
text_is_cut : TextLaws → (lines : List (List (List ℕ))) → list_all are_plain lines ≡ true → cuts (flat_map line_text lines) ≡ map line_of lines
text_is_cut laws [] h = refl
text_is_cut laws (ws ∷ lines) h =
    let p = and_parts (are_plain ws) (list_all are_plain lines) h in
    laws.words.lines.cut ws (flat_map line_text lines) (and_parts (are_visible ws) (leb (length ws) 12) p.0).0 ∙ ap (λ (x : List Cut). line_of ws ∷ x) (text_is_cut laws lines p.1)

-- and a line of plain words is short
plain_is_short : TextLaws → (w : List ℕ) (ws : List (List ℕ)) → are_plain (w ∷ ws) ≡ true → (is_short (line_of (w ∷ ws)) ≡ true) × (words_of (join_with_byte 32 (w ∷ ws)) ≡ w ∷ ws)
plain_is_short laws w ws h =
    let p = and_parts (are_visible (w ∷ ws)) (leb (length (w ∷ ws)) 12) h in
    let again = laws.words.lines.words w ws p.0 in
    let count = length-slice_split (λ b. eqb b 32) (join_with_byte 32 (w ∷ ws)) in
    let same : length (words_of (join_with_byte 32 (w ∷ ws))) ≡ length (w ∷ ws) = ap length again in
    (le-leb (count_by (λ b. eqb b 32) (join_with_byte 32 (w ∷ ws))) 11 (omega (arith, count, same, leb-true _ _ p.1)), again)

-- what is read of lines
pub record Grown (s : Stage) (lines : Text) (t : Stage) : Type 0 where
  pub written_is : written t ≡ written s ++ lines
  pub valid : Valid t
  pub plain : list_all are_plain lines ≡ true

few_callers : (s : Stage) → Valid s → callers_at (due_of s) < 2 ^ 64
few_callers (Rounds b (Section ss ls cs)) h = omega (arith, h.limits.callers.1)
few_callers (Tail r bs known.Nothing) h = lit< tt
few_callers _ h = lit< tt

line_grown : TextLaws → (s : Stage) (ws : List (List ℕ)) (t : Stage) → Valid s → words_read s ws ≡ Some t → Grown s (ws ∷ []) t
line_grown laws s ws t h e =
    let p = bind_parts (line_in (due_of s) ws) (λ v. with_line s v) t e in
    let v = p.0 in
    let spelled = read_is_written laws (due_of s) ws v p.1 in
    let sound = subst (λ (o : Option Stage). Sound s v o) p.2 (line_sound laws s v h spelled.1) in
    record {
      written_is = sound.lines ∙ ap (λ (x : List (List ℕ)). written s ++ x ∷ []) (sym spelled.0);
      valid = sound.valid;
      plain = and_from _ _ (ap are_plain spelled.0 ∙ line_plain laws (callers_at (due_of s)) v (few_callers s h) spelled.1) refl;
    }

grown : TextLaws → (s : Stage) (lines : Text) (t : Stage) → Valid s → reads_to s lines ≡ Some t → Grown s lines t
grown laws s [] t h e = subst (λ (x : Stage). Grown s [] x) (some_same s t e) (record { written_is = sym (append-nil (written s)); valid = h; plain = refl })
grown laws s (ws ∷ lines) t h e =
    let p = bind_parts (words_read s ws) (λ q. reads_to q lines) t e in
    let first = line_grown laws s ws p.0 h p.1 in
    let rest = grown laws p.0 lines t first.valid p.2 in
    record {
      written_is = rest.written_is ∙ ap (λ (x : Text). x ++ lines) first.written_is ∙ append_assoc (written s) (ws ∷ []) lines;
      valid = rest.valid;
      plain = and_from _ _ (and_parts (are_plain ws) true first.plain).0 rest.plain;
    }

-- lines of words are read as lines of a text
nothing_read : (d : Due) → line_in d [] ≡ None
nothing_read due.First = refl
nothing_read _ = refl

pub reading_along : TextLaws → (s t : Stage) (n : ℕ) (lines : Text) (rest : List Cut) → reads_to s lines ≡ Some t → list_all are_plain lines ≡ true
    → reading s n (map line_of lines ++ rest) ≡ reading t (n + length lines) rest
reading_along laws s t n [] rest e h = let same : n ≡ n + 0 = omega arith in ap (λ (q : Stage). reading q n rest) (some_same s t e) ∙ ap (λ (m : ℕ). reading t m rest) same
reading_along laws s t n ([] ∷ lines) rest e h =
    let none : None ≡ Some t = sym (ap (λ (o : Option RunLine). (o >>= λ v. with_line s v) >>= λ q. reads_to q lines) (nothing_read (due_of s))) ∙ e in absurd cc
reading_along laws s t n ((w ∷ ws) ∷ lines) rest e h =
    let p = and_parts (are_plain (w ∷ ws)) (list_all are_plain lines) h in
    let q = bind_parts (words_read s (w ∷ ws)) (λ x. reads_to x lines) t e in
    let short = plain_is_short laws w ws p.0 in
    let go = λ (x : Stage). reading x (n + 1) (map line_of lines ++ rest) in
    let count : n + 1 + length lines ≡ n + suc (length lines) = omega arith in
    ap (λ (b : Bool). after_line go n (cond b (words_read s (words_of (join_with_byte 32 (w ∷ ws)))) None)) short.0
    ∙ ap (λ (x : List (List ℕ)). after_line go n (words_read s x)) short.1 ∙ ap (after_line go n) q.1
    ∙ reading_along laws q.0 t (n + 1) lines rest q.2 p.1 ∙ ap (λ (m : ℕ). reading t m rest) count

-- Reading stops behind the last line, or at one that isn't read.
abbrev Stops : Stage → ℕ → List Cut → Outcome → Type 0
Stops t m [] o = o ≡ finished t m
Stops t m (l ∷ ls) o = (o ≡ bad m) × (stage_read t l ≡ None)

record Stopped (s : Stage) (n : ℕ) (ls : List Cut) (o : Outcome) : Type 0 where
  pub lines : Text
  pub rest : List Cut
  pub at : Stage
  pub parts : ls ≡ map line_of lines ++ rest
  pub reads : reads_to s lines ≡ Some at
  pub stops : Stops at (n + length lines) rest o

line_read : TextLaws → (s : Stage) (l : Cut) (t : Stage) → stage_read s l ≡ Some t → (l ≡ line_of (words_of l.text)) × (words_read s (words_of l.text) ≡ Some t)
line_read laws s l t e = let p = when_parts (is_short l) (words_read s (words_of l.text)) t e in (laws.words.lines.ended l (and_parts l.ended _ p.0).0, p.1)

stopped_at : TextLaws → (s : Stage) (n : ℕ) (l : Cut) (ls : List Cut) (o : Option Stage) → stage_read s l ≡ o → ((t : Stage) → Stopped t (n + 1) ls (reading t (n + 1) ls))
    → Stopped s n (l ∷ ls) (after_line (λ t. reading t (n + 1) ls) n o)
stopped_at laws s n l ls None e go =
    let same : n ≡ n + 0 = omega arith in record { lines = []; rest = l ∷ ls; at = s; parts = refl; reads = refl; stops = (ap bad same, e) }
stopped_at laws s n l ls (Some t) e go =
    let r = go t in
    let q = line_read laws s l t e in
    let count : n + 1 + length r.lines ≡ n + suc (length r.lines) = omega arith in
    record {
      lines = words_of l.text ∷ r.lines;
      rest = r.rest;
      at = r.at;
      parts = ap (λ (x : Cut). x ∷ ls) q.0 ∙ ap (λ (x : List Cut). line_of (words_of l.text) ∷ x) r.parts;
      reads = ap (λ (o : Option Stage). o >>= λ x. reads_to x r.lines) q.1 ∙ r.reads;
      stops = subst (λ (m : ℕ). Stops r.at m r.rest (reading t (n + 1) ls)) count r.stops;
    }

stopped : TextLaws → (ls : List Cut) (s : Stage) (n : ℕ) → Stopped s n ls (reading s n ls)
stopped laws [] s n = let same : n ≡ n + 0 = omega arith in record { lines = []; rest = []; at = s; parts = refl; reads = refl; stops = ap (finished s) same }
stopped laws (l ∷ ls) s n = stopped_at laws s n l ls (stage_read s l) refl (λ t. stopped laws ls t (n + 1))

-- the text of a run is read as that run
whole_text : (r : Run) (t : Figures) → run_text r ++ tail_text t ≡ flat_map line_text (run_lines r ++ tail_lines t)
whole_text r t = sym (flat_map-append line_text (run_lines r) (tail_lines t))

pub text_is_read : TextLaws → (bytes : List ℕ) (r : Run) (t : Figures) → IsRunText bytes r t → reading_of bytes ≡ good (r, t)
text_is_read laws bytes r t h =
    let lines = run_lines r ++ tail_lines t in
    let end = Tail r t.listing (known.All t.statistics) in
    let reads = run_read laws r t h.run h.tail in
    let plain = (grown laws First lines end tt reads).plain in
    ap (reading First 1) (ap cuts (h.spelled ∙ whole_text r t) ∙ text_is_cut laws lines plain ∙ sym (append-nil (map line_of lines)))
    ∙ reading_along laws First end 1 lines [] reads plain

-- and only that
not_both : (v : RunAndTail) (n : ℕ) → good v ≡ bad n → ⊥
not_both v n e = absurd cc

end_of : Outcome → Stage
end_of (good x) = Tail x.0 x.1.listing (known.All x.1.statistics)
end_of (bad n) = First

finished_is : (s : Stage) (m : ℕ) (r : Run) (t : Figures) → good (r, t) ≡ finished s m → s ≡ Tail r t.listing (known.All t.statistics)
unfolding end_of
finished_is (Tail r bs (known.All s)) m q t e = ap end_of (sym e)
finished_is _ m q t e = absurd cc

ended_text : TextLaws → (bytes : List ℕ) (r : Run) (t : Figures) (lines : Text) → cuts bytes ≡ map line_of lines → reads_to First lines ≡ Some (Tail r t.listing (known.All t.statistics)) → IsRunText bytes r t
ended_text laws bytes r t lines parts reads =
    let g = grown laws First lines (Tail r t.listing (known.All t.statistics)) tt reads in
    record {
      run = g.valid.0;
      tail = record { each = g.valid.1; numbers = g.valid.2 };
      spelled = laws.words.lines.same bytes (flat_map line_text lines) (parts ∙ sym (text_is_cut laws lines g.plain)) ∙ ap (flat_map line_text) (sym g.written_is) ∙ sym (whole_text r t);
    }

read_is_text : TextLaws → (bytes : List ℕ) (r : Run) (t : Figures) → reading_of bytes ≡ good (r, t) → IsRunText bytes r t
read_is_text laws bytes r t e = at_end (stopped laws (cuts bytes) First 1) where
  behind : (lines : Text) (rest : List Cut) (at : Stage) → cuts bytes ≡ map line_of lines ++ rest → reads_to First lines ≡ Some at → Stops at (1 + length lines) rest (reading First 1 (cuts bytes)) → IsRunText bytes r t
  behind lines [] at parts reads stops =
      ended_text laws bytes r t lines (parts ∙ append-nil _) (reads ∙ ap (λ (x : Stage). Some x) (finished_is at (1 + length lines) r t (sym e ∙ stops)))
  behind lines (l ∷ ls) at parts reads stops = absurd (not_both (r, t) (1 + length lines) (sym e ∙ stops.0))

  at_end : Stopped First 1 (cuts bytes) (reading First 1 (cuts bytes)) → IsRunText bytes r t
  at_end c = behind c.lines c.rest c.at c.parts c.reads c.stops

-- The line at which reading stops is the first bad one: the lines before it begin the text of some run,
finished_bad : (s : Stage) (m n : ℕ) → finished s m ≡ bad n → m ≡ n
finished_bad (Tail r bs (known.All s)) m n e = absurd cc
finished_bad _ m n e = cc

stop_number : (t : Stage) (m n : ℕ) (rest : List Cut) → Stops t m rest (bad n) → n ≡ m
stop_number t m n [] e = sym (finished_bad t m n (sym e))
stop_number t m n (l ∷ ls) e = cc

begins : TextLaws → (bytes : List ℕ) (lines : Text) (rest : List Cut) (at : Stage) → cuts bytes ≡ map line_of lines ++ rest → reads_to First lines ≡ Some at → (m : ℕ) → m ≤ length lines → BeginsRun bytes m
begins laws bytes lines rest at parts reads m le =
    let c = any_stage_can_end laws at (grown laws First lines at tt reads).valid in
    let all = lines ++ c.fresh in
    let ends = then_reads lines c.fresh First at reads ∙ c.reads in
    let cut = text_is_cut laws all (grown laws First all (Tail c.run c.tail.listing (known.All c.tail.statistics)) tt ends).plain in
    let count : length (map line_of lines) ≡ length lines = length-map lines line_of in
    let within : m ≤ length (map line_of lines) = omega (arith, count) in
    record {
      there = omega (arith, ap length parts, length-append (map line_of lines) rest, within);
      printed = flat_map line_text all;
      run = c.run;
      tail = c.tail;
      text = ended_text laws (flat_map line_text all) c.run c.tail all cut ends;
      same =
          ap (take m) parts ∙ take-append-le m (map line_of lines) rest within ∙ sym (take-append-le m (map line_of lines) (map line_of c.fresh) within)
          ∙ ap (take m) (sym (cut ∙ map-append line_of lines c.fresh));
    }

-- and with it they don't
take_one_more : (xs : List Cut) (x : Cut) (ys : List Cut) → take (1 + length xs) (xs ++ x ∷ ys) ≡ xs ++ x ∷ []
take_one_more [] x ys = refl
take_one_more (z ∷ xs) x ys = let e : 1 + length (z ∷ xs) ≡ suc (1 + length xs) = omega arith in rw e (ap (λ (l : List Cut). z ∷ l) (take_one_more xs x ys))

ends : TextLaws → (bytes : List ℕ) (lines : Text) (rest : List Cut) (at : Stage) (o : Outcome) → cuts bytes ≡ map line_of lines ++ rest → reads_to First lines ≡ Some at → Stops at (1 + length lines) rest o
    → BeginsRun bytes (1 + length lines) → ⊥
ends laws bytes lines [] at o parts reads stops b =
    let there = b.there in
    let count = length-map lines line_of in
    omega (arith, there, count, ap length parts, length-append (map line_of lines) [])
ends laws bytes lines (l ∷ ls) at o parts reads stops b =
    let n = 1 + length lines in
    let count : 1 + length (map line_of lines) ≡ n = let c = length-map lines line_of in omega (arith, c) in
    let other = drop n (cuts b.printed) in
    let front : take n (cuts b.printed) ≡ map line_of lines ++ l ∷ [] = sym b.same ∙ ap (take n) parts ∙ ap (λ (k : ℕ). take k (map line_of lines ++ l ∷ ls)) (sym count) ∙ take_one_more (map line_of lines) l ls in
    let whole : cuts b.printed ≡ map line_of lines ++ (l ∷ other) = sym (take-append-drop n (cuts b.printed)) ∙ ap (λ (x : List Cut). x ++ other) front ∙ append_assoc (map line_of lines) (l ∷ []) other in
    let go = λ (x : Stage). reading x (n + 1) other in
    not_both (b.run, b.tail) n
    (sym (text_is_read laws b.printed b.run b.tail b.text) ∙ ap (reading First 1) whole
    ∙ reading_along laws First at 1 lines (l ∷ other) reads (grown laws First lines at tt reads).plain ∙ ap (after_line go n) stops.1)

first_bad : TextLaws → (bytes : List ℕ) (n : ℕ) → reading_of bytes ≡ bad n → IsFirstBadLine bytes n
first_bad laws bytes n e =
    let c = stopped laws (cuts bytes) First 1 in
    let stops = subst (λ (o : Outcome). Stops c.at (1 + length c.lines) c.rest o) e c.stops in
    let number = stop_number c.at (1 + length c.lines) n c.rest stops in
    record {
      before = λ m lt. begins laws bytes c.lines c.rest c.at c.parts c.reads m (omega (arith, number));
      here = subst (λ (k : ℕ). BeginsRun bytes k → ⊥) (sym number) (ends laws bytes c.lines c.rest c.at (bad n) c.parts c.reads stops);
    }

-- there is at most one, and at most one run
pub first_is_one : (bytes : List ℕ) (m n : ℕ) → IsFirstBadLine bytes m → IsFirstBadLine bytes n → m ≡ n
first_is_one bytes m n h k =
    let not_less : m < n → ⊥ = λ lt. h.here (k.before m lt) in let not_more : n < m → ⊥ = λ lt. k.here (h.before n lt) in omega arith

value_of : RunAndTail → Outcome → RunAndTail
value_of d (good x) = x
value_of d (bad n) = d

pub run_is_one : TextLaws → (bytes : List ℕ) (r s : Run) (t u : Figures) → IsRunText bytes r t → IsRunText bytes s u → (r ≡ s) × (t ≡ u)
unfolding value_of
run_is_one laws bytes r s t u h k =
    let pair = ap (value_of (r, t)) (sym (text_is_read laws bytes r t h) ∙ text_is_read laws bytes s u k) in
    (ap (λ (x : RunAndTail). x.0) pair, ap (λ (x : RunAndTail). x.1) pair)

-- what is answered
pub record Answers (bytes : List ℕ) (o : Result RunAndTail RunFault) : Type 0 where
  pub text : IfOk o (λ x. IsRunText bytes x.0 x.1)
  pub none : IfErr o (HasNoRun bytes)
  pub line : IfErr o (TellsFirstBadLine bytes)

pub answers : TextLaws → (bytes : List ℕ) (o : Result RunAndTail RunFault) → MatchResult o (λ x. reading_of bytes ≡ good (x.0, x.1)) (FaultIs (reading_of bytes)) → Answers bytes o
answers laws bytes (Ok x) h = record { text = read_is_text laws bytes x.0 x.1 h; none = tt; line = tt }
answers laws bytes (Err (fault.Bad n)) h = record {
  text = tt;
  none = λ r t k. not_both (r, t) n (sym (text_is_read laws bytes r t k) ∙ h);
  line = first_bad laws bytes n h;
}
answers laws bytes (Err fault.NoMemory) h = record { text = tt; none = tt; line = tt }
