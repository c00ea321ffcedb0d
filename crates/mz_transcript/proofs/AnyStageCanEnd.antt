-- Whatever stands of a run so far, some lines behind it end it.
use Rattle.std.proofs.Common.{◌≡◌, ℕ, zero, suc, ◌+◌, ◌-◌, ◌<◌, ◌^◌, Bool, true, List, [], ◌∷◌, ◌++◌, length, cond, arith, refl, ap, ◌∙◌, lit<, lit≤, Some, None}
use Rattle.std.specs.List.{list_all}
use Rattle.std.proofs.lemmas.Bool.{and_from, eq-eqb, lt-ltb}
use Rattle.mz_base.specs.Limits.{IsWithinLimits}
use Rattle.mz_base.specs.declared.profile.Profile.{Profile}
use Rattle.mz_words.specs.Numbers.{◌>>=◌}
use Rattle.mz_lines.specs.declared.answer.Answer.TheVariants.{Done}
use Rattle.mz_trace.specs.declared.run.StartRecord.{StartRecord}
use Rattle.mz_trace.specs.declared.run.CallRecord.{CallRecord}
use Rattle.mz_trace.specs.declared.run.Run.{Run}
use Rattle.mz_trace.specs.declared.tail.Listed.{Listed}
use Rattle.mz_trace.specs.declared.tail.Figures.{Figures}
use Rattle.mz_transcript.specs.declared.line.Counter.TheVariants.{BlocksInUse, SizeInUse, MaxSizeInUse, SizeAllocated}
use Rattle.mz_transcript.specs.declared.line.RunLine.{RunLine}
use Rattle.mz_transcript.specs.declared.line.RunLine.TheVariants as line
use Rattle.mz_transcript.specs.declared.line.Due.{Due}
use Rattle.mz_transcript.specs.declared.line.Due.TheVariants as due
use Rattle.mz_transcript.specs.declared.book.Book.{Book}
use Rattle.mz_transcript.specs.declared.part.Part.{Part}
use Rattle.mz_transcript.specs.declared.part.Part.TheVariants.{Outside, Starts, Start, Section, Call}
use Rattle.mz_transcript.specs.declared.tail.Known.{Known}
use Rattle.mz_transcript.specs.declared.tail.Known.TheVariants as known
use Rattle.mz_transcript.specs.declared.stage.Stage.{Stage}
use Rattle.mz_transcript.specs.declared.stage.Stage.TheVariants.{First, Second, Rounds, Tail}
use Rattle.mz_transcript.specs.Stages.{due_of, blank_book, ended, with_round, with_line}
use Rattle.mz_transcript.proofs.TextLaws.{TextLaws}
use Rattle.mz_transcript.proofs.RunLinesAreWords.{line_words, LineFits, MayStand, callers_at, are_plain, line_plain}
use Rattle.mz_transcript.proofs.StageGrows.{Text, RoundsFit, Valid, count_more}
use Rattle.mz_transcript.proofs.RunIsRead.{reads_to, line_then}

pub record CanEnd (s : Stage) : Type 0 where
  pub fresh : Text
  pub plain : list_all are_plain fresh ≡ true
  pub run : Run
  pub tail : Figures
  pub reads : reads_to s fresh ≡ Some (Tail run tail.listing (known.All tail.statistics))

one_more : TextLaws → (s : Stage) (d : Due) (v : RunLine) (t : Stage) → due_of s ≡ d → callers_at d < 2 ^ 64 → MayStand d v → LineFits (callers_at d) v → with_line s v ≡ Some t → CanEnd t → CanEnd s
one_more laws s d v t at few may fits e c = record {
  fresh = line_words v ∷ c.fresh;
  plain = and_from _ _ (line_plain laws (callers_at d) v few fits) c.plain;
  run = c.run;
  tail = c.tail;
  reads = line_then laws s d v t c.fresh at few may fits e ∙ c.reads;
}

-- the statistics that are missing
max_ends : TextLaws → (r : Run) (bs : List Listed) (b s m : ℕ) → CanEnd (Tail r bs (known.MaxSize b s m))
max_ends laws r bs b s m =
    let t : Figures = record { listing = bs; statistics = record { blocks_in_use = b; size_in_use = s; max_size_in_use = m; size_allocated = 0 } } in
    one_more laws _ (due.Statistic SizeAllocated) (line.Statistic SizeAllocated 0) (Tail r bs (known.All t.statistics)) refl (lit< tt) tt refl refl
    (record { fresh = []; plain = refl; run = r; tail = t; reads = refl })

size_ends : TextLaws → (r : Run) (bs : List Listed) (b s : ℕ) → CanEnd (Tail r bs (known.Size b s))
size_ends laws r bs b s = one_more laws _ (due.Statistic MaxSizeInUse) (line.Statistic MaxSizeInUse 0) (Tail r bs (known.MaxSize b s 0)) refl (lit< tt) tt refl refl (max_ends laws r bs b s 0)

blocks_end : TextLaws → (r : Run) (bs : List Listed) (b : ℕ) → CanEnd (Tail r bs (known.Blocks b))
blocks_end laws r bs b = one_more laws _ (due.Statistic SizeInUse) (line.Statistic SizeInUse 0) (Tail r bs (known.Size b 0)) refl (lit< tt) tt refl refl (size_ends laws r bs b 0)

tail_ends : TextLaws → (r : Run) (bs : List Listed) (k : Known) → CanEnd (Tail r bs k)
tail_ends laws r bs known.Nothing = one_more laws _ due.Block (line.Statistic BlocksInUse 0) (Tail r bs (known.Blocks 0)) refl (lit< tt) tt refl refl (blocks_end laws r bs 0)
tail_ends laws r bs (known.Blocks b) = blocks_end laws r bs b
tail_ends laws r bs (known.Size b s) = size_ends laws r bs b s
tail_ends laws r bs (known.MaxSize b s m) = max_ends laws r bs b s m
tail_ends laws r bs (known.All s) = record { fresh = []; plain = refl; run = r; tail = record { listing = bs; statistics = s }; reads = refl }

-- the sections that are missing, and the end
section_ends : TextLaws → (missing : ℕ) (b : Book) (ss : List StartRecord) (ls : List (List CallRecord)) (cs : List CallRecord) → length ls + 1 + missing ≡ b.profile.callers → IsWithinLimits b.profile
    → CanEnd (Rounds b (Section ss ls cs))
section_ends laws zero b ss ls cs count limits =
    let c = with_round b (record { starts = ss; callers = ls ++ cs ∷ [] }) in
    one_more laws _ (due.Call b.profile.callers) line.End (ended c) refl (omega (arith, limits.callers.1)) tt tt
    (ap (λ (t : Bool). cond t (Some c) None >>= λ x. Some (ended x)) (eq-eqb _ _ (omega (arith, count)))) (tail_ends laws _ [] known.Nothing)
section_ends laws (suc missing) b ss ls cs count limits =
    let next = Rounds b (Section ss (ls ++ cs ∷ []) []) in
    one_more laws _ (due.Call b.profile.callers) (line.Caller (length ls + 1)) next refl (omega (arith, limits.callers.1)) tt (lt-ltb _ _ (omega (arith, count, limits.callers.1)))
    (ap (λ (t : Bool). cond t (Some next) None) (and_from _ _ (eq-eqb (length ls + 1) (length ls + 1) refl) (lt-ltb _ _ (omega (arith, count)))))
    (section_ends laws missing b ss (ls ++ cs ∷ []) [] (omega (arith, count, count_more ls cs)) limits)

starts_end : TextLaws → (b : Book) (ss : List StartRecord) → IsWithinLimits b.profile → CanEnd (Rounds b (Starts ss))
starts_end laws b ss limits =
    one_more laws _ due.Start (line.Caller 0) (Rounds b (Section ss [] [])) refl (lit< tt) tt refl refl (section_ends laws (b.profile.callers - 1) b ss [] [] (omega (arith, limits.callers.0)) limits)

section_stands : TextLaws → (b : Book) (ss : List StartRecord) (ls : List (List CallRecord)) (cs : List CallRecord) → length ls < b.profile.callers → IsWithinLimits b.profile → CanEnd (Rounds b (Section ss ls cs))
section_stands laws b ss ls cs few limits = section_ends laws (b.profile.callers - (length ls + 1)) b ss ls cs (omega (arith, few)) limits

rounds_end : TextLaws → (b : Book) (q : Part) → RoundsFit b q → CanEnd (Rounds b q)
rounds_end laws b Outside h = one_more laws _ due.Heading line.End (ended b) refl (lit< tt) tt tt refl (tail_ends laws _ [] known.Nothing)
rounds_end laws b (Starts ss) h = starts_end laws b ss h.limits
rounds_end laws b (Start ss x es) h = one_more laws _ due.Told (line.Answer Done) (Rounds b (Starts (ss ++ _ ∷ []))) refl (lit< tt) tt refl refl (starts_end laws b _ h.limits)
rounds_end laws b (Section ss ls cs) h = section_stands laws b ss ls cs h.part.few h.limits
rounds_end laws b (Call ss ls cs k es) h = one_more laws _ due.Told (line.Answer Done) (Rounds b (Section ss ls (cs ++ _ ∷ []))) refl (lit< tt) tt refl refl (section_stands laws b ss ls _ h.part.0.few h.limits)

-- the first two lines
abbrev smallest : Profile
smallest = record { pages = 1; callers = 1; magazines = 1; nano = 0; most_gen = 1; zones = 1 }

smallest_fits : IsWithinLimits smallest
smallest_fits = record {
  pages = (lit≤ tt, lit≤ tt);
  callers = (lit≤ tt, lit≤ tt);
  magazines = (lit≤ tt, lit≤ tt);
  nano = (lit≤ tt, lit≤ tt);
  nano_within = lit≤ tt;
  most_gen = (lit≤ tt, lit≤ tt);
  zones = (lit≤ tt, lit≤ tt);
}

second_ends : TextLaws → CanEnd Second
second_ends laws =
    one_more laws Second due.Space (line.Space smallest) (Rounds (blank_book smallest) Outside) refl (lit< tt) tt smallest_fits refl
    (one_more laws _ due.Heading line.End (ended (blank_book smallest)) refl (lit< tt) tt tt refl (tail_ends laws _ [] known.Nothing))

pub any_stage_can_end : TextLaws → (s : Stage) → Valid s → CanEnd s
any_stage_can_end laws First h = one_more laws First due.First line.First Second refl (lit< tt) tt tt refl (second_ends laws)
any_stage_can_end laws Second h = second_ends laws
any_stage_can_end laws (Rounds b q) h = rounds_end laws b q h
any_stage_can_end laws (Tail r bs k) h = tail_ends laws r bs k
