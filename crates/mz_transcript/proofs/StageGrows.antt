-- What stands of a run so far is what was written so far, with each line that is read.
use Rattle.std.proofs.Common.{◌≡◌, ℕ, ◌+◌, ◌<◌, ◌≤◌, Bool, true, false, List, [], ◌∷◌, ◌++◌, map, length, eqb, ltb, cond, arith, refl, sym, ap, subst, ◌∙◌, Option, Some, None, codes}
use Rattle.std.specs.Prelude.{◌&&◌, ◌||◌, count_by}
use Rattle.std.specs.List.{list_all, flat_map}
use Rattle.std.specs.Fmt.{decimal}
use Rattle.std.specs.Str.{bytes_eq}
use Rattle.std.proofs.lemmas.Bool.{and_parts, and_from, eq-eqb, eqb-true, ltb-true, leb-false}
use Rattle.std.proofs.lemmas.List.{append_assoc, append-nil, map-append, length-append}
use Rattle.std.proofs.lemmas.List.Folds.{list_all-append}
use Rattle.std.proofs.lemmas.List.Concat.{flat_map-append}
use Rattle.std.proofs.lemmas.List.Sums.{sum_by-append}
use Rattle.mz_base.specs.Limits.{IsWithinLimits}
use Rattle.mz_words.specs.Numbers.{is_u64, ◌>>=◌}
use Rattle.mz_lines.specs.declared.command.Command.{Command}
use Rattle.mz_lines.specs.declared.command.Command.TheVariants.{Give}
use Rattle.mz_trace.specs.declared.run.StartRecord.{StartRecord}
use Rattle.mz_trace.specs.declared.run.CallRecord.{CallRecord}
use Rattle.mz_trace.specs.declared.run.RunRound.{RunRound}
use Rattle.mz_trace.specs.declared.run.Run.{Run}
use Rattle.mz_trace.specs.declared.tail.Listed.{Listed}
use Rattle.mz_lines.specs.Commands.{command_words, command_fits}
use Rattle.mz_lines.specs.RoundLines.{start_words, start_fits}
use Rattle.mz_lines.specs.Lines.{given_by, command_gives}
use Rattle.mz_trace.specs.Given.{has_name, with_name}
use Rattle.mz_lines.specs.Spaces.{space_words}
use Rattle.mz_trace.specs.RunTexts.{entry_words, start_record_lines, section_lines, sections_from, run_round_lines, run_lines}
use Rattle.mz_trace.specs.RunForms.{entry_fits, start_record_fits, call_record_fits, round_fits, IsRun}
use Rattle.mz_trace.specs.TailTexts.{listed_words, listed_fits, statistics_lines, statistics_fit}
use Rattle.mz_transcript.specs.declared.line.Counter.TheVariants.{BlocksInUse, SizeInUse, MaxSizeInUse, SizeAllocated}
use Rattle.mz_transcript.specs.declared.line.RunLine.{RunLine}
use Rattle.mz_transcript.specs.declared.line.RunLine.TheVariants as line
use Rattle.mz_transcript.specs.declared.book.Book.{Book}
use Rattle.mz_transcript.specs.declared.part.Part.{Part}
use Rattle.mz_transcript.specs.declared.part.Part.TheVariants.{Outside, Starts, Start, Section, Call}
use Rattle.mz_transcript.specs.declared.tail.Known.{Known}
use Rattle.mz_transcript.specs.declared.tail.Known.TheVariants as known
use Rattle.mz_transcript.specs.declared.stage.Stage.{Stage}
use Rattle.mz_transcript.specs.declared.stage.Stage.TheVariants.{First, Second, Rounds, Tail}
use Rattle.mz_transcript.specs.Stages.{due_in, due_of, due_statistic, is_full, opened, ended, with_round, with_given, book_named, in_section, rounds_with, in_tail, with_line}
use Rattle.mz_transcript.proofs.TextLaws.{TextLaws, same_word}
use Rattle.mz_transcript.proofs.RunLinesAreWords.{line_words, LineFits, callers_at}
use Rattle.mz_transcript.proofs.SectionsGrow.{sections_from-append_one}

abbrev pub Text : Type 0
Text = List (List (List ℕ))

-- the lines that were written
abbrev pub part_lines : Part → Text
part_lines Outside = []
part_lines (Starts ss) = (codes "round" ∷ []) ∷ flat_map start_record_lines ss
part_lines (Start ss x es) = (codes "round" ∷ []) ∷ (flat_map start_record_lines ss ++ (codes ">" ∷ start_words x) ∷ map entry_words es)
part_lines (Section ss ls cs) = (codes "round" ∷ []) ∷ (flat_map start_record_lines ss ++ (sections_from 0 ls ++ section_lines (length ls) cs))
part_lines (Call ss ls cs k es) =
    (codes "round" ∷ []) ∷ (flat_map start_record_lines ss ++ (sections_from 0 ls ++ (section_lines (length ls) cs ++ (codes ">" ∷ command_words k) ∷ map entry_words es)))

abbrev pub known_lines : Known → Text
known_lines known.Nothing = []
known_lines (known.Blocks b) = (codes "blocks_in_use" ∷ decimal b ∷ []) ∷ []
known_lines (known.Size b s) = (codes "blocks_in_use" ∷ decimal b ∷ []) ∷ (codes "size_in_use" ∷ decimal s ∷ []) ∷ []
known_lines (known.MaxSize b s m) =
    (codes "blocks_in_use" ∷ decimal b ∷ []) ∷ (codes "size_in_use" ∷ decimal s ∷ []) ∷ (codes "max_size_in_use" ∷ decimal m ∷ []) ∷ []
known_lines (known.All s) = statistics_lines s

abbrev pub first_words : List (List ℕ)
first_words = codes "mzone-run" ∷ codes "1" ∷ []

abbrev pub written : Stage → Text
written First = []
written Second = first_words ∷ []
written (Rounds b part) = first_words ∷ space_words b.profile ∷ (flat_map run_round_lines b.rounds ++ part_lines part)
written (Tail r bs k) = run_lines r ++ (map listed_words bs ++ known_lines k)

-- what holds of it
abbrev pub commands : List CallRecord → List Command
commands cs = map (λ d. d.command) cs

abbrev pub run_commands : List RunRound → List Command
run_commands rs = flat_map (λ r. flat_map commands r.callers) rs

abbrev pub part_commands : Part → List Command
part_commands (Section ss ls cs) = flat_map commands ls ++ commands cs
part_commands (Call ss ls cs k es) = flat_map commands ls ++ (commands cs ++ k ∷ [])
part_commands _ = []

abbrev pub part_count : Part → ℕ
part_count Outside = 0
part_count _ = 1

abbrev pub all_fit : ℕ → List (List CallRecord) → Bool
all_fit callers ls = list_all (λ cs. list_all (call_record_fits callers) cs) ls

pub record SectionFits (callers : ℕ) (ss : List StartRecord) (ls : List (List CallRecord)) (cs : List CallRecord) : Type 0 where
  pub starts : list_all start_record_fits ss ≡ true
  pub lists : all_fit callers ls ≡ true
  pub calls : list_all (call_record_fits callers) cs ≡ true
  pub few : length ls < callers

abbrev pub PartFits : ℕ → Part → Type 0
PartFits callers Outside = Unit {0}
PartFits callers (Starts ss) = list_all start_record_fits ss ≡ true
PartFits callers (Start ss x es) = (list_all start_record_fits ss ≡ true) × ((start_fits x && list_all entry_fits es) ≡ true)
PartFits callers (Section ss ls cs) = SectionFits callers ss ls cs
PartFits callers (Call ss ls cs k es) = SectionFits callers ss ls cs × ((command_fits callers k && list_all entry_fits es) ≡ true)

-- each name that was given is kept, and was given once
abbrev pub NamesOnce : List (List ℕ) → List Command → Type 0
NamesOnce given ks = (base : List ℕ) → count_by (command_gives base) ks ≡ cond (has_name given base) 1 0

pub record RoundsFit (b : Book) (q : Part) : Type 0 where
  pub limits : IsWithinLimits b.profile
  pub rounds : list_all (round_fits b.profile.callers) b.rounds ≡ true
  pub few : length b.rounds + part_count q ≤ 4096
  pub part : PartFits b.profile.callers q
  pub names : NamesOnce b.given (run_commands b.rounds ++ part_commands q)

abbrev pub known_fits : Known → Bool
known_fits known.Nothing = true
known_fits (known.Blocks b) = is_u64 b
known_fits (known.Size b s) = is_u64 b && is_u64 s
known_fits (known.MaxSize b s m) = is_u64 b && is_u64 s && is_u64 m
known_fits (known.All s) = statistics_fit s

abbrev pub Valid : Stage → Type 0
Valid First = Unit {0}
Valid Second = Unit {0}
Valid (Rounds b part) = RoundsFit b part
Valid (Tail r bs k) = IsRun r × (list_all listed_fits bs ≡ true) × (known_fits k ≡ true)

-- one more line
pub record Grows (s : Stage) (v : RunLine) (t : Stage) : Type 0 where
  pub lines : written t ≡ written s ++ line_words v ∷ []
  pub valid : Valid t

abbrev pub Sound : Stage → RunLine → Option Stage → Type 0
Sound s v None = Unit {0}
Sound s v (Some t) = Grows s v t

only_if : (s : Stage) (v : RunLine) (t : Bool) (x : Stage) → (t ≡ true → Grows s v x) → Sound s v (cond t (Some x) None)
only_if s v true x h = h refl
only_if s v false x h = tt

unless : (s : Stage) (v : RunLine) (t : Bool) (x : Stage) → (t ≡ false → Grows s v x) → Sound s v (cond t None (Some x))
unless s v true x h = tt
unless s v false x h = h refl

then_sound : {A : Type 0} (s : Stage) (v : RunLine) (t : Bool) (x : A) (f : A → Option Stage) → (t ≡ true → Sound s v (f x)) → Sound s v (cond t (Some x) None >>= f)
then_sound s v true x f h = h refl
then_sound s v false x f h = tt

unless_then : {A : Type 0} (s : Stage) (v : RunLine) (t : Bool) (x : A) (f : A → Option Stage) → (t ≡ false → Sound s v (f x)) → Sound s v (cond t None (Some x) >>= f)
unless_then s v true x f h = tt
unless_then s v false x f h = h refl

pub push_all : {A : Type 0} (p : A → Bool) (xs : List A) (x : A) → list_all p xs ≡ true → p x ≡ true → list_all p (xs ++ x ∷ []) ≡ true
push_all p xs x h k = list_all-append p xs (x ∷ []) ∙ and_from _ _ h (and_from _ _ k refl)

push_steps : (a : Bool) (es : List _) (e : _) → (a && list_all entry_fits es) ≡ true → entry_fits e ≡ true → (a && list_all entry_fits (es ++ e ∷ [])) ≡ true
push_steps a es e h k = let p = and_parts a (list_all entry_fits es) h in and_from _ _ p.0 (push_all entry_fits es e p.1 k)

same_names : (given : List (List ℕ)) (ks js : List Command) → js ≡ ks → NamesOnce given ks → NamesOnce given js
same_names given ks js e h = λ base. ap (count_by (command_gives base)) e ∙ h base

sections_more : (ls : List (List CallRecord)) (cs : List CallRecord) → sections_from 0 (ls ++ cs ∷ []) ≡ sections_from 0 ls ++ section_lines (length ls) cs
sections_more ls cs = let n : 0 + length ls ≡ length ls = omega arith in sections_from-append_one 0 ls cs ∙ ap (λ (m : ℕ). sections_from 0 ls ++ section_lines m cs) n

pub count_more : {A : Type 0} (xs : List A) (x : A) → length (xs ++ x ∷ []) ≡ length xs + 1
count_more xs x = omega (arith, length-append xs (x ∷ []))

commands_more : (ls : List (List CallRecord)) (cs : List CallRecord) → flat_map commands (ls ++ cs ∷ []) ≡ flat_map commands ls ++ commands cs
commands_more ls cs = flat_map-append commands ls (cs ∷ []) ∙ ap (λ (x : List Command). flat_map commands ls ++ x) (append-nil (commands cs))

-- a record
start_told_sound : (b : Book) (ss : List StartRecord) (x : _) (es : List _) (v : RunLine) → RoundsFit b (Start ss x es) → LineFits 0 v
    → Sound (Rounds b (Start ss x es)) v (rounds_with b (Start ss x es) v)
start_told_sound b ss x es (line.Entry e) h k = record {
  lines = simp (append_assoc, map-append);
  valid = record { limits = h.limits; rounds = h.rounds; few = h.few; part = (h.part.0, push_steps (start_fits x) es e h.part.1 k); names = h.names };
}
start_told_sound b ss x es (line.Answer a) h k = record {
  lines = simp (append_assoc, append-nil, flat_map-append);
  valid = record { limits = h.limits; rounds = h.rounds; few = h.few; part = push_all start_record_fits ss _ h.part.0 (and_from _ _ h.part.1 k); names = h.names };
}
start_told_sound b ss x es _ h k = tt

call_told_sound : (b : Book) (ss : List StartRecord) (ls : List (List CallRecord)) (cs : List CallRecord) (c : Command) (es : List _) (v : RunLine) → RoundsFit b (Call ss ls cs c es)
    → LineFits 0 v → Sound (Rounds b (Call ss ls cs c es)) v (rounds_with b (Call ss ls cs c es) v)
call_told_sound b ss ls cs c es (line.Entry e) h k = record {
  lines = simp (append_assoc, map-append);
  valid = record { limits = h.limits; rounds = h.rounds; few = h.few; part = (h.part.0, push_steps (command_fits b.profile.callers c) es e h.part.1 k); names = h.names };
}
call_told_sound b ss ls cs c es (line.Answer a) h k =
    let d : CallRecord = record { command = c; steps = es; answer = a } in
    let s = h.part.0 in
    record {
      lines = simp (append_assoc, append-nil, flat_map-append);
      valid = record {
        limits = h.limits;
        rounds = h.rounds;
        few = h.few;
        part = record { starts = s.starts; lists = s.lists; calls = push_all (call_record_fits b.profile.callers) cs d s.calls (and_from _ _ h.part.1 k); few = s.few };
        names = same_names b.given (run_commands b.rounds ++ (flat_map commands ls ++ (commands cs ++ c ∷ []))) (run_commands b.rounds ++ (flat_map commands ls ++ commands (cs ++ d ∷ [])))
            (ap (λ (x : List Command). run_commands b.rounds ++ (flat_map commands ls ++ x)) (map-append (λ (y : CallRecord). y.command) cs (d ∷ []))) h.names;
      };
    }
call_told_sound b ss ls cs c es _ h k = tt

-- a section
first_section : (b : Book) (ss : List StartRecord) → RoundsFit b (Starts ss) → Grows (Rounds b (Starts ss)) (line.Caller 0) (Rounds b (Section ss [] []))
first_section b ss h = record {
  lines = simp append_assoc;
  valid = record {
    limits = h.limits;
    rounds = h.rounds;
    few = h.few;
    part = record { starts = h.part; lists = refl; calls = refl; few = omega (arith, h.limits.callers.0) };
    names = h.names;
  };
}

starts_sound : (b : Book) (ss : List StartRecord) (v : RunLine) → RoundsFit b (Starts ss) → LineFits 0 v → Sound (Rounds b (Starts ss)) v (rounds_with b (Starts ss) v)
starts_sound b ss (line.Start x) h k = record {
  lines = simp append_assoc;
  valid = record { limits = h.limits; rounds = h.rounds; few = h.few; part = (h.part, and_from _ _ k refl); names = h.names };
}
starts_sound b ss (line.Caller n) h k = only_if (Rounds b (Starts ss)) (line.Caller n) (eqb n 0) (Rounds b (Section ss [] [])) (λ zero.
    subst (λ (m : ℕ). Grows (Rounds b (Starts ss)) (line.Caller m) (Rounds b (Section ss [] []))) (sym (eqb-true n 0 zero)) (first_section b ss h))
starts_sound b ss _ h k = tt

-- the section of a further caller
behind_section : (b : Book) (ss : List StartRecord) (ls : List (List CallRecord)) (cs : List CallRecord) (ws : List (List ℕ))
    → first_words ∷ space_words b.profile ∷ (flat_map run_round_lines b.rounds ++ ((codes "round" ∷ []) ∷ (flat_map start_record_lines ss ++ ((sections_from 0 ls ++ section_lines (length ls) cs) ++ ws ∷ []))))
    ≡ written (Rounds b (Section ss ls cs)) ++ ws ∷ []
behind_section b ss ls cs ws = simp append_assoc

further_section : (b : Book) (ss : List StartRecord) (ls : List (List CallRecord)) (cs : List CallRecord) → RoundsFit b (Section ss ls cs) → length ls + 1 < b.profile.callers
    → Grows (Rounds b (Section ss ls cs)) (line.Caller (length ls + 1)) (Rounds b (Section ss (ls ++ cs ∷ []) []))
further_section b ss ls cs h few =
    let s = h.part in
    let front = λ (x : Text). first_words ∷ space_words b.profile ∷ (flat_map run_round_lines b.rounds ++ ((codes "round" ∷ []) ∷ (flat_map start_record_lines ss ++ x))) in
    record {
      lines =
          ap (λ (x : Text). front (x ++ section_lines (length (ls ++ cs ∷ [])) [])) (sections_more ls cs)
          ∙ ap (λ (n : ℕ). front ((sections_from 0 ls ++ section_lines (length ls) cs) ++ section_lines n [])) (count_more ls cs)
          ∙ behind_section b ss ls cs (codes "caller" ∷ decimal (length ls + 1) ∷ []);
      valid = record {
        limits = h.limits;
        rounds = h.rounds;
        few = h.few;
        part = record { starts = s.starts; lists = push_all (λ ds. list_all (call_record_fits b.profile.callers) ds) ls cs s.lists s.calls; calls = refl; few = omega (arith, count_more ls cs) };
        names = same_names b.given (run_commands b.rounds ++ (flat_map commands ls ++ commands cs)) (run_commands b.rounds ++ (flat_map commands (ls ++ cs ∷ []) ++ []))
            (ap (λ (x : List Command). run_commands b.rounds ++ x) (append-nil _ ∙ commands_more ls cs)) h.names;
      };
    }

-- the end of a round
abbrev round_of : List StartRecord → List (List CallRecord) → List CallRecord → RunRound
round_of ss ls cs = record { starts = ss; callers = ls ++ cs ∷ [] }

round_closes : (b : Book) (ss : List StartRecord) (ls : List (List CallRecord)) (cs : List CallRecord) → RoundsFit b (Section ss ls cs) → length ls + 1 ≡ b.profile.callers
    → RoundsFit (with_round b (round_of ss ls cs)) Outside
round_closes b ss ls cs h whole =
    let s = h.part in
    let lists = push_all (λ ds. list_all (call_record_fits b.profile.callers) ds) ls cs s.lists s.calls in
    record {
      limits = h.limits;
      rounds = push_all (round_fits b.profile.callers) b.rounds (round_of ss ls cs) h.rounds (and_from _ _ (and_from _ _ s.starts lists) (eq-eqb _ _ (count_more ls cs ∙ whole)));
      few = omega (arith, count_more b.rounds (round_of ss ls cs), h.few);
      part = tt;
      names = same_names b.given (run_commands b.rounds ++ (flat_map commands ls ++ commands cs)) (run_commands (b.rounds ++ round_of ss ls cs ∷ []) ++ [])
          (append-nil _ ∙ flat_map-append (λ r. flat_map commands r.callers) b.rounds (round_of ss ls cs ∷ [])
          ∙ ap (λ (x : List Command). run_commands b.rounds ++ x) (append-nil _ ∙ commands_more ls cs)) h.names;
    }

closed_lines : (b : Book) (ss : List StartRecord) (ls : List (List CallRecord)) (cs : List CallRecord) → written (Rounds (with_round b (round_of ss ls cs)) Outside) ≡ written (Rounds b (Section ss ls cs))
closed_lines b ss ls cs = ap (λ (x : Text). first_words ∷ space_words b.profile ∷ x)
    (append-nil _ ∙ flat_map-append run_round_lines b.rounds (round_of ss ls cs ∷ [])
    ∙ ap (λ (x : Text). flat_map run_round_lines b.rounds ++ x)
    (append-nil _ ∙ ap (λ (x : Text). (codes "round" ∷ []) ∷ (flat_map start_record_lines ss ++ x)) (sections_more ls cs)))

opened_sound : (s : Stage) (b : Book) → RoundsFit b Outside → written (Rounds b Outside) ≡ written s → Sound s line.Round (opened b)
opened_sound s b h e = unless s line.Round (is_full b.rounds) (Rounds b (Starts [])) (λ room.
    let shape : written (Rounds b (Starts [])) ≡ written (Rounds b Outside) ++ (codes "round" ∷ []) ∷ [] = simp append-nil in
    record {
      lines = shape ∙ ap (λ (x : Text). x ++ (codes "round" ∷ []) ∷ []) e;
      valid = record { limits = h.limits; rounds = h.rounds; few = omega (arith, leb-false _ _ room); part = refl; names = h.names };
    })

at_most_one : (t : Bool) → cond t 1 0 ≤ 1
at_most_one true = omega arith
at_most_one false = omega arith

ended_sound : (s : Stage) (b : Book) → RoundsFit b Outside → written (Rounds b Outside) ≡ written s → Grows s line.End (ended b)
ended_sound s b h e =
    let shape : written (ended b) ≡ written (Rounds b Outside) ++ (codes "end" ∷ []) ∷ [] = simp (append_assoc, append-nil) in
    record {
      lines = shape ∙ ap (λ (x : Text). x ++ (codes "end" ∷ []) ∷ []) e;
      valid = (
        record {
          limits = h.limits;
          each = h.rounds;
          given_once = λ base.
              let n : count_by (command_gives base) (run_commands b.rounds) ≡ cond (has_name b.given base) 1 0 =
              ap (count_by (command_gives base)) (sym (append-nil (run_commands b.rounds))) ∙ h.names base in
              let once : count_by (command_gives base) (run_commands b.rounds) ≤ 1 = omega (arith, n, at_most_one (has_name b.given base)) in once;
          few = omega (arith, h.few);
        },
        refl,
        refl,
      );
    }

-- names, with one more command
abbrev pub gives : Option (List ℕ) → List ℕ → Bool
gives None base = false
gives (Some name) base = bytes_eq name base

pub gives_named : (k : Command) (base : List ℕ) → command_gives base k ≡ gives (given_by k) base
gives_named (Give name to given) base = refl
gives_named _ base = refl

apart : (t u : Bool) → (t ≡ true → u ≡ false) → cond (t || u) 1 0 ≡ cond u 1 0 + cond t 1 0
apart true u h = rw (h refl) refl
apart false true h = refl
apart false false h = refl

pub one_more_name : TextLaws → (given : List (List ℕ)) (name base : List ℕ) → has_name given name ≡ false
    → cond (has_name (with_name given name) base) 1 0 ≡ cond (has_name given base) 1 0 + cond (bytes_eq name base) 1 0
one_more_name laws given name base new =
    ap (λ (t : Bool). cond t 1 0) (laws.one_more_name given name base)
    ∙ apart (bytes_eq name base) (has_name given base) (λ same. subst (λ (x : List ℕ). has_name given x ≡ false) (same_word name base same) new)

names_more : (given now : List (List ℕ)) (ks : List Command) (k : Command) (o : Option (List ℕ)) → given_by k ≡ o
    → ((base : List ℕ) → cond (has_name now base) 1 0 ≡ cond (has_name given base) 1 0 + cond (gives o base) 1 0) → NamesOnce given ks → NamesOnce now (ks ++ k ∷ [])
names_more given now ks k o e more h = λ base.
    let push = sum_by-append (λ (y : Command). cond (command_gives base y) 1 0) ks (k ∷ []) in
    let here = ap (λ (t : Bool). let n : ℕ = cond t 1 0 in n) (gives_named k base ∙ ap (λ (x : Option (List ℕ)). gives x base) e) in
    push ∙ (let sum : count_by (command_gives base) ks + (0 + cond (command_gives base k) 1 0) ≡ cond (has_name now base) 1 0 = omega (arith, here, h base, more base) in sum)

-- a command
call_opens : (b : Book) (given : List (List ℕ)) (ss : List StartRecord) (ls : List (List CallRecord)) (cs : List CallRecord) (k : Command) → RoundsFit b (Section ss ls cs)
    → command_fits b.profile.callers k ≡ true → NamesOnce given ((run_commands b.rounds ++ (flat_map commands ls ++ commands cs)) ++ k ∷ [])
    → Grows (Rounds b (Section ss ls cs)) (line.Call k) (Rounds (record { profile = b.profile; given = given; rounds = b.rounds }) (Call ss ls cs k []))
call_opens b given ss ls cs k h fits names =
    let shape : run_commands b.rounds ++ (flat_map commands ls ++ (commands cs ++ k ∷ [])) ≡ (run_commands b.rounds ++ (flat_map commands ls ++ commands cs)) ++ k ∷ [] = simp append_assoc in
    record {
      lines = simp append_assoc;
      valid = record { limits = h.limits; rounds = h.rounds; few = h.few; part = (h.part, and_from _ _ fits refl); names = same_names given _ _ shape names };
    }

asked_sound : TextLaws → (b : Book) (ss : List StartRecord) (ls : List (List CallRecord)) (cs : List CallRecord) (k : Command) (o : Option (List ℕ)) → given_by k ≡ o → RoundsFit b (Section ss ls cs)
    → command_fits b.profile.callers k ≡ true → Sound (Rounds b (Section ss ls cs)) (line.Call k) (book_named b o >>= λ c. Some (Rounds c (Call ss ls cs k [])))
asked_sound laws b ss ls cs k None e h fits =
    call_opens b b.given ss ls cs k h fits (names_more b.given b.given (run_commands b.rounds ++ (flat_map commands ls ++ commands cs)) k None e (λ base. omega arith) h.names)
asked_sound laws b ss ls cs k (Some name) e h fits =
    unless_then (Rounds b (Section ss ls cs)) (line.Call k) (has_name b.given name) (with_given b name) (λ c. Some (Rounds c (Call ss ls cs k [])))
    (λ new. call_opens b (with_name b.given name) ss ls cs k h fits (names_more b.given (with_name b.given name) (run_commands b.rounds ++ (flat_map commands ls ++ commands cs)) k (Some name) e (λ base. one_more_name laws b.given name base new) h.names))

section_sound : TextLaws → (b : Book) (ss : List StartRecord) (ls : List (List CallRecord)) (cs : List CallRecord) (v : RunLine) → RoundsFit b (Section ss ls cs) → LineFits b.profile.callers v
    → Sound (Rounds b (Section ss ls cs)) v (in_section b ss ls cs v)
section_sound laws b ss ls cs (line.Call k) h fits = asked_sound laws b ss ls cs k (given_by k) refl h fits
section_sound laws b ss ls cs (line.Caller n) h fits =
    only_if (Rounds b (Section ss ls cs)) (line.Caller n) (eqb n (length ls + 1) && ltb n b.profile.callers) (Rounds b (Section ss (ls ++ cs ∷ []) [])) (λ t.
    let p = and_parts (eqb n (length ls + 1)) (ltb n b.profile.callers) t in
    let place = eqb-true n (length ls + 1) p.0 in
    let within = ltb-true n b.profile.callers p.1 in
    subst (λ (m : ℕ). Grows (Rounds b (Section ss ls cs)) (line.Caller m) (Rounds b (Section ss (ls ++ cs ∷ []) []))) (sym place)
    (further_section b ss ls cs h (omega (arith, place, within))))
section_sound laws b ss ls cs line.Round h fits =
    then_sound (Rounds b (Section ss ls cs)) line.Round (eqb (length ls + 1) b.profile.callers) (with_round b (round_of ss ls cs)) opened
    (λ t. opened_sound (Rounds b (Section ss ls cs)) (with_round b (round_of ss ls cs)) (round_closes b ss ls cs h (eqb-true _ _ t)) (closed_lines b ss ls cs))
section_sound laws b ss ls cs line.End h fits =
    then_sound (Rounds b (Section ss ls cs)) line.End (eqb (length ls + 1) b.profile.callers) (with_round b (round_of ss ls cs)) (λ c. Some (ended c))
    (λ t. ended_sound (Rounds b (Section ss ls cs)) (with_round b (round_of ss ls cs)) (round_closes b ss ls cs h (eqb-true _ _ t)) (closed_lines b ss ls cs))
section_sound laws b ss ls cs _ h fits = tt

rounds_sound : TextLaws → (b : Book) (part : Part) (v : RunLine) → RoundsFit b part → LineFits (callers_at (due_in b.profile.callers part)) v → Sound (Rounds b part) v (rounds_with b part v)
rounds_sound laws b Outside line.Round h k = opened_sound (Rounds b Outside) b h refl
rounds_sound laws b Outside line.End h k = ended_sound (Rounds b Outside) b h refl
rounds_sound laws b Outside _ h k = tt
rounds_sound laws b (Starts ss) v h k = starts_sound b ss v h k
rounds_sound laws b (Start ss x es) v h k = start_told_sound b ss x es v h k
rounds_sound laws b (Section ss ls cs) v h k = section_sound laws b ss ls cs v h k
rounds_sound laws b (Call ss ls cs c es) v h k = call_told_sound b ss ls cs c es v h k

-- behind the rounds
tail_sound : (r : Run) (bs : List Listed) (k : Known) (v : RunLine) → Valid (Tail r bs k) → LineFits (callers_at (due_statistic k)) v → Sound (Tail r bs k) v (in_tail r bs k v)
tail_sound r bs known.Nothing (line.Block b) h fits = record { lines = simp (append_assoc, map-append, append-nil); valid = (h.0, push_all listed_fits bs b h.1 fits, refl) }
tail_sound r bs _ (line.Block b) h fits = tt
tail_sound r bs known.Nothing (line.Statistic BlocksInUse n) h fits = record { lines = simp append_assoc; valid = (h.0, h.1, fits) }
tail_sound r bs (known.Blocks b) (line.Statistic SizeInUse n) h fits = record { lines = simp append_assoc; valid = (h.0, h.1, and_from _ _ h.2 fits) }
tail_sound r bs (known.Size b s) (line.Statistic MaxSizeInUse n) h fits = record { lines = simp append_assoc; valid = (h.0, h.1, and_from _ _ h.2 fits) }
tail_sound r bs (known.MaxSize b s m) (line.Statistic SizeAllocated n) h fits =
    let p = and_parts (is_u64 b && is_u64 s) (is_u64 m) h.2 in
    record { lines = simp append_assoc; valid = (h.0, h.1, and_from _ _ p.0 (and_from _ _ p.1 fits)) }
tail_sound r bs _ _ h fits = tt

pub line_sound : TextLaws → (s : Stage) (v : RunLine) → Valid s → LineFits (callers_at (due_of s)) v → Sound s v (with_line s v)
line_sound laws First line.First h k = record { lines = refl; valid = tt }
line_sound laws Second (line.Space p) h k = record { lines = refl; valid = record { limits = k; rounds = refl; few = omega arith; part = tt; names = λ base. refl } }
line_sound laws (Rounds b part) v h k = rounds_sound laws b part v h k
line_sound laws (Tail r bs known) v h k = tail_sound r bs known v h k
line_sound laws _ _ h k = tt
