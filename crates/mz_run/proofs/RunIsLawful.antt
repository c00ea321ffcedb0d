-- What turns make of a run: each record fits in its place in the whole run, which is lawful, and the session stands for what stands at
-- its end.
use Rattle.std.proofs.Common.{◌≡◌, List, [], ◌∷◌, ◌++◌, refl, ap, sym, subst, ◌∙◌, append_assoc}
use Rattle.std.specs.Prelude.{map}
use Rattle.std.specs.List.{flat_map, AllByRecursion}
use Rattle.std.proofs.lemmas.List.{append-nil}
use Rattle.std.proofs.lemmas.Option.{none-some}
use Rattle.mz_base.specs.declared.profile.Profile.{Profile}
use Rattle.mz_events.specs.declared.entry.Entry.{Entry}
use Rattle.mz_events.specs.State.{State, opening}
use Rattle.mz_events.specs.History.{AreLawful, after_all, by_ticket, IsLawfulHistory}
use Rattle.mz_trace.specs.declared.run.CallRecord.{CallRecord}
use Rattle.mz_trace.specs.declared.run.RunRound.{RunRound}
use Rattle.mz_trace.specs.declared.run.Run.{Run}
use Rattle.mz_trace.specs.declared.trace.Trace.{Trace}
use Rattle.mz_trace.specs.RunTexts.{round_of}
use Rattle.mz_lawful.specs.Records.{entry_by, call_record, call_records, entries_of_records, entries_of_round, entries_of}
use Rattle.mz_lawful.specs.Standing.{Standing, first_standing, delivered}
use Rattle.mz_lawful.specs.Fitting.{FitsRecord}
use Rattle.mz_lawful.specs.After.{after_record}
use Rattle.mz_lawful.specs.LawfulRun.{Placed, placed, behind_all, placed_round, placed_rounds, after_rounds, IsLawfulRun, last_standing}
use Rattle.mz_trace.specs.declared.tail.Figures.{Figures}
use Rattle.mz_lawful.specs.Tail.{listing_of, statistics_of, tail_of}
use Rattle.mz_session.specs.Names.{block_with, holding_named}
use Rattle.mz_session.specs.Sessions.{SessionView, IsOpened, StandsFor, ArePassed}
use Rattle.mz_session.specs.Serving.{record_of}
use Rattle.mz_run.specs.Turns.{step_of, Turn, Turns, RoundTurns, RoundsTurn}
use Rattle.mz_run.specs.RunLaws.{RunLaws}
use Rattle.mz_run.proofs.LaterLemmas.{setting_at, still_fits, same_after}

-- the entries of a record of the one caller, and of such records
abbrev pub entries_of_call : CallRecord → List Entry
entries_of_call d = (call_record 0 d).entries

abbrev pub entries_of_calls : List CallRecord → List Entry
entries_of_calls ds = entries_of_records (call_records 0 ds)

-- entries of caller 0 are those that their steps tell
steps_back : (es : List Entry) → AllByRecursion (λ e. e.caller ≡ 0) es → map (entry_by 0) (map step_of es) ≡ es
steps_back [] mine = refl
steps_back (e ∷ es) mine =
    ap (λ c. record { ticket = e.ticket; caller = c; event = e.event } ∷ map (entry_by 0) (map step_of es)) (sym mine.0) ∙ ap (λ ds. e ∷ ds) (steps_back es mine.1)

entries_are : (s : SessionView) (d : CallRecord) (t : SessionView) → (turn : Turn s d t) → entries_of_call d ≡ turn.served.entries
entries_are s d t turn = ap (map (entry_by 0)) turn.steps ∙ steps_back turn.served.entries turn.served.mine

-- a record fits in its place
abbrev FitsThere : Placed → Type 0
FitsThere x = FitsRecord x.setting x.deed

all_of_both : {X : Type 0} (P : X → Type 0) (xs ys : List X) → AllByRecursion P xs → AllByRecursion P ys → AllByRecursion P (xs ++ ys)
all_of_both P [] ys front back = back
all_of_both P (x ∷ xs) ys front back = (front.0, all_of_both P xs ys front.1 back)

-- a round in which the one caller has these records
abbrev pub round_with : List CallRecord → RunRound
round_with ds = record { starts = []; callers = ds ∷ [] }

pub round_is : (v : SessionView) (r : RunRound) (x : SessionView) → (round : RoundTurns v r x) → r ≡ round_with round.calls
round_is v r x round = ap (λ l. record { starts = l; callers = r.callers }) round.starts ∙ ap (λ l. record { starts = []; callers = l }) round.callers

-- The records fit, one after another, in the history of the whole run.
module _ (L : RunLaws) (p : Profile) (h : List Entry) (lawful : AreLawful p opening h) where
  -- the session when the entries pre have come, with what stands then
  record Reached (s : SessionView) (pre : List Entry) (w : Standing) : Type 0 where
    seen : s.at.book.seen ≡ pre
    profile : s.at.book.profile ≡ p
    stands : StandsFor s w

  record One (u : SessionView) (d : CallRecord) (pre : List Entry) (w : Standing) : Type 0 where
    fits : FitsRecord (setting_at p h pre w) (call_record 0 d)
    reached : Reached u (pre ++ entries_of_call d) (after_record (setting_at p h pre w) (call_record 0 d))

  one_fits : (v u : SessionView) (d : CallRecord) (pre post : List Entry) (w : Standing) → Reached v pre w → Turn v d u → h ≡ pre ++ (entries_of_call d ++ post) → One u d pre w
  one_fits v u d pre post w reached turn whole =
      let es = entries_of_call d in
      let served = turn.served in
      let is : es ≡ served.entries = entries_are v d u turn in
      let command = d.command in
      let seen : u.at.book.seen ≡ pre ++ es = served.seen ∙ (ap (λ l. l ++ served.entries) reached.seen ∙ ap (λ l. pre ++ l) (sym is)) in
      let amid : h ≡ (pre ++ es) ++ post = whole ∙ sym (append_assoc pre es post) in
      let fits_so : FitsRecord (setting_at p (pre ++ es) pre w) (record_of command es d.answer) =
      subst (λ x. FitsRecord (setting_at p (pre ++ es) pre w) (record_of command x d.answer)) (sym is)
      (subst (λ b. FitsRecord (setting_at p (pre ++ es) b w) (record_of command served.entries d.answer)) reached.seen
      (subst (λ k. FitsRecord (setting_at p k v.at.book.seen w) (record_of command served.entries d.answer)) seen
      (subst (λ q. FitsRecord (setting_at q u.at.book.seen v.at.book.seen w) (record_of command served.entries d.answer)) reached.profile
      (served.fits w reached.stands)))) in
      let stands_so : StandsFor u (after_record (setting_at p (pre ++ es) pre w) (record_of command es d.answer)) =
      subst (λ x. StandsFor u (after_record (setting_at p (pre ++ es) pre w) (record_of command x d.answer))) (sym is)
      (subst (λ b. StandsFor u (after_record (setting_at p (pre ++ es) b w) (record_of command served.entries d.answer))) reached.seen
      (subst (λ k. StandsFor u (after_record (setting_at p k v.at.book.seen w) (record_of command served.entries d.answer))) seen
      (subst (λ q. StandsFor u (after_record (setting_at q u.at.book.seen v.at.book.seen w) (record_of command served.entries d.answer))) reached.profile
      (served.stands w reached.stands)))) in
      record {
        fits = subst (λ k. FitsRecord (setting_at p k pre w) (call_record 0 d)) (sym amid)
            (still_fits L p pre es post w (subst (AreLawful p opening) amid lawful) command d.answer turn.built fits_so);
        reached = record {
          seen = seen;
          profile = served.profile ∙ reached.profile;
          stands = subst (StandsFor u) (same_after p (pre ++ es) h pre w command es d.answer turn.built) stands_so;
        };
      }

  -- records that fit, and where the session has come then
  record Fitting (u : SessionView) (pre : List Entry) (w : Standing) (ds : List CallRecord) : Type 0 where
    fitting : AllByRecursion FitsThere (placed (setting_at p h pre w) (call_records 0 ds))
    reached : Reached u (pre ++ entries_of_calls ds) (behind_all (setting_at p h pre w) (call_records 0 ds)).standing

  records_fit : (v u : SessionView) (ds : List CallRecord) (pre post : List Entry) (w : Standing) → Reached v pre w → Turns v ds u → h ≡ pre ++ (entries_of_calls ds ++ post) → Fitting u pre w ds
  records_fit v u [] pre post w reached same whole = record {
    fitting = tt;
    reached = subst (λ (x : List Entry). Reached u x w) (sym (append-nil pre)) (subst (λ (x : SessionView). Reached x pre w) same reached);
  }
  records_fit v u (d ∷ ds) pre post w reached (x, turn, rest) whole =
      let es = entries_of_call d in
      let later = entries_of_calls ds in
      let regrouped : h ≡ pre ++ (es ++ (later ++ post)) = whole ∙ ap (λ (l : List Entry). pre ++ l) (append_assoc es later post) in
      let here = one_fits v x d pre (later ++ post) w reached turn regrouped in
      let now = after_record (setting_at p h pre w) (call_record 0 d) in
      let others = records_fit x u ds (pre ++ es) post now here.reached rest (regrouped ∙ sym (append_assoc pre es (later ++ post))) in
      record {
        fitting = (here.fits, others.fitting);
        reached = subst (λ (l : List Entry). Reached u l (behind_all (setting_at p h pre w) (call_records 0 (d ∷ ds))).standing) (append_assoc pre es later) others.reached;
      }

  -- rounds that fit, and where the session has come then
  record RoundsFit (u : SessionView) (pre : List Entry) (w : Standing) (rs : List RunRound) : Type 0 where
    fitting : AllByRecursion FitsThere (placed_rounds (setting_at p h pre w) rs)
    stands : StandsFor u (after_rounds (setting_at p h pre w) rs).standing

  rounds_fit : (v u : SessionView) (rs : List RunRound) (pre : List Entry) (w : Standing) → Reached v pre w → RoundsTurn v rs u → h ≡ pre ++ flat_map entries_of_round rs → RoundsFit u pre w rs
  rounds_fit v u [] pre w reached same whole = record { fitting = tt; stands = subst (λ (x : SessionView). StandsFor x w) same reached.stands }
  rounds_fit v u (r ∷ rs) pre w reached (x, round, rest) whole =
      let ds = round.calls in
      let one = round_with ds in
      let r_is : r ≡ one = round_is v r x round in
      let later = flat_map entries_of_round rs in
      let own : entries_of_round one ≡ entries_of_calls ds = ap entries_of_records (append-nil (call_records 0 ds)) in
      let entries : entries_of_round r ≡ entries_of_calls ds = ap entries_of_round r_is ∙ own in
      let here = records_fit v round.served ds pre later w reached round.turns (whole ∙ ap (λ l. pre ++ (l ++ later)) entries) in
      let now = (behind_all (setting_at p h pre w) (call_records 0 ds)).standing in
      let come = here.reached in
      let delivers = round.delivers in
      let next : Reached x (pre ++ entries_of_round one) (delivered now) = record {
        seen = delivers.seen ∙ (come.seen ∙ ap (λ l. pre ++ l) (sym own));
        profile = delivers.profile ∙ come.profile;
        stands = delivers.stands now come.stands;
      } in
      let others = rounds_fit x u rs (pre ++ entries_of_round one) (delivered now) next rest (whole ∙ (ap (λ q. pre ++ (entries_of_round q ++ later)) r_is ∙ sym (append_assoc pre (entries_of_round one) later))) in
      subst (λ (q : RunRound). RoundsFit u pre w (q ∷ rs)) (sym r_is) (record {
        fitting = all_of_both FitsThere (placed_round (setting_at p h pre w) one) _
            (all_of_both FitsThere (placed (setting_at p h pre w) (call_records 0 ds)) [] here.fitting tt) others.fitting;
        stands = others.stands;
      })

-- the session before the first command stands for what stands before the first line
stands_first : (p : Profile) (s : SessionView) → IsOpened p s → StandsFor s first_standing
stands_first p s opened = record {
  zones = refl;
  gifts = subst (λ gs. ArePassed gs []) (sym opened.parcels) tt;
  zone = refl;
  held = λ name. ap (λ bs. holding_named bs name) (sym opened.blocks);
  held_once = tt;
  known = λ name b is. absurd (none-some b (ap (λ bs. block_with bs name) (sym opened.blocks) ∙ is));
}

-- all entries of a run that turns made are those that the session has noted
record Noted (v u : SessionView) (es : List Entry) : Type 0 where
  seen : u.at.book.seen ≡ v.at.book.seen ++ es
  profile : u.at.book.profile ≡ v.at.book.profile

turns_noted : (v u : SessionView) (ds : List CallRecord) → Turns v ds u → Noted v u (entries_of_calls ds)
turns_noted v u [] same = record { seen = ap (λ x. x.at.book.seen) (sym same) ∙ sym (append-nil v.at.book.seen); profile = ap (λ x. x.at.book.profile) (sym same) }
turns_noted v u (d ∷ ds) (x, turn, rest) =
    let later = turns_noted x u ds rest in
    record {
      seen = later.seen ∙ (ap (λ l. l ++ entries_of_calls ds) (turn.served.seen ∙ ap (λ l. v.at.book.seen ++ l) (sym (entries_are v d x turn))) ∙ append_assoc v.at.book.seen (entries_of_call d) (entries_of_calls ds));
      profile = later.profile ∙ turn.served.profile;
    }

rounds_noted : (v u : SessionView) (rs : List RunRound) → RoundsTurn v rs u → Noted v u (flat_map entries_of_round rs)
rounds_noted v u [] same = record { seen = ap (λ x. x.at.book.seen) (sym same) ∙ sym (append-nil v.at.book.seen); profile = ap (λ x. x.at.book.profile) (sym same) }
rounds_noted v u (r ∷ rs) (x, round, rest) =
    let here = turns_noted v round.served round.calls round.turns in
    let later = rounds_noted x u rs rest in
    let delivers = round.delivers in
    let entries : entries_of_round r ≡ entries_of_calls round.calls = ap entries_of_round (round_is v r x round) ∙ ap entries_of_records (append-nil (call_records 0 round.calls)) in
    record {
      seen = later.seen ∙ (ap (λ l. l ++ flat_map entries_of_round rs) (delivers.seen ∙ (here.seen ∙ ap (λ l. v.at.book.seen ++ l) (sym entries))) ∙ append_assoc v.at.book.seen (entries_of_round r) (flat_map entries_of_round rs));
      profile = later.profile ∙ (delivers.profile ∙ here.profile);
    }

-- behind rounds nothing is on its way
pub none_coming : (v u : SessionView) (rs : List RunRound) → v.parcels ≡ [] → RoundsTurn v rs u → u.parcels ≡ []
none_coming v u [] none same = ap (λ s. s.parcels) (sym same) ∙ none
none_coming v u (r ∷ rs) none (x, round, rest) = none_coming x u rs round.delivers.parcels rest

-- what stands behind a run that ends in this state, and in this standing
abbrev tail_at : Profile → Standing → State → Figures
tail_at p w s = record { listing = listing_of w s; statistics = statistics_of p s }

module _ (L : RunLaws) (t : Trace) (rounds : List RunRound) (v u : SessionView) (opened : IsOpened t.profile v) (turns : RoundsTurn v rounds u) (lawful : AreLawful u.at.book.profile opening u.at.book.seen) where
  abbrev run : Run
  run = record { profile = t.profile; rounds = rounds }

  -- the entries of the run are all that the session has noted
  pub seen_is : u.at.book.seen ≡ entries_of run
  seen_is = (rounds_noted v u rounds turns).seen ∙ ap (λ l. l ++ entries_of run) opened.seen

  pub profile_is : u.at.book.profile ≡ t.profile
  profile_is = (rounds_noted v u rounds turns).profile ∙ opened.profile

  lawful_run : AreLawful t.profile opening (entries_of run)
  lawful_run = subst (λ p. AreLawful p opening (entries_of run)) profile_is (subst (AreLawful u.at.book.profile opening) seen_is lawful)

  -- its entries stand in order of their tickets
  by_ticket_is : by_ticket (entries_of run) ≡ entries_of run
  by_ticket_is = L.in_order t.profile opening (entries_of run) lawful_run

  fit : RoundsFit L t.profile (entries_of run) lawful_run u [] first_standing rounds
  fit = rounds_fit L t.profile (entries_of run) lawful_run v u rounds [] first_standing (record { seen = opened.seen; profile = opened.profile; stands = stands_first t.profile v opened }) turns refl

  -- the run is lawful
  pub run_is_lawful : map round_of rounds ≡ t.rounds → IsLawfulHistory u.at.book.profile u.at.book.seen → IsLawfulRun t run
  run_is_lawful told history = record {
    trace = ap (λ rs. record { profile = t.profile; rounds = rs }) told;
    history = subst (λ p. IsLawfulHistory p (entries_of run)) profile_is (subst (IsLawfulHistory u.at.book.profile) seen_is history);
    fitting = subst (λ h. AllByRecursion FitsThere (placed_rounds (setting_at t.profile h [] first_standing) rounds)) (sym by_ticket_is) fit.fitting;
  }

  -- and the session stands for what stands at its end
  pub stands_last : StandsFor u (last_standing run)
  stands_last = subst (λ h. StandsFor u (after_rounds (setting_at t.profile h [] first_standing) rounds).standing) (sym by_ticket_is) fit.stands

  -- what stands behind the run, by what the session keeps
  pub tail_is : (f : Figures) → ((v : Standing) → StandsFor u v → f ≡ tail_at u.at.book.profile v (after_all u.at.book.profile opening u.at.book.seen)) → f ≡ tail_of run
  tail_is f tells =
      let w = last_standing run in
      tells w stands_last
      ∙ (ap (λ p. tail_at p w (after_all p opening u.at.book.seen)) profile_is
      ∙ ap (λ es. tail_at t.profile w (after_all t.profile opening es)) (seen_is ∙ sym by_ticket_is))
