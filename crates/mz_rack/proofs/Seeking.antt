-- The pages are searched, with as many flushes as it takes.
use Rattle.std.proofs.Common.{◌≡◌, ℕ, ◌≤◌, List, [], ◌∷◌, ◌++◌, length, length-append, None, refl, ap, sym, subst, ◌∙◌, arith, inl, inr}
use Rattle.std.specs.Prelude.{Result, Ok, Err}
use Rattle.std.proofs.lemmas.List.{append_assoc}
use Rattle.std.proofs.lemmas.List.Elements.{All-nil, All-cons}
use Rattle.mz_base.specs.Space.{run_at}
use Rattle.mz_ground.specs.Views.{SpanView}
use Rattle.mz_events.specs.declared.place.Place.TheVariants.{Pages, Large}
use Rattle.mz_events.specs.declared.event.Event.TheVariants.{Back}
use Rattle.mz_events.specs.declared.entry.Entry.{Entry}
use Rattle.mz_events.specs.Places.{spot_of}
use Rattle.mz_events.specs.State.{opening}
use Rattle.mz_events.specs.History.{AreLawful}
use Rattle.mz_events.specs.Standing.{Keeping}
use Rattle.mz_record.specs.Moments.{MeetsDuty}
use Rattle.mz_book.specs.Account.{Account, known, entry_at}
use Rattle.mz_book.specs.Growth.{GrowsHolding}
use Rattle.mz_rack.specs.BookLaws.{BookLaws}
use Rattle.mz_rack.specs.Runs.{MaySeekRun, IsFoundRun}
use Rattle.mz_record.specs.Served.{AreFlushes}
use Rattle.mz_rack.specs.Stages.{at_pages, Keeps, IsFlush, AreFlushed}
use Rattle.mz_rack.specs.Seeking.{CanSeek, cached_in, IsFlushed, IsEmpty, Sought, dry_at, last_dry}
use Rattle.mz_rack.proofs.Steps.{held_still}

module _ (L : BookLaws) (z w al : ℕ) (s : Account) (k : CanSeek s z w al) where
  pub may_seek : AreLawful s.profile opening s.seen → (v : Keeping) → Keeps s Pages v → MaySeekRun v w al
  may_seek lawful v h = record {
    space = s.site;
    profile = s.profile;
    kept = (known s at_pages).kept;
    stands = h;
    taken = (L.ascending s.profile s.seen lawful).taken;
    some = k.some;
    some_alignment = k.some_alignment;
  }

  -- a run is found at once
  pub found : (x : SpanView) → IsFoundRun s.site s.profile (known s at_pages).kept w al x → Sought s z w al (Ok x) s
  found x run = record {
    flushes = [];
    flushed = [];
    since = L.nothing s;
    each = All-nil (λ (e : Entry). IsFlush z w al e.event);
    cached = refl;
    few = refl;
    can = k;
    stays = record { held = refl; others = λ j there off_l off_p. refl };
    are = λ h later lawful goes. tt;
    is = run;
  }

  -- the pages are dry, and nothing is cached
  pub found_none : (i : ℕ) (t : Account) → IsEmpty s z w al i t → Sought s z w al (Err i) t
  found_none i t e = record {
    flushes = [];
    flushed = [];
    since = e.since;
    each = All-nil (λ (x : Entry). IsFlush z w al x.event);
    cached = sym e.same;
    few = refl;
    can = e.can;
    stays = e.stays;
    are = λ h later lawful goes. tt;
    is = e.last;
  }

  -- a flush, and what is found then
  pub found_then : (u t : Account) (got : Result SpanView ℕ) → IsFlushed s z w al u → Sought u z w al got t → Sought s z w al got t
  found_then u t got f y =
      let few = y.few in
      let same = f.since.grows.adds.same in
      let adds = y.since.grows.adds in
      let both = L.joined s u t (dry_at f.i s.caller z w al ∷ entry_at f.j s.caller (Back (Large z) f.f f.n) ∷ []) (y.flushes ++ last_dry u.caller z w al got) 0 0 f.since y.since in
      record {
        flushes = dry_at f.i s.caller z w al ∷ entry_at f.j s.caller (Back (Large z) f.f f.n) ∷ y.flushes;
        flushed = run_at f.f f.n ∷ y.flushed;
        since = subst (λ c. GrowsHolding s (dry_at f.i s.caller z w al ∷ entry_at f.j s.caller (Back (Large z) f.f f.n) ∷ (y.flushes ++ last_dry c z w al got)) 0 t) same.caller both;
        each = All-cons (λ (e : Entry). IsFlush z w al e.event) (dry_at f.i s.caller z w al) (entry_at f.j s.caller (Back (Large z) f.f f.n) ∷ y.flushes) (inl refl)
            (All-cons (λ (e : Entry). IsFlush z w al e.event) (entry_at f.j s.caller (Back (Large z) f.f f.n)) y.flushes (inr (f.f, f.n, refl)) y.each);
        cached = f.fewer ∙ ap (λ l. run_at f.f f.n ∷ l) y.cached;
        few = omega (arith, few);
        can = y.can;
        stays = record {
          held = y.stays.held ∙ f.stays.held;
          others = λ j there off_l off_p. y.stays.others j (held_still s u j same f.stays.held there) off_l off_p ∙ f.stays.others j there off_l off_p;
        };
        are = λ h later lawful goes. (
          refl,
          subst (λ p. MeetsDuty p h (dry_at f.i s.caller z w al) (entry_at f.j s.caller (Back (Large z) f.f f.n))) (sym adds.same.profile)
              (f.met h (adds.more ++ later) (subst (λ p. AreLawful p opening h) adds.same.profile lawful) (goes ∙ (ap (λ l. l ++ later) adds.seen ∙ append_assoc u.seen adds.more later))),
          y.are h later lawful goes,
        );
        is = y.is;
      }

-- FLUSHES are few: each took a cached run
pub few_flushed : BookLaws → (u v : Account) (z y al : ℕ) (got : Result SpanView ℕ) → AreLawful u.profile opening u.seen → (known u (spot_of (Large z))).duty ≡ None → (q : Sought u z y al got v) → length q.flushes ≤ 32
few_flushed L u v z y al got lawful calm q =
    let few = q.few in
    let cached : length (cached_in u z) ≤ 16 = L.few_cached u.profile u.seen z lawful calm in
    let all = ap length q.cached ∙ length-append q.flushed (cached_in v z) in
    omega (arith, few, cached, all)

-- and they are the flushes of the history that has gone on
pub flushed_later : (u v y : Account) (z w al : ℕ) (got : Result SpanView ℕ) (more : List Entry) → (q : Sought u z w al got v) → length q.flushes ≤ 32 → AreLawful y.profile opening y.seen → y.profile ≡ v.profile → y.seen ≡ v.seen ++ more
    → AreFlushed y z w al q.flushes
flushed_later u v y z w al got more q few lawful same seen = record {
  are = subst (λ p. AreFlushes p y.seen z w al q.flushes) (sym same) (q.are y.seen more (subst (λ p. AreLawful p opening y.seen) same lawful) seen);
  each = q.each;
  few = few;
}
