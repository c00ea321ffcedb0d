-- The rule holds of a register that is opened.
use Rattle.std.proofs.Common.{◌≡◌, ℕ, ◌<◌, false, List, [], ◌∷◌, length, map, get_or, replicate, Option, refl, sym, ap, ◌∙◌, subst, arith, inl, inr, ⊎_elim, zero, suc, append-nil}
use Rattle.std.proofs.lemmas.List.{length-replicate, length-map}
use Rattle.std.specs.List.{All}
use Rattle.std.proofs.lemmas.List.Elements.{All-nil}
use Rattle.std.proofs.lemmas.Bool.{false≢true}
use mathlib.Core.Option as m
use mathlib.Core.Option.{some-ne-none, some-injective}
use lib.ListN.{get_elem?}
use Rattle.atomic_table.specs.Table as table
use Rattle.mz_base.specs.declared.profile.Profile.{Profile}
use Rattle.mz_events.specs.declared.entry.Entry.{Entry}
use Rattle.mz_events.specs.State.{State, opening}
use Rattle.mz_events.specs.Changes.{one_for}
use Rattle.mz_events.specs.History.{AreLawful, after_all}
use Rattle.mz_events.specs.Holding.{changes_zones, IsAway}
use Rattle.mz_events.specs.Standing.{Keeping}
use Rattle.mz_book.specs.declared.pair.Pair.{Pair}
use Rattle.mz_book.specs.Keepers.{is_held}
use Rattle.mz_book.specs.Lights.{is_slot_live}
use Rattle.mz_book.specs.Pairs.{owners}
use Rattle.mz_book.specs.Account.{is_live}
use Rattle.mz_desk.specs.declared.view.TakenIn.{TakenIn}
use Rattle.mz_desk.specs.declared.view.View.{View}
use Rattle.mz_desk.specs.Views.{Opened, first_view, pairs_of}
use Rattle.mz_desk.specs.Rule.{all_of, state_after, AreSettled, AtHome, IsAloneSince, IsWhose, IsTaken, SeatKeeps, LockOwner, LightOwner, Kept, Rule}
use Rattle.mz_desk.specs.Opening.{CanOpen}

only_first : (u v : View) (i : ℕ) → get_elem? (u ∷ []) i ≡ m.some v → (i ≡ 0) × (u ≡ v)
only_first u v zero e = (refl, some-injective u v e)
only_first u v (suc i) e = absurd (some-ne-none v (sym e))

nothing : (n x z : ℕ) → get_or (replicate n z) x z ≡ z
nothing zero x z = refl
nothing (suc n) zero z = refl
nothing (suc n) (suc x) z = nothing n x z

module _ {V : Type 0} (keeping : V → Keeping) (key : Opened) (ws : List ℕ) (ks : List (Option V)) (can : CanOpen keeping key ws ks) where
  abbrev p : Profile
  p = key.profile

  abbrev v : View
  v = first_view key

  abbrev st0 : State
  st0 = after_all p opening key.history

  same : all_of key [] ≡ key.history
  same = append-nil key.history

  state_same : state_after key [] ≡ st0
  state_same = ap (after_all p opening) same

  whose : All (IsWhose 0 v) key.pairs
  whose = λ k d l. either (get_or key.pairs k d)
    where
      either : (h : Pair) → IsWhose 0 v h
      either h = ⊎_elim (λ (e : h.caller ≡ 0). inl e) (λ (n : h.caller ≡ 0 → ⊥). inr (inl (refl, omega arith))) (Rattle.std.proofs.lemmas.Bool.cases_eq h.caller 0)

  seat : SeatKeeps keeping key [] ws (map m.some ks) 0 v
  seat = record {
    profile = refl;
    space = refl;
    start = refl;
    dealt = refl;
    caller = refl;
    rest = [];
    seen = refl;
    away = All-nil (IsAway p 0 (is_held p []));
    noted = refl;
    held = λ k h. absurd (false≢true h);
    taking = λ k h. absurd (false≢true h);
    since = All-nil (IsAloneSince p 0 (all_of key []) v);
    timed = λ k h. absurd (false≢true h);
    owned = λ u b. let o = can.in_one_hand b in omega arith;
    whose = whose;
    hand = refl;
    lights = λ b j h. absurd (false≢true h);
    sized = length-replicate p.nano 0;
    settled = λ b n. absurd (n (nothing p.nano b 0));
    known = All-nil (λ (x : TakenIn). AreSettled p ws x.settled);
  }

  opens_kept : Kept keeping key (table.opening ws ks v) []
  opens_kept = record {
    words = can.words;
    homes = length-map ks m.some ∙ can.keepers;
    few = can.limits.callers.0;
    opened = record { limits = can.limits; short = can.short; in_one_hand = can.in_one_hand };
    history = record {
      counts = can.counter ∙ ap length (sym same);
      lawful = subst (AreLawful p opening) (sym same) can.lawful;
      bounded = λ c. omega arith;
      below = All-nil (λ (e : Entry). e.caller < 1);
      no_zone = All-nil (λ (e : Entry). changes_zones e.event ≡ false);
      handed = tt;
    };
    locks = record {
      free = λ k l z. subst (λ (t : State). AtHome keeping key t (map m.some ks) k) (sym state_same) (can.home k l);
      owned = λ k l n. absurd (n (can.free k l));
    };
    seats = λ i u e l. let o = only_first v u i e in subst (λ (x : ℕ). SeatKeeps keeping key [] ws (map m.some ks) x u) (sym o.0) (subst (SeatKeeps keeping key [] ws (map m.some ks) 0) o.1 seat);
    hands = record {
      in_one_hand = λ b. ap (λ ps. owners ps b) (append-nil key.pairs) ∙ (can.in_one_hand b ∙ ap (λ (t : State). one_for (is_live t b)) (sym state_same));
      gives = λ u e l. ap (λ (z : View). z.given) (sym (only_first v u 0 e).1);
      undealt = λ u c e l g. ap (λ (z : View). pairs_of c z.pairs) (sym (only_first v u 0 e).1);
      taken = λ i u e l. subst (λ (z : View). All (IsTaken key (v ∷ []) []) z.joined) (only_first v u i e).1 (All-nil (IsTaken key (v ∷ []) []));
      spent = λ i u e l. absurd (false≢true (sym l ∙ ap (λ (z : View). z.live) (sym (only_first v u i e).1)));
    };
    lights = record { each = λ b j lb lj. inl (can.lights b j lb lj ∙ ap (λ (t : State). one_for (is_slot_live p t b j)) (sym state_same)) };
    classes = subst (λ (t : State). Rattle.mz_desk.specs.Rule.ClassesKeep key t ws) (sym state_same) can.classes;
    told = λ b l n. inl (can.told b l);
  }

  pub opens : Rule keeping key (table.opening ws ks (first_view key))
  opens = ([], opens_kept)
