-- What all passes tell when they come in.
use Rattle.std.proofs.Common.{◌≡◌, ◌≢◌, ⊎_elim, ◌==◌, ℕ, ◌+◌, ◌<◌, ◌≤◌, true, List, [], ◌∷◌, ◌++◌, length, get_or, Option, Some, Vec, refl, sym, ap, ◌∙◌, subst, arith, zero, suc, eq-eqb, ne_eqb}
use Rattle.std.specs.Prelude.{slice_get}
use Rattle.std.specs.List.{All, list_any}
use Rattle.std.proofs.lemmas.Bool.{false≢true, eqb-true}
use Rattle.std.specs.declared.alloc.Global.{Global}
use Rattle.atomic_table.specs.Seated.{TableId}
use Rattle.atomic_table.specs.declared.shared.Seat.{Seat}
use Rattle.mz_base.specs.declared.profile.Profile.{Profile}
use Rattle.mz_events.specs.declared.entry.Entry.{Entry}
use Rattle.mz_events.specs.Changes.{one_for}
use Rattle.mz_events.specs.Hands.{own, hand_through}
use Rattle.mz_events.specs.Standing.{Keeping}
use Rattle.mz_book.specs.declared.pair.Pair.{Pair}
use Rattle.mz_book.specs.Pairs.{hand_among}
use Rattle.mz_desk.specs.declared.view.TakenIn.{TakenIn}
use Rattle.mz_desk.specs.declared.view.View.{View}
use Rattle.mz_desk.specs.Views.{Opened, took_in, knows_class}
use Rattle.mz_desk.specs.Rule.{AreSettled, Homes, all_of}
use Rattle.mz_desk.specs.Ending.{TookAll, IsPartOf, Ended}
use Rattle.mz_register.specs.declared.pass.Pass.{Pass}
use Rattle.mz_register.specs.Accounts.{pass_account}
use Rattle.mz_register.specs.HandIn.{passes_of, AreAll, AreIn, IsIdleOf, IsKnownToOne, joined_through, views_of}
use Rattle.mz_register.proofs.Rests.{none_of}
use Rattle.mz_register.proofs.MergeLemmas.{some_is, at_map, of_map}
use Rattle.mz_register.proofs.PassLists.{some_of, found_of, moved_at, back_at, moved_count}
use Rattle.mz_register.proofs.JoinLemmas.{or_either, like, took, each_part, known_part, hand_first}

-- where a number isn't 0 there is one
pub some_below : (xs : List ℕ) (i : ℕ) → get_or xs i 0 ≢ 0 → i < length xs
some_below [] i n = absurd (n refl)
some_below (x ∷ xs) zero n = omega arith
some_below (x ∷ xs) (suc i) n = let l = some_below xs i n in omega arith

module _ {V : Type 0} (z : TableId) (p : Profile) (passes : List (Pass V)) (all : AreAll z p passes) (seat : Seat (Option V) View) (noted : List (Vec Entry Global)) (held : Vec ℕ Global) (a : AreIn z passes seat noted held) where
  -- the others, and all with that of caller 0 in front
  abbrev others : List (Pass V)
  others = a.front ++ a.back

  abbrev pub moved : List (Pass V)
  moved = a.first ∷ others

  abbrev v0 : View
  v0 = a.first.seat.me.0

  abbrev ws : List View
  ws = views_of others

  to_moved : (i : ℕ) (x : Pass V) → slice_get passes i ≡ Some x → (j : ℕ) × (slice_get moved j ≡ Some x)
  to_moved i x e = moved_at a.front a.first a.back i x (ap (λ ps. slice_get ps i) (sym a.all) ∙ e)

  from_moved : (j : ℕ) (x : Pass V) → slice_get moved j ≡ Some x → (i : ℕ) × (slice_get passes i ≡ Some x)
  from_moved j x e = let t = back_at a.front a.first a.back j x e in (t.0, ap (λ ps. slice_get ps t.0) a.all ∙ t.1)

  pub idle0 : IsIdleOf z p (pass_account a.first)
  idle0 = let t = from_moved 0 a.first refl in all.each t.0 a.first t.1

  pub other : (i : ℕ) (x : Pass V) → slice_get others i ≡ Some x → IsIdleOf z p (pass_account x)
  other i x e = let t = from_moved (suc i) x e in all.each t.0 x t.1

  pub one_moved : (c : ℕ) → c < p.callers → passes_of c moved ≡ 1
  one_moved c l = sym (moved_count c a.front a.first a.back) ∙ (ap (λ ps. passes_of c ps) (sym a.all) ∙ all.one c l)

  -- the others are not of caller 0
  not_first : (i : ℕ) (x : Pass V) → slice_get others i ≡ Some x → x.seat.me.0.caller ≢ 0
  not_first i x e y =
      let k = a.first.knowing.caller in
      let q : v0.profile.callers ≡ p.callers = ap (λ (r : Profile). r.callers) idle0.of.profile in
      let m : one_for (v0.caller == 0) + passes_of 0 others ≡ 1 = one_moved 0 (omega arith) in
      let f : one_for (v0.caller == 0) ≡ 1 = ap one_for (eq-eqb v0.caller 0 a.caller) in
      let s = some_of 0 others i x e y in
      absurd (omega arith)

  of_other : (i : ℕ) (w : View) → slice_get ws i ≡ Some w → w.caller ≢ 0
  of_other i w e y = let t = of_map (λ (x : Pass V). x.seat.me.0) others i w e in not_first i t.0 t.1.0 (ap (λ (u : View). u.caller) t.1.1 ∙ y)

  took_each : (c : ℕ) → 1 ≤ c → c < p.callers → took_in (joined_through v0 ws) c ≡ true
  took_each c l h =
      let m : one_for (v0.caller == c) + passes_of c others ≡ 1 = one_moved c h in
      let f : one_for (v0.caller == c) ≡ 0 = ap one_for (ne_eqb v0.caller c (λ e. let y = a.caller in omega arith)) in
      let t = found_of c others (omega arith) in
      let e = at_map (λ (x : Pass V). x.seat.me.0) others t.0 t.1 t.2 in
      subst (λ (k : ℕ). took_in (joined_through v0 ws) k ≡ true) t.3 (took v0 ws t.0 t.1.seat.me.0 e)

  took_all : TookAll (joined_through v0 ws)
  took_all =
      let l = like v0 ws in
      record {
        live = l.live ∙ a.first.rested.live;
        first = l.caller ∙ a.caller;
        no_keeper = l.held ∙ idle0.idle.keepers;
        none_taking = l.taking ∙ none_of v0.taking a.first.rested.none_taking;
        no_light = l.lights ∙ idle0.idle.lights;
        all = λ c k h. took_each c k (let n = ap (λ (q : Profile). q.callers) (l.profile ∙ idle0.of.profile) in omega arith);
      }

  -- seat 0 took in all others
  pub all_in : TookAll seat.me.0
  all_in = subst TookAll (sym a.view) took_all

  -- a class that seat 0 knows then, a pass knew
  pub known_to : (b class : ℕ) → knows_class (joined_through v0 ws) b class ≡ true → IsKnownToOne passes b class
  known_to b class h = ⊎_elim
      (λ (t : knows_class v0 b class ≡ true). ⊎_elim
      (λ (y : (get_or v0.settled b 0 == class) ≡ true). let t0 = from_moved 0 a.first refl in record { index = t0.0; pass = a.first; at = t0.1; knows = eqb-true (get_or v0.settled b 0) class y })
      (λ (y : list_any (λ x. get_or x.settled b 0 == class) v0.joined ≡ true). absurd (false≢true (sym (ap (λ (ts : List TakenIn). list_any (λ x. get_or x.settled b 0 == class) ts) (none_of v0.joined a.first.rested.none_joined)) ∙ y)))
      (or_either (get_or v0.settled b 0 == class) (list_any (λ x. get_or x.settled b 0 == class) v0.joined) t))
      (λ (t : (i : ℕ) × (w : View) × (slice_get ws i ≡ Some w) × (get_or w.settled b 0 ≡ class)).
      let o = of_map (λ (x : Pass V). x.seat.me.0) others t.0 t.1 t.2 in
      let f = from_moved (suc t.0) o.0 o.1.0 in
      record { index = f.0; pass = o.0; at = f.1; knows = ap (λ (u : View). get_or u.settled b 0) o.1.1 ∙ t.3 })
      (known_part v0 ws b class h)

  -- what a pass, which had this view, was at the end
  pub record IsEnd (key : Opened) (words : List ℕ) (later : List Entry) (v : View) : Type 0 where
    pub rest : List Entry
    pub seen : all_of key later ≡ v.seen ++ rest
    pub noted_is : v.noted ≡ own v.caller later
    pub hand : hand_among v.caller v.pairs ≡ hand_through (hand_among v.caller key.pairs) (own v.caller later)
    pub settled : AreSettled key.profile words v.settled

  module _ (keeping : V → Keeping) (key : Opened) (words : List ℕ) (homes : Homes V) (e : Ended keeping key (joined_through v0 ws) words homes) where
    abbrev end : View
    end = joined_through v0 ws

    whose : (i : ℕ) (w : View) → slice_get ws i ≡ Some w → All (λ h. h.caller ≡ w.caller) w.pairs
    whose = (each_part (λ (x : TakenIn). All (λ (h : Pair). h.caller ≡ x.caller) x.pairs) v0 ws e.whose).1

    first_end : IsEnd key words e.later v0
    first_end =
        let l = like v0 ws in
        let m = e.mine in
        let c = v0.caller in
        let n : end.noted ≡ own c e.later = m.noted ∙ ap (λ (d : ℕ). own d e.later) l.caller in
        let h : hand_among c end.pairs ≡ hand_through (hand_among c key.pairs) end.noted = subst (λ (d : ℕ). hand_among d end.pairs ≡ hand_through (hand_among d key.pairs) end.noted) l.caller m.hand in
        record {
          rest = m.rest;
          seen = m.seen ∙ ap (λ (es : List Entry). es ++ m.rest) l.seen;
          noted_is = sym l.noted ∙ n;
          hand = sym (hand_first c v0 ws (λ i w at. (whose i w at, λ y. of_other i w at (y ∙ a.caller)))) ∙ (h ∙ ap (hand_through (hand_among c key.pairs)) n);
          settled = subst (AreSettled key.profile words) l.settled m.settled;
        }

    other_end : (i : ℕ) (x : Pass V) → slice_get others i ≡ Some x → IsEnd key words e.later x.seat.me.0
    other_end i x at =
        let w = x.seat.me.0 in
        let m = (each_part (IsPartOf key words e.later) v0 ws e.others).1 i w (at_map (λ (y : Pass V). y.seat.me.0) others i x at) in
        record {
          rest = m.rest;
          seen = m.seen;
          noted_is = m.noted;
          hand = m.hand ∙ ap (hand_through (hand_among w.caller key.pairs)) m.noted;
          settled = m.settled;
        }

    end_moved : (j : ℕ) (x : Pass V) → slice_get moved j ≡ Some x → IsEnd key words e.later x.seat.me.0
    end_moved zero x h = subst (λ (q : Pass V). IsEnd key words e.later q.seat.me.0) (some_is a.first x h) first_end
    end_moved (suc i) x h = other_end i x h

    pub each_end : (i : ℕ) (x : Pass V) → slice_get passes i ≡ Some x → IsEnd key words e.later x.seat.me.0
    each_end i x at = let t = to_moved i x at in end_moved t.0 x t.1

    -- what each pass noted, by its place among all, and with that of caller 0 in front

    pub each_noted : (i : ℕ) (x : Pass V) → slice_get passes i ≡ Some x → x.noted.items ≡ own x.seat.me.0.caller e.later
    each_noted i x at = sym x.rested.noted_is ∙ (each_end i x at).noted_is

    pub moved_noted : (j : ℕ) (x : Pass V) → slice_get moved j ≡ Some x → x.noted.items ≡ own x.seat.me.0.caller e.later
    moved_noted j x at = sym x.rested.noted_is ∙ (end_moved j x at).noted_is
