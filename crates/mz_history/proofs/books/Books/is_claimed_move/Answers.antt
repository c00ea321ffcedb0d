use Rattle.std.proofs.Common.{◌≡◌, true, ap, sym, ◌∙◌, subst, Some}
use Rattle.std.specs.List.{list_all}
use Rattle.std.proofs.lemmas.Bool.{and_parts}
use Rattle.mz_events.specs.Places.{Spot, spot_of}
use Rattle.mz_events.specs.State.{Value, look_up}
use Rattle.mz_events.specs.Rules.{claim_of}
use Rattle.mz_history.specs.Booked.{Booked, is_sound, is_good_claim, is_good_duty}
use Rattle.mz_history.proofs.SoundLemmas.{sound_there, claim_some}
use Rattle.mz_history.proofs.books.Books.is_claimed_move.Goals as goal

pub is_lowest_with_room-requires-clause-some : goal.is_lowest_with_room-requires-clause-some
is_lowest_with_room-requires-clause-some c =
    let b = c.args.self.now in
    let j = spot_of c.args.to in
    let sound : list_all (λ (pair : Spot × Value). is_sound pair.1) b.state.values ≡ true = subst (λ (x : Booked). list_all (λ (pair : Spot × Value). is_sound pair.1) x.state.values ≡ true) c.self.view_is c.self.invariant.0.sound in
    let v = look_up b.state.values j in
    let good = and_parts (is_good_claim v.last) (is_good_duty v.duty v.kept.runs) (sound_there b.state.values j sound) in
    let is : claim_of c.args.caller v.last ≡ Some (c.in-Some.n, c.in-Some.al) = ap (claim_of c.args.caller) (sym (c.last.ensures ∙ ap (λ (i : Spot). (look_up b.state.values i).last) c.of.ensures)) ∙ sym c.claim_of.ensures ∙ c.in-Some.is in
    (claim_some c.args.caller v.last (c.in-Some.n, c.in-Some.al) good.0 is).0

pub is_lowest_with_room-requires-clause-whole : goal.is_lowest_with_room-requires-clause-whole
is_lowest_with_room-requires-clause-whole c =
    let b = c.args.self.now in
    let j = spot_of c.args.to in
    let sound : list_all (λ (pair : Spot × Value). is_sound pair.1) b.state.values ≡ true = subst (λ (x : Booked). list_all (λ (pair : Spot × Value). is_sound pair.1) x.state.values ≡ true) c.self.view_is c.self.invariant.0.sound in
    let v = look_up b.state.values j in
    let good = and_parts (is_good_claim v.last) (is_good_duty v.duty v.kept.runs) (sound_there b.state.values j sound) in
    let is : claim_of c.args.caller v.last ≡ Some (c.in-Some.n, c.in-Some.al) = ap (claim_of c.args.caller) (sym (c.last.ensures ∙ ap (λ (i : Spot). (look_up b.state.values i).last) c.of.ensures)) ∙ sym c.claim_of.ensures ∙ c.in-Some.is in
    (claim_some c.args.caller v.last (c.in-Some.n, c.in-Some.al) good.0 is).1
