use Rattle.std.proofs.Common.{◌≡◌, refl, sym, subst, ap, ◌∙◌, None, max}
use Rattle.mz_events.specs.Rules.{first_broken}
use Rattle.mz_history.specs.Booked.{Booked}
use Rattle.mz_history.specs.BookedStates.{state_with}
use Rattle.mz_history.proofs.ApplyLemmas.{ready_books, books_after, view_after}
use Rattle.mz_history.proofs.books.Books.apply.Goals as goal

pub change-requires : goal.change-requires
change-requires c =
    let i = c.self.inside in
    let s = state_with i.slots i.zones.items i.entries i.greatest in
    ready_books c.when_an_event_fits.ensures c.separation.ensures c.live_blocks_are_ascending.ensures i.profile s c.args.caller c.args.e.now c.self.invariant.0
    (subst (λ (b : Booked). first_broken b.profile b.state c.args.caller c.args.e.now ≡ None) (sym c.self.view_is) c.requires)

pub invariant_of-result : goal.invariant_of-result
invariant_of-result c =
    let i = c.self.inside in
    let s = state_with i.slots i.zones.items i.entries i.greatest in (
      books_after c.when_an_event_fits.ensures c.lawful_entries_split.ensures.joined c.lawful_entries_split.ensures.one c.states_split.ensures.joined c.states_split.ensures.one i.profile s c.args.caller c.args.e.now _ _ _ _ c.self.invariant.0
          (subst (λ (b : Booked). first_broken b.profile b.state c.args.caller c.args.e.now ≡ None) (sym c.self.view_is) c.requires)
          (c.in_ok-slots.ensures s refl) c.in_ok-change_zones.ensures c.in_ok-count.ensures (c.max.ensures ∙ ap (max i.greatest) c.used-used.ensures),
      c.self.invariant.1,
      c.self.invariant.2,
      c.self.invariant.3,
    )

pub returns : goal.returns
returns c =
    let i = c.self.inside in
    let s = state_with i.slots i.zones.items i.entries i.greatest in
    view_after i.profile s c.args.caller c.args.e.now _ _ _ _ c.args.self c.self.view_is
    (c.in_ok-slots.ensures s refl) c.in_ok-change_zones.ensures c.in_ok-count.ensures (c.max.ensures ∙ ap (max i.greatest) c.used-used.ensures)
