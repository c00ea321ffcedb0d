use Rattle.std.proofs.Common.{ap, sym, ◌∙◌, true}
use Rattle.mz_events.specs.declared.place.Place.{Place}
use Rattle.mz_events.specs.declared.event.Event.TheVariants.{New}
use Rattle.mz_events.specs.Placement.{fits_apart_there, is_placed}
use Rattle.mz_history.specs.Booked.{first_of_two}
use Rattle.mz_history.proofs.BreachLemmas.{nano_is, held_kind}
use Rattle.mz_history.proofs.books.Books.new_breach.Goals as goal

pub returns-then-nano : goal.returns-then-nano
returns-then-nano c =
    let b = c.args.self.now in
    c.nano_breach.ensures ∙ ap (λ (q : Place). first_of_two 10 (fits_apart_there b.profile b.state (New q c.args.a c.args.n c.args.al)) 11 (is_placed b.state (New q c.args.a c.args.n c.args.al))) (sym (nano_is c.args.k (sym c.is_nano_place-nano.ensures ∙ c.if-nano.true)))

pub holding-holding-requires-clause-pages : goal.holding-holding-requires-clause-pages
holding-holding-requires-clause-pages c = (held_kind c.args.k c.requires (sym c.is_nano_place-nano.ensures ∙ c.if-nano.false)).1

pub holding-holding-requires-clause-nano : goal.holding-holding-requires-clause-nano
holding-holding-requires-clause-nano c = sym c.is_nano_place-nano.ensures ∙ c.if-nano.false

pub is_apart-apart-requires : goal.is_apart-apart-requires
is_apart-apart-requires c = (held_kind c.args.k c.requires (sym c.is_nano_place-nano.ensures ∙ c.if-nano.false)).0

pub returns-then-not-apart : goal.returns-then-not-apart
returns-then-not-apart c =
    let b = c.args.self.now in
    let e = New c.args.k c.args.a c.args.n c.args.al in
    sym (ap (λ t. first_of_two 10 t 11 (is_placed b.state e)) (sym (c.is_apart-apart.ensures.rule b.profile b.state (sym c.holding-holding.ensures)) ∙ c.if-not-apart.true))

pub is_placed-requires-clause-kind : goal.is_placed-requires-clause-kind
is_placed-requires-clause-kind c = (held_kind c.args.k c.requires (sym c.is_nano_place-nano.ensures ∙ c.if-nano.false)).0

pub is_placed-requires-clause-some : goal.is_placed-requires-clause-some
is_placed-requires-clause-some c = (c.is_apart-apart.ensures.room c.if-not-apart.false).some

pub is_placed-requires-clause-whole : goal.is_placed-requires-clause-whole
is_placed-requires-clause-whole c = (c.is_apart-apart.ensures.aligned c.if-not-apart.false).0

pub is_placed-requires-clause-aligned : goal.is_placed-requires-clause-aligned
is_placed-requires-clause-aligned c = (c.is_apart-apart.ensures.aligned c.if-not-apart.false).1

pub returns : goal.returns
returns c =
    let b = c.args.self.now in
    let e = New c.args.k c.args.a c.args.n c.args.al in
    c.first_broken_of.ensures ∙ ap (λ t. first_of_two 10 true 11 t) (c.is_placed.ensures b.state (sym c.holding-holding.ensures))
    ∙ sym (ap (λ t. first_of_two 10 t 11 (is_placed b.state e)) (sym (c.is_apart-apart.ensures.rule b.profile b.state (sym c.holding-holding.ensures)) ∙ c.if-not-apart.false))
