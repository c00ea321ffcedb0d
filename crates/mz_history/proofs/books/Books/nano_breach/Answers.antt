use Rattle.std.proofs.Common.{ap, sym, ◌∙◌, true}
use Rattle.std.specs.Prelude.{◌&&◌}
use Rattle.std.specs.List.{list_all}
use Rattle.mz_base.specs.Space.{block_at, blocks_apart}
use Rattle.mz_events.specs.declared.place.Place.TheVariants.{Nano}
use Rattle.mz_events.specs.declared.event.Event.TheVariants.{New}
use Rattle.mz_events.specs.State.{Kept}
use Rattle.mz_events.specs.Placement.{is_placed, is_placed_in_nano, live_near}
use Rattle.mz_history.specs.Booked.{first_of_two}
use Rattle.mz_history.proofs.books.Books.nano_breach.Goals as goal

pub returns-then-not-fits : goal.returns-then-not-fits
returns-then-not-fits c =
    let b = c.args.self.now in
    let near = list_all (λ d. blocks_apart d (block_at c.args.a c.args.n)) (live_near b.state Nano (block_at c.args.a c.args.n)) in
    let placed = is_placed b.state (New Nano c.args.a c.args.n c.args.al) in
    sym (ap (λ t. first_of_two 10 (t && near) 11 placed) (sym c.is_in_nano-fits.ensures.is ∙ c.if-not-fits.true))

pub returns-then-not-apart : goal.returns-then-not-apart
returns-then-not-apart c =
    let b = c.args.self.now in
    let near = list_all (λ d. blocks_apart d (block_at c.args.a c.args.n)) (live_near b.state Nano (block_at c.args.a c.args.n)) in
    let placed = is_placed b.state (New Nano c.args.a c.args.n c.args.al) in
    sym (ap (λ t. first_of_two 10 (t && near) 11 placed) (sym c.is_in_nano-fits.ensures.is ∙ c.if-not-fits.false)
    ∙ ap (λ t. first_of_two 10 (true && t) 11 placed) (sym c.is_apart_in_nano-apart.ensures ∙ c.if-not-apart.true))

pub returns : goal.returns
returns c =
    let b = c.args.self.now in
    let near = list_all (λ d. blocks_apart d (block_at c.args.a c.args.n)) (live_near b.state Nano (block_at c.args.a c.args.n)) in
    let placed = is_placed b.state (New Nano c.args.a c.args.n c.args.al) in
    c.first_broken_of.ensures ∙ ap (λ t. first_of_two 10 true 11 t) (c.is_placed.ensures ∙ ap (λ (k : Kept). is_placed_in_nano k (block_at c.args.a c.args.n)) c.nano.ensures)
    ∙ sym (ap (λ t. first_of_two 10 (t && near) 11 placed) (sym c.is_in_nano-fits.ensures.is ∙ c.if-not-fits.false)
    ∙ ap (λ t. first_of_two 10 (true && t) 11 placed) (sym c.is_apart_in_nano-apart.ensures ∙ c.if-not-apart.false))
