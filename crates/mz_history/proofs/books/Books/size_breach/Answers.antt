use Rattle.std.proofs.Common.{ap, sym, ◌∙◌}
use Rattle.mz_events.specs.declared.event.Event.TheVariants.{Size}
use Rattle.mz_events.specs.Placement.{fits_apart_there}
use Rattle.mz_history.specs.Booked.{first_of_two}
use Rattle.mz_history.proofs.books.Books.size_breach.Goals as goal

pub returns : goal.returns
returns c =
    let b = c.args.self.now in
    c.first_broken_of.ensures ∙ ap (λ t. first_of_two 10 t 12 c.has_block.result) (c.is_resized_apart-apart.ensures.rule b.profile b.state c.args.n (sym c.holding.ensures))
    ∙ ap (λ t. first_of_two 10 (fits_apart_there b.profile b.state (Size c.args.k c.args.a c.args.n c.args.m)) 12 t) c.has_block.ensures
