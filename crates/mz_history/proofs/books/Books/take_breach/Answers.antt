use Rattle.std.proofs.Common.{ap, ◌∙◌}
use Rattle.mz_events.specs.declared.event.Event.TheVariants.{Take}
use Rattle.mz_events.specs.Rules.{is_lowest_taken}
use Rattle.mz_history.specs.Booked.{first_of_two}
use Rattle.mz_history.proofs.books.Books.take_breach.Goals as goal

pub returns : goal.returns
returns c =
    let b = c.args.self.now in
    c.first_broken_of.ensures ∙ ap (λ t. first_of_two 4 t 5 c.is_claimed_taken.result) c.is_lowest_taken-lowest.ensures
    ∙ ap (λ t. first_of_two 4 (is_lowest_taken b.profile b.state (Take c.args.k c.args.first c.args.pages)) 5 t) (c.is_claimed_taken.ensures c.args.first)
