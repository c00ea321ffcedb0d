use Rattle.std.proofs.Common.{List, ap, sym, subst, ◌∙◌}
use Rattle.mz_base.specs.Limits.{IsWithinLimits}
use Rattle.mz_events.specs.State.{opening}
use Rattle.mz_events.specs.History.{AreLawful, IsLawfulHistory, after_all}
use Rattle.mz_book.specs.Account.{state_of}
use Rattle.mz_book.specs.Rule.{KeepsRule}
use Rattle.mz_trace.specs.declared.tail.Figures.{Figures}
use Rattle.mz_trace.specs.declared.tail.Listed.{Listed}
use Rattle.mz_trace.specs.declared.tail.Statistics.{Statistics}
use Rattle.mz_lawful.specs.Tail.{listing_of, statistics_of}
use Rattle.mz_session.specs.Names.{blocks_named}
use Rattle.mz_session.specs.Listing.{AreLive}
use Rattle.mz_session.specs.Sessions.{SessionView, IsForOne, IsKept}
use Rattle.mz_session.proofs.TailLemmas.{blocks-are-live}
use Rattle.mz_session.proofs.session.Session.tail.Goals as goal

pub is_lawful-requires : goal.is_lawful-requires
is_lawful-requires c = (subst IsKept (sym c.self.view_is) c.requires.kept).nothing_held

pub listing-requires-clause-limits : goal.listing-requires-clause-limits
listing-requires-clause-limits c = subst IsWithinLimits (sym c.profile.ensures) c.of_book.ensures.limits

pub listing-requires-clause-for_one : goal.listing-requires-clause-for_one
listing-requires-clause-for_one c = subst IsForOne (sym c.profile.ensures) (subst IsKept (sym c.self.view_is) c.requires.kept).for_one

pub statistics-requires-clause-limits : goal.statistics-requires-clause-limits
statistics-requires-clause-limits c = subst IsWithinLimits (sym c.profile-2.ensures) c.of_book.ensures.limits

pub statistics-requires-clause-lawful : goal.statistics-requires-clause-lawful
statistics-requires-clause-lawful c =
    subst (λ p. AreLawful p opening c.history.result.now) (sym c.profile-2.ensures) (subst (AreLawful _ opening) (sym c.history.ensures) c.of_book.ensures.lawful)

pub returns-clause-each : goal.returns-clause-each
returns-clause-each c = subst (λ (x : SessionView). AreLawful x.at.book.profile opening x.at.book.seen) c.self.view_is c.of_book.ensures.lawful

pub returns-clause-lawful : goal.returns-clause-lawful
returns-clause-lawful c = subst (λ (x : SessionView). IsLawfulHistory x.at.book.profile x.at.book.seen) c.self.view_is c.is_lawful.ensures

abbrev the : List Listed → Statistics → Figures
the l n = record { listing = l; statistics = n }

pub returns-clause-tail : goal.returns-clause-tail
returns-clause-tail c = λ v stands.
    let s : SessionView = c.args.self.now in
    let kept = c.requires.kept in
    let rule : KeepsRule s.at.book = subst (λ (x : SessionView). KeepsRule x.at.book) c.self.view_is c.keeps_rule.ensures in
    let lawful : AreLawful s.at.book.profile opening s.at.book.seen = subst (λ (x : SessionView). AreLawful x.at.book.profile opening x.at.book.seen) c.self.view_is c.of_book.ensures.lawful in
    let live : AreLive (blocks_named s.blocks) (state_of s.at.book) = blocks-are-live s kept c.requires.delivered rule in
    let blocks = c.deref.ensures.value ∙ c.in_ok-blocks.ensures ∙ ap (λ (x : SessionView). blocks_named x.blocks) c.self.view_is in
    let profile = c.profile.ensures ∙ ap (λ (x : SessionView). x.at.book.profile) c.self.view_is in
    let listed = c.in_ok-listing.ensures s.at.book.seen v
    (subst (λ p. AreLawful p opening s.at.book.seen) (sym profile) lawful)
    (subst (λ bs. AreLive bs (after_all c.profile.result.now opening s.at.book.seen)) (sym blocks) (subst (λ p. AreLive (blocks_named s.blocks) (after_all p opening s.at.book.seen)) (sym profile) live))
    stands.zones
    ∙ ap (λ p. listing_of v (after_all p opening s.at.book.seen)) profile in
    let profile_too = c.profile-2.ensures ∙ ap (λ (x : SessionView). x.at.book.profile) c.self.view_is in
    let seen = c.history.ensures ∙ ap (λ (x : SessionView). x.at.book.seen) c.self.view_is in
    let numbers = c.statistics.ensures
    ∙ (ap (λ p. statistics_of p (after_all p opening c.history.result.now)) profile_too
    ∙ ap (λ es. statistics_of s.at.book.profile (after_all s.at.book.profile opening es)) seen) in
    ap (λ l. the l c.statistics.result) (c.of.ensures ∙ listed) ∙ ap (λ n. the (listing_of v (state_of s.at.book)) n) numbers
