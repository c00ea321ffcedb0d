use Rattle.std.proofs.Common.{[], subst}
use Rattle.mz_book.specs.Account.{Account}
use Rattle.mz_book.specs.Plain.{opening_account}
use Rattle.mz_register.specs.Accounts.{pass_account}
use Rattle.mz_register.specs.Opened.{IsOpened}
use Rattle.mz_threads_tests.specs.Toys.{toy_profile, toy_site}
use Rattle.mz_threads_tests.proofs.TwoPasses.{ready, two_taken}
use Rattle.mz_threads_tests.proofs.register.opened.Goals as goal

pub returns : goal.returns
returns c =
    let r = c.in-Ok.register in
    let passes = c.in-Ok.passes.items in
    let p = toy_profile in
    let o : IsOpened (opening_account p toy_site) r.table.shared.table_id r.opening.profile passes = subst (λ (a : Account). IsOpened a r.table.shared.table_id r.opening.profile passes) c.in_ok-book_of_toys.ensures c.in-Ok.ensures.ok in
    let first = c.in-Some-pop.first in
    let second = c.in-Some.second in
    let t = two_taken passes c.pop.new.self.items c.pop-2.new.self.items first second c.in-Some.ensures.items c.in-Some-pop.ensures.items o.count in
    record {
      profile = o.profile;
      first = ready r p toy_site [] 0 c.args.room (pass_account first) c.reserve.new.self o.profile (o.each 0 first t.0) c.in_ok-reserve.ensures.ok;
      second = ready r p toy_site [] 1 c.args.room (pass_account second) c.reserve-2.new.self o.profile (o.each 1 second t.1) c.in_ok-reserve-2.ensures.ok;
    }
