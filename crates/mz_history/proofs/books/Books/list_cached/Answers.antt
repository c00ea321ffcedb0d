use Rattle.mz_history.specs.Listed.{cached_pages}
use Rattle.mz_history.proofs.BeyondLemmas.{more_lists}
use Rattle.mz_history.proofs.books.Books.list_cached.Goals as goal

pub loop-zone-preserved : goal.loop-zone-preserved
loop-zone-preserved c = more_lists (λ v. v.items) (cached_pages c.args.self.now.state) c.loop-zone.list.items c.push.new.self.items c.in_ok-cached_of.field-0 c.loop-zone.zone c.loop-zone.invariant c.in_ok-push.ensures.items c.in_ok-cached_of.ensures
