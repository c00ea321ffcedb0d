use Rattle.std.proofs.Common.{◌≡◌, ◌<◌, ℕ, true, ap, is_none}
use Rattle.mz_events.specs.State.{opening, value_at}
use Rattle.mz_events.specs.History.{after_all}
use Rattle.mz_book.specs.Keepers.{keeper_count, keeper_spot, is_among}
use Rattle.mz_book.proofs.DutyLemmas.{all_calm}
use Rattle.mz_book.proofs.plain.PlainBook.is_lawful.Goals as goal

pub returns : goal.returns
returns g c =
    let b = c.args.self.now in
    let L = c.of_histories.ensures in
    let st = after_all b.profile opening b.history.items in
    let calm : (k : ℕ) → k < keeper_count b.profile → is_none (value_at st (keeper_spot b.profile k)).duty ≡ true = λ k l. ((b.home k l).0 (ap (λ h. is_among h k) c.requires.keepers)).1 in
    L.history b.profile b.history.items b.lawful (((L.by_spot st (L.once b.profile opening b.history.items L.once_first)).owing).1 (all_calm L b.profile b.history.items b.lawful calm))
