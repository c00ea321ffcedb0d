use Rattle.std.proofs.Common.{sym, subst}
use Rattle.mz_book.specs.Account.{Account, IsOrderly}
use Rattle.mz_session.specs.Sessions.{SessionView}
use Rattle.mz_session.specs.Asking.{CanAsk, HasAsked}
use Rattle.mz_session.specs.contracts.session.Session.{the_view}
use Rattle.mz_session.proofs.session.Session.ask.Goals as goal

pub call-got-requires : goal.call-got-requires
call-got-requires g c =
    let old : SessionView = the_view c.self.inside in
    let b : Account = (the_view (record { zone = c.self.inside.zone; book = c.reserve.new.self; nano = c.self.inside.nano; seat = c.self.inside.seat; blocks = c.self.inside.blocks; parcels = c.self.inside.parcels })).at.book in
    let may : CanAsk old 40 (g.C.Call.can c.args.call old.zone) = subst (λ s. CanAsk s 40 (g.C.Call.can c.args.call s.zone)) (sym c.self.view_is) c.requires in
    may c.of_book.ensures b c.in_ok-reserve.ensures.ok.after c.in_ok-reserve.ensures.ok.room

pub returns : goal.returns
returns g c =
    let old : SessionView = the_view c.self.inside in
    let b : Account = (the_view (record { zone = c.self.inside.zone; book = c.reserve.new.self; nano = c.self.inside.nano; seat = c.self.inside.seat; blocks = c.self.inside.blocks; parcels = c.self.inside.parcels })).at.book in
    let t : SessionView = c.call-got.new.self in
    subst (λ s. HasAsked s (g.C.Call.does c.args.call s.zone) c.call-got.result t) c.self.view_is (record {
      book = b;
      room = c.in_ok-reserve.ensures.ok.after;
      does = c.call-got.ensures.does;
      keeps = c.call-got.ensures.keeps;
      before = c.of_book.ensures;
      after = subst (λ (v : SessionView). IsOrderly v.at.book) c.self-2.view_is c.of_book-2.ensures;
    })
