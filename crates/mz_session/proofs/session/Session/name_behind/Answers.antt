use Rattle.std.proofs.Common.{◌≡◌, ◌∙◌, ◌+◌, ◌≤◌, ap, sym, subst, Some, None, arith}
use Rattle.std.specs.Prelude.{◌^◌, IfSome}
use Rattle.std.specs.Option.{option_map}
use Rattle.mz_book.specs.Account.{IsOrderly}
use Rattle.mz_session.specs.Names.{BeginsAt, IsBehind, block_with, name_from}
use Rattle.mz_session.specs.Sessions.{SessionView}
use Rattle.mz_session.proofs.AddressLemmas.{behind-by, behind-none, behind-high, begins-low}
use Rattle.mz_session.proofs.session.Session.name_behind.Goals as goal

pub returns-in_err-block : goal.returns-in_err-block
returns-in_err-block c =
    let s : SessionView = c.args.self.now in
    let name = c.args.name.now in
    let none : block_with s.blocks name ≡ None = ap (λ x. block_with x.blocks name) (sym c.self.view_is) ∙ sym c.get.ensures ∙ ap (option_map (λ b. b.now)) c.in_err-block.was in
    subst (IsBehind s.blocks name c.args.off) (sym c.from_residual.ensures) (behind-none s.blocks name c.args.off none)

pub returns-in_err-address : goal.returns-in_err-address
returns-in_err-address c =
    let s : SessionView = c.args.self.now in
    let name = c.args.name.now in
    let b = c.in_ok-block.block.now in
    let held : block_with s.blocks name ≡ Some b = ap (λ x. block_with x.blocks name) (sym c.self.view_is) ∙ sym c.get.ensures ∙ ap (option_map (λ b. b.now)) c.in_ok-block.was in
    let orderly : IsOrderly s.at.book = subst (λ x. IsOrderly x.at.book) c.self.view_is c.of_book.ensures in
    let first = c.first.ensures in
    let over = c.in_err-address.ensures in
    let high : 2 ^ 64 ≤ b.span.first + c.args.off = omega (arith, over, first) in
    subst (IsBehind s.blocks name c.args.off) (sym c.from_residual-in_err-address.ensures)
    (behind-high s.blocks name c.args.off b (begins-low c.of_sessions.ensures c.live_bytes_fit_the_space.ensures s c.requires orderly) held high)

pub returns : goal.returns
returns c =
    let s : SessionView = c.args.self.now in
    let name = c.args.name.now in
    let b = c.in_ok-block.block.now in
    let a = c.in_ok-address.address in
    let r = c.name_from.result in
    let held : block_with s.blocks name ≡ Some b = ap (λ x. block_with x.blocks name) (sym c.self.view_is) ∙ sym c.get.ensures ∙ ap (option_map (λ b. b.now)) c.in_ok-block.was in
    let sum = c.in_ok-address.ensures in
    behind-by s.blocks name c.args.off a b r held (sum.1 ∙ ap (λ n. n + c.args.off) c.first.ensures) (c.name_from.ensures.name ∙ ap (λ x. name_from x.blocks a) c.self.view_is)
    (subst (λ x. IfSome r (BeginsAt x.blocks a)) c.self.view_is c.name_from.ensures.begins)
