use Rattle.std.proofs.Common.{◌≡◌, false, subst, sym, arith}
use Rattle.mz_events.specs.Places.{is_large, spot_of}
use Rattle.mz_events.specs.Standing.{Stands}
use Rattle.mz_book.specs.Account.{known}
use Rattle.mz_rack.specs.Stages.{Keeps}
use Rattle.mz_rack.specs.FreeStages.{block_in, LivesIn, HasHome, HasEnded}
use Rattle.mz_rack.proofs.Answered.{MomentLaws}
use Rattle.mz_rack.proofs.Ended.{nothing_out}
use Rattle.mz_rack.proofs.Dropping.{owes_back, over_settled}
use Rattle.mz_rack.proofs.free.end_block.Goals as goal

pub end_in_magazine-requires-clause-way : goal.end_in_magazine-requires-clause-way
end_in_magazine-requires-clause-way g c =
    let s = g.B.Book.account c.args.book.now in
    let b = block_in c.args.span in
    let h = subst (λ x. HasHome s b x) c.in-Magazine.is c.requires.home in
    h.0

pub end_in_magazine-requires-clause-lives : goal.end_in_magazine-requires-clause-lives
end_in_magazine-requires-clause-lives g c =
    let s = g.B.Book.account c.args.book.now in
    let b = block_in c.args.span in
    let h = subst (λ x. HasHome s b x) c.in-Magazine.is c.requires.home in
    h.1

pub end_in_magazine-requires-clause-stands : goal.end_in_magazine-requires-clause-stands
end_in_magazine-requires-clause-stands g c =
    let s = g.B.Book.account c.args.book.now in
    let b = block_in c.args.span in
    let h = subst (λ x. HasHome s b x) c.in-Magazine.is c.requires.home in
    h.2

pub end_in-requires-clause-lives : goal.end_in-requires-clause-lives
end_in-requires-clause-lives g c =
    let L = c.of_books.ensures in
    let s = g.B.Book.account c.args.book.now in
    let w = c.in-Depot.way in
    let b = block_in c.args.span in
    let h = subst (λ x. HasHome s b x) c.in-Depot.is c.requires.home in
    subst (λ q. LivesIn s q b) (sym h.0.depot) h.1

pub end_in-requires-clause-stands : goal.end_in-requires-clause-stands
end_in-requires-clause-stands g c =
    let L = c.of_books.ensures in
    let s = g.B.Book.account c.args.book.now in
    let w = c.in-Depot.way in
    let b = block_in c.args.span in
    let h = subst (λ x. HasHome s b x) c.in-Depot.is c.requires.home in
    subst (λ q. Keeps s q c.in-Depot.depot) (sym h.0.depot) h.2

pub settle-requires-clause-owes : goal.settle-requires-clause-owes
settle-requires-clause-owes g c =
    let L = c.of_books.ensures in
    let s = g.B.Book.account c.args.book.now in
    let w = c.in-Depot.way in
    let b = block_in c.args.span in
    let h = subst (λ x. HasHome s b x) c.in-Depot.is c.requires.home in
    let u = g.B.Book.account c.end_in.new.book in
    let x = subst (λ q. HasEnded s q b u) h.0.depot c.end_in.ensures.ended in
    owes_back L s u w b h.0 h.1 x

pub settle-requires-clause-stands : goal.settle-requires-clause-stands
settle-requires-clause-stands g c =
    let L = c.of_books.ensures in
    let s = g.B.Book.account c.args.book.now in
    let w = c.in-Depot.way in
    let b = block_in c.args.span in
    let h = subst (λ x. HasHome s b x) c.in-Depot.is c.requires.home in
    let u = g.B.Book.account c.end_in.new.book in
    let x = subst (λ q. HasEnded s q b u) h.0.depot c.end_in.ensures.ended in
    let q = w.depot in
    let no_large = subst (λ e. is_large e ≡ false) (sym h.0.depot) (L.depot s.profile w.magazine h.0.magazine).depot.not_large in
    let stands = nothing_out u.site q (known u (spot_of q)).kept (Stands c.end_in.new.keeper u.site u.profile q) c.end_in.result no_large c.end_in.ensures.stands in
    subst (λ e. Keeps u e c.end_in.new.keeper) h.0.depot stands

pub settle-requires-clause-room : goal.settle-requires-clause-room
settle-requires-clause-room g c =
    let L = c.of_books.ensures in
    let s = g.B.Book.account c.args.book.now in
    let w = c.in-Depot.way in
    let b = block_in c.args.span in
    let h = subst (λ x. HasHome s b x) c.in-Depot.is c.requires.home in
    let u = g.B.Book.account c.end_in.new.book in
    let x = subst (λ q. HasEnded s q b u) h.0.depot c.end_in.ensures.ended in
    omega (arith, x.since.grows.adds.spare, c.requires.room)

pub returns-in-Depot : goal.returns-in-Depot
returns-in-Depot g c =
    let L = c.of_books.ensures in
    let s = g.B.Book.account c.args.book.now in
    let w = c.in-Depot.way in
    let b = block_in c.args.span in
    let h = subst (λ x. HasHome s b x) c.in-Depot.is c.requires.home in
    let u = g.B.Book.account c.end_in.new.book in
    let x = subst (λ q. HasEnded s q b u) h.0.depot c.end_in.ensures.ended in
    let moments : MomentLaws = record { before = c.moments.ensures.before; after_one = c.states_split.ensures.one; after_joined = c.states_split.ensures.joined } in
    over_settled L s u w b h.0 h.1 x moments (g.B.Book.account c.settle.new.book) (g.met.B.Book.orderly c.settle.new.book).lawful c.settle.ensures

pub end_in_large-requires-clause-way : goal.end_in_large-requires-clause-way
end_in_large-requires-clause-way g c =
    let s = g.B.Book.account c.args.book.now in
    (subst (λ x. HasHome s (block_in c.args.span) x) c.in-Large.is c.requires.home).0

pub end_in_large-requires-clause-lives : goal.end_in_large-requires-clause-lives
end_in_large-requires-clause-lives g c =
    let s = g.B.Book.account c.args.book.now in
    (subst (λ x. HasHome s (block_in c.args.span) x) c.in-Large.is c.requires.home).1

pub end_in_large-requires-clause-stands : goal.end_in_large-requires-clause-stands
end_in_large-requires-clause-stands g c =
    let s = g.B.Book.account c.args.book.now in
    (subst (λ x. HasHome s (block_in c.args.span) x) c.in-Large.is c.requires.home).2

pub end_in_large-requires-clause-room : goal.end_in_large-requires-clause-room
end_in_large-requires-clause-room g c = omega (arith, c.requires.room)
