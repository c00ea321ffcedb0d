use Rattle.std.proofs.Common.{◌≡◌, ℕ, ◌*◌, [], ap, sym, subst, ◌∙◌, rules, Ok}
use Rattle.std.specs.Prelude.{Result}
use Rattle.mz_base.specs.declared.profile.Profile.{Profile}
use Rattle.mz_base.specs.declared.range.Range.TheVariants as range
use Rattle.mz_base.specs.Sizes.{route_of, good_size_of, unit_of, units_of}
use Rattle.mz_ground.specs.Views.{SpanView}
use Rattle.mz_events.specs.State.{opening}
use Rattle.mz_events.specs.History.{AreLawful}
use Rattle.mz_book.specs.Account.{Account, HoldsNothing}
use Rattle.mz_rack.specs.declared.lot.Null.{Null}
use Rattle.mz_rack.specs.declared.way.Way.{Way}
use Rattle.mz_rack.specs.declared.way.LargeWay.{LargeWay}
use Rattle.mz_rack.specs.BookLaws.{BookLaws}
use Rattle.mz_rack.specs.Ways.{IsWayFor}
use Rattle.mz_rack.specs.Stages.{Served}
use Rattle.mz_rack.specs.LargeStages.{ServedLarge}
use Rattle.mz_rack.specs.Serving.{Answers}
use Rattle.mz_rack.proofs.Answered.{MomentLaws, lot_of, answers}
use Rattle.mz_rack.proofs.LargeAnswered.{answers_large}
use Rattle.mz_rack.proofs.rack.Rack.alloc.Goals as goal
use Rattle.mz_rack.proofs.rack.Rack.alloc.Goals.{then-eq, else-eq}

by_large : BookLaws → MomentLaws → (s t : Account) (w : LargeWay) (z n u al : ℕ) → w.zone ≡ z → route_of n ≡ range.Large → u ≡ units_of n → AreLawful t.profile opening t.seen → HoldsNothing s → (got : Result SpanView Null)
    → ServedLarge [] 0 s w u al got t → Answers s z n al (lot_of z got) t
by_large L M s t w z n u al zone large units lawful nothing got served =
    subst (λ y. Answers s y n al (lot_of y got) t) zone (answers_large L M s t w n al large lawful nothing got (subst (λ m. ServedLarge [] 0 s w m al got t) units served))

by_region : BookLaws → MomentLaws → (s t : Account) (p : Profile) (c : ℕ) (w : Way) (z n size al : ℕ) → s.profile ≡ p → c ≡ s.caller → IsWayFor p c z n w → size ≡ good_size_of n → AreLawful t.profile opening t.seen → HoldsNothing s
    → (got : Result SpanView Null) → Served [] 0 s w size al got t → Answers s z n al (lot_of z got) t
by_region L M s t p c w z n size al profile caller way is lawful nothing got served =
    answers L M s t w z n al (subst (λ i. IsWayFor s.profile i z n w) caller (subst (λ (q : Profile). IsWayFor q c z n w) (sym profile) way)) lawful nothing got (subst (λ m. Served [] 0 s w m al got t) is served)

pub returns-in-Ok : goal.returns-in-Ok
returns-in-Ok g c =
    let M : MomentLaws = record { before = c.moments.ensures.before; after_one = c.states_split.ensures.one; after_joined = c.states_split.ensures.joined } in
    let s = g.B.Book.account c.args.book.now in
    let n = c.args.n in
    let al = c.args.al in
    let z = c.args.self.now.zone in
    let all : Answers s z n al (lot_of z c.if-eq.served) (g.B.Book.account c.if-eq.book) = elim c.if-eq.branch [
      | then-eq w ↦
          subst (λ b. Answers s z n al (lot_of z c.if-eq.served) (g.B.Book.account b)) (sym w.book-is) (subst (λ r. Answers s z n al (lot_of z r) (g.B.Book.account w.serve_large-served.new.book)) (sym w.served-is)
          (by_large c.of_books.ensures M s (g.B.Book.account w.serve_large-served.new.book) w.find_large_way-way.result z n w.units.result al w.find_large_way-way.ensures.in_zone (sym c.route.ensures ∙ search (rules, w.if-eq.true, c.eq.ensures)) w.units.ensures (g.met.B.Book.orderly w.serve_large-served.new.book).lawful c.requires.can.nothing_held w.serve_large-served.result w.serve_large-served.ensures))
      | else-eq w ↦
          let size : w.units-else-eq.result * w.unit.result ≡ good_size_of n = ap (λ u. u * w.unit.result) w.units-else-eq.ensures ∙ ap (λ u. units_of n * u) (w.unit.ensures ∙ ap unit_of w.route-else-eq.ensures) in
          subst (λ b. Answers s z n al (lot_of z c.if-eq.served) (g.B.Book.account b)) (sym w.book-is) (subst (λ r. Answers s z n al (lot_of z r) (g.B.Book.account w.serve-served.new.book)) (sym w.served-is)
          (by_region c.of_books.ensures M s (g.B.Book.account w.serve-served.new.book) c.args.self.now.profile w.caller.result w.find_way-way.result z n _ al c.requires.can.profile w.caller.ensures w.find_way-way.ensures size (g.met.B.Book.orderly w.serve-served.new.book).lawful c.requires.can.nothing_held w.serve-served.result w.serve-served.ensures))
    ] in
    subst (λ l. Answers s z n al (Ok l) (g.B.Book.account c.if-eq.book)) (sym c.new.ensures) (subst (λ r. Answers s z n al (lot_of z r) (g.B.Book.account c.if-eq.book)) c.in-Ok.is all)

pub returns-in-Err : goal.returns-in-Err
returns-in-Err g c =
    let M : MomentLaws = record { before = c.moments.ensures.before; after_one = c.states_split.ensures.one; after_joined = c.states_split.ensures.joined } in
    let s = g.B.Book.account c.args.book.now in
    let n = c.args.n in
    let al = c.args.al in
    let z = c.args.self.now.zone in
    let all : Answers s z n al (lot_of z c.if-eq.served) (g.B.Book.account c.if-eq.book) = elim c.if-eq.branch [
      | then-eq w ↦
          subst (λ b. Answers s z n al (lot_of z c.if-eq.served) (g.B.Book.account b)) (sym w.book-is) (subst (λ r. Answers s z n al (lot_of z r) (g.B.Book.account w.serve_large-served.new.book)) (sym w.served-is)
          (by_large c.of_books.ensures M s (g.B.Book.account w.serve_large-served.new.book) w.find_large_way-way.result z n w.units.result al w.find_large_way-way.ensures.in_zone (sym c.route.ensures ∙ search (rules, w.if-eq.true, c.eq.ensures)) w.units.ensures (g.met.B.Book.orderly w.serve_large-served.new.book).lawful c.requires.can.nothing_held w.serve_large-served.result w.serve_large-served.ensures))
      | else-eq w ↦
          let size : w.units-else-eq.result * w.unit.result ≡ good_size_of n = ap (λ u. u * w.unit.result) w.units-else-eq.ensures ∙ ap (λ u. units_of n * u) (w.unit.ensures ∙ ap unit_of w.route-else-eq.ensures) in
          subst (λ b. Answers s z n al (lot_of z c.if-eq.served) (g.B.Book.account b)) (sym w.book-is) (subst (λ r. Answers s z n al (lot_of z r) (g.B.Book.account w.serve-served.new.book)) (sym w.served-is)
          (by_region c.of_books.ensures M s (g.B.Book.account w.serve-served.new.book) c.args.self.now.profile w.caller.result w.find_way-way.result z n _ al c.requires.can.profile w.caller.ensures w.find_way-way.ensures size (g.met.B.Book.orderly w.serve-served.new.book).lawful c.requires.can.nothing_held w.serve-served.result w.serve-served.ensures))
    ] in
    subst (λ r. Answers s z n al (lot_of z r) (g.B.Book.account c.if-eq.book)) c.in-Err.is all
