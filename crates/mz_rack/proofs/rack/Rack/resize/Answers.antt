use Rattle.std.proofs.Common.{ap, sym, subst, ◌∙◌, rules, ◌≡◌, ◌*◌}
use Rattle.std.specs.Prelude.{◌≢◌}
use denote.Enum.Bare.{differs_false}
use Rattle.mz_base.specs.contracts.range.Range.{the_type}
use Rattle.mz_base.specs.Sizes.{route_of, good_size_of, unit_of, units_of}
use Rattle.mz_base.specs.declared.range.Range.TheVariants as range
use Rattle.mz_record.specs.Resized.{stays_large}
use Rattle.mz_rack.specs.Freeing.{block_of}
use Rattle.mz_rack.specs.ResizeStages.{IsSettled}
use Rattle.mz_rack.proofs.Resizing.{routed_alike, of_another_range, of_same_size, of_large, resizes}
use Rattle.mz_rack.proofs.rack.Rack.resize.Goals as goal

pub returns-then-ne : goal.returns-then-ne
returns-then-ne g c =
    let l = c.args.lot.now in
    let n = c.args.n in
    let other : route_of (block_of l).size ≢ route_of n = λ e. search rules in
    of_another_range c.of_books.ensures (g.B.Book.account c.args.book.now) c.args.self.now.profile c.args.self.now.zone l c.requires.can c.requires.lot c.requires.of_zone n
    (routed_alike n (good_size_of n) (c.good_size_is_least.ensures n).size) other

pub returns-then-eq : goal.returns-then-eq
returns-then-eq g c =
    let l = c.args.lot.now in
    let n = c.args.n in
    let is : c.route-range.result ≡ range.Large = search rules in
    let both = differs_false the_type (search rules) c.route.result c.route-range.result (sym c.ne.ensures ∙ c.if-ne.false) in
    let here : route_of n ≡ range.Large = sym c.route-range.ensures ∙ is in
    let there : route_of (block_of l).size ≡ range.Large = ap route_of (sym c.size-s.ensures) ∙ (sym c.route.ensures ∙ (both ∙ is)) in
    of_large c.of_books.ensures (g.B.Book.account c.args.book.now) c.args.self.now.profile c.args.self.now.zone l c.requires.can c.requires.lot c.requires.of_zone n
    c.stays.result there here (c.stays.ensures ∙ ap (λ s. stays_large s (good_size_of n)) c.size-s.ensures)

pub returns-then-size-s : goal.returns-then-size-s
returns-then-size-s g c =
    let l = c.args.lot.now in
    let n = c.args.n in
    let size : c.units.result * c.unit.result ≡ good_size_of n = ap (λ u. u * c.unit.result) c.units.ensures ∙ ap (λ u. units_of n * u) (c.unit.ensures ∙ ap unit_of c.route-range.ensures) in
    of_same_size c.of_books.ensures (g.B.Book.account c.args.book.now) c.args.self.now.profile c.args.self.now.zone l c.requires.can c.requires.lot c.requires.of_zone n
    c.requires.some (sym size ∙ (c.if-size-s.true ∙ c.size-s.ensures))

pub returns : goal.returns
returns g c =
    let l = c.args.lot.now in
    let n = c.args.n in
    let s = g.B.Book.account c.args.book.now in
    let t = g.B.Book.account c.resize_at_home.new.book in
    let m = c.resize_at_home.new.lot in
    let size : c.units.result * c.unit.result ≡ good_size_of n = ap (λ u. u * c.unit.result) c.units.ensures ∙ ap (λ u. units_of n * u) (c.unit.ensures ∙ ap unit_of c.route-range.ensures) in
    let isnt : c.route-range.result ≢ range.Large = λ e. search rules in
    let both = differs_false the_type (search rules) c.route.result c.route-range.result (sym c.ne.ensures ∙ c.if-ne.false) in
    let same : route_of (block_of l).size ≡ route_of n = ap route_of (sym c.size-s.ensures) ∙ (sym c.route.ensures ∙ (both ∙ c.route-range.ensures)) in
    resizes c.of_books.ensures s c.args.self.now.profile c.args.self.now.zone l c.requires.can c.requires.lot c.requires.of_zone n t m
    c.requires.some same (λ e. isnt (c.route-range.ensures ∙ e)) (λ e. c.if-size-s.false (size ∙ (e ∙ sym c.size-s.ensures)))
    c.resize_at_home.result (λ h. c.moments.ensures.at t.profile h _) (g.met.B.Book.orderly c.resize_at_home.new.book).lawful (subst (λ b. IsSettled s l b c.resize_at_home.result t m) size c.resize_at_home.ensures)
