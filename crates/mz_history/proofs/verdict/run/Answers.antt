use Rattle.std.proofs.Common.{ℕ, ◌+◌, drop, sym, ap, ◌∙◌, arith}
use Rattle.std.specs.Prelude.{Some}
use Rattle.std.specs.Option.{option_map}
use Rattle.mz_events.specs.History.{first_breach, after_all}
use Rattle.mz_history.specs.Outcomes.{numbers_of}
use Rattle.mz_history.specs.Booked.{Booked}
use Rattle.mz_history.proofs.AuditLemmas.{first_is_out, first_breaks, first_goes_on, none_left, one_owing, books_are, no_why}
use Rattle.mz_history.proofs.verdict.run.Goals as goal

pub returns-then-not-is_in_turn-clause-breach : goal.returns-then-not-is_in_turn-clause-breach
returns-then-not-is_in_turn-clause-breach c =
    let b = c.loop-i.books in
    sym (ap (option_map numbers_of) c.loop-i.invariant.breach ∙ first_is_out c.args.books.profile b.state c.args.entries.now c.loop-i.i c.entries-ticket.result _ c.loop-i-test.true c.requires c.entries-ticket.ensures (sym c.is_in_turn.ensures ∙ c.if-not-is_in_turn.true) ∙ ap (λ (n : ℕ). Some (n, 1)) (sym c.entries-ticket.ensures))

pub returns-in-Some-clause-breach : goal.returns-in-Some-clause-breach
returns-in-Some-clause-breach c =
    let b = c.loop-i.books in
    sym (ap (option_map numbers_of) c.loop-i.invariant.breach ∙ first_breaks c.args.books.profile b.profile b.state c.args.entries.now c.loop-i.i c.entries-ticket.result _ c.in-Some.why c.loop-i.invariant.profile c.loop-i-test.true c.requires c.entries-ticket.ensures (sym c.is_in_turn.ensures ∙ c.if-not-is_in_turn.false) (sym c.in-Some.is ∙ c.in_ok-why.ensures) ∙ ap (λ (n : ℕ). Some (n, c.in-Some.why)) (sym c.entries-ticket.ensures))

pub loop-i-preserved : goal.loop-i-preserved
loop-i-preserved c =
    let b = c.loop-i.books in
    let new = c.in_ok-books.ensures in
    let on = first_goes_on c.args.books.profile b.profile b.state c.args.entries.now c.loop-i.i c.entries-ticket.result _ c.loop-i.invariant.profile c.loop-i-test.true c.requires c.entries-ticket.ensures (sym c.is_in_turn.ensures ∙ c.if-not-is_in_turn.false) (sym c.in_default.is ∙ c.in_ok-why.ensures) in
    record {
      profile = ap (λ (x : Booked). x.profile) new ∙ c.loop-i.invariant.profile;
      breach = c.loop-i.invariant.breach ∙ on.0 ∙ ap (λ (x : Booked). first_breach c.args.books.profile x.state (drop (c.loop-i.i + 1) c.args.entries.now)) (sym new);
      left = c.loop-i.invariant.left ∙ on.1 ∙ ap (λ (x : Booked). after_all c.args.books.profile x.state (drop (c.loop-i.i + 1) c.args.entries.now)) (sym new);
    }

pub returns-then-owes_nothing-clause-breach : goal.returns-then-owes_nothing-clause-breach
returns-then-owes_nothing-clause-breach c =
    sym (ap (option_map numbers_of) c.loop-i.invariant.breach ∙ none_left c.args.books.profile c.loop-i.books.state c.args.entries.now c.loop-i.i (let over = c.loop-i-test.false in omega arith) (sym c.owes_nothing.ensures ∙ c.if-owes_nothing.true))

pub returns-then-owes_nothing-clause-left : goal.returns-then-owes_nothing-clause-left
returns-then-owes_nothing-clause-left c = λ _.
    books_are c.args.books.profile c.loop-i.books.profile c.loop-i.books.state _ c.args.entries.now c.loop-i.i (let over = c.loop-i-test.false in omega arith) c.loop-i.invariant.profile c.loop-i.invariant.left

pub returns-else-owes_nothing-clause-breach : goal.returns-else-owes_nothing-clause-breach
returns-else-owes_nothing-clause-breach c =
    sym (ap (option_map numbers_of) c.loop-i.invariant.breach ∙ one_owing c.args.books.profile c.loop-i.books.state c.args.entries.now c.loop-i.i (let over = c.loop-i-test.false in omega arith) (sym c.owes_nothing.ensures ∙ c.if-owes_nothing.false) ∙ ap (λ (n : ℕ). Some (n, 2)) (sym c.entries-ticket-2.ensures))

pub apply-requires : goal.apply-requires
apply-requires c = no_why _ (sym c.in_default.is ∙ c.in_ok-why.ensures)
