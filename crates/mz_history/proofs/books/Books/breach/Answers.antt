use Rattle.std.proofs.Common.{ap, sym, ◌∙◌, true}
use Rattle.mz_history.specs.Booked.{first_of_two}
use Rattle.mz_history.proofs.BreachLemmas.{owes, missing, of_take, of_back, of_move, of_new, of_end, of_size, of_full, of_dry, of_no, of_open, of_shut, kind_take, kind_back, kind_move, kind_new, kind_end, kind_no, kind_size, kind_full}
use Rattle.mz_history.proofs.books.Books.breach.Goals as goal

pub returns-then-not-met : goal.returns-then-not-met
returns-then-not-met c = sym (owes c.args.self.now.profile c.args.self.now.state c.args.caller c.args.e.now (sym c.in_ok-met.ensures ∙ c.if-not-met.true))

pub returns-then-not-existing : goal.returns-then-not-existing
returns-then-not-existing c = sym (missing c.args.self.now.profile c.args.self.now.state c.args.caller c.args.e.now (sym c.in_ok-met.ensures ∙ c.if-not-met.false) (sym c.is_existing-existing.ensures ∙ c.if-not-existing.true))

pub take_breach-requires : goal.take_breach-requires
take_breach-requires c = kind_take c.args.self.now.profile c.args.self.now.state c.args.caller c.args.e.now (sym c.in_ok-met.ensures ∙ c.if-not-met.false, sym c.is_existing-existing.ensures ∙ c.if-not-existing.false) c.in-Take.k c.in-Take.first c.in-Take.pages c.in-Take.is

pub returns-in-Take : goal.returns-in-Take
returns-in-Take c = c.take_breach.ensures ∙ sym (of_take c.args.self.now.profile c.args.self.now.state c.args.caller c.args.e.now c.in-Take.k c.in-Take.first c.in-Take.pages c.in-Take.is (sym c.in_ok-met.ensures ∙ c.if-not-met.false, sym c.is_existing-existing.ensures ∙ c.if-not-existing.false))

pub back_breach-requires : goal.back_breach-requires
back_breach-requires c = kind_back c.args.self.now.profile c.args.self.now.state c.args.caller c.args.e.now (sym c.in_ok-met.ensures ∙ c.if-not-met.false, sym c.is_existing-existing.ensures ∙ c.if-not-existing.false) c.in-Back.k c.in-Back.first c.in-Back.pages c.in-Back.is

pub returns-in-Back : goal.returns-in-Back
returns-in-Back c = c.back_breach.ensures ∙ sym (of_back c.args.self.now.profile c.args.self.now.state c.args.caller c.args.e.now c.in-Back.k c.in-Back.first c.in-Back.pages c.in-Back.is (sym c.in_ok-met.ensures ∙ c.if-not-met.false, sym c.is_existing-existing.ensures ∙ c.if-not-existing.false))

pub move_breach-requires : goal.move_breach-requires
move_breach-requires c = kind_move c.args.self.now.profile c.args.self.now.state c.args.caller c.args.e.now (sym c.in_ok-met.ensures ∙ c.if-not-met.false, sym c.is_existing-existing.ensures ∙ c.if-not-existing.false) c.in-Move.first c.in-Move.from c.in-Move.to c.in-Move.is

pub returns-in-Move : goal.returns-in-Move
returns-in-Move c = c.move_breach.ensures ∙ sym (of_move c.args.self.now.profile c.args.self.now.state c.args.caller c.args.e.now c.in-Move.first c.in-Move.from c.in-Move.to c.in-Move.is (sym c.in_ok-met.ensures ∙ c.if-not-met.false, sym c.is_existing-existing.ensures ∙ c.if-not-existing.false))

pub new_breach-requires : goal.new_breach-requires
new_breach-requires c = kind_new c.args.self.now.profile c.args.self.now.state c.args.caller c.args.e.now (sym c.in_ok-met.ensures ∙ c.if-not-met.false, sym c.is_existing-existing.ensures ∙ c.if-not-existing.false) c.in-New.k c.in-New.a c.in-New.s c.in-New.al c.in-New.is

pub returns-in-New : goal.returns-in-New
returns-in-New c = c.new_breach.ensures ∙ sym (of_new c.args.self.now.profile c.args.self.now.state c.args.caller c.args.e.now c.in-New.k c.in-New.a c.in-New.s c.in-New.al c.in-New.is (sym c.in_ok-met.ensures ∙ c.if-not-met.false, sym c.is_existing-existing.ensures ∙ c.if-not-existing.false))

pub size_breach-requires : goal.size_breach-requires
size_breach-requires c = kind_size c.args.self.now.profile c.args.self.now.state c.args.caller c.args.e.now (sym c.in_ok-met.ensures ∙ c.if-not-met.false, sym c.is_existing-existing.ensures ∙ c.if-not-existing.false) c.in-Size.k c.in-Size.a c.in-Size.s c.in-Size.s2 c.in-Size.is

pub returns-in-Size : goal.returns-in-Size
returns-in-Size c = c.size_breach.ensures ∙ sym (of_size c.args.self.now.profile c.args.self.now.state c.args.caller c.args.e.now c.in-Size.k c.in-Size.a c.in-Size.s c.in-Size.s2 c.in-Size.is (sym c.in_ok-met.ensures ∙ c.if-not-met.false, sym c.is_existing-existing.ensures ∙ c.if-not-existing.false))

pub has_block-requires : goal.has_block-requires
has_block-requires c = kind_end c.args.self.now.profile c.args.self.now.state c.args.caller c.args.e.now (sym c.in_ok-met.ensures ∙ c.if-not-met.false, sym c.is_existing-existing.ensures ∙ c.if-not-existing.false) c.in-End.k c.in-End.a c.in-End.s c.in-End.is

pub returns-in-End : goal.returns-in-End
returns-in-End c = c.first_broken_of.ensures ∙ ap (λ t. first_of_two 12 t 12 true) c.has_block.ensures ∙ sym (of_end c.args.self.now.profile c.args.self.now.state c.args.caller c.args.e.now c.in-End.k c.in-End.a c.in-End.s c.in-End.is (sym c.in_ok-met.ensures ∙ c.if-not-met.false, sym c.is_existing-existing.ensures ∙ c.if-not-existing.false))

pub is_full-requires : goal.is_full-requires
is_full-requires c = kind_full c.args.self.now.profile c.args.self.now.state c.args.caller c.args.e.now (sym c.in_ok-met.ensures ∙ c.if-not-met.false, sym c.is_existing-existing.ensures ∙ c.if-not-existing.false) c.in-Full.k c.in-Full.n c.in-Full.al c.in-Full.is

pub returns-in-Full : goal.returns-in-Full
returns-in-Full c = c.first_broken_of-in-Full.ensures ∙ ap (λ t. first_of_two 13 t 13 true) c.is_full.ensures ∙ sym (of_full c.args.self.now.profile c.args.self.now.state c.args.caller c.args.e.now c.in-Full.k c.in-Full.n c.in-Full.al c.in-Full.is (sym c.in_ok-met.ensures ∙ c.if-not-met.false, sym c.is_existing-existing.ensures ∙ c.if-not-existing.false))

pub is_denied-requires : goal.is_denied-requires
is_denied-requires c = kind_no c.args.self.now.profile c.args.self.now.state c.args.caller c.args.e.now (sym c.in_ok-met.ensures ∙ c.if-not-met.false, sym c.is_existing-existing.ensures ∙ c.if-not-existing.false) c.in-No.k c.in-No.zone c.in-No.a c.in-No.s c.in-No.is

pub returns-in-No : goal.returns-in-No
returns-in-No c = c.first_broken_of-in-No.ensures ∙ ap (λ t. first_of_two 12 t 12 true) c.is_denied.ensures ∙ sym (of_no c.args.self.now.profile c.args.self.now.state c.args.caller c.args.e.now c.in-No.k c.in-No.zone c.in-No.a c.in-No.s c.in-No.is (sym c.in_ok-met.ensures ∙ c.if-not-met.false, sym c.is_existing-existing.ensures ∙ c.if-not-existing.false))

pub returns-in-Dry : goal.returns-in-Dry
returns-in-Dry c = c.first_broken_of-in-Dry.ensures ∙ ap (λ t. first_of_two 13 t 13 true) (c.is_dry.ensures c.in-Dry.zone) ∙ sym (of_dry c.args.self.now.profile c.args.self.now.state c.args.caller c.args.e.now c.in-Dry.zone c.in-Dry.pages c.in-Dry.al c.in-Dry.is (sym c.in_ok-met.ensures ∙ c.if-not-met.false, sym c.is_existing-existing.ensures ∙ c.if-not-existing.false))

pub returns-in_ok-may-in-Open : goal.returns-in_ok-may-in-Open
returns-in_ok-may-in-Open c = c.first_broken_of-in-Open.ensures ∙ ap (λ t. first_of_two 14 t 14 true) c.in_ok-may-in-Open.ensures ∙ sym (of_open c.args.self.now.profile c.args.self.now.state c.args.caller c.args.e.now c.in-Open.zone c.in-Open.is (sym c.in_ok-met.ensures ∙ c.if-not-met.false, sym c.is_existing-existing.ensures ∙ c.if-not-existing.false))

pub returns-in_ok-may-in-Shut : goal.returns-in_ok-may-in-Shut
returns-in_ok-may-in-Shut c = c.first_broken_of-in-Shut.ensures ∙ ap (λ t. first_of_two 14 t 14 true) c.in_ok-may-in-Shut.ensures ∙ sym (of_shut c.args.self.now.profile c.args.self.now.state c.args.caller c.args.e.now c.in-Shut.zone c.in-Shut.is (sym c.in_ok-met.ensures ∙ c.if-not-met.false, sym c.is_existing-existing.ensures ∙ c.if-not-existing.false))
