use Rattle.std.proofs.Common.{◌≡◌, ◌-◌, [], ◌∷◌, length, arith, refl, ap, ◌∙◌, length-append}
use Rattle.mz_events.specs.declared.entry.Entry.{Entry}
use Rattle.mz_desk.specs.Views.{view_account}
use Rattle.mz_register.specs.Passes.{table_numbers, keys, bare, keeps_zones}
use Rattle.mz_register.specs.Accounts.{pass_account}
use Rattle.mz_register.proofs.AccountMoves.{notes}
use Rattle.mz_register.proofs.ZoneLemmas.{steady_more}
use Rattle.mz_register.proofs.pass.Pass.note.Goals as goal

pub returns-clause-notes : goal.returns-clause-notes
returns-clause-notes g c =
    let p = c.args.self.now in
    let x = c.draw-ticket.ensures.draws in
    let less : p.limit - length c.push_reserved.new.self.items ≡ p.limit - length p.noted.items - 1 = let l = ap length c.push_reserved.ensures.items in let m = length-append p.noted.items (record { ticket = c.draw-ticket.result; caller = p.caller; event = c.args.event } ∷ []) in omega arith in
    notes c.of_histories.ensures (pass_account p) _ c.args.event c.draw-ticket.result x.others refl x.away c.requires.can x.ticket
    (λ i. view_account (x.view i) (table_numbers (c.draw-ticket.ensures.table i)) (less i) p.holds p.founds p.found) c.zones_after_an_event.ensures.others

pub invariant_of-self-clause-zones : goal.invariant_of-self-clause-zones
invariant_of-self-clause-zones g c =
    let p = c.args.self.now in
    let e : Entry = record { ticket = c.draw-ticket.result; caller = p.caller; event = c.args.event } in
    ap keeps_zones c.push_reserved.ensures.items ∙ steady_more p.noted.items e p.zones c.requires.can.between

pub invariant_of-self-clause-carried : goal.invariant_of-self-clause-carried
invariant_of-self-clause-carried g c = ap keys c.draw-ticket.ensures.draws.carried ∙ c.args.self.now.carried

pub invariant_of-self-clause-none_inside : goal.invariant_of-self-clause-none_inside
invariant_of-self-clause-none_inside g c = ap bare c.draw-ticket.ensures.draws.carried ∙ c.args.self.now.none_inside
