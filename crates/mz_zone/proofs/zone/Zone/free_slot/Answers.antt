use Rattle.std.proofs.Common.{◌*◌, ◌<◌, sym, subst, ◌∙◌}
use Rattle.mz_base.specs.declared.profile.Profile.{Profile}
use Rattle.mz_events.specs.declared.event.Event.TheVariants.{No}
use Rattle.mz_events.specs.declared.place.Place.TheVariants as place
use Rattle.std.specs.Prelude.{IsTrue}
use Rattle.mz_events.specs.State.{is_open}
use Rattle.mz_book.specs.Account.{Account, IsOrderly, state_of}
use Rattle.mz_zone.specs.ZoneLaws.{ZoneLaws}
use Rattle.mz_book.specs.Calls.{Notes}
use Rattle.mz_zone.specs.declared.zone.Zone.{Zone}
use Rattle.mz_zone.specs.Calling.{seen}
use Rattle.mz_zone.proofs.Freed.{may_end, may_end_hand, may_put_back, slot_freed, can_deny, slot_denied}
use Rattle.mz_zone.proofs.zone.Zone.free_slot.Goals as goal

-- the zone is one of the profile's
zone_in : (z : Zone) → z.zone < z.profile.zones
zone_in z = subst (λ (p : Profile). z.zone < p.zones) z.of_profile (subst (λ n. n < z.rack.profile.zones) z.of_zone z.rack.zone_in)

-- zone 0 is open in every book
nano_is_open : ZoneLaws → (s : Account) → IsOrderly s → IsTrue (is_open (state_of s) 0)
nano_is_open laws s orderly = laws.zero_open s.profile s.seen orderly.lawful

pub note-ticket-requires : goal.note-ticket-requires
note-ticket-requires g c =
    rw (c.first.ensures ∙ sym c.requires.placed.first, c.class.ensures)
    (can_deny c.of_zones.ensures (seen g.B.Book.account c.args.at.now) c.args.self.now.profile c.args.self.now.zone c.args.slot c.requires.can (zone_in c.args.self.now)
    c.if-self-ne0.true c.requires.placed c.requires.block (nano_is_open c.of_zones.ensures _ c.of_book.ensures))

pub returns-then-self-ne0-clause-frees : goal.returns-then-self-ne0-clause-frees
returns-then-self-ne0-clause-frees g c =
    let s : Account = g.B.Book.account c.args.at.now.book.now in
    let t : Account = g.B.Book.account c.note-ticket.new.self in
    let n : Notes s (No place.Nano c.args.self.now.zone c.args.slot.span.first (16 * c.args.slot.class)) c.note-ticket.result t =
    rw (c.first.ensures ∙ sym c.requires.placed.first, c.class.ensures) at c.note-ticket.ensures in
    rw c.of_slot.ensures
    (slot_denied c.of_zones.ensures (seen g.B.Book.account c.args.at.now) c.args.self.now.profile c.args.self.now.zone c.args.slot c.requires.can (zone_in c.args.self.now)
    c.if-self-ne0.true c.requires.placed c.requires.block (nano_is_open c.of_zones.ensures _ c.of_book.ensures) t c.note-ticket.result n)

pub end_block-requires : goal.end_block-requires
end_block-requires g c = record {
  can = may_end (g.B.Book.account c.args.at.now.book.now) c.args.at.now.nano c.in-Some.both c.in-Some.is c.args.self.now.profile c.args.self.now.zone c.args.slot c.requires.can c.requires.placed c.requires.block (nano_is_open c.of_zones.ensures _ c.of_book.ensures);
  in_hand = may_end_hand (g.B.Book.account c.args.at.now.book.now) c.args.at.now.nano c.in-Some.both c.in-Some.is c.args.self.now.profile c.args.self.now.zone c.args.slot c.requires.can c.requires.placed c.requires.block (nano_is_open c.of_zones.ensures _ c.of_book.ensures);
}

pub put_back-requires : goal.put_back-requires
put_back-requires g c =
    let m = may_put_back (g.B.Book.account c.args.at.now.book.now) c.args.at.now.nano c.in-Some.both c.in-Some.is c.args.self.now.profile c.args.self.now.zone c.args.slot c.requires.can c.requires.placed c.requires.block (nano_is_open c.of_zones.ensures _ c.of_book.ensures) in
    record { one = m.0; mine = m.1; place = m.2 }

pub returns-clause-frees : goal.returns-clause-frees
returns-clause-frees g c =
    slot_freed (g.B.Book.account c.args.at.now.book.now) c.args.at.now.nano c.in-Some.both c.in-Some.is c.args.self.now.profile c.args.self.now.zone c.args.slot c.requires.can c.requires.placed c.requires.block (nano_is_open c.of_zones.ensures _ c.of_book.ensures)
    c.of_zones.ensures (g.B.Book.account c.end_block.new.book) c.put_back.new.seat c.if-self-ne0.false c.end_block.ensures c.put_back.ensures
