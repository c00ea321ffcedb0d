-- What holds of a session before its first command.
use Rattle.std.proofs.Common.{◌≡◌, ◌*◌, true, List, [], Option, Some, None, refl, ap, sym, subst, ◌∙◌, arith}
use Rattle.std.specs.Prelude.{nat_lt}
use Rattle.std.proofs.lemmas.Bool.{lt-ltb}
use Rattle.mz_base.specs.declared.profile.Profile.{Profile}
use Rattle.mz_base.specs.declared.range.TheConstants.{PAGE}
use Rattle.mz_base.specs.Site.{Site}
use Rattle.mz_events.specs.Places.{nano_start}
use Rattle.mz_events.specs.State.{opening, is_open}
use Rattle.mz_events.specs.History.{after_all}
use Rattle.mz_ground.specs.Views.{SpanView}
use Rattle.mz_book.specs.Account.{Account}
use Rattle.mz_book.specs.Plain.{opening_account}
use Rattle.mz_zone.specs.declared.zone.Zone.{Zone}
use Rattle.mz_zone.specs.Calling.{Seated, IsSeatedAt}
use Rattle.mz_zone.specs.Counts.{has_nano}
use Rattle.mz_session.specs.declared.parcel.Parcel.{Parcel}
use Rattle.mz_session.specs.Names.{NamedBlocks}
use Rattle.mz_session.specs.Seats.{IsSeatAt, HasOneSeat}
use Rattle.mz_session.specs.Sessions.{IsForOne, IsOpened}

zone-open : (p : Profile) → is_open (after_all p opening []) 0 ≡ true
unfolding after_all
zone-open p = refl

opened-here :
    (p : Profile) (x : Site) (z : Zone) (n : Option Seated) → IsForOne p → z.profile ≡ p → z.zone ≡ 0 → IsSeatedAt (opening_account p x) n → has_nano n ≡ nat_lt 0 p.nano → HasOneSeat n
    → IsOpened p (record { zone = z; at = record { book = opening_account p x; nano = n }; blocks = []; parcels = [] })
opened-here p x z n for_one profile zone seated there one = record {
  kept = record {
    profile = profile;
    zone = zone;
    for_one = for_one;
    caller = refl;
    alone = refl;
    zone_open = zone-open p;
    nothing_held = record { keepers = refl; lights = refl };
    seated = seated;
    nano = there;
    one_seat = one;
    ours = λ b there. absurd (let low = there.1 in omega (arith, low));
    in_hand = λ b. refl;
    once = λ b. omega arith;
    mine = refl;
    new_names = tt;
  };
  profile = refl;
  seen = refl;
  blocks = refl;
  parcels = refl;
}

pub opened :
    (p : Profile) (x : Site) (z : Zone) (b : Account) (n : Option Seated) (bs : NamedBlocks) (gs : List Parcel) → IsForOne p → z.profile ≡ p → z.zone ≡ 0
    → IsSeatedAt (opening_account p x) n → has_nano n ≡ nat_lt 0 p.nano → HasOneSeat n → b ≡ opening_account p x → bs ≡ [] → gs ≡ []
    → IsOpened p (record { zone = z; at = record { book = b; nano = n }; blocks = bs; parcels = gs })
opened p x z b n bs gs for_one profile zone seated there one first unnamed none =
    subst (λ xs. IsOpened p (record { zone = z; at = record { book = b; nano = n }; blocks = bs; parcels = xs })) (sym none)
    (subst (λ xs. IsOpened p (record { zone = z; at = record { book = b; nano = n }; blocks = xs; parcels = [] })) (sym unnamed)
    (subst (λ a. IsOpened p (record { zone = z; at = record { book = a; nano = n }; blocks = []; parcels = [] })) (sym first) (opened-here p x z n for_one profile zone seated there one)))

-- nano over the last pages is the book's
pub seated-new : (p : Profile) (x : Site) (pages : SpanView) (n : Option Seated) → pages.first ≡ nano_start p * PAGE → pages.space ≡ x → IsSeatAt pages p n → IsSeatedAt (opening_account p x) n
seated-new p x pages None first space new = tt
seated-new p x pages (Some y) first space new = record {
  seat = new.sits;
  first = new.first ∙ first;
  blocks = new.blocks;
  space = new.space ∙ space;
}

pub nano-new : (pages : SpanView) (p : Profile) (n : Option Seated) → IsSeatAt pages p n → has_nano n ≡ nat_lt 0 p.nano
nano-new pages p None new = sym (ap (nat_lt 0) new)
nano-new pages p (Some y) new = sym (lt-ltb 0 p.nano new.some_pages)

pub one-seat-new : (pages : SpanView) (p : Profile) (n : Option Seated) → IsSeatAt pages p n → HasOneSeat n
one-seat-new pages p None new = tt
one-seat-new pages p (Some y) new = new.seats
