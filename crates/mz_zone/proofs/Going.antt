-- Calls one after another.
use Rattle.std.proofs.Common.{ℕ, List, [], ◌++◌, Option, None, Some, refl, ◌∙◌, lit≤}
use Rattle.mz_events.specs.declared.entry.Entry.{Entry}
use Rattle.mz_book.specs.Account.{Account, HoldsNothing}
use Rattle.mz_book.specs.Growth.{Adds}
use Rattle.mz_zone.specs.Calling.{AtView, Seated, Goes, StaysSeated, IsSeatedAt, apart_from_nano}
use Rattle.mz_zone.specs.ZoneLaws.{ZoneLaws}

seats_on : (a b c : Option Seated) → StaysSeated a b → StaysSeated b c → StaysSeated a c
seats_on None None None x y = tt
seats_on None None (Some c) x y = y
seats_on None (Some b) c x y = absurd x
seats_on (Some a) None c x y = absurd x
seats_on (Some a) (Some b) None x y = absurd y
seats_on (Some a) (Some b) (Some c) x y = (y.0 ∙ x.0, y.1, y.2 ∙ x.2)

-- what two calls leave
pub goes_on : (laws : ZoneLaws) (v u w : AtView) (xs ys : List Entry) → Goes v xs u → Goes u ys w → Goes v (xs ++ ys) w
goes_on laws v u w xs ys g h = record {
  adds = laws.added (apart_from_nano v.book) (apart_from_nano u.book) (apart_from_nano w.book) xs ys 0 0 g.adds h.adds;
  nothing_held = h.nothing_held;
  nano = seats_on v.nano u.nano w.nano g.nano h.nano;
}

-- a growth of the whole account is one apart from nano
pub adds_apart : (s t : Account) (mine : List Entry) (k : ℕ) → Adds s mine k t → Adds (apart_from_nano s) mine 0 (apart_from_nano t)
adds_apart s t mine k a = record {
  more = a.more;
  same = record {
    name = a.same.name;
    profile = a.same.profile;
    caller = a.same.caller;
    site = a.same.site;
    between = a.same.between;
    lights = a.same.lights;
    settled = refl;
    founds = refl;
    found = refl;
  };
  seen = a.seen;
  own_is = a.own_is;
  alone = a.alone;
  noted = a.noted;
  pairs = a.pairs;
  spare = a.spare;
  holds = lit≤ tt;
  zones = a.zones;
}

-- a seat stays where it stayed before
pub seat_stays : (a b : Option Seated) → StaysSeated a b → StaysSeated b b
seat_stays None None h = tt
seat_stays None (Some y) h = absurd h
seat_stays (Some x) None h = absurd h
seat_stays (Some x) (Some y) h = (refl, h.1, refl)

pub seated_stays : (s : Account) (a : Option Seated) → IsSeatedAt s a → StaysSeated a a
seated_stays s None h = tt
seated_stays s (Some x) h = (refl, h.seat, refl)

-- where nothing was held and nothing noted
pub goes_nowhere : (laws : ZoneLaws) (v : AtView) → HoldsNothing v.book → IsSeatedAt v.book v.nano → Goes v [] v
goes_nowhere laws v held seat = record {
  adds = adds_apart v.book v.book [] 0 (laws.nothing v.book).grows.adds;
  nothing_held = held;
  nano = seated_stays v.book v.nano seat;
}
