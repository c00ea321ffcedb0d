use Rattle.mz_book.proofs.ClientLemmas.{first_hold, second_hold, taken, second_release, second_stands, first_release, last_stands, nothing_left, all_grown}
use Rattle.mz_book.proofs.laws.client.note_both.Goals as goal

pub hold-v-requires : goal.hold-v-requires
hold-v-requires g c =
    let L = c.of_histories.ensures in
    let s = g.B.Book.account c.args.book.now in
    let may = c.requires in
    first_hold L s s s s s c.args.k c.args.l 0 0 c.args.d c.args.e may

pub hold-w-requires : goal.hold-w-requires
hold-w-requires g c =
    let L = c.of_histories.ensures in
    let s = g.B.Book.account c.args.book.now in
    let may = c.requires in
    second_hold L s _ s s s c.args.k c.args.l 0 0 c.args.d c.args.e may c.hold-v.ensures.holds

pub note-first-requires : goal.note-first-requires
note-first-requires g c =
    let L = c.of_histories.ensures in
    let s = g.B.Book.account c.args.book.now in
    let may = c.requires in
    may.first _ (taken L s _ _ s s c.args.k c.args.l 0 0 c.args.d c.args.e may c.hold-v.ensures.holds c.hold-w.ensures.holds)

pub note-second-requires : goal.note-second-requires
note-second-requires g c =
    let L = c.of_histories.ensures in
    let s = g.B.Book.account c.args.book.now in
    let may = c.requires in
    may.second _ _ _ (taken L s _ _ s s c.args.k c.args.l 0 0 c.args.d c.args.e may c.hold-v.ensures.holds c.hold-w.ensures.holds) c.note-first.ensures

pub release-requires-clause-can : goal.release-requires-clause-can
release-requires-clause-can g c =
    let L = c.of_histories.ensures in
    let s = g.B.Book.account c.args.book.now in
    let may = c.requires in
    second_release L s _ _ _ _ c.args.k c.args.l _ _ c.args.d c.args.e may c.hold-v.ensures.holds c.hold-w.ensures.holds c.note-first.ensures c.note-second.ensures

pub release-requires-clause-stands : goal.release-requires-clause-stands
release-requires-clause-stands g c =
    let L = c.of_histories.ensures in
    let s = g.B.Book.account c.args.book.now in
    let may = c.requires in
    second_stands L s _ _ _ _ c.args.k c.args.l _ _ c.args.d c.args.e may c.hold-v.ensures.holds c.hold-w.ensures.holds c.note-first.ensures c.note-second.ensures _ c.hold-w.ensures.stands

pub release-requires-2-clause-can : goal.release-requires-2-clause-can
release-requires-2-clause-can g c =
    let L = c.of_histories.ensures in
    let s = g.B.Book.account c.args.book.now in
    let may = c.requires in
    first_release L s _ _ _ _ c.args.k c.args.l _ _ c.args.d c.args.e may c.hold-v.ensures.holds c.hold-w.ensures.holds c.note-first.ensures c.note-second.ensures _ c.release.ensures

pub release-requires-2-clause-stands : goal.release-requires-2-clause-stands
release-requires-2-clause-stands g c =
    let L = c.of_histories.ensures in
    let s = g.B.Book.account c.args.book.now in
    let may = c.requires in
    last_stands L s _ _ _ _ c.args.k c.args.l _ _ c.args.d c.args.e may c.hold-v.ensures.holds c.hold-w.ensures.holds c.note-first.ensures c.note-second.ensures _ c.release.ensures _ c.hold-v.ensures.stands

pub returns-clause-grows : goal.returns-clause-grows
returns-clause-grows g c =
    let L = c.of_histories.ensures in
    let s = g.B.Book.account c.args.book.now in
    let may = c.requires in
    all_grown L s _ _ _ _ c.args.k c.args.l _ _ c.args.d c.args.e may c.hold-v.ensures.holds c.hold-w.ensures.holds c.note-first.ensures c.note-second.ensures _ c.release.ensures _ c.release-2.ensures

pub returns-clause-nothing_held : goal.returns-clause-nothing_held
returns-clause-nothing_held g c =
    let L = c.of_histories.ensures in
    let s = g.B.Book.account c.args.book.now in
    let may = c.requires in
    nothing_left L s _ _ _ _ c.args.k c.args.l _ _ c.args.d c.args.e may c.hold-v.ensures.holds c.hold-w.ensures.holds c.note-first.ensures c.note-second.ensures _ c.release.ensures _ c.release-2.ensures
