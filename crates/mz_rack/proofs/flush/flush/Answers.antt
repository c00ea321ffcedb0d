use Rattle.std.proofs.Common.{ℕ, length, sym, ap, ◌∙◌, arith}
use Rattle.mz_events.specs.declared.place.Place.TheVariants.{Pages, Large}
use Rattle.mz_events.specs.Places.{spot_of}
use Rattle.mz_events.specs.State.{Value}
use Rattle.mz_book.specs.Account.{Account, known}
use Rattle.mz_rack.specs.BookLaws.{BookLaws}
use Rattle.mz_rack.specs.Seeking.{CanSeek}
use Rattle.mz_rack.specs.Stages.{Keeps, at_pages}
use Rattle.mz_events.specs.Standing.{Keeping}
use Rattle.mz_rack.proofs.Steps.{stands_then}
use Rattle.mz_rack.proofs.Answered.{MomentLaws}
use Rattle.mz_rack.proofs.LargeLemmas.{as_run, was_noted}
use Rattle.mz_rack.proofs.Flushing.{IsDry, can_dry, is_dry, is_empty, can_back, is_back, lacked}
use Rattle.mz_rack.proofs.flush.flush.Goals as goal

-- the keepers still stand once it is noted that the pages are dry
large_then : (L : BookLaws) (z w al : ℕ) (s : Account) (k : CanSeek s z w al) (i : ℕ) (t : Account) → IsDry L z w al s k i t → (v : Keeping) → Keeps s (Large z) v → Keeps t (Large z) v
large_then L z w al s k i t d v h = stands_then s t (Large z) _ _ v d.since.grows.adds.same (ap (λ (y : Value). y.kept) d.at_l) h

pages_then : (L : BookLaws) (z w al : ℕ) (s : Account) (k : CanSeek s z w al) (i : ℕ) (t : Account) → IsDry L z w al s k i t → (v : Keeping) → Keeps s Pages v → Keeps t Pages v
pages_then L z w al s k i t d v h = stands_then s t Pages _ _ v d.since.grows.adds.same (ap (λ (y : Value). y.kept) d.at_p) h

pub note-dry-requires : goal.note-dry-requires
note-dry-requires g c =
    let s = g.B.Book.account c.args.book.now in
    let room = c.requires.room in
    can_dry c.of_books.ensures c.args.zone c.args.w c.args.al s c.requires.can (g.met.B.Book.orderly c.args.book.now).caller (omega arith) c.requires.dry

pub returns-in_default : goal.returns-in_default
returns-in_default g c =
    let L = c.of_books.ensures in
    let z = c.args.zone in
    let w = c.args.w in
    let al = c.args.al in
    let s = g.B.Book.account c.args.book.now in
    let t = g.B.Book.account c.note-dry.new.self in
    let room = c.requires.room in
    let can = can_dry L z w al s c.requires.can (g.met.B.Book.orderly c.args.book.now).caller (omega arith) c.requires.dry in
    let d = is_dry L z w al s c.requires.can c.note-dry.result t can c.note-dry.ensures in
    let none = c.in_default.ensures t.site t.profile z (known t (spot_of (Large z))).kept (large_then L z w al s c.requires.can c.note-dry.result t d c.args.large.now c.requires.stands_l) in
    record {
      flushes = is_empty L z w al s c.requires.can c.note-dry.result t d (ap (λ (y : Value). y.kept.cached) (sym d.at_l) ∙ none.0);
      stands_l = none.1;
      stands_p = pages_then L z w al s c.requires.can c.note-dry.result t d c.args.pages.now c.requires.stands_p;
    }

pub note-requires : goal.note-requires
note-requires g c =
    let L = c.of_books.ensures in
    let z = c.args.zone in
    let w = c.args.w in
    let al = c.args.al in
    let s = g.B.Book.account c.args.book.now in
    let t = g.B.Book.account c.note-dry.new.self in
    let room = c.requires.room in
    let can = can_dry L z w al s c.requires.can (g.met.B.Book.orderly c.args.book.now).caller (omega arith) c.requires.dry in
    let d = is_dry L z w al s c.requires.can c.note-dry.result t can c.note-dry.ensures in
    let some = c.in-Some.ensures t.site t.profile z (known t (spot_of (Large z))).kept (large_then L z w al s c.requires.can c.note-dry.result t d c.args.large.now c.requires.stands_l) in
    let one = ap (λ (y : Value). length y.kept.cached) (sym d.at_l) ∙ ap length some.0.first in
    let spare = d.since.grows.adds.spare in
    as_run t z c.in-Some.run' c.first.result c.len.result c.first.ensures.value c.len.ensures.value
    (can_back L z w al s c.requires.can c.note-dry.result t d c.in-Some.run' some.0 (g.met.B.Book.orderly c.note-dry.new.self).caller (omega arith))

pub put_run_back-requires : goal.put_run_back-requires
put_run_back-requires g c =
    let L = c.of_books.ensures in
    let z = c.args.zone in
    let w = c.args.w in
    let al = c.args.al in
    let s = g.B.Book.account c.args.book.now in
    let t = g.B.Book.account c.note-dry.new.self in
    let room = c.requires.room in
    let can = can_dry L z w al s c.requires.can (g.met.B.Book.orderly c.args.book.now).caller (omega arith) c.requires.dry in
    let d = is_dry L z w al s c.requires.can c.note-dry.result t can c.note-dry.ensures in
    let some = c.in-Some.ensures t.site t.profile z (known t (spot_of (Large z))).kept (large_then L z w al s c.requires.can c.note-dry.result t d c.args.large.now c.requires.stands_l) in
    record {
      space = t.site;
      profile = t.profile;
      kept = (known t at_pages).kept;
      stands = pages_then L z w al s c.requires.can c.note-dry.result t d c.args.pages.now c.requires.stands_p;
      of_space = some.0.space;
      lacked = lacked L z w al s c.requires.can c.note-dry.result t d c.in-Some.run' some.0 (g.met.B.Book.orderly c.note-dry.new.self).lawful;
    }

pub returns : goal.returns
returns g c =
    let L = c.of_books.ensures in
    let M : MomentLaws = record { before = c.moments.ensures.before; after_one = c.states_split.ensures.one; after_joined = c.states_split.ensures.joined } in
    let z = c.args.zone in
    let w = c.args.w in
    let al = c.args.al in
    let s = g.B.Book.account c.args.book.now in
    let t = g.B.Book.account c.note-dry.new.self in
    let u = g.B.Book.account c.note.new.self in
    let room = c.requires.room in
    let can = can_dry L z w al s c.requires.can (g.met.B.Book.orderly c.args.book.now).caller (omega arith) c.requires.dry in
    let d = is_dry L z w al s c.requires.can c.note-dry.result t can c.note-dry.ensures in
    let some = c.in-Some.ensures t.site t.profile z (known t (spot_of (Large z))).kept (large_then L z w al s c.requires.can c.note-dry.result t d c.args.large.now c.requires.stands_l) in
    let one = ap (λ (y : Value). length y.kept.cached) (sym d.at_l) ∙ ap length some.0.first in
    let spare = d.since.grows.adds.spare in
    let can_b = can_back L z w al s c.requires.can c.note-dry.result t d c.in-Some.run' some.0 (g.met.B.Book.orderly c.note-dry.new.self).caller (omega arith) in
    let b = is_back L z w al s c.requires.can c.note-dry.result t d c.in-Some.run' some.0 M c.note.result u (g.met.B.Book.orderly c.note.new.self).lawful can_b
    (was_noted t u z c.note.result c.in-Some.run' c.first.result c.len.result c.first.ensures.value c.len.ensures.value c.note.ensures) in
    let is_lacked = lacked L z w al s c.requires.can c.note-dry.result t d c.in-Some.run' some.0 (g.met.B.Book.orderly c.note-dry.new.self).lawful in
    let pages = pages_then L z w al s c.requires.can c.note-dry.result t d c.args.pages.now c.requires.stands_p in
    record {
      flushes = b.flushed;
      stands_l = stands_then t u (Large z) _ _ c.flush_one.new.self b.same.grows.adds.same b.kept_l some.1;
      stands_p = stands_then t u Pages _ _ c.put_run_back.new.self b.same.grows.adds.same b.kept_p (c.put_run_back.ensures t.site t.profile z (known t at_pages).kept pages is_lacked);
    }
