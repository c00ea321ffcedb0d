use Rattle.std.proofs.Common.{◌≡◌, drop}
use Rattle.mz_events.specs.History.{first_breach, after_all}
use Rattle.mz_history.proofs.verdict.run.Given as goal

abbrev pub invariant-loop-i : goal.invariant-loop-i
invariant-loop-i l = record {
  profile : l.books.profile ≡ l.initial.books.profile;
  breach : first_breach l.initial.books.profile l.initial.books.state l.entries ≡ first_breach l.initial.books.profile l.books.state (drop l.i l.entries);
  left : after_all l.initial.books.profile l.initial.books.state l.entries ≡ after_all l.initial.books.profile l.books.state (drop l.i l.entries);
}
