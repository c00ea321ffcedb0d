-- A task and its entries leave one answer.
use Rattle.std.proofs.Common.{◌≡◌, ℕ, List, sym, ◌∙◌, inl, inr, ◌⊎◌, ap, subst, []}
use Rattle.mz_events.specs.declared.entry.Entry.{Entry}
use Rattle.mz_lines.specs.declared.answer.Answer.{Answer}
use Rattle.mz_lawful.specs.Records.{LineRecord, caller_of}
use Rattle.mz_lawful.specs.Settings.{Setting}
use Rattle.mz_lawful.specs.Tasks.{Task, refused, serving, resizing, dropping, denying, telling, filling, showing, linking, giving, batching, unbatching, using, opening_zone, destroying_zone, task_of}
use Rattle.mz_lawful.specs.Fitting.{ShowsSome, IsAnswer, AreEntries, FitsRecord}
use Rattle.mz_lawful.specs.After.{after_task, after_record}

pub one_answer_of : (task : Task) (es : List Entry) (a b : Answer) → IsAnswer task es a → IsAnswer task es b → (a ≡ b) ⊎ ((count : ℕ) × ShowsSome count a × ShowsSome count b)
one_answer_of (refused x) es a b one two = inl (one ∙ sym two)
one_answer_of (serving name q clear) es a b one two = inl (one ∙ sym two)
one_answer_of (resizing name h n) es a b one two = inl (one ∙ sym two)
one_answer_of (dropping h) es a b one two = inl (one ∙ sym two)
one_answer_of (denying z d) es a b one two = inl (one ∙ sym two)
one_answer_of (telling x) es a b one two = inl (one ∙ sym two)
one_answer_of (filling d byte) es a b one two = inl (one ∙ sym two)
one_answer_of (showing d off count) es a b one two = inr (count, one, two)
one_answer_of (linking d off x) es a b one two = inl (one ∙ sym two)
one_answer_of (giving h to given) es a b one two = inl (one ∙ sym two)
one_answer_of (batching base count q) es a b one two = inl (one ∙ sym two)
one_answer_of (unbatching hs) es a b one two = inl (one ∙ sym two)
one_answer_of (using zone) es a b one two = inl (one ∙ sym two)
one_answer_of (opening_zone z name) es a b one two = inl (one ∙ sym two)
one_answer_of (destroying_zone z) es a b one two = inl (one ∙ sym two)

module _ (s : Setting) (d : LineRecord) (a : Answer) where
  pub refused_answer : FitsRecord s d → task_of s d.line ≡ refused a → d.answer ≡ a
  refused_answer fits refuses = subst (λ (t : Task). IsAnswer t d.entries d.answer) refuses fits.answer

  pub refused_entries : FitsRecord s d → task_of s d.line ≡ refused a → d.entries ≡ []
  refused_entries fits refuses = subst (λ (t : Task). AreEntries s (caller_of d.line) t d.entries) refuses fits.entries

  pub refused_standing : task_of s d.line ≡ refused a → after_record s d ≡ s.standing
  refused_standing refuses = ap (λ (t : Task). after_task (caller_of d.line) t d.entries s.standing) refuses
