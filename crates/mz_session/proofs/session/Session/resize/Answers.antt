use Rattle.std.proofs.Common.{◌≡◌, ◌∙◌, true, false, None, Ok, Err, length, ap, sym, subst, inl, inr}
use Rattle.std.specs.Prelude.{◌⊎◌, is_some}
use Rattle.std.proofs.lemmas.Bool.{false≢true}
use Rattle.mz_lines.specs.declared.answer.Answer.TheVariants as answers
use Rattle.mz_lines.specs.declared.command.Command.TheVariants.{Realloc}
use Rattle.mz_lawful.specs.Names.{same_name}
use Rattle.mz_zone.specs.Blocks.{BlockView}
use Rattle.mz_session.specs.Names.{block_with}
use Rattle.mz_session.specs.Sessions.{SessionView}
use Rattle.mz_session.specs.Serving.{Holds, RemakesOrNot, Serves, ServesResize, setting_of}
use Rattle.mz_session.proofs.HeldLemmas.{not-some}
use Rattle.mz_session.proofs.RecordLemmas.{serves-refused}
use Rattle.mz_session.proofs.CommandLemmas.{answered, free-again}
use Rattle.mz_session.proofs.ResizedLemmas.{some-there, same-if, other-if, found-if, resize-none, resize-held, free-resized, serves-resized, serves-unresized}
use Rattle.mz_session.proofs.session.Session.resize.Goals as goal
use Rattle.mz_session.proofs.session.Session.resize.Goals.{else-ne-via-then-ne+then-is_some+else-is_some-2, else-ne-via-then-ne+else-is_some, else-ne-via-else-ne}

pub returns-then-is_some-2 : goal.returns-then-is_some-2
returns-then-is_some-2 g c =
    let s : SessionView = c.args.self.now in
    let old = c.args.old.now in
    let new = c.args.new.now in
    let named : is_some (block_with s.blocks new) ≡ true =
    found-if _ c.get.result s.blocks new true (c.get.ensures ∙ ap (λ x. block_with x.blocks new) c.self.view_is) (sym c.is_some.ensures ∙ c.if-is_some.true) in
    let held = some-there (block_with s.blocks old)
    (found-if _ c.get-then-is_some.result s.blocks old true (c.get-then-is_some.ensures ∙ ap (λ x. block_with x.blocks old) c.self.view_is)
    (sym c.is_some-then-is_some.ensures ∙ c.if-is_some-2.true)) in
    λ names old_is new_is.
    serves-refused s (Realloc names c.args.n) answers.Held c.requires.kept
    (λ v stands.
    resize-held s (setting_of s s v) stands names old new c.args.n old_is new_is held.0 held.1 (other-if new old c.ne.result c.ne.ensures c.if-ne.true) named)

pub returns-in_default : goal.returns-in_default
returns-in_default g c =
    let s : SessionView = c.args.self.now in
    let none = c.in_default.ensures in
    λ names old_is new_is.
    subst (λ x. Serves s (Realloc names c.args.n) answers.NotHeld x) (sym none.1)
    (serves-refused s (Realloc names c.args.n) answers.NotHeld c.requires.kept
    (λ v stands. resize-none s (setting_of s s v) stands names c.args.old.now c.args.new.now c.args.n old_is new_is none.0))

pub hold-requires-clause-free : goal.hold-requires-clause-free
hold-requires-clause-free g c =
    let s : SessionView = c.args.self.now in
    let old = c.args.old.now in
    let new = c.args.new.now in
    let free : (same_name new old ≡ true) ⊎ (block_with s.blocks new ≡ None) = elim c.else-ne.branch [
      | else-ne-via-then-ne+then-is_some+else-is_some-2 w ↦
          absurd (false≢true
          (sym (found-if _ w.get-then-is_some.result s.blocks old false (w.get-then-is_some.ensures ∙ ap (λ x. block_with x.blocks old) c.self.view_is)
          (sym w.is_some-then-is_some.ensures ∙ w.if-is_some-2.false))
          ∙ ap is_some c.in-Some.ensures.0))
      | else-ne-via-then-ne+else-is_some w ↦
          inr (not-some (block_with s.blocks new)
          (found-if _ w.get.result s.blocks new false (w.get.ensures ∙ ap (λ x. block_with x.blocks new) c.self.view_is) (sym w.is_some.ensures ∙ w.if-is_some.false)))
      | else-ne-via-else-ne w ↦ inl (same-if new old c.ne.result c.ne.ensures w.if-ne.false)
    ] in
    let remakes : RemakesOrNot c.take.new.self c.in-Some.block c.args.n (Ok c.in-Ok.block) c.remake.new.self = subst (λ o. RemakesOrNot c.take.new.self c.in-Some.block c.args.n o c.remake.new.self) c.in-Ok.is c.in_ok-block.ensures in
    free-resized s c.take.new.self c.remake.new.self c.args.old.now c.args.new.now c.in-Some.block c.requires.kept c.requires.new c.in-Some.ensures remakes.notes.blocks remakes.notes.parcels free

pub put-requires-clause-free : goal.put-requires-clause-free
put-requires-clause-free g c =
    let s : SessionView = c.args.self.now in
    let failed : RemakesOrNot c.take.new.self c.in-Some.block c.args.n (Err (c.in-Err.block, c.in-Err._null)) c.remake.new.self = subst (λ o. RemakesOrNot c.take.new.self c.in-Some.block c.args.n o c.remake.new.self) c.in-Err.is c.in_ok-block.ensures in
    free-again s c.take.new.self c.remake.new.self c.args.old.now c.in-Some.block c.requires.kept c.in-Some.ensures failed.1.notes.blocks failed.1.notes.parcels

pub returns-in-Ok : goal.returns-in-Ok
returns-in-Ok g c =
    let s : SessionView = c.args.self.now in
    let u : SessionView = c.take.new.self in
    let w : SessionView = c.remake.new.self in
    let t : SessionView = c.hold.new.self in
    let old = c.args.old.now in
    let new = c.args.new.now in
    let free : (same_name new old ≡ true) ⊎ (block_with s.blocks new ≡ None) = elim c.else-ne.branch [
      | else-ne-via-then-ne+then-is_some+else-is_some-2 w ↦
          absurd (false≢true
          (sym (found-if _ w.get-then-is_some.result s.blocks old false (w.get-then-is_some.ensures ∙ ap (λ x. block_with x.blocks old) c.self.view_is)
          (sym w.is_some-then-is_some.ensures ∙ w.if-is_some-2.false))
          ∙ ap is_some c.in-Some.ensures.0))
      | else-ne-via-then-ne+else-is_some w ↦
          inr (not-some (block_with s.blocks new)
          (found-if _ w.get.result s.blocks new false (w.get.ensures ∙ ap (λ x. block_with x.blocks new) c.self.view_is) (sym w.is_some.ensures ∙ w.if-is_some.false)))
      | else-ne-via-else-ne w ↦ inl (same-if new old c.ne.result c.ne.ensures w.if-ne.false)
    ] in
    let d : BlockView = c.in-Ok.block in
    let remakes : RemakesOrNot u c.in-Some.block c.args.n (Ok d) w = subst (λ o. RemakesOrNot u c.in-Some.block c.args.n o w) c.in-Ok.is c.in_ok-block.ensures in
    answered c.hold.result (answers.Block d.span.first (length d.span.bytes)) (Holds w new d t) (λ answer. ServesResize s old new c.args.n answer t) c.hold.ensures.answer c.hold.ensures.holds
    (λ holds names old_is new_is.
    serves-resized c.of_sessions.ensures s u w t names old new c.args.n c.in-Some.block d c.requires.kept c.requires.new c.in-Some.ensures remakes holds free old_is new_is)

pub returns-in_ok-put-in-Err : goal.returns-in_ok-put-in-Err
returns-in_ok-put-in-Err g c =
    let s : SessionView = c.args.self.now in
    let u : SessionView = c.take.new.self in
    let w : SessionView = c.remake.new.self in
    let t : SessionView = c.put.new.self in
    let old = c.args.old.now in
    let new = c.args.new.now in
    let free : (same_name new old ≡ true) ⊎ (block_with s.blocks new ≡ None) = elim c.else-ne.branch [
      | else-ne-via-then-ne+then-is_some+else-is_some-2 w ↦
          absurd (false≢true
          (sym (found-if _ w.get-then-is_some.result s.blocks old false (w.get-then-is_some.ensures ∙ ap (λ x. block_with x.blocks old) c.self.view_is)
          (sym w.is_some-then-is_some.ensures ∙ w.if-is_some-2.false))
          ∙ ap is_some c.in-Some.ensures.0))
      | else-ne-via-then-ne+else-is_some w ↦
          inr (not-some (block_with s.blocks new)
          (found-if _ w.get.result s.blocks new false (w.get.ensures ∙ ap (λ x. block_with x.blocks new) c.self.view_is) (sym w.is_some.ensures ∙ w.if-is_some.false)))
      | else-ne-via-else-ne w ↦ inl (same-if new old c.ne.result c.ne.ensures w.if-ne.false)
    ] in
    let b : BlockView = c.in-Some.block in
    let failed : RemakesOrNot u b c.args.n (Err (c.in-Err.block, c.in-Err._null)) w = subst (λ o. RemakesOrNot u b c.args.n o w) c.in-Err.is c.in_ok-block.ensures in
    let holds : Holds w old b t = subst (λ x. Holds w old x t) failed.0 c.in_ok-put-in-Err.ensures in
    λ names old_is new_is.
    serves-unresized c.of_sessions.ensures s u w t names old new c.args.n b c.in-Some.ensures failed.1 holds free old_is new_is
