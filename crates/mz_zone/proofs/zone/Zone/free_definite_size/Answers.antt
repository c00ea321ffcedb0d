use Rattle.std.proofs.Common.{sym, ◌∙◌}
use Rattle.std.proofs.lemmas.Bool.{false≢true}
use Rattle.mz_zone.specs.Freeing.{IsWrongSize}
use Rattle.mz_zone.proofs.zone.Zone.free_definite_size.Goals.{else-zone-self-via-then-zone-self+else-is_wrong_size, else-zone-self-via-else-zone-self}
use Rattle.mz_zone.proofs.zone.Zone.free_definite_size.Goals as goal

pub returns-in-Ok-clause-frees : goal.returns-in-Ok-clause-frees
returns-in-Ok-clause-frees g c =
    let not_wrong : IsWrongSize c.args.b c.args.n → ⊥ = λ q. elim c.else-zone-self.branch [
      | else-zone-self-via-then-zone-self+else-is_wrong_size w ↦ false≢true (sym w.if-is_wrong_size.false ∙ w.is_wrong_size.ensures.1 q)
      | else-zone-self-via-else-zone-self w ↦ w.if-zone-self.false (c.zone.ensures ∙ c.in-Ok.ensures.frees.freed.0)
    ] in
    (not_wrong, c.in-Ok.ensures.frees)
