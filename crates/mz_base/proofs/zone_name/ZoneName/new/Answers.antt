use Rattle.std.proofs.Common.{◌≡◌, true, sym, ◌∙◌}
use Rattle.mz_base.specs.Names.{is_base_name}
use Rattle.mz_base.proofs.NameLemmas.{laid_out}
use Rattle.mz_base.proofs.zone_name.ZoneName.new.Goals as goal

pub invariant_of-result : goal.invariant_of-result
invariant_of-result c =
    let form : is_base_name c.args.text.now ≡ true = sym c.has_form.ensures ∙ c.if-not-has_form.false in
    let laid = laid_out c.args.text.now c.copy_from_slice.new.self form c.copy_from_slice.ensures.after in
    (laid.short, laid.whole, rw laid.front form, rw laid.front laid.padded)
