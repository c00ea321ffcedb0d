-- What holds of each form of the table.
use Rattle.std.proofs.Common.{◌≡◌, true, refl}
use Rattle.mz_words.specs.declared.table.Form.{Form}
use Rattle.mz_words.specs.declared.table.Form.TheVariants as form
use Rattle.mz_words.specs.Table.{form_word}
use Rattle.mz_words.specs.Lines.{is_visible_word, is_short_word}

pub form_visible : (f : Form) → is_visible_word (form_word f) ≡ true
form_visible form.Malloc = refl
form_visible _ = refl

pub form_short : (f : Form) → is_short_word (form_word f) ≡ true
form_short form.Malloc = refl
form_short _ = refl
