use Rattle.std.proofs.Common.{◌++◌, ap, ◌∙◌, string_bytes}
use Rattle.mz_words.specs.Table.{form_word}
use Rattle.mz_words.proofs.WordsAreJoined.{written}
use Rattle.mz_words.proofs.sentence.write_sentence.Goals as goal

pub returns : goal.returns
returns c =
    written c.write_words.result (string_bytes c.args.out.now) (form_word c.args.form) (string_bytes c.write_words.new.out) c.args.words.now
    (c.in_ok-push_str.ensures.bytes ∙ ap (λ bs. string_bytes c.args.out.now ++ bs) c.row.ensures.word) c.write_words.ensures
