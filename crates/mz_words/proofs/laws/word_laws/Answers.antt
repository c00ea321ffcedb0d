use Rattle.std.proofs.lemmas.Bool.{ltb-true}
use Rattle.mz_words.proofs.BytesAreCut.{ended_is_line, same_cuts}
use Rattle.mz_words.proofs.FlawIsUnread.{wrong_are_unread, unequal, all_some, caller_unread}
use Rattle.mz_words.proofs.LineIsCutAgain.{words_again, line_cut_off, line_printable}
use Rattle.mz_words.proofs.NameIsReadAgain.{caller_of-decimal, below_callers, name_of-word, batch_no_base}
use Rattle.mz_words.proofs.NumberIsReadAgain.{number_again, number_digits}
use Rattle.mz_words.proofs.ReadIsWritten.{number_spelled, caller_spelled}
use Rattle.mz_words.proofs.SentenceLaws.{sentence_written_is_read, sentence_read_is_written, sentence_visible, sentence_short}
use Rattle.mz_words.proofs.WordsAreVisible.{number_seen}
use Rattle.mz_words.proofs.laws.word_laws.Goals as goal

pub returns : goal.returns
returns c = record {
  numbers = record {
    again = number_again;
    spelled = number_spelled;
    digits = number_digits;
    visible = λ n h. (number_seen n (ltb-true _ _ h)).visible;
    short = λ n h. (number_seen n (ltb-true _ _ h)).few;
    caller_again = λ callers n few h. caller_of-decimal callers n (below_callers callers n few h) h;
    caller_spelled = caller_spelled;
  };
  names = record { again = name_of-word; no_base = batch_no_base };
  sentences = record {
    again = sentence_written_is_read;
    spelled = λ callers forms ts s h. let p = sentence_read_is_written callers forms ts s h in (p.texts, p.fits);
    visible = sentence_visible;
    short = sentence_short;
  };
  flaws = record { words = wrong_are_unread; count = unequal; some = all_some; caller = caller_unread };
  lines = record { words = words_again; cut = line_cut_off; ended = ended_is_line; same = same_cuts; printable = line_printable };
}
