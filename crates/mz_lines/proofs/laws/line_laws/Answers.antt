use Rattle.mz_words.specs.declared.table.TheConstants.{ROUND_LINES, EVENTS, ANSWERS}
use Rattle.mz_lines.specs.Answers.{answer_sentence, answer_of}
use Rattle.mz_lines.specs.Events.{event_sentence, event_of}
use Rattle.mz_lines.specs.RoundLines.{start_sentence, start_of}
use Rattle.mz_lines.proofs.AnswersAreSentences.{answers, answer_count}
use Rattle.mz_lines.proofs.CommandsAreSentences.{command_again, command_spelled, command_visible}
use Rattle.mz_lines.proofs.EventsAreSentences.{events, event_count}
use Rattle.mz_lines.proofs.LinesAreSentences.{line_again, line_spelled, line_visible, line_short, line_count, digit-decimal, read_no_why, no_why_read}
use Rattle.mz_lines.proofs.SpaceIsRead.{profile_again, profile_spelled, space_visible, space_short}
use Rattle.mz_lines.proofs.StartsAreSentences.{starts}
use Rattle.mz_lines.proofs.ValuesAreSentences.{holds}
use Rattle.mz_lines.proofs.laws.line_laws.Goals as goal

pub returns : goal.returns
returns c =
    let k = c.word_laws.ensures in
    record {
      words = k;
      commands = record { again = command_again k; spelled = command_spelled k; visible = command_visible k };
      starts = holds ROUND_LINES start_sentence start_of k (starts 0);
      events = holds EVENTS event_sentence event_of k events;
      few_events = event_count;
      answers = holds ANSWERS answer_sentence answer_of k answers;
      few_answers = answer_count;
      profiles = record { again = profile_again k; spelled = profile_spelled k; visible = space_visible k };
      short_profiles = space_short k;
      lines = record {
        again = line_again k;
        spelled = line_spelled k;
        visible = line_visible k;
        short = line_short k;
        few = line_count;
        digit = digit-decimal k;
        good = read_no_why k;
        read = no_why_read k;
      };
    }
