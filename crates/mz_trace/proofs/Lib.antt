-- Rounds, names and lines, with one more line.
pub mod Counting
pub mod RoundsGrow
pub mod NamesAreNoted
pub mod LineIsKept
-- A text without a bad line is one of a trace, and a text of a trace has no bad line.
pub mod LinesAreInPlace
pub mod LaterLines
pub mod GoodLinesMakeRounds
pub mod LinesAreReadBack
pub mod PrintedLines
pub mod NormalFormIsText
pub mod TextsAreTraces
-- What is printed.
pub mod PrintedSections
pub mod RunHasTrace
