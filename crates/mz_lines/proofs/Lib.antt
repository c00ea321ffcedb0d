-- Values and their sentences.
pub mod Options
mod WordsOfKinds
pub mod ValuesAreSentences
pub mod CommandsAreSentences
pub mod StartsAreSentences
pub mod EventsAreSentences
pub mod AnswersAreSentences
-- The second line of a trace, and those behind it.
pub mod LimitLemmas
pub mod SpaceIsRead
pub mod LinesAreSentences
