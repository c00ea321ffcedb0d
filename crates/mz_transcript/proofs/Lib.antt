-- What the crates below say, and the words of entries and listed blocks.
pub mod TextLaws
pub mod EntriesAreSentences
-- Lines, their words, and the texts that they make.
pub mod RunLinesAreWords
-- What is read so far is what was written so far.
pub mod SectionsGrow
pub mod StageGrows
-- The text of a run is read as that run, and what is read so far can always be brought to an end.
pub mod RunIsRead
pub mod AnyStageCanEnd
-- So a whole text is a run's, or has a first bad line.
pub mod TextsAreRuns
