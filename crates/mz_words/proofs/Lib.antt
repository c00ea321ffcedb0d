-- Numbers, names, places, bytes and ranges as words.
pub mod NumberLemmas
pub mod BaseNameLemmas
pub mod NameLemmas
pub mod NameReading
pub mod HexLemmas
pub mod ShownLemmas
-- What is written is read again.
pub mod NumberIsReadAgain
pub mod NameIsReadAgain
pub mod PlaceIsReadAgain
-- What is read is written.
pub mod ReadIsWritten
pub mod PlaceReadIsWritten
-- What words are made of, and how lines of them are cut.
pub mod WordsAreVisible
pub mod LineIsCutAgain
pub mod BytesAreCut
pub mod WordsAreJoined
-- The same by kinds, and from there on without them.
pub mod KindLaws
pub mod TableLaws
pub mod SentenceLaws
pub mod FlawIsUnread
