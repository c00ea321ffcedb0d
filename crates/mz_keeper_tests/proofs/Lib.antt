-- what large holds whose runs were cut one after another
pub mod CutRuns
-- blocks in lists, and answers of two cases
pub mod Blocks
