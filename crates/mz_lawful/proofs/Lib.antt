mod CallerLemmas
mod PartLemmas
mod AnswerLemmas
