mod FreeRunLemmas
mod PageLemmas
mod KeptLemmas
