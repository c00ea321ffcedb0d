mod NameLemmas
pub mod SizeLemmas
pub mod SpaceLemmas
mod IdleRunLemmas
mod FreeRunLemmas
