pub mod LineLemmas
pub mod ReadingLemmas
pub mod BodyLemmas
pub mod JudgedLemmas
pub mod EndLemmas
pub mod AddLemmas
