pub mod AskedLemmas
pub mod BuiltLemmas
