pub mod MatchLemmas
pub mod MergeLemmas
pub mod PartLemmas
mod PieceLemmas
pub mod RoundLemmas
