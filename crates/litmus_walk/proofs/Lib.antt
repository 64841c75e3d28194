pub mod DoneLemmas
pub mod DrawLemmas
pub mod ListLemmas
pub mod MoveLemmas
pub mod WalkLemmas
