pub mod ReadLemmas
pub mod RowLemmas
pub mod SeedLemmas
pub mod SweepLemmas
pub mod TextLemmas
