pub mod NextLemmas
pub mod Pieces
pub mod PlayerLemmas
pub mod PumpLemmas
pub mod SliceLemmas
pub mod StepLemmas
pub mod UnrestLemmas
