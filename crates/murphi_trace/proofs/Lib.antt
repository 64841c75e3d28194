pub mod PartLemmas
pub mod StepLemmas
pub mod TagLemmas
