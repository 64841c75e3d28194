pub mod Merge
pub mod Outcome
pub mod PartForm
pub mod Parts
pub mod Run
pub mod Sum
