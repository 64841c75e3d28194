pub mod Changes
pub mod InUse
pub mod Named
pub mod Signals
pub mod Values
pub mod Waves
