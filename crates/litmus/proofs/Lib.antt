pub mod Faults
pub mod Played
