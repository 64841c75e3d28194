pub mod Cells
pub mod Looks
pub mod NewLog
pub mod Simulator
