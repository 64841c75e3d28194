pub mod Done
pub mod Drawn
pub mod Moves
pub mod Script
pub mod Walk
