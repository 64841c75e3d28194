pub mod Values
pub mod Pushes
mod Examples
