pub mod Either
pub mod Miss
pub mod Register
pub mod Waiting
