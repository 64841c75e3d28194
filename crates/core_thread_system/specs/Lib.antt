pub mod Answers
pub mod Core
pub mod Error
pub mod Moves
pub mod Program
pub mod Running
pub mod System
