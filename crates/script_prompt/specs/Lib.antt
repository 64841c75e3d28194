pub mod Asked
pub mod Next
pub mod Own
pub mod Session
pub mod Tag
