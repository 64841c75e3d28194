pub mod Text
pub mod Call
pub mod Answer
pub mod Held
pub mod Slices
pub mod Value
pub mod Values
