pub mod Access
pub mod Copy
pub mod Json
pub mod Line
pub mod Message
