pub mod Facts
pub mod NewLog
pub mod Run
pub mod Shape
pub mod Sound
