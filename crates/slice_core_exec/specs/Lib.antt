pub mod CoreLines
pub mod Found
pub mod NewLog
pub mod Planned
