pub mod Copy
pub mod Tags
pub mod CoreCache
pub mod Access
pub mod Targets
pub mod Perform
pub mod Steps
pub mod Kept
