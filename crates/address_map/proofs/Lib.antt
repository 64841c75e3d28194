pub mod Ascending
pub mod Find
pub mod Limits
pub mod Places
pub mod CoreSets
pub mod Members
pub mod Located
