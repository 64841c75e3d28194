pub mod Verdict
pub mod Latest
pub mod Judge
pub mod SoFar
pub mod TraceLine
pub mod Trace
