pub mod Call
pub mod Core
pub mod Page
pub mod Rest
pub mod Scope
pub mod Step
pub mod Steps
