pub mod LastChange
pub mod Replies
pub mod Runs
pub mod Rules
pub mod Marks
pub mod Checks
pub mod Tables
