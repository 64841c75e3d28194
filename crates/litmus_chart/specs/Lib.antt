pub mod Chart
pub mod Fault
pub mod LineCount
