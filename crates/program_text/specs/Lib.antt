pub mod Keyword
pub mod Range
pub mod Line
pub mod Text
pub mod Judged
pub mod Fault
pub mod Reading
pub mod Workload
