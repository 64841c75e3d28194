pub mod HistoryLines
pub mod Reading
pub mod Rows
pub mod Traces
