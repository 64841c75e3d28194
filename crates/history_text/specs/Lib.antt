pub mod HistoryLine
pub mod Histories
pub mod Judged
