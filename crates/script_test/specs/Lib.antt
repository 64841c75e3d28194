pub mod Exercise
pub mod Answers
pub mod Judged
