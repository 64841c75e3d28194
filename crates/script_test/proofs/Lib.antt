pub mod JudgedLemmas
pub mod WordLemmas
pub mod AnswerLemmas
pub mod RunLemmas
