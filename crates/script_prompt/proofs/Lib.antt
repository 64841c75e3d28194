pub mod AskedLemmas
pub mod OwnLemmas
pub mod SessionLemmas
