pub mod Check
pub mod Judge
