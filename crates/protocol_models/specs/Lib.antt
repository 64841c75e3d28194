pub mod MurphiCache
pub mod MurphiDirectory
pub mod Model
pub mod SmtCache
pub mod SmtDirectory
pub mod Queries
