pub mod CommandLine
pub mod Parameters
pub mod Subcommands
