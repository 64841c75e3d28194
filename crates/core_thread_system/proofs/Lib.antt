mod Checked
mod Dealt
pub mod Made
mod Owned
mod Ran
