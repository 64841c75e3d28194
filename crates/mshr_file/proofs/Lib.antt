mod Lists
mod Laws
mod Table
mod Steps
mod Calls
mod Rows
pub mod Changes
mod ByLine
mod Entries
mod Tags
mod Slots
pub mod LinesWaited
