pub mod History
pub mod Policy
pub mod Set
pub mod Array
pub mod Victim
pub mod Lending
