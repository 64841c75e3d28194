pub mod Powers
pub mod Choices
mod Places
mod Orders
mod Ages
mod Slots
mod Sets
mod Loans
pub mod Victims
pub mod Held
