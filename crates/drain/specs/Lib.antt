pub mod Audited
pub mod Drained
pub mod Fault
pub mod Owned
pub mod Receipts
pub mod Valued
pub mod Whole
