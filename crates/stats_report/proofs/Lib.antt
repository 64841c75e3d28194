pub mod Totals
pub mod Padding
pub mod Appending
pub mod Whole
