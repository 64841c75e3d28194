pub mod Access
pub mod Order
pub mod Writers
pub mod Before
pub mod Judged
