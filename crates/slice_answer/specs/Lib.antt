pub mod Delivery
pub mod Text
pub mod Stats
