pub mod Booked
pub mod Settled
