pub mod Bounded
pub mod Settled
