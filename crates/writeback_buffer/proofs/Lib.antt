pub mod Places
pub mod HeldLaws
pub mod BufferLaws
pub mod Held
