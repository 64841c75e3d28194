pub mod Fired
pub mod Rule
pub mod Script
pub mod Replay
