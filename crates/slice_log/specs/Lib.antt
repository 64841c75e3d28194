pub mod Op
pub mod Log
