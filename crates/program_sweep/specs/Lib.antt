pub mod Text
pub mod Read
pub mod Row
pub mod Cell
pub mod Form
pub mod Sweep
