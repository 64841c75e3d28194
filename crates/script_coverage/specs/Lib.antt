pub mod Cell
pub mod Counts
pub mod Coverage
pub mod Read
pub mod TableCell
pub mod Trail
