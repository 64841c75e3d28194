pub mod Coverage
pub mod Table
pub mod Tests
pub mod Traces
pub mod Views
