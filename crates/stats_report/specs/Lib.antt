pub mod Column
pub mod Report
pub mod Text
