pub mod Column
pub mod Figures
pub mod Line
pub mod Quantile
pub mod Held
