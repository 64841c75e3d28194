pub mod Coherent
pub mod Fit
pub mod Line
pub mod LineSteps
pub mod Promise
pub mod Values
