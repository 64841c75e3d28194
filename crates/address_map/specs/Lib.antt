pub mod Words
pub mod Config
pub mod Place
pub mod Locator
pub mod CoreSet
