pub mod Cache
pub mod CacheText
pub mod Directory
pub mod DirectoryText
pub mod Effects
pub mod Layout
pub mod Numbers
pub mod Word
