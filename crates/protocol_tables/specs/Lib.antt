pub mod Cache
pub mod CacheJson
pub mod CacheRows
pub mod Directory
pub mod DirectoryJson
pub mod DirectoryRows
