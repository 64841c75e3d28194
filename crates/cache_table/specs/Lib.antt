pub mod CopyState
pub mod Law
pub mod Name
pub mod Row
