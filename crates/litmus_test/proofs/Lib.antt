mod LineLemmas
mod ClaimLemmas
mod ReadingLemmas
mod SoundLemmas
mod BodyLemmas
mod PreambleLemmas
mod FaultLemmas
mod CountLemmas
mod SettingLemmas
pub mod NameLemmas
pub mod Between
mod NamedRequestLemmas
mod Counting
mod Rows
mod Joining
mod Cells
mod Padding
mod Unique
