mod CacheRows
mod Cells
mod EachEffect
mod Joined
mod OurRows
mod SeenEntries
mod Steps
