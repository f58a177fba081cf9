pub mod Feed
pub mod Arrives
