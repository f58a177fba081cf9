pub mod FeedLaws
pub mod Arrives
pub mod Vectors
