pub mod ReaderLaws
pub mod Tables
pub mod Exact
pub mod Keeps
pub mod Vectors
