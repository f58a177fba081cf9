pub mod AttachedLaws
pub mod BadLaws
pub mod Vectors
