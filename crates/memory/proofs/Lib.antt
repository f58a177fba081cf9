pub mod Sets
pub mod WindowLaws
pub mod BlocksLaws
pub mod Vectors
