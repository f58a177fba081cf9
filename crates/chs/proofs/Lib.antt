pub mod ChsLaws
pub mod OneToOne
pub mod Sums
pub mod Vectors
