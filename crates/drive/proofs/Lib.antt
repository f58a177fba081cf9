pub mod DriveLaws
pub mod Demand2
pub mod Vectors
