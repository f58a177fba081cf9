pub mod ConvertLaws
pub mod Demand2
pub mod Vectors
