pub mod Convert
pub mod Demand2
