pub mod Drive
pub mod Demand2
