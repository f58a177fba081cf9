pub mod Parts
pub mod Acceptable
pub mod Calls
pub mod Numbers
pub mod Placed
