pub mod Parameters
pub mod Bad
