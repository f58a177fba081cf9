pub mod Window
pub mod Blocks
