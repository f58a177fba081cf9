pub mod Exports
pub mod Fragments
