pub mod Exports
pub mod Readers
pub mod Fragments
pub mod FragmentsExample
