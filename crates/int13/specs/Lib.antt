pub mod Answers
pub mod Placement
pub mod Steps
pub mod Numbers
pub mod Alone
pub mod AloneBytes
