pub mod Lists
pub mod Words
pub mod Demand
pub mod DeskBlocks
pub mod Strays
pub mod Reopened
pub mod Exported
pub mod Single
