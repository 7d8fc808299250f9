pub mod Orders
pub mod Found
pub mod Marks
pub mod Ends
pub mod Scripts
pub mod Kept
pub mod Since
