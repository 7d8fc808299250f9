pub mod Lists
pub mod Differing
pub mod Levels
pub mod Places
pub mod Ends
pub mod Scripts
