pub mod Standing
pub mod Coursing
