pub mod Entry
pub mod Words
