pub mod Texts
pub mod KindTable
pub mod Spelling
pub mod Behind
