pub mod Gathering
pub mod Legality
pub mod Spreading
pub mod Telling
pub mod Races
pub mod Leaves
