pub mod Passes
pub mod Gathered
pub mod Legal
pub mod Renewal
pub mod Faults
pub mod Spread
pub mod Lowest
pub mod Closed
