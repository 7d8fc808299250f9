pub mod States
pub mod Passes
pub mod Printing
pub mod Said
pub mod Stages
pub mod Limits
pub mod Besides
mod Nothing
pub mod Added
pub mod Holding
pub mod Moving
pub mod Holds
pub mod Recovering
pub mod Finding
pub mod Others
pub mod Standing
pub mod Changing
