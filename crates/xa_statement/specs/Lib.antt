pub mod Canonical
pub mod FaultPlace
pub mod Grammar
pub mod Machine
pub mod Reading
pub mod Token
pub mod Ways
