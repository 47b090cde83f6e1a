pub mod Faults
pub mod Fields
pub mod Lines
pub mod Literals
pub mod Refusals
pub mod Sizes
pub mod Terms
pub mod Valuations
