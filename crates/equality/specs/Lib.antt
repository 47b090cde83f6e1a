pub mod Equality
pub mod Terms
pub mod Soundness
pub mod Same
