pub mod Adding
pub mod Indices
pub mod Integers
pub mod Sizes
pub mod Truth
