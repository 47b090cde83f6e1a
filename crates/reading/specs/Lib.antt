pub mod Bounds
pub mod Converter
pub mod Lists
