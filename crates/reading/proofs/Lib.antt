pub mod Floors
pub mod Lists
pub mod Rule
