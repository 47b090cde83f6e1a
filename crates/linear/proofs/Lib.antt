pub mod Calls
pub mod Products
pub mod Quotients
pub mod Tested
