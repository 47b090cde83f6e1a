pub mod Marks
pub mod Pairs
pub mod Places
pub mod Premises
pub mod Rules
pub mod Singles
pub mod Tables
