pub mod Pairs
pub mod Singles
pub mod Tables
pub mod Truths
