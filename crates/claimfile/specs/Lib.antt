pub mod Entries
pub mod Judging
pub mod Kinds
pub mod Lines
pub mod Progress
pub mod Records
pub mod Sending
