mod Advances
mod Rows
mod Calls
mod Judgements
mod Strains
pub mod Admitting
