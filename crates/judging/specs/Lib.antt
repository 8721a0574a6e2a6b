pub mod Outcomes
pub mod Ways
