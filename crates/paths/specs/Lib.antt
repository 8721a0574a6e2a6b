pub mod Outcomes
pub mod Paths
pub mod Reads
pub mod Search
