pub mod Drained
pub mod Gathered
pub mod Recorded
pub mod Walked
