pub mod Events
pub mod Format
pub mod Lawfulness
pub mod Opening
pub mod Records
pub mod Sayings
pub mod Sources
pub mod Steps
