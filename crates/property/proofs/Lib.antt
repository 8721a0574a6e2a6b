pub mod Exits
pub mod Leasts
pub mod Lawfulness
pub mod Living
pub mod Readings
pub mod Searching
pub mod Texts
pub mod Wholes
