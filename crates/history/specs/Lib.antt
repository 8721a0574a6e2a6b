pub mod Calls
pub mod Whole
