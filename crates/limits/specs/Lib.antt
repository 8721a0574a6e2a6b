pub mod Tables
pub mod Limits
pub mod Theorems
