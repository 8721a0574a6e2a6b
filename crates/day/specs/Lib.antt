pub mod Checking
pub mod Counting
pub mod Explaining
pub mod Lines
pub mod Listing
pub mod Naming
pub mod Reporting
pub mod Spots
