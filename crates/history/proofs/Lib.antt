pub mod Steps
pub mod Lawfully
pub mod Sizes
