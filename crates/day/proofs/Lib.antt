pub mod Checking
pub mod Counting
pub mod Opens
pub mod Places
