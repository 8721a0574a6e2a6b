pub mod Days
pub mod Faults
pub mod Fields
pub mod Read
