pub mod Cutting
pub mod Hex
