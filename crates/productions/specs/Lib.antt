pub mod Meaning
pub mod Spelling
pub mod Syntax
pub mod Theorems
