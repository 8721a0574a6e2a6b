pub mod Chains
pub mod Minima
pub mod Registers
pub mod Unset
mod Keys
