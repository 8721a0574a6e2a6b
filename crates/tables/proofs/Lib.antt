pub mod Calling
pub mod Fitted
pub mod Held
pub mod Letters
