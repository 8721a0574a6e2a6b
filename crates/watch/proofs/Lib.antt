pub mod Arities
pub mod Beginning
pub mod Deciding
pub mod Drawing
