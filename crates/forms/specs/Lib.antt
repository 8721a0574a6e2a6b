pub mod Bytes
pub mod Forms
pub mod Grammars
pub mod Pieces
pub mod Steps
