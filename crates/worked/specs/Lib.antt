pub mod Texts
pub mod Journals
pub mod Days
