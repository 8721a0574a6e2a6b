pub mod Answers
pub mod Stages
pub mod Turning
pub mod Shows
