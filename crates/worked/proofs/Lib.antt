mod Days
mod Lexemes
mod Reading
mod Recorded
mod Steps
mod Whole
mod Written
