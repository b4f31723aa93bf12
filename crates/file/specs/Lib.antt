-- What a program file is: its words and bytes by place, what the reader answers, what the writer writes, and what is proved of them.
pub mod Word
pub mod Layout
pub mod Read
pub mod Reading
pub mod Written
pub mod Writing
pub mod Statements
