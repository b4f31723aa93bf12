-- What messages are made of: their words and bytes, and the head of an answer.
pub mod Messages
pub mod Heads
