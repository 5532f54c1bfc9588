pub mod Steps
pub mod Tokens
