pub mod Numbers
pub mod Pieces
pub mod Reading
pub mod Tokens
pub mod Unread
