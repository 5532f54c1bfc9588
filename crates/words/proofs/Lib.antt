mod Numbers
pub mod Pieces
mod Reading
