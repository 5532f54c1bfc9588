mod Commands
mod Lines
mod Numbers
mod Pieces
mod Spelling
mod Words
