mod Alongs
mod Moves
mod Registers
mod Scans
