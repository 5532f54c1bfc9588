pub mod Atoms
pub mod Commands
pub mod Operands
