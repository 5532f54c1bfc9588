pub mod Interleaved
pub mod FourBytes
