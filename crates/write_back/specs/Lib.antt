pub mod Overlay
pub mod Kept
