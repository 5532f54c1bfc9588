pub mod Axes
pub mod Counts
pub mod Placed
pub mod Refused
pub mod Shown
