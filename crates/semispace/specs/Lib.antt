pub mod Formed
pub mod View
