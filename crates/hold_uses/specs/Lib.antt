pub mod Anew
pub mod Aside
