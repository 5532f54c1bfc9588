pub mod Endings
pub mod Fed
pub mod Keeping
pub mod Rooms
pub mod Told
