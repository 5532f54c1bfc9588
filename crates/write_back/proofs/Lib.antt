pub mod Overlaid
