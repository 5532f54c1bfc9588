pub mod Holds
mod Walks
