pub mod Obeyed
pub mod Transcript
