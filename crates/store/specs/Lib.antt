pub mod Answers
pub mod Banks
pub mod Bytes
