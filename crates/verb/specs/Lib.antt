pub mod Verbs
