mod Feeding
mod Keeping
