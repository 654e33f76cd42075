pub mod Numbers
pub mod Gives
