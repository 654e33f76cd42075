pub mod Decimals
pub mod Differing
pub mod rows
