pub mod Closures
pub mod NameSets
pub mod NumberSets
pub mod Runs
