pub mod Kinds
pub mod Words
pub mod Dos
pub mod Jobs
pub mod Views
