pub mod Locality
mod Indices
mod Mirrors
pub mod DrawingLocality
pub mod Grown
mod Resumed
mod Spending
pub mod Taken
mod Turns
mod Pages
mod Between
mod Endings
mod Marks
mod StandardNames
pub mod Limits
pub mod LimitsOfRuns
mod Rows
mod DrawingRows
