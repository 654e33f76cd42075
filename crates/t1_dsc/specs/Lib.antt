pub mod Structure
pub mod Parts
pub mod Joining
pub mod Limits
pub mod Views
pub mod Laws
