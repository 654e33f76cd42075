pub mod Partition
pub mod Joining
pub mod Views
pub mod Texts
pub mod Classes
pub mod Laws
