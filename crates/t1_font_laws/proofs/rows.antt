-- Rows that are computed on the definitions.
pub mod TagRows
pub mod BoxRows
pub mod NameRows
pub mod WideRows
pub mod Tiny
pub mod TinyCuts
pub mod TinyFiles
pub mod TinyNumbers
pub mod TinyRows
