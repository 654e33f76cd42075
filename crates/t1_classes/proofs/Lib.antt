mod Rows
pub mod Putting
pub mod Halves
pub mod Turns
pub mod Pairs
pub mod SortedFiles
pub mod Kept
pub mod Settled
pub mod Answered
pub mod Refusing
pub mod Partitioned
pub mod Rejoined
pub mod FontTexts
