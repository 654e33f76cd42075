pub mod Refusals
pub mod NewFonts
pub mod Joining
pub mod Outcomes
pub mod Widths
