pub mod Grammar
pub mod Places
pub mod Scans
pub mod Tables
pub mod TableLaws
pub mod CountedLaws
pub mod Formats
