-- What is read is a font.
pub mod ReadBytes
pub mod ReadClear
pub mod ReadEntries
pub mod ReadFontLaws
pub mod ReadPrivate
