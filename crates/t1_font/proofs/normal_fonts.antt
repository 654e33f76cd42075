-- Tags, and fonts that are normalized.
pub mod NormalTexts
pub mod NormalStays
pub mod Normalized
pub mod Filled
pub mod FilledWeights
pub mod BoxFonts
pub mod BoxPlaces
pub mod Boxes
pub mod BoxLists
pub mod Boxing
pub mod Renewed
