mod JobRows
pub mod WordLemmas
pub mod LenLemmas
pub mod EndPlaces
