pub mod Given
pub mod LabelLemmas
pub mod LevelLemmas
