pub mod Ciphers
pub mod Keys
pub mod Lanes
pub mod Places
pub mod SegmentLemmas
pub mod SegmentMoves
pub mod PfbLemmas
pub mod HexLemmas
pub mod SpreadLines
pub mod DigitsAhead
pub mod EexecLemmas
pub mod HexLines
pub mod FileLengths
pub mod ContainerLaws
pub mod FlatTexts
pub mod Splits
mod Rows
