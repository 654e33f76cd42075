mod Rows
pub mod Mapped
pub mod Reading
pub mod PageLoop
pub mod WriteLoops
pub mod CountLoop
pub mod Ends
pub mod Wholes
pub mod LinesStay
pub mod FreeNames
pub mod Pieces
pub mod Words
pub mod QuietLines
pub mod Chains
pub mod OwnLines
pub mod OwnPieces
pub mod PagePieces
pub mod JoinedRead
